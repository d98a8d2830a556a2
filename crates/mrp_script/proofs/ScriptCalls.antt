-- A script's records, as calls on the order book.
use Rattle.std.proofs.Common.{◌≡◌, ◌∙◌, ℕ, zero, suc, ◌+◌, ◌<◌, ◌≤◌, Bool, true, false, if◌then◌else◌, List, [], ◌∷◌, ◌++◌, length, take, get_or, Option, Some, None, sym, ap, subst, arith, refl}
use Rattle.std.proofs.lemmas.List.{take_more, take_all, map-append, length-map, length-take-le}
use Rattle.std.specs.Prelude.{All, map}
use Rattle.std.specs.List.{list_any, slice_index_or}
use Rattle.mrp_tables.specs.declared.item.Item.{Item}
use Rattle.mrp_tables.specs.declared.rows.ScriptCall.{ScriptCall}
use Rattle.mrp_tables.specs.declared.rows.ScriptCall.TheVariants as s
use Rattle.mrp_tables.specs.declared.rows.ScriptRow.{ScriptRow}
use Rattle.mrp_tables.specs.Facts.{IsMasterItem, IsScriptCall, IsScriptRow}
use Rattle.mrp_tables.specs.Items.{is_master}
use Rattle.mrp_tables.specs.Tables.{Tables}
use Rattle.mrp_master.specs.Supply.{IsMaster, Supply, supply_of}
use Rattle.mrp_book.specs.declared.call.Call.{Call}
use Rattle.mrp_book.specs.declared.call.Call.TheVariants as call
use Rattle.mrp_book.specs.Standing.{History}
use Rattle.mrp_book.specs.History.{Fits, IsLegal, asked}
use Rattle.mrp_script.specs.Script.{AnswersScript, Script, call_of, is_run, record_of, with_run}

any-mapped : {X Y : Type 0} (p : Y → Bool) (f : X → Y) (xs : List X) → list_any p (map f xs) ≡ list_any (λ x. p (f x)) xs
any-mapped p f [] = refl
any-mapped p f (x ∷ xs) = rw (any-mapped p f xs) refl

mapped-at : {X Y : Type 0} (f : X → Y) (xs : List X) (i : ℕ) (d : X) (e : Y) → i < length xs → slice_index_or (map f xs) i e ≡ f (get_or xs i d)
mapped-at f [] i d e h = absurd (omega (arith, h))
mapped-at f (x ∷ xs) zero d e h = refl
mapped-at f (x ∷ xs) (suc i) d e h = mapped-at f xs i d e (omega (arith, h))

-- a master item of the tables is one of the supply
master-item : (t : Tables) (item : ℕ) → IsMasterItem t.items item → IsMaster (supply_of t) item
master-item t item m = mapped-at (λ (i : Item). is_master i.class) t.items item _ false m.there ∙ m.master

-- a call of the script fits the order book
pub call-fits : (t : Tables) (c : ScriptCall) → IsScriptCall t.calendar.weeks t.items c → Fits (supply_of t) (call_of c)
call-fits t (s.Book item week quantity) is =
    let (there, weeks, pieces) = is.book item week quantity refl in
    record { item = master-item t item there; week = weeks; quantity = pieces }
call-fits t (s.Cancel entry) is = tt
call-fits t (s.Ask item week) is =
    let (there, weeks) = is.ask item week refl in
    record { item = master-item t item there; week = weeks }
call-fits t (s.When item quantity) is =
    let (there, pieces) = is.when item quantity refl in
    record { item = master-item t item there; quantity = pieces }
call-fits t s.Run is = tt

-- a book of a shop takes each call of its script
pub row-fits : (t : Tables) (b : Supply) (script : List ScriptRow) (k : ℕ) (row : ScriptRow) → b ≡ supply_of t → All (IsScriptRow t.calendar.weeks t.items) script → k < length script → row ≡ get_or script k row
    → (1 ≤ row.desk) × (row.desk ≤ 64) × Fits b (call_of row.call)
row-fits t b script k row same all within is =
    let here : IsScriptRow t.calendar.weeks t.items row = subst (IsScriptRow t.calendar.weeks t.items) (sym is) (all k row within) in
    (here.desk.0, here.desk.1, subst (λ (x : Supply). Fits x (call_of row.call)) (sym same) (call-fits t row.call here.call))

-- so many entries as records
pub entries-few : (h : History) (script : List ScriptRow) (k : ℕ) → asked h ≡ map record_of (take k script) → k ≤ length script → length script ≤ 100000 → length h < 1000000
entries-few h script k same within few =
    let entries : length (asked h) ≡ length h = length-map h (λ e. (e.who, e.call)) in
    let records : length (map record_of (take k script)) ≡ k = length-map (take k script) record_of ∙ length-take-le k script within in
    let counts : length (asked h) ≡ length (map record_of (take k script)) = ap (length {A = ℕ × Call}) same in
    omega (arith, entries, records, counts, within, few)

-- one more record is answered
pub one-more-answered : (old new : History) (script : List ScriptRow) (k : ℕ) (row : ScriptRow) (desk : ℕ) (c : Call) → asked old ≡ map record_of (take k script) → asked new ≡ asked old ++ (desk, c) ∷ []
    → row ≡ get_or script k row → k < length script → (desk, c) ≡ record_of row → asked new ≡ map record_of (take (k + 1) script)
one-more-answered old new script k row desk c before adds is within same =
    adds ∙ ap (λ (r : Script). r ++ (desk, c) ∷ []) before ∙ ap (λ (x : ℕ × Call). map record_of (take k script) ++ x ∷ []) (same ∙ ap record_of is)
    ∙ sym (ap (map record_of) (take_more script k row within) ∙ map-append record_of (take k script) (get_or script k row ∷ []))

-- all records are answered
pub all-answered : (h : History) (script : List ScriptRow) (k : ℕ) → asked h ≡ map record_of (take k script) → length script ≤ k → asked h ≡ map record_of script
all-answered h script k same all = same ∙ ap (map record_of) (take_all k script all)

with-run-is : (records : Script) (b : Bool) → list_any (λ r. is_run r.1) records ≡ b → with_run records ≡ (if b then records else records ++ (1, call.Snapshot) ∷ [])
with-run-is records b e = ap (λ (x : Bool). if x then records else records ++ (1, call.Snapshot) ∷ []) e

-- a script with a run is answered as it stands
pub has-run : (script : List ScriptRow) → list_any (λ r. is_run (call_of r.call)) script ≡ true → map record_of script ≡ with_run (map record_of script)
has-run script e = sym (with-run-is (map record_of script) true (any-mapped (λ r. is_run r.1) record_of script ∙ e))

-- a script without one is answered with one more
pub has-no-run : (script : List ScriptRow) → list_any (λ r. is_run (call_of r.call)) script ≡ false → map record_of script ++ (1, call.Snapshot) ∷ [] ≡ with_run (map record_of script)
has-no-run script e = sym (with-run-is (map record_of script) false (any-mapped (λ r. is_run r.1) record_of script ∙ e))

-- no call is added if there is none
pub none-given : {X : Type 0} (o : Option X) → ((x : X) → o ≡ Some x → ⊥) → o ≡ None
none-given None other = refl
none-given (Some x) other = absurd (other x refl)

-- a legal history whose calls are the script's answers it
pub answers : (t : Tables) (b : Supply) (h same : History) (script : List ScriptRow) → b ≡ supply_of t → IsLegal b same → same ≡ h → script ≡ t.script → asked h ≡ with_run (map record_of script) → AnswersScript t h
answers t b h same script supply legal is from calls = record {
  legal = subst (λ (x : Supply). IsLegal x h) supply (subst (IsLegal b) is legal);
  in_order = calls ∙ ap (λ (rows : List ScriptRow). with_run (map record_of rows)) from;
}
