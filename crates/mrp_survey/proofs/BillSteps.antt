-- Bill lines, record by record, and the places of their items.
use Rattle.std.proofs.Common.{◌≡◌, ◌∙◌, ◌+◌, ◌-◌, ◌<◌, ◌≤◌, ℕ, zero, suc, Bool, true, false, List, [], ◌∷◌, ◌++◌, Ok, Option, Some, None, drop, map, take, nat_eq, refl, sym, ap, arith, append_assoc, append-nil}
use Rattle.std.specs.Prelude.{if◌then◌else◌, option_and_then}
use Rattle.std.specs.Cmp.Lexicographic.{pointwise}
use Rattle.std.specs.List.{All}
use Rattle.std.specs.Option.{option_to_list}
use Rattle.std.proofs.lemmas.Bool.{ltb-false, ltb-true}
use Rattle.std.proofs.lemmas.List.{length-map}
use Rattle.std.proofs.lemmas.List.Elements.{All-append, All-cons, All-map, All-nil}
use Rattle.std.proofs.lemmas.List.Quantifiers.{position-Some}
use Rattle.mrp_loops.specs.declared.line.Line.{Line}
use Rattle.mrp_rows.specs.declared.fault.Table.{Table}
use Rattle.mrp_rows.specs.declared.fault.Table.TheVariants as t
use Rattle.mrp_rows.specs.Shown.{Shown}
use Rattle.mrp_rows.specs.Unread.{ReadsInto, Unread}
use Rattle.mrp_tables.specs.Reading.{is_past}
use Rattle.mrp_loops.specs.Needs.{AreWithin}
use Rattle.mrp_survey.specs.declared.bill_lines.BillLine.{BillLine}
use Rattle.mrp_survey.specs.declared.form.Form.{Form}
use Rattle.mrp_survey.specs.BillLines.{bill_line, known_place, line_of, lines_from, within_limit}
use Rattle.mrp_survey.specs.BillParts.{has_key, unless, within_left}
use Rattle.mrp_survey.specs.Entry.{Entry}
use Rattle.mrp_survey.specs.Entries.{name_in}
use Rattle.mrp_survey.specs.Forms.{AllCells}
use Rattle.mrp_survey.specs.Loops.{count_of, edges_of}
use Rattle.mrp_survey.specs.Keys.{Key}
use Rattle.mrp_survey.specs.Marks.{is_whole, keys_after, with_own}
use Rattle.mrp_survey.specs.Names.{Names, place_among}
use Rattle.mrp_survey.specs.Records.{Records}
use Rattle.mrp_survey.specs.Rules.{key_in, key_of}
use Rattle.mrp_survey.specs.Tables.{entry_at, width_of}

-- a record more
pub lines-further : (form : Form) (records : Records) (items : Option Names) (n : ℕ) (cells : AllCells) (rest rows : List AllCells) (line : Option BillLine) (width : ℕ) (entry : Entry) (whole now more : List BillLine)
    → rows ≡ cells ∷ rest → width ≡ width_of form → entry ≡ entry_at form records n cells → line ≡ bill_line width items entry → more ≡ now ++ option_to_list line
    → whole ≡ now ++ lines_from form items records n rows → whole ≡ more ++ lines_from form items records (n + 1) rest
unfolding lines_from
lines-further form records items n cells rest rows line width entry whole now more is width_is entry_is line_is grown so_far =
    let step : lines_from form items records n (cells ∷ rest) ≡ option_to_list line ++ lines_from form items records (n + 1) rest = rw (line_is, width_is, entry_is) refl in
    so_far ∙ ap (λ (r : List AllCells). now ++ lines_from form items records n r) is
    ∙ ap (λ (t : List BillLine). now ++ t) step
    ∙ sym (append_assoc now (option_to_list line) (lines_from form items records (n + 1) rest))
    ∙ ap (λ (t : List BillLine). t ++ lines_from form items records (n + 1) rest) (sym grown)

-- no record more
pub lines-all : (form : Form) (records : Records) (items : Option Names) (n : ℕ) (rows : List AllCells) (whole now : List BillLine) → rows ≡ [] → whole ≡ now ++ lines_from form items records n rows → now ≡ whole
unfolding lines_from
lines-all form records items n rows whole now none so_far = sym (so_far ∙ ap (λ (r : List AllCells). now ++ lines_from form items records n r) none ∙ append-nil now)

-- a known item's place is one
place-within : (items : Option Names) (name : Option (List ℕ)) (place : ℕ) → option_and_then (λ names. option_and_then (place_among names) name) items ≡ Some place → place < count_of items
place-within None name place is = absurd cc
place-within (Some names) None place is = absurd cc
place-within (Some names) (Some name) place is =
    let found = position-Some (pointwise nat_eq name) (map (λ e. e.0) names) place [] is in
    rw (length-map names (λ e. e.0)) at found.0

abbrev IsWithin : Option Names → BillLine → Type 0
IsWithin items own = (own.line.parent < count_of items) × (own.line.component < count_of items)

one-within : (items : Option Names) (number : ℕ) (parent component : Option ℕ) → ((place : ℕ) → parent ≡ Some place → place < count_of items) → ((place : ℕ) → component ≡ Some place → place < count_of items)
    → All (IsWithin items) (option_to_list (line_of number parent component))
one-within items number (Some parent) (Some component) above below = All-cons (IsWithin items) _ [] (above parent refl, below component refl) (All-nil (IsWithin items))
one-within items number (Some parent) None above below = All-nil (IsWithin items)
one-within items number None component above below = All-nil (IsWithin items)

line-within : (width : ℕ) (items : Option Names) (entry : Entry) → All (IsWithin items) (option_to_list (bill_line width items entry))
line-within width items entry = by _
  where
    by : (b : Bool) → All (IsWithin items) (option_to_list (if b then line_of entry.place.number (known_place items entry 0) (known_place items entry 1) else None))
    by true = one-within items entry.place.number (known_place items entry 0) (known_place items entry 1) (place-within items (name_in entry 0)) (place-within items (name_in entry 1))
    by false = All-nil (IsWithin items)

all-within : (form : Form) (items : Option Names) (records : Records) (n : ℕ) (rows : List AllCells) → All (IsWithin items) (lines_from form items records n rows)
unfolding lines_from
all-within form items records n [] = All-nil (IsWithin items)
all-within form items records n (row ∷ rows) =
    All-append (IsWithin items) (option_to_list (bill_line (width_of form) items (entry_at form records n row))) (lines_from form items records (n + 1) rows)
    (line-within (width_of form) items (entry_at form records n row)) (all-within form items records (n + 1) rows)

-- the places of bill lines are those of known items
pub edges-within : (form : Form) (items : Option Names) (records : Records) (n : ℕ) (rows : List AllCells) (lines : List BillLine) → lines ≡ lines_from form items records n rows → AreWithin (count_of items) (edges_of lines)
edges-within form items records n rows lines is =
    rw is (All-map (λ (line : Line). (line.parent < count_of items) × (line.component < count_of items)) (λ (l : BillLine). l.line) (lines_from form items records n rows) (all-within form items records n rows))

-- at the first record these are all
pub left-first : (limit : Option ℕ) (rows : List AllCells) → within_limit limit rows ≡ within_left limit 1 rows
left-first (Some limit) rows = ap (λ (n : ℕ). take n rows) (omega arith)
left-first None rows = refl

-- a record within the limit
pub left-next : (limit : Option ℕ) (number : ℕ) (cells : AllCells) (rest rows : List AllCells) → rows ≡ cells ∷ rest → is_past limit number ≡ false → within_left limit number rows ≡ cells ∷ within_left limit (number + 1) rest
left-next (Some limit) number cells rest rows is within =
    let low : number ≤ limit = ltb-false limit number within in
    let more : limit + 1 - number ≡ suc (limit + 1 - (number + 1)) = omega (arith, low) in
    ap (λ (r : List AllCells). take (limit + 1 - number) r) is ∙ ap (λ (n : ℕ). take n (cells ∷ rest)) more
left-next None number cells rest rows is within = is

-- no record is left within the limit
pub left-past : (limit : Option ℕ) (number : ℕ) (rows : List AllCells) → is_past limit number ≡ true → within_left limit number rows ≡ []
left-past (Some limit) number rows past =
    let high : limit < number = ltb-true limit number past in
    let none_left : limit + 1 - number ≡ 0 = omega (arith, high) in
    ap (λ (n : ℕ). take n rows) none_left
left-past None number rows past = absurd cc

pub left-none : (limit : Option ℕ) (number : ℕ) (rows : List AllCells) → rows ≡ [] → within_left limit number rows ≡ []
left-none (Some limit) number rows none = ap (take (limit + 1 - number)) none ∙ take-none (limit + 1 - number)
  where
    take-none : (n : ℕ) → take {A = AllCells} n [] ≡ []
    take-none zero = refl
    take-none (suc n) = refl
left-none None number rows none = none

keyless : (table : Table) (entry : Entry) → has_key table ≡ false → key_in table entry ≡ None
keyless t.Calendar entry none = refl
keyless t.Items entry none = absurd cc
keyless t.Centres entry none = absurd cc
keyless t.Stock entry none = absurd cc
keyless t.Receipts entry none = absurd cc
keyless t.Bills entry none = refl
keyless t.Routings entry none = absurd cc
keyless t.Master entry none = refl
keyless t.Script entry none = refl
keyless t.Bundle entry none = refl

-- a record of a table without keys has nothing to itself
pub no-key : (form : Form) (records : Records) (n : ℕ) (cells : AllCells) (width : ℕ) (entry : Entry) → entry ≡ entry_at form records n cells → has_key form.table ≡ false → [] ≡ keys_after width [] entry
no-key form records n cells width entry entry_is none =
    by (is_whole width entry.row) (key_of entry) (ap (λ (own : Table). key_in own entry) (ap (λ (e : Entry). e.form.table) entry_is) ∙ keyless form.table entry none)
  where
    by : (b : Bool) (key : Option Key) → key ≡ None → [] ≡ (if b then with_own [] key entry.place.line else [])
    by true key none = ap (λ (k : Option Key). with_own [] k entry.place.line) (sym none)
    by false key none = refl

-- behind one record more
pub drop-next : (k : ℕ) (rows : List AllCells) (cells : AllCells) (rest : List AllCells) → drop k rows ≡ cells ∷ rest → drop (suc k) rows ≡ rest
drop-next zero rows cells rest is = ap (drop 1) is
drop-next (suc k) [] cells rest is = absurd cc
drop-next (suc k) (row ∷ rows) cells rest is = drop-next k rows cells rest is

drop-none : (k : ℕ) (rows : List AllCells) → drop k rows ≡ [] → drop (suc k) rows ≡ []
drop-none zero rows is = ap (drop 1) is
drop-none (suc k) [] is = refl
drop-none (suc k) (row ∷ rows) is = drop-none k rows is

-- a record more is passed over, if there is one
pub passed-one : (rows old new : Unread) (k most : ℕ) (before row : Shown) (found : Bool) → ReadsInto old most before (Ok found) row new → old ≡ drop k rows → new ≡ drop (suc k) rows
passed-one rows old new k most before row true reads is = sym (drop-next k rows reads.cells new (sym is ∙ reads.first))
passed-one rows old new k most before row false reads is = reads.left ∙ sym (drop-none k rows (sym is ∙ reads.none))

-- what stands behind where there is no end
pub behind-same : {X : Type 0} (end : Bool) (xs ys : List X) → (end ≡ false → xs ≡ ys) → unless end xs ≡ unless end ys
behind-same true xs ys same = refl
behind-same false xs ys same = same refl
