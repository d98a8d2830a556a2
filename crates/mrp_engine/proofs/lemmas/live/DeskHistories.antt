-- The history of an office whose desks made the calls of their records.
use Rattle.std.proofs.Common.{◌≡◌, ◌∙◌, ◌≢◌, ℕ, ◌+◌, ◌<◌, ◌≤◌, ◌==◌, ◌++◌, Bool, true, false, cond, if◌then◌else◌, List, [], ◌∷◌, Ok, Err, get_or, length, map, ap, arith, inl, inr, refl, subst, sym}
use Rattle.std.specs.Prelude.{All, Any}
use Rattle.std.specs.List.{list_any}
use Rattle.std.proofs.lemmas.Bool.{cases_lt}
use Rattle.std.proofs.lemmas.List.{length-append, length-map}
use Rattle.std.proofs.lemmas.List.Elements.{All-contains, All-map, All-push, All-weaker}
use Rattle.mrp_bill.specs.Shop.{Shop}
use Rattle.mrp_turn.specs.Lists.{StartsWith}
use Rattle.mrp_turn.specs.Log.{entries_by}
use Rattle.mrp_turn.specs.Seen.{HasNumber, TurnId}
use Rattle.mrp_turn.proofs.Callers.{in_order}
use Rattle.mrp_tables.specs.declared.limits.TheConstants.{MOST_ENTRIES}
use Rattle.mrp_book.specs.declared.call.Call.{Call}
use Rattle.mrp_book.specs.declared.call.Call.TheVariants as call
use Rattle.mrp_book.specs.Standing.{History}
use Rattle.mrp_book.specs.History.{IsFull, asked}
use Rattle.mrp_desk.specs.Offices.{Desk}
use Rattle.mrp_book.specs.declared.refused.Refused.TheVariants.{NoMemory}
use Rattle.mrp_engine.specs.live.Desks.{AreDesksOf, HaveServed}
use Rattle.mrp_engine.specs.day.RightDay.{asked_by}
use Rattle.mrp_tables.specs.declared.rows.ScriptRow.{ScriptRow}
use Rattle.mrp_script.specs.Script.{Script, is_run, record_of, with_run}
use Rattle.mrp_engine.proofs.lemmas.live.DeskCounts.{few-by-number, none-numbered}
use Rattle.mrp_engine.proofs.lemmas.live.DeskLists.{run-more}

map-if : {X Y : Type 0} (f : X → Y) (b : Bool) (x : X) (xs : List X) → map f (cond b (x ∷ xs) xs) ≡ cond b (f x ∷ map f xs) (map f xs)
map-if f true x xs = refl
map-if f false x xs = refl

-- the calls under a number are those of the entries under it
asked-part : (d : ℕ) (h : History) → asked_by d (asked h) ≡ asked (entries_by d h)
asked-part d [] = refl
asked-part d (e ∷ es) =
    ap (λ (xs : Script). cond (e.who == d) ((e.who, e.call) ∷ xs) xs) (asked-part d es) ∙ sym (map-if (λ e. (e.who, e.call)) (e.who == d) e (entries_by d es))

-- a script with its run has at most one record more
pub run-adds : (records : Script) → length (with_run records) ≤ length records + 1
run-adds records = adds (list_any (λ r. is_run r.1) records)
  where
    adds : (b : Bool) → length (if b then records else records ++ (1, call.Snapshot) ∷ []) ≤ length records + 1
    adds true = omega arith
    adds false = let both = length-append records ((1, call.Snapshot) ∷ []) in omega (arith, both)

-- the records of a script with its run are of these desks
pub all-wide : (seats : ℕ) (rows : List ScriptRow) → All (λ row. 1 ≤ row.desk) rows → All (λ row. row.desk ≤ seats) rows → 1 ≤ seats → All (λ r. (1 ≤ r.0) × (r.0 ≤ seats)) (with_run (map record_of rows))
all-wide seats rows least most some = added (list_any (λ r. is_run r.1) (map record_of rows))
  where
    Wide : ℕ × Call → Type 0
    Wide r = (1 ≤ r.0) × (r.0 ≤ seats)

    rows-wide : All Wide (map record_of rows)
    rows-wide = All-map Wide record_of rows (λ k d within. (least k d within, most k d within))

    added : (b : Bool) → All Wide (if b then map record_of rows else map record_of rows ++ (1, call.Snapshot) ∷ [])
    added true = rows-wide
    added false = All-push Wide (map record_of rows) (1, call.Snapshot) rows-wide (omega arith, some)

-- the number of a desk
pub numbered : (office : TurnId Shop) (desks : List Desk) → AreDesksOf office desks → (n : ℕ) → HasNumber desks n → (1 ≤ n) × (n ≤ office.about.seats)
numbered office desks are n (s, (k, within, at), is) =
    let number : n ≡ k + 1 = sym is ∙ ap (λ (d : Desk). d.number) (sym at) ∙ are.numbers k s within in
    let count = are.count in
    (omega (arith, number), omega (arith, number, within, count))

module _ (office : TurnId Shop) (desks : List Desk) (h : History) (records : Script) (are : AreDesksOf office desks) (mine : All (λ d. d.mine ≡ entries_by d.number h) desks)
    (callers : All (λ e. HasNumber desks e.who) h) (wide : All (λ r. (1 ≤ r.0) × (r.0 ≤ office.about.seats)) records) where
  pub has-number : (n : ℕ) → 1 ≤ n → n ≤ office.about.seats → HasNumber desks n
  has-number = in_order desks office.about.seats are.count (λ k d within. are.numbers k d (omega (arith, within, are.count)))

  in-range : (n : ℕ) → HasNumber desks n → (1 ≤ n) × (n ≤ office.about.seats)
  in-range = numbered office desks are

  -- under a number of no desk there is no call and no record
  none-asked : (d : ℕ) → ((1 ≤ d) × (d ≤ office.about.seats) → ⊥) → asked_by d (asked h) ≡ []
  none-asked d out =
      none-numbered (λ (r : ℕ × Call). r.0) d (asked h) (All-map (λ (r : ℕ × Call). r.0 ≢ d) (λ e. (e.who, e.call)) h
      (All-weaker (λ e. HasNumber desks e.who) (λ e. e.who ≢ d) (λ e has is. out (subst (λ (n : ℕ). (1 ≤ n) × (n ≤ office.about.seats)) is (in-range e.who has))) h callers))

  none-recorded : (d : ℕ) → ((1 ≤ d) × (d ≤ office.about.seats) → ⊥) → asked_by d records ≡ []
  none-recorded d out =
      none-numbered (λ (r : ℕ × Call). r.0) d records (All-weaker (λ (r : ℕ × Call). (1 ≤ r.0) × (r.0 ≤ office.about.seats)) (λ (r : ℕ × Call). r.0 ≢ d) (λ r has is. out (subst (λ (n : ℕ). (1 ≤ n) × (n ≤ office.about.seats)) is has)) records wide)

  -- a desk with a number, and its calls
  own : (d : ℕ) → HasNumber desks d → (s : Desk) × (k : ℕ) × (k < length desks) × (get_or desks k s ≡ s) × (s.number ≡ d) × (asked s.mine ≡ asked_by d (asked h))
  own d (s, (k, within, at), is) = (
    s,
    k,
    within,
    at,
    is,
    ap asked (All-contains (λ (x : Desk). x.mine ≡ entries_by x.number h) desks s mine (k, within, at)) ∙ ap (λ (n : ℕ). asked (entries_by n h)) is ∙ sym (asked-part d h),
  )

  pub follows : All (λ d. asked d.mine ≡ asked_by d.number records) desks → (d : ℕ) → asked_by d (asked h) ≡ asked_by d records
  follows served d = elim (cases_lt 0 d) [
    | inr none ↦ let out : (1 ≤ d) × (d ≤ office.about.seats) → ⊥ = λ r. absurd (omega (arith, r.0, none)) in none-asked d out ∙ sym (none-recorded d out)
    | inl some ↦ elim (cases_lt office.about.seats d) [
      | inl past ↦ let out : (1 ≤ d) × (d ≤ office.about.seats) → ⊥ = λ r. absurd (omega (arith, r.1, past)) in none-asked d out ∙ sym (none-recorded d out)
      | inr within ↦
          let (s, k, below, at, is, same) = own d (has-number d (omega (arith, some)) within) in
          let done : asked s.mine ≡ asked_by s.number records = subst (λ (x : Desk). asked x.mine ≡ asked_by x.number records) at (served k s below) in
          sym same ∙ done ∙ ap (λ (n : ℕ). asked_by n records) is
    ]
  ]

  few-each : All (λ d. length d.mine ≤ length (asked_by d.number records)) desks → (d : ℕ) → length (asked_by d (asked h)) ≤ length (asked_by d records)
  few-each few d = elim (cases_lt 0 d) [
    | inr none ↦ let out : (1 ≤ d) × (d ≤ office.about.seats) → ⊥ = λ r. absurd (omega (arith, r.0, none)) in let empty = ap (length {A = ℕ × Call}) (none-asked d out) in omega (arith, empty)
    | inl some ↦ elim (cases_lt office.about.seats d) [
      | inl past ↦ let out : (1 ≤ d) × (d ≤ office.about.seats) → ⊥ = λ r. absurd (omega (arith, r.1, past)) in let empty = ap (length {A = ℕ × Call}) (none-asked d out) in omega (arith, empty)
      | inr within ↦
          let (s, k, below, at, is, same) = own d (has-number d (omega (arith, some)) within) in
          let less : length s.mine ≤ length (asked_by s.number records) = subst (λ (x : Desk). length x.mine ≤ length (asked_by x.number records)) at (few k s below) in
          let a = ap (length {A = ℕ × Call}) same in
          let b = length-map {B = ℕ × Call} s.mine (λ e. (e.who, e.call)) in
          let c = ap (λ (n : ℕ). length (asked_by n records)) is in
          omega (arith, less, a, b, c)
    ]
  ]

  -- a history has no more entries than its desks have records
  pub no-more : All (λ d. length d.mine ≤ length (asked_by d.number records)) desks → length h ≤ length records
  no-more few =
      let here = length-map {B = ℕ × Call} h (λ e. (e.who, e.call)) in
      let all : All (λ r. r.0 < office.about.seats + 1) (asked h) =
      All-map (λ (r : ℕ × Call). r.0 < office.about.seats + 1) (λ e. (e.who, e.call)) h
      (All-weaker (λ e. HasNumber desks e.who) (λ e. e.who < office.about.seats + 1) (λ e has. let r = (in-range e.who has).1 in omega (arith, r)) h callers) in
      let most = few-by-number (λ (r : ℕ × Call). r.0) (λ (r : ℕ × Call). r.0) (asked h) records (office.about.seats + 1) all (λ d below. few-each few d) in
      omega (arith, here, most)

  -- no desk has seen a full book
  pub never-full : All (λ d. length d.mine ≤ length (asked_by d.number records)) desks → All (λ d. StartsWith h d.seen) desks → length records < MOST_ENTRIES → Any (λ d. IsFull d.seen) desks → ⊥
  never-full few seen short (k, s, below, at, full) =
      let (rest, is) = subst (λ (x : Desk). StartsWith h x.seen) at (seen k s below) in
      let most = no-more few in
      let both = ap (length {A = _}) is ∙ length-append s.seen rest in
      absurd (omega (arith, most, both, full, short))

-- a script with its run has no fewer records of any desk
pub run-fewer : (records : Script) (d : ℕ) → length (asked_by d records) ≤ length (asked_by d (with_run records))
run-fewer records d = added (list_any (λ r. is_run r.1) records)
  where
    added : (b : Bool) → length (asked_by d records) ≤ length (asked_by d (if b then records else records ++ (1, call.Snapshot) ∷ []))
    added true = omega arith
    added false = run-more records d

-- desks that have made the calls of their records, where the run that is added is not made, out of memory
pub none-made : (records : Script) (desks : List Desk) → HaveServed records desks {U = Unit {0}} (Ok (tt {0})) → HaveServed (with_run records) desks {U = Unit {0}} (Err NoMemory)
none-made records desks have = record {
  served = tt;
  few = λ k d within. let a = have.few k d within in let b = run-fewer records (get_or desks k d).number in omega (arith, a, b);
  full = λ e. absurd (cc);
}
