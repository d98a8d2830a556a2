-- The row of an item, and its bookings line by line.
use Rattle.std.proofs.Common.{◌≡◌, ◌≢◌, ℕ, zero, suc, ◌+◌, ◌-◌, ◌≤◌, ◌==◌, ◌&&◌, inl, inr, if◌then◌else◌, nat_le, List, [], ◌∷◌, ◌++◌, get_or, refl, sym, ap, subst, arith}
use Rattle.std.proofs.lemmas.Bool.Decides.{nat_tests}
use Rattle.std.proofs.lemmas.List.Elements.{All-head, All-push, All-tail, All-weaker}
use Rattle.std.proofs.lemmas.List.Sums.{sum_by-append, sum_by-cons, sum_by_push}
use Rattle.mrp_phase.specs.Weeks.{in_week, row, sum_to}
use Rattle.mrp_phase.proofs.WeekRows.{in_week_row, length-row, row_same, sum_to_suc, with_week-row}
use Rattle.mrp_master.specs.declared.line.Line.{Line}
use Rattle.mrp_master.specs.Supply.{Supply, IsAvailable, IsCovered, IsMaster, IsSupply, IsWeek, due_by, line, supply}
use Rattle.mrp_master.specs.AtpRow.{AtpRow, FromFirst, IsAtpRow, IsAvailableIn, IsCoveredRow, IsWeekOf, atp_row, bucket, buckets_to, due_in, opening, with_booking, without_booking}
use Rattle.mrp_master.proofs.Available.{due_by_more, share_cases}
use Rattle.mrp_master.proofs.Carried.{buckets_available}

-- what a line adds to what is due of an item in a week
abbrev pub part : ℕ → ℕ → Line → ℕ
part item week l = if (l.item == item) && (l.week == week) then l.quantity else 0

abbrev pub part_by : ℕ → ℕ → Line → ℕ
part_by item week l = if (l.item == item) && nat_le l.week week then l.quantity else 0

pub part_here : (l : Line) → part l.item l.week l ≡ l.quantity
part_here l = grind (arith, nat_tests)

pub part_other_item : (item week : ℕ) (l : Line) → item ≢ l.item → part item week l ≡ 0
part_other_item item week l ne = grind (arith, nat_tests)

pub part_other_week : (item week : ℕ) (l : Line) → week ≢ l.week → part item week l ≡ 0
part_other_week item week l ne = grind (arith, nat_tests)

pub due_in-cons : (item week : ℕ) (l : Line) (ls : List Line) → due_in item week (l ∷ ls) ≡ part item week l + due_in item week ls
due_in-cons item week l ls = sum_by-cons (part item week) l ls

pub due_in-push : (item week : ℕ) (ls : List Line) (l : Line) → due_in item week (ls ++ l ∷ []) ≡ due_in item week ls + part item week l
due_in-push item week ls l = sum_by_push (part item week) ls l

-- What is due up to a week is what is due in it and before.

term : (i item week t q : ℕ) → (if (i == item) && nat_le week (suc t) then q else 0) ≡ (if (i == item) && nat_le week t then q else 0) + (if (i == item) && (week == suc t) then q else 0)
term i item week t q = grind (arith, nat_tests)

pub due_by-next : (item t : ℕ) (ls : List Line) → due_by item (suc t) ls ≡ due_by item t ls + due_in item (suc t) ls
due_by-next item t [] = refl
due_by-next item t (l ∷ ls) =
    omega (arith, sum_by-cons (part_by item (suc t)) l ls, sum_by-cons (part_by item t) l ls, due_in-cons item (suc t) l ls, term l.item item l.week t l.quantity, due_by-next item t ls)

term_none : (i item week q : ℕ) → 1 ≤ week → (if (i == item) && nat_le week 0 then q else 0) ≡ 0
term_none i item week q h = grind (arith, nat_tests)

pub due_by-none : (item : ℕ) (ls : List Line) → FromFirst ls → due_by item 0 ls ≡ 0
due_by-none item [] all = refl
due_by-none item (l ∷ ls) all =
    omega (arith, sum_by-cons (part_by item 0) l ls, term_none l.item item l.week l.quantity (All-head (λ l. 1 ≤ l.week) l ls all), due_by-none item ls (All-tail (λ l. 1 ≤ l.week) l ls all))

pub due_in-within : (item week : ℕ) (ls : List Line) → 1 ≤ week → due_in item week ls ≤ due_by item week ls
due_in-within item zero ls h = absurd (omega arith)
due_in-within item (suc t) ls h = omega (arith, due_by-next item t ls)

module _ (s : Supply) (item : ℕ) (ls : List Line) where
  -- what the row has booked up to a week
  pub booked_to : (week : ℕ) → FromFirst ls → week ≤ s.weeks → sum_to (atp_row s item ls).booked week ≡ due_by item week ls
  booked_to zero all last = sym (due_by-none item ls all)
  booked_to (suc t) all last =
      omega (arith, sum_to_suc (atp_row s item ls).booked t, in_week_row (λ week. due_in item week ls) s.weeks (suc t) (omega arith) last, due_by-next item t ls, booked_to t all (omega arith))

  -- and supplied
  pub supplied_to : (week : ℕ) → FromFirst (get_or s.firm item []) → 1 ≤ week → week ≤ s.weeks → sum_to (atp_row s item ls).supply week ≡ supply s item week
  supplied_to zero all first last = absurd (omega arith)
  supplied_to (suc zero) all first last =
      let rows : List ℕ = (atp_row s item ls).supply in
      omega (arith, sum_to_suc rows 0, in_week_row (opening s item) s.weeks 1 (omega arith) last, due_by-next item 0 (get_or s.firm item []), due_by-none item (get_or s.firm item []) all)
  supplied_to (suc (suc t)) all first last =
      let rows : List ℕ = (atp_row s item ls).supply in
      let later : (if suc (suc t) == 1 then get_or s.on_hand item 0 else 0) ≡ 0 = grind (arith, nat_tests) in
      omega (arith, later, sum_to_suc rows (suc t), in_week_row (opening s item) s.weeks (suc (suc t)) (omega arith) last, due_by-next item (suc t) (get_or s.firm item []), supplied_to (suc t) all (omega arith) (omega arith))

-- no firm row is due before week 1
pub firm_from_first : (s : Supply) → IsSupply s → (item : ℕ) → FromFirst (get_or s.firm item [])
firm_from_first s k item = All-weaker (λ l. IsWeek s l.week) (λ l. 1 ≤ l.week) (λ l w. w.0) (get_or s.firm item []) (k.inside item)

pub week_of_row : (s : Supply) (item : ℕ) (ls : List Line) (week : ℕ) → IsWeek s week → IsWeekOf (atp_row s item ls) week
week_of_row s item ls week w = (w.0, omega (arith, length-row (opening s item) s.weeks, w.1))

-- One more line.

module _ (s : Supply) (item : ℕ) (ls : List Line) where
  pub row_with : (week quantity : ℕ) → IsWeek s week → with_booking (atp_row s item ls) week quantity ≡ atp_row s item (ls ++ line item week quantity ∷ [])
  row_with week quantity w =
      let f : ℕ → ℕ = λ t. due_in item t ls in
      let g : ℕ → ℕ = λ t. due_in item t (ls ++ line item week quantity ∷ []) in
      let here : in_week (row s.weeks f) week + quantity ≡ g week = omega (arith, in_week_row f s.weeks week w.0 w.1, due_in-push item week ls (line item week quantity), part_here (line item week quantity)) in
      ap (λ (x : List ℕ). record { supply = row s.weeks (opening s item); booked = x })
      (with_week-row f g s.weeks week (in_week (row s.weeks f) week + quantity) w.0 w.1 here
      (λ other ne. omega (arith, due_in-push item other ls (line item week quantity), part_other_week item other (line item week quantity) ne)))

  pub row_same_with : (l : Line) → item ≢ l.item → atp_row s item (ls ++ l ∷ []) ≡ atp_row s item ls
  row_same_with l ne =
      ap (λ (x : List ℕ). record { supply = row s.weeks (opening s item); booked = x })
      (row_same (λ t. due_in item t (ls ++ l ∷ [])) (λ t. due_in item t ls) s.weeks (λ t a b. omega (arith, due_in-push item t ls l, part_other_item item t l ne)))

  -- one line fewer: the one that is not among the others
  pub row_without : (others : List Line) (l : Line) → IsWeek s l.week → item ≡ l.item → ((t : ℕ) → due_in item t ls ≡ due_in item t others + part item t l)
      → without_booking (atp_row s item ls) l.week l.quantity ≡ atp_row s item others
  row_without others l w own parts =
      let f : ℕ → ℕ = λ t. due_in item t ls in
      let g : ℕ → ℕ = λ t. due_in item t others in
      let whole : part item l.week l ≡ l.quantity = subst (λ (x : ℕ). part x l.week l ≡ l.quantity) (sym own) (part_here l) in
      let here : in_week (row s.weeks f) l.week - l.quantity ≡ g l.week = omega (arith, in_week_row f s.weeks l.week w.0 w.1, parts l.week, whole) in
      ap (λ (x : List ℕ). record { supply = row s.weeks (opening s item); booked = x })
      (with_week-row f g s.weeks l.week (in_week (row s.weeks f) l.week - l.quantity) w.0 w.1 here
      (λ other ne. omega (arith, parts other, part_other_week item other l ne)))

  pub row_same_without : (others : List Line) (l : Line) → item ≢ l.item → ((t : ℕ) → due_in item t ls ≡ due_in item t others + part item t l) → atp_row s item ls ≡ atp_row s item others
  row_same_without others l ne parts =
      ap (λ (x : List ℕ). record { supply = row s.weeks (opening s item); booked = x })
      (row_same (λ t. due_in item t ls) (λ t. due_in item t others) s.weeks (λ t a b. omega (arith, parts t, part_other_item item t l ne)))

  -- a line's quantity is booked in its week
  pub booked_at_least : (others : List Line) (l : Line) → IsWeek s l.week → item ≡ l.item → ((t : ℕ) → due_in item t ls ≡ due_in item t others + part item t l) → l.quantity ≤ in_week (atp_row s item ls).booked l.week
  booked_at_least others l w own parts =
      let whole : part item l.week l ≡ l.quantity = subst (λ (x : ℕ). part x l.week l ≡ l.quantity) (sym own) (part_here l) in
      omega (arith, in_week_row (λ t. due_in item t ls) s.weeks l.week w.0 w.1, parts l.week, whole)

-- A row is covered if the item's lines are.

module _ (s : Supply) (supplied : IsSupply s) (item : ℕ) (ls : List Line) (all : FromFirst ls) where
  abbrev pub ItemCovered : Type 0
  ItemCovered = (week : ℕ) → IsWeek s week → due_by item week ls ≤ supply s item week

  pub row_covered : ItemCovered → IsCoveredRow (atp_row s item ls)
  row_covered covered week w =
      let last : week ≤ s.weeks = omega (arith, length-row (opening s item) s.weeks, w.1) in
      omega (arith, booked_to s item ls week all last, supplied_to s item ls week (firm_from_first s supplied item) w.0 last, covered week (w.0, last))

  pub covered_row : IsCoveredRow (atp_row s item ls) → ItemCovered
  covered_row covered week w =
      omega (arith, booked_to s item ls week all w.1, supplied_to s item ls week (firm_from_first s supplied item) w.0 w.1, covered week (week_of_row s item ls week w))

-- What can be promised by a row can be promised.

module _ (s : Supply) (supplied : IsSupply s) (item : ℕ) (master : IsMaster s item) (ls : List Line) (all : FromFirst ls) (covered : IsCovered s ls) where
  abbrev pub MoreFits : ℕ → ℕ → Type 0
  MoreFits week quantity = IsCovered s (ls ++ line item week quantity ∷ [])

  from_first : (week quantity : ℕ) → 1 ≤ week → FromFirst (ls ++ line item week quantity ∷ [])
  from_first week quantity h = All-push (λ l. 1 ≤ l.week) ls (line item week quantity) all h

  pub row_fits : (week quantity : ℕ) → IsWeek s week → MoreFits week quantity → IsCoveredRow (with_booking (atp_row s item ls) week quantity)
  row_fits week quantity w fits =
      subst IsCoveredRow (sym (row_with s item ls week quantity w))
      (row_covered s supplied item (ls ++ line item week quantity ∷ []) (from_first week quantity w.0) (λ t v. fits item master t v))

  pub fits_row : (week quantity : ℕ) → IsWeek s week → IsCoveredRow (with_booking (atp_row s item ls) week quantity) → MoreFits week quantity
  fits_row week quantity w fits i m t v =
      let own : ItemCovered s supplied item (ls ++ line item week quantity ∷ []) (from_first week quantity w.0) =
      covered_row s supplied item (ls ++ line item week quantity ∷ []) (from_first week quantity w.0) (subst IsCoveredRow (row_with s item ls week quantity w) fits) in
      elim (share_cases i t item week quantity) [
        | inl none ↦ omega (arith, due_by_more ls i t item week quantity, covered i m t v)
        | inr some ↦ subst (λ (x : ℕ). due_by x t (ls ++ line item week quantity ∷ []) ≤ supply s x t) some.0 (own t v)
      ]

  pub available_row : (week quantity : ℕ) → IsWeek s week → IsAvailableIn (atp_row s item ls) week quantity → IsAvailable s ls item week quantity
  available_row week quantity w a = record {
    fits = fits_row week quantity w a.fits;
    greatest = λ more fits. a.greatest more (row_fits week more w fits);
  }

  pub row_available : (week quantity : ℕ) → IsWeek s week → IsAvailable s ls item week quantity → IsAvailableIn (atp_row s item ls) week quantity
  row_available week quantity w a = record {
    fits = row_fits week quantity w a.fits;
    greatest = λ more fits. a.greatest more (fits_row week more w fits);
  }

  -- the item's row is a row
  pub is_row : IsAtpRow (atp_row s item ls)
  is_row = record {
    weeks = omega (arith, length-row (opening s item) s.weeks, supplied.last);
    same = omega (arith, length-row (opening s item) s.weeks, length-row (λ week. due_in item week ls) s.weeks);
    covered = row_covered s supplied item ls all (λ week w. covered item master week w);
  }

  -- and its buckets up to a week hold what is available in it
  pub buckets_promised : (week : ℕ) → IsWeek s week → IsAvailable s ls item week (buckets_to (atp_row s item ls) week)
  buckets_promised week w =
      available_row week (buckets_to (atp_row s item ls) week) w (buckets_available (atp_row s item ls) is_row.same is_row.covered week (week_of_row s item ls week w))

-- a line among others
pub parted : (item week : ℕ) (before after : List Line) (l : Line) → due_in item week (before ++ l ∷ after) ≡ due_in item week (before ++ after) + part item week l
parted item week before after l =
    omega (
      arith,
      sum_by-append (part item week) before (l ∷ after),
      sum_by-append (part item week) before after,
      sum_by-cons (part item week) l after,
    )

-- a week without supply has an empty bucket
pub empty_bucket : (r : AtpRow) (week : ℕ) → in_week r.supply week ≡ 0 → bucket r week ≡ 0
empty_bucket r week none = omega arith
