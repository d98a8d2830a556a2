-- What is available to promise is the least of what is uncommitted.
use Rattle.std.proofs.Common.{ℕ, zero, suc, ◌≡◌, ◌≤◌, ◌<◌, ◌+◌, ◌-◌, ◌==◌, ◌&&◌, ◌⊎◌, inl, inr, if◌then◌else◌, nat_le, min, List, [], ◌∷◌, ◌++◌, arith, refl, sym, subst}
use Rattle.std.proofs.lemmas.Bool.{cases_lt}
use Rattle.std.proofs.lemmas.Bool.Decides.{nat_tests}
use Rattle.std.proofs.lemmas.List.Sums.{sum_by_push}
use Rattle.mrp_master.specs.declared.line.Line.{Line}
use Rattle.mrp_master.specs.Supply.{Supply, IsMaster, IsWeek, line, due_by, supply, IsCovered, IsAvailable, IsLeastFrom, least_from, uncommitted}

-- what a line of so many pieces of an item `i` in a week `w` adds to what is due of an item up to a week
abbrev pub share : ℕ → ℕ → ℕ → ℕ → ℕ → ℕ
share item week i w quantity = if (i == item) && nat_le w week then quantity else 0

-- what is due with one more line
pub due_by_more : (lines : List Line) (item week i w quantity : ℕ) → due_by item week (lines ++ line i w quantity ∷ []) ≡ due_by item week lines + share item week i w quantity
due_by_more lines item week i w quantity = sum_by_push (λ l. if (l.item == item) && nat_le l.week week then l.quantity else 0) lines (line i w quantity)

-- a line adds its pieces to what is due of its item from its week on
pub share_here : (item week w quantity : ℕ) → w ≤ week → share item week item w quantity ≡ quantity
share_here item week w quantity h = grind (arith, nat_tests)

-- and to nothing else
pub share_cases : (item week i w quantity : ℕ) → (share item week i w quantity ≡ 0) ⊎ ((i ≡ item) × (w ≤ week) × (share item week i w quantity ≡ quantity))
share_cases item week i w quantity = grind (arith, nat_tests)

-- a week before those of the least value
least_step : (f : ℕ → ℕ) (week last rest : ℕ) → week < last → IsLeastFrom f (suc week) last rest → IsLeastFrom f week last (min (f week) rest)
least_step f week last rest more r = record {
  below = λ t a b. elim (cases_lt week t) [
    | inl later ↦ let h : rest ≤ f t = r.below t (omega arith) b in omega arith
    | inr here ↦
        let same : t ≡ week = omega arith in
        let P : ℕ → Type 0 = λ x. min (f week) rest ≤ f x in
        subst P (sym same) (omega arith)
  ];
  reached = elim (cases_lt rest (f week)) [
    | inl later ↦ let e : f r.reached.0 ≡ rest = r.reached.3 in (r.reached.0, omega arith, r.reached.2, omega arith)
    | inr here ↦ (week, omega arith, omega arith, omega arith)
  ];
}

pub least_is : (f : ℕ → ℕ) (more week last : ℕ) → last ≡ week + more → IsLeastFrom f week last (least_from f week more)
unfolding least_from
least_is f zero week last e = record {
  below = λ t a b. let same : t ≡ week = omega arith in let P : ℕ → Type 0 = λ x. f week ≤ f x in subst P (sym same) (omega arith);
  reached = (week, omega arith, omega arith, refl);
}
least_is f (suc more) week last e = least_step f week last (least_from f (suc week) more) (omega arith) (least_is f more (suc week) last (omega arith))

module _ (s : Supply) (lines : List Line) (item : ℕ) where
  -- the least of what is uncommitted can be booked, and no more
  pub least_is_available : (week quantity : ℕ) → IsMaster s item → IsWeek s week → IsCovered s lines → IsLeastFrom (uncommitted s lines item) week s.weeks quantity → IsAvailable s lines item week quantity
  least_is_available week quantity master inside covered least = record {
    fits = λ i m t w.
        let before : due_by i t lines ≤ supply s i t = covered i m t w in
        let sum : due_by i t (lines ++ line item week quantity ∷ []) ≡ due_by i t lines + share i t item week quantity = due_by_more lines i t item week quantity in
        elim (share_cases i t item week quantity) [
          | inl none ↦ omega arith
          | inr some ↦
              let own : quantity ≤ uncommitted s lines item t = least.below t some.1 w.1 in
              let other : quantity ≤ uncommitted s lines i t = subst (λ x. quantity ≤ uncommitted s lines x t) some.0 own in
              omega arith
        ];
    greatest = λ more fits.
        let r = least.reached in
        let sum : due_by item r.0 (lines ++ line item week more ∷ []) ≡ due_by item r.0 lines + share item r.0 item week more = due_by_more lines item r.0 item week more in
        let here : share item r.0 item week more ≡ more = share_here item r.0 week more r.1 in
        let with_more : due_by item r.0 (lines ++ line item week more ∷ []) ≤ supply s item r.0 = fits item master r.0 (omega arith, r.2) in
        let is_least : uncommitted s lines item r.0 ≡ quantity = r.3 in
        omega arith;
  }

  -- two quantities that are available are the same
  pub available_unique : (week p q : ℕ) → IsAvailable s lines item week p → IsAvailable s lines item week q → p ≡ q
  available_unique week p q a b =
      let one : p ≤ q = b.greatest p a.fits in
      let other : q ≤ p = a.greatest q b.fits in
      omega arith

  -- where a quantity is available, what is due without it is covered
  pub available_covered : (week quantity : ℕ) → IsAvailable s lines item week quantity → IsCovered s lines
  available_covered week quantity a i m t w =
      let with_it : due_by i t (lines ++ line item week quantity ∷ []) ≤ supply s i t = a.fits i m t w in
      let sum : due_by i t (lines ++ line item week quantity ∷ []) ≡ due_by i t lines + share i t item week quantity = due_by_more lines i t item week quantity in
      omega arith

  -- what is available is the least of what is uncommitted
  pub available_is_least : (week quantity : ℕ) → IsMaster s item → IsWeek s week → IsAvailable s lines item week quantity → IsLeastFrom (uncommitted s lines item) week s.weeks quantity
  available_is_least week quantity master inside a =
      let f = uncommitted s lines item in
      let is_least : IsLeastFrom f week s.weeks (least_from f week (s.weeks - week)) = least_is f (s.weeks - week) week s.weeks (omega arith) in
      let can_promise : IsAvailable s lines item week (least_from f week (s.weeks - week)) = least_is_available week (least_from f week (s.weeks - week)) master inside (available_covered week quantity a) is_least in
      subst (λ x. IsLeastFrom f week s.weeks x) (available_unique week (least_from f week (s.weeks - week)) quantity can_promise a) is_least

-- less of the same
share-mono : (item week i w q r : ℕ) → q ≤ r → share item week i w q ≤ share item week i w r
share-mono item week i w q r h = grind (arith, nat_tests)

-- less than what is covered is covered
pub covered-less : (s : Supply) (lines : List Line) (i w q r : ℕ) → q ≤ r → IsCovered s (lines ++ line i w r ∷ []) → IsCovered s (lines ++ line i w q ∷ [])
covered-less s lines i w q r less c j m t inside =
    let a : due_by j t (lines ++ line i w r ∷ []) ≤ supply s j t = c j m t inside in
    let e = due_by_more lines j t i w r in
    let f = due_by_more lines j t i w q in
    let g = share-mono j t i w q r less in
    omega arith
