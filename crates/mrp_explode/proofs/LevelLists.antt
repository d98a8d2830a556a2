-- Items are put in the lists of their low-level codes.
use Rattle.std.proofs.Common.{◌≡◌, ◌≢◌, ℕ, suc, ◌<◌, ◌+◌, List, [], ◌∷◌, length, get_or, sym, subst, inl, inr, refl, arith}
use Rattle.std.proofs.lemmas.Bool.{cases_order}
use Rattle.std.proofs.lemmas.List.Elements.{All-push, All-nil, Contains-append_left, Contains-append_right}
use Rattle.std.specs.Prelude.{◌⊎◌, All, Vec}
use Rattle.std.specs.List.{Contains}
use Rattle.std.specs.declared.alloc.Global.{Global}
use Rattle.mrp_tables.specs.declared.rows.BillLine.{BillLine}
use Rattle.mrp_bill.specs.Bill.{IsCode, IsDepth, IsParent}
use Rattle.mrp_bill.specs.Lists.{listed, Appends}
use Rattle.mrp_bill.specs.Shop.{Shop, IsShop}
use Rattle.mrp_bill.proofs.Accepted.{codes-are, one-code}
use Rattle.mrp_explode.specs.Levels.{AreLevels}

-- a number that is less or greater is another
pub apart : (a b : ℕ) → (a < b) ⊎ (b < a) → a ≢ b
apart a b (inl low) same = absurd (omega (arith, low, same))
apart a b (inr high) same = absurd (omega (arith, high, same))

-- a parent's code is less than its component's
pub code-rises : (lines : List BillLine) (p i m n : ℕ) → IsParent lines p i → IsCode lines p m → IsCode lines i n → m < n
code-rises lines p i m n link above below = omega (arith, below.greatest (suc m) above.reached.0 (p, above.reached.1, link))

-- every item has a code
has-code : (s : Shop) (i : ℕ) → IsShop s → (n : ℕ) × IsCode s.tables.bills i n
has-code s i accepted = (get_or s.codes i 0, codes-are s.tables.bills (λ j. get_or s.codes j 0) accepted.codes i)

-- the greatest code is less than the count of items, if there is one
pub depth-low : (s : Shop) (n : ℕ) → IsShop s → IsDepth s.tables.bills (length s.tables.items) n → n < 1 + length s.tables.items
depth-low s n accepted depth = elim depth.reached [
  | inl none ↦ omega (arith, none)
  | inr (i, within, code) ↦
      let same : get_or s.codes i 0 ≡ n = one-code s.tables.bills i _ n (codes-are s.tables.bills (λ j. get_or s.codes j 0) accepted.codes i) code in
      omega (arith, same, accepted.low i 0 (omega (arith, within, accepted.size)))
]

-- the first items are in the lists of their codes
pub record AreGrouped (lines : List BillLine) (count first : ℕ) (levels : List (Vec ℕ Global)) : Type 0 where
  pub items : (code : ℕ) → All (λ i. (i < count) × IsCode lines i code) (listed levels code)
  pub all : (i code : ℕ) → i < first → IsCode lines i code → Contains (listed levels code) i
  pub whole : (i code : ℕ) → i < count → IsCode lines i code → code < length levels

pub none-grouped : (lines : List BillLine) (count depth : ℕ) (levels : List (Vec ℕ Global)) → IsDepth lines count depth → length levels ≡ depth + 1
    → ((code : ℕ) → listed levels code ≡ []) → AreGrouped lines count 0 levels
none-grouped lines count depth levels greatest size empty = record {
  items = λ code. subst (All (λ i. (i < count) × IsCode lines i code)) (sym (empty code)) (All-nil (λ i. (i < count) × IsCode lines i code));
  all = λ i code low is. absurd (omega (arith, low));
  whole = λ i code within is. omega (arith, greatest.greatest i code within is, size);
}

-- one more item is put in the list of its code
pub one-grouped : (lines : List BillLine) (count x at : ℕ) (old new : List (Vec ℕ Global)) → x < count → IsCode lines x at → Appends old new at x
    → AreGrouped lines count x old → AreGrouped lines count (x + 1) new
one-grouped lines count x at old new within coded appends before = record {
  items = λ code. here code (cases_order code at);
  all = λ i code low is. there i code is (cases_order i x) low;
  whole = λ i code below is. omega (arith, before.whole i code below is, appends.size);
}
  where
    Of : ℕ → ℕ → Type 0
    Of code i = (i < count) × IsCode lines i code

    here : (code : ℕ) → (code ≡ at) ⊎ ((code < at) ⊎ (at < code)) → All (λ i. (i < count) × IsCode lines i code) (listed new code)
    here code (inl same) = subst (λ (c : ℕ). All (λ i. (i < count) × IsCode lines i c) (listed new c)) (sym same)
        (subst (All (λ i. (i < count) × IsCode lines i at)) (sym appends.put) (All-push (λ i. (i < count) × IsCode lines i at) (listed old at) x (before.items at) (within, coded)))
    here code (inr o) = subst (All (λ i. (i < count) × IsCode lines i code)) (sym (appends.others code (apart code at o))) (before.items code)

    kept : (i code : ℕ) → Contains (listed old code) i → (code ≡ at) ⊎ ((code < at) ⊎ (at < code)) → Contains (listed new code) i
    kept i code was (inl same) = subst (λ (c : ℕ). Contains (listed new c) i) (sym same)
        (subst (λ (xs : List ℕ). Contains xs i) (sym appends.put) (Contains-append_left (listed old at) (x ∷ []) i (subst (λ (c : ℕ). Contains (listed old c) i) same was)))
    kept i code was (inr o) = subst (λ (xs : List ℕ). Contains xs i) (sym (appends.others code (apart code at o))) was

    last : Contains (listed new at) x
    last = subst (λ (xs : List ℕ). Contains xs x) (sym appends.put) (Contains-append_right (listed old at) (x ∷ []) x (0, omega arith, refl))

    there : (i code : ℕ) → IsCode lines i code → (i ≡ x) ⊎ ((i < x) ⊎ (x < i)) → i < x + 1 → Contains (listed new code) i
    there i code is (inl same) low =
        let coded-i : IsCode lines i at = subst (λ (j : ℕ). IsCode lines j at) (sym same) coded in
        let code-is : code ≡ at = one-code lines i code at is coded-i in
        subst (λ (c : ℕ). Contains (listed new c) i) (sym code-is) (subst (λ (j : ℕ). Contains (listed new at) j) (sym same) last)
    there i code is (inr (inl below)) low = kept i code (before.all i code below is) (cases_order code at)
    there i code is (inr (inr above)) low = absurd (omega (arith, above, low))

-- all items are in the lists of their codes
pub all-grouped : (s : Shop) (levels : List (Vec ℕ Global)) → IsShop s → AreGrouped s.tables.bills (length s.tables.items) (length s.tables.items) levels
    → AreLevels s.tables.bills (length s.tables.items) levels
all-grouped s levels accepted grouped = record {
  each = λ code within. record { inside = grouped.items code; all = λ i below is. grouped.all i code below is };
  whole = λ i below. let (code, is) = has-code s i accepted in (code, grouped.whole i code below is, is);
}
