-- The lists of a bill: parents and components, as in its lines.
use Rattle.std.proofs.Common.{◌≡◌, ◌⊎◌, inl, inr, ℕ, zero, suc, ◌+◌, ◌<◌, ◌≤◌, Bool, true, false, cond, eqb, List, [], ◌∷◌, length, filter, refl, sym, ap, subst, ◌∙◌, arith}
use Rattle.std.specs.Prelude.{◌||◌, ◌&&◌, ◌==◌}
use Rattle.std.specs.List.{range_with_len, list_any, Contains}
use Rattle.std.proofs.lemmas.Bool.{eqb-true, eq-eqb, ne_eqb, cases_eq}
use Rattle.mrp_tables.specs.declared.rows.BillLine.{BillLine}
use Rattle.mrp_bill.specs.Bill.{AreWithin, is_parent, IsParent, parents_of, children_of}
use Rattle.mrp_bill.specs.Grouped.{listed, IsListed}
use Rattle.std.proofs.lemmas.List.Elements.{All-contains, filter_passes}
use Rattle.mrp_bill.proofs.Coded.{listed-inside}
use Rattle.mrp_bill.proofs.Listed.{filter-range-below}

-- a number before a range is not in what a test keeps of the range
none-before : (t : ℕ → Bool) (i a n : ℕ) → i < a → list_any (λ x. x == i) (filter t (range_with_len a n)) ≡ false
none-before t i a zero h = refl
none-before t i a (suc n) h = by (t a) (none-before t i (a + 1) n (omega arith))
  where
    by : (b : Bool) → list_any (λ x. x == i) (filter t (range_with_len (a + 1) n)) ≡ false → list_any (λ x. x == i) (cond b (a ∷ filter t (range_with_len (a + 1) n)) (filter t (range_with_len (a + 1) n))) ≡ false
    by true rest = rw (ne_eqb a i (λ e. absurd (omega arith))) rest
    by false rest = rest

-- a number of a range is kept if it passes the test
pub kept-range : (t : ℕ → Bool) (i a n : ℕ) → a ≤ i → i < a + n → list_any (λ x. x == i) (filter t (range_with_len a n)) ≡ t i
kept-range t i a zero low high = absurd (omega arith)
kept-range t i a (suc n) low high = by (cases_eq a i) (λ h. kept-range t i (a + 1) n h (omega arith))
  where
    here : (b : Bool) → t a ≡ b → a ≡ i → list_any (λ x. x == i) (cond b (a ∷ filter t (range_with_len (a + 1) n)) (filter t (range_with_len (a + 1) n))) ≡ b
    here true e same = rw (eq-eqb a i same) refl
    here false e same = none-before t i (a + 1) n (omega arith)

    later : (b : Bool) → (a ≡ i → ⊥) → list_any (λ x. x == i) (filter t (range_with_len (a + 1) n)) ≡ t i
        → list_any (λ x. x == i) (cond b (a ∷ filter t (range_with_len (a + 1) n)) (filter t (range_with_len (a + 1) n))) ≡ t i
    later true ne rest = rw (ne_eqb a i ne) rest
    later false ne rest = rest

    by : (a ≡ i) ⊎ (a ≡ i → ⊥) → (a + 1 ≤ i → list_any (λ x. x == i) (filter t (range_with_len (a + 1) n)) ≡ t i) → list_any (λ x. x == i) (cond (t a) (a ∷ filter t (range_with_len (a + 1) n)) (filter t (range_with_len (a + 1) n))) ≡ t i
    by (inl same) rest = here (t a) refl same ∙ ap t same
    by (inr ne) rest = later (t a) ne (rest (omega arith))

-- a number that a search finds is in the list
pub contains-from_any : (i : ℕ) (xs : List ℕ) → list_any (λ x. x == i) xs ≡ true → Contains xs i
contains-from_any i [] e = absurd (cc)
contains-from_any i (x ∷ xs) e = by (eqb x i) refl (contains-from_any i xs) e
  where
    by : (b : Bool) → eqb x i ≡ b → (list_any (λ y. y == i) xs ≡ true → Contains xs i) → (b || list_any (λ y. y == i) xs) ≡ true → Contains (x ∷ xs) i
    by true same rest k = (0, omega arith, eqb-true x i same)
    by false other rest k = let (place, low, is) = rest k in (suc place, omega arith, is)

-- what a test keeps of a range
pub kept-contains : (t : ℕ → Bool) (i n : ℕ) → i < n → t i ≡ true → Contains (filter t (range_with_len 0 n)) i
kept-contains t i n h e = contains-from_any i (filter t (range_with_len 0 n)) (kept-range t i 0 n (omega arith) (omega arith) ∙ e)

-- a parent and its component are among the items
pub parent-within : (lines : List BillLine) (count p i : ℕ) → AreWithin count lines → IsParent lines p i → (p < count) × (i < count)
parent-within [] count p i within h = absurd (cc)
parent-within (line ∷ lines) count p i within h =
    by (eqb line.parent p) refl (eqb line.component i) refl (parent-within lines count p i (λ k d low. within (suc k) d (omega arith))) h
  where
    by : (a : Bool) → eqb line.parent p ≡ a → (b : Bool) → eqb line.component i ≡ b → (IsParent lines p i → (p < count) × (i < count)) → ((a && b) || is_parent lines p i) ≡ true → (p < count) × (i < count)
    by true e true f rest k =
        let w = within 0 line (omega arith) in
        (omega (arith, eqb-true line.parent p e), omega (arith, eqb-true line.component i f))
    by true e false f rest k = rest k
    by false e b f rest k = rest k

-- what a test keeps of a range is in the range, and passes
kept-inside : (t : ℕ → Bool) (i n : ℕ) → Contains (filter t (range_with_len 0 n)) i → (i < n) × (t i ≡ true)
kept-inside t i n c =
    (All-contains (λ x. x < n) (filter t (range_with_len 0 n)) i (filter-range-below t n) c, All-contains (λ x. t x ≡ true) (filter t (range_with_len 0 n)) i (filter_passes t (range_with_len 0 n)) c)

-- what is in the lists of parents
pub listed-parent : (lines : List BillLine) (count : ℕ) (parents : List (List ℕ)) → length parents ≡ count → ((i : ℕ) → i < count → listed parents i ≡ parents_of lines count i)
    → (p i : ℕ) → IsListed parents p i → (p < count) × IsParent lines p i
listed-parent lines count parents size is p i link =
    let inside : i < count = omega (arith, listed-inside parents p i link) in
    kept-inside (λ x. is_parent lines x i) p count (subst (λ (xs : List ℕ). Contains xs p) (is i inside) link)

pub parent-listed : (lines : List BillLine) (count : ℕ) (parents : List (List ℕ)) → AreWithin count lines → ((i : ℕ) → i < count → listed parents i ≡ parents_of lines count i)
    → (p i : ℕ) → IsParent lines p i → IsListed parents p i
parent-listed lines count parents within is p i link =
    let (low, inside) = parent-within lines count p i within link in
    subst (λ (xs : List ℕ). Contains xs p) (sym (is i inside)) (kept-contains (λ x. is_parent lines x i) p count low link)

pub listed-child : (lines : List BillLine) (count : ℕ) (children : List (List ℕ)) → length children ≡ count → ((i : ℕ) → i < count → listed children i ≡ children_of lines count i)
    → (c i : ℕ) → IsListed children c i → c < count
listed-child lines count children size is c i link =
    let inside : i < count = omega (arith, listed-inside children c i link) in
    (kept-inside (λ x. is_parent lines i x) c count (subst (λ (xs : List ℕ). Contains xs c) (is i inside) link)).0
