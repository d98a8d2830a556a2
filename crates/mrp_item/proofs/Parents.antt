-- The parents of an item and the lines to it, by their places.
use Rattle.std.proofs.Common.{◌≡◌, ◌≢◌, ◌∙◌, ℕ, zero, suc, ◌+◌, ◌<◌, ◌≤◌, Bool, true, false, cond, eqb, List, [], ◌∷◌, ◌++◌, length, take, map, get_or, refl, sym, ap, subst, arith, take_all, add-one}
use Rattle.std.specs.Prelude.{All, filter, ◌||◌, ◌&&◌}
use Rattle.std.specs.List.{range_with_len}
use Rattle.std.proofs.lemmas.Bool.{eqb-true, eqb-false, eq-eqb}
use Rattle.std.proofs.lemmas.Grind.{get_or_default_zero}
use Rattle.std.proofs.lemmas.List.{get_or-map, length-map, map-append}
use Rattle.std.proofs.lemmas.List.Elements.{filter_more}
use Rattle.mrp_tables.specs.declared.rows.BillLine.{BillLine}
use Rattle.mrp_bill.specs.Bill.{is_parent, IsParent, parents_of, line_at, lines_of}
use Rattle.mrp_bill.proofs.Listed.{filter-range_more}
use Rattle.mrp_item.specs.Inputs.{Inputs, count}
use Rattle.mrp_item.specs.Places.{ItemOf}
use Rattle.mrp_item.specs.Made.{item_from, items_from, parents_from}
use Rattle.mrp_item.specs.ParentOutcomes.{HasParentsOf, IsListed}

-- the numbers of a range that pass
pub kept_at : (p : ℕ → Bool) (a n k : ℕ) → k < length (filter p (range_with_len a n))
    → (a ≤ get_or (filter p (range_with_len a n)) k 0) × (get_or (filter p (range_with_len a n)) k 0 < a + n) × (p (get_or (filter p (range_with_len a n)) k 0) ≡ true)
kept_at p a zero k h = absurd (omega arith)
kept_at p a (suc n) k h = by (p a) refl k h (λ j h. kept_at p (a + 1) n j h)
  where
    rest : List ℕ
    rest = filter p (range_with_len (a + 1) n)

    by : (b : Bool) → p a ≡ b → (k : ℕ) → k < length (cond b (a ∷ rest) rest)
        → ((j : ℕ) → j < length rest → (a + 1 ≤ get_or rest j 0) × (get_or rest j 0 < a + 1 + n) × (p (get_or rest j 0) ≡ true))
        → (a ≤ get_or (cond b (a ∷ rest) rest) k 0) × (get_or (cond b (a ∷ rest) rest) k 0 < a + suc n) × (p (get_or (cond b (a ∷ rest) rest) k 0) ≡ true)
    by true e zero h more = (omega arith, omega arith, e)
    by true e (suc k) h more = let (low, high, same) = more k (omega arith) in (omega arith, omega arith, same)
    by false e k h more = let (low, high, same) = more k h in (omega arith, omega arith, same)

-- they rise
pub kept_rise : (p : ℕ → Bool) (a n i j : ℕ) → i ≤ j → j < length (filter p (range_with_len a n))
    → get_or (filter p (range_with_len a n)) i 0 ≤ get_or (filter p (range_with_len a n)) j 0
kept_rise p a zero i j le h = absurd (omega arith)
kept_rise p a (suc n) i j le h = by (p a) i j le h (λ i j le h. kept_rise p (a + 1) n i j le h) (λ j h. (kept_at p (a + 1) n j h).0)
  where
    rest : List ℕ
    rest = filter p (range_with_len (a + 1) n)

    by : (b : Bool) (i j : ℕ) → i ≤ j → j < length (cond b (a ∷ rest) rest) → ((i j : ℕ) → i ≤ j → j < length rest → get_or rest i 0 ≤ get_or rest j 0)
        → ((j : ℕ) → j < length rest → a + 1 ≤ get_or rest j 0) → get_or (cond b (a ∷ rest) rest) i 0 ≤ get_or (cond b (a ∷ rest) rest) j 0
    by true zero zero le h more above = omega arith
    by true zero (suc j) le h more above = let low = above j (omega arith) in omega arith
    by true (suc i) zero le h more above = absurd (omega arith)
    by true (suc i) (suc j) le h more above = more i j (omega arith) (omega arith)
    by false i j le h more above = more i j le h

-- and each that passes is among them
pub kept_there : (p : ℕ → Bool) (a n x : ℕ) → a ≤ x → x < a + n → p x ≡ true
    → (k : ℕ) × (k < length (filter p (range_with_len a n))) × (get_or (filter p (range_with_len a n)) k 0 ≡ x)
kept_there p a zero x low high e = absurd (omega arith)
kept_there p a (suc n) x low high e = by (p a) refl (eqb a x) refl (λ above. kept_there p (a + 1) n x above (omega arith) e)
  where
    rest : List ℕ
    rest = filter p (range_with_len (a + 1) n)

    by : (b : Bool) → p a ≡ b → (same : Bool) → eqb a x ≡ same → (a + 1 ≤ x → (k : ℕ) × (k < length rest) × (get_or rest k 0 ≡ x))
        → (k : ℕ) × (k < length (cond b (a ∷ rest) rest)) × (get_or (cond b (a ∷ rest) rest) k 0 ≡ x)
    by true f true i more = (0, omega arith, eqb-true a x i)
    by true f false i more =
        let other : a ≢ x = eqb-false a x i in
        let (k, within, is) = more (omega arith) in
        (suc k, omega arith, is)
    by false f true i more = absurd (let yes : p a ≡ true = ap p (eqb-true a x i) ∙ e in cc)
    by false f false i more =
        let other : a ≢ x = eqb-false a x i in
        more (omega arith)

-- a line's parent is a parent of its component
pub line-parent : (lines : List BillLine) (k i : ℕ) (d : BillLine) → k < length lines → (get_or lines k d).component ≡ i → IsParent lines (get_or lines k d).parent i
line-parent [] k i d h e = absurd (omega arith)
line-parent (line ∷ lines) zero i d h e = rw (eq-eqb line.parent line.parent refl, eq-eqb line.component i e) refl
line-parent (line ∷ lines) (suc k) i d h e = by (eqb line.parent (get_or lines k d).parent && eqb line.component i) (line-parent lines k i d (omega arith) e)
  where
    by : (b : Bool) → is_parent lines (get_or lines k d).parent i ≡ true → (b || is_parent lines (get_or lines k d).parent i) ≡ true
    by true more = refl
    by false more = more

-- the place of a line to an item is a line's place, and the line's component is the item
pub to_item : (bills : List BillLine) (i k : ℕ) (places : List ℕ) → places ≡ lines_of bills i → k < length places
    → (get_or places k 0 < length bills) × ((line_at bills (get_or places k 0)).component ≡ i)
to_item bills i k places are h =
    let p = λ (place : ℕ). eqb (line_at bills place).component i in
    let at = kept_at p 0 (length bills) k (rw (← are) h) in
    rw are (omega (arith, at.1), eqb-true (line_at bills (get_or (lines_of bills i) k 0)).component i at.2)

-- the lines at the places of the lines to an item are the lines to it
lines_to_front : (lines : List BillLine) (i n : ℕ) (d : BillLine) → n ≤ length lines
    → map (line_at lines) (filter (λ place. eqb (line_at lines place).component i) (range_with_len 0 n)) ≡ filter (λ line. eqb line.component i) (take n lines)
lines_to_front lines i zero d h = by lines
  where
    by : (xs : List BillLine) → [] ≡ filter (λ (line : BillLine). eqb line.component i) (take 0 xs)
    by [] = refl
    by (x ∷ xs) = refl
lines_to_front lines i (suc n) d h =
    ap (map (line_at lines)) (ap (λ k. filter p (range_with_len 0 k)) (sym (add-one n)) ∙ filter-range_more p n)
    ∙ map-append (line_at lines) (filter p (range_with_len 0 n)) (cond (p n) (n ∷ []) [])
    ∙ ap (λ (xs : List BillLine). xs ++ map (line_at lines) (cond (p n) (n ∷ []) [])) (lines_to_front lines i n d (omega arith))
    ∙ ap (λ (xs : List BillLine). filter q (take n lines) ++ xs) (one (p n))
    ∙ sym (filter_more q lines n (record { parent = 0; component = 0; per = 0 }) (omega arith))
    ∙ ap (λ k. filter q (take k lines)) (let next : n + 1 ≡ suc n = omega arith in next)
  where
    p : ℕ → Bool
    p place = eqb (line_at lines place).component i

    q : BillLine → Bool
    q line = eqb line.component i

    one : (b : Bool) → map (line_at lines) (cond b (n ∷ []) []) ≡ cond b (line_at lines n ∷ []) []
    one true = refl
    one false = refl

pub lines-at : (lines : List BillLine) (i : ℕ) → map (line_at lines) (lines_of lines i) ≡ filter (λ line. eqb line.component i) lines
lines-at lines i =
    lines_to_front lines i (length lines) (record { parent = 0; component = 0; per = 0 }) (omega arith)
    ∙ ap (filter (λ line. eqb line.component i)) (take_all (length lines) lines (omega arith))

pub length-parents : (s : Inputs) (i : ℕ) (parents : List ItemOf) → parents ≡ parents_from s i → length (parents_of s.tables.bills (count s) i) ≡ length parents
length-parents s i parents are = sym (ap length are ∙ length-map (parents_of s.tables.bills (count s) i) (item_from s))

-- the line at such a place is from a parent
pub from-parent : (s : Inputs) (i k : ℕ) (bills : List BillLine) (places : List ℕ) (line : BillLine) → bills ≡ s.tables.bills → places ≡ lines_of s.tables.bills i → k < length places
    → line ≡ line_at bills (get_or places k 0) → IsParent s.tables.bills line.parent i
from-parent s i k bills places line same are h is =
    let place = get_or places k 0 in
    let at = to_item s.tables.bills i k places are h in
    let here : line ≡ line_at s.tables.bills place = is ∙ ap (λ (ls : List BillLine). line_at ls place) same in
    rw here (line-parent s.tables.bills place i (record { parent = 0; component = 0; per = 0 }) at.0 at.1)

-- the outcome of a parent is there
pub parent-there : {P : Type 0} (Has : P → ItemOf → Type 0) (parents : P) (s : Inputs) (i p : ℕ) → HasParentsOf Has parents s i → p < count s → IsParent s.tables.bills p i → Has parents (item_from s p)
parent-there Has parents s i p all within parent =
    let (k, low, is) = kept_there (λ q. is_parent s.tables.bills q i) 0 (count s) p (omega arith) (omega arith) parent in
    subst (λ (q : ℕ). Has parents (item_from s q)) is (all k 0 low)

-- and so is that of the next parent in table order
pub next-there : {P : Type 0} (Has : P → ItemOf → Type 0) (parents : P) (s : Inputs) (i k : ℕ) (above : List ℕ) → HasParentsOf Has parents s i → above ≡ parents_of s.tables.bills (count s) i → k < length above
    → Has parents (item_from s (get_or above k 0))
next-there Has parents s i k above all are h =
    subst (λ (xs : List ℕ). Has parents (item_from s (get_or xs k 0))) (sym are) (all k 0 (subst (λ (xs : List ℕ). k < length xs) are h))

-- as many outcomes are listed as items
pub length-listed : (items : List ℕ) (outcomes : List ItemOf) (o : ItemOf) → IsListed items outcomes o → length outcomes ≡ length items
length-listed items outcomes o l = ap length l.made ∙ length-map items (item_from o.inputs)

-- the outcome listed beside an item is the item's
pub listed-at : (s : Inputs) (i k : ℕ) (items : List ℕ) (outcomes : List ItemOf) (o : ItemOf) → IsListed items outcomes (item_from s i) → k < length items → get_or items k 0 ≡ i
    → o ≡ get_or outcomes k o → o ≡ item_from s i
listed-at s i k items outcomes o l h at is =
    is ∙ ap (λ (xs : List ItemOf). get_or xs k o) l.made ∙ get_or-map (item_from s) items k 0 o h ∙ ap (item_from s) at

-- the outcomes of the parents, in table order, are listed beside the parents
pub parents-listed : (s : Inputs) (i : ℕ) (items : List ℕ) (outcomes : List ItemOf) → items ≡ parents_of s.tables.bills (count s) i → outcomes ≡ parents_from s i
    → All (λ p. IsListed items outcomes (item_from s p)) (parents_of s.tables.bills (count s) i)
parents-listed s i items outcomes are made k d h =
    let parents = parents_of s.tables.bills (count s) i in
    record {
      rises = rw are (kept_rise (λ p. is_parent s.tables.bills p i) 0 (count s));
      there = rw are (k, h, sym (get_or_default_zero parents k d h));
      made = made ∙ ap (items_from s) (sym are);
    }
