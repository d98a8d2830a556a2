-- The item with a name, and what the tables have of it.
use Rattle.std.proofs.Common.{◌≡◌, ◌≢◌, ◌∙◌, ◌<◌, ℕ, zero, suc, Bool, true, false, List, [], ◌∷◌, Option, Some, None, get_or, length, refl, sym, ap, subst, cond, arith, eq-eqb, inl, inr}
use Rattle.std.specs.Prelude.{◌==◌, if◌then◌else◌, nat_eq, option_map}
use Rattle.std.specs.List.{Contains, filter, find, position, position_or_len}
use Rattle.std.specs.Cmp.Lexicographic.{nat_list_eq_equiv, pointwise}
use Rattle.std.proofs.lemmas.Bool.{cases_lt, lt-ltb, ne_eqb}
use Rattle.std.proofs.lemmas.List.{get_or-map, length-map}
use Rattle.std.proofs.lemmas.List.Elements.{All-contains}
use Rattle.std.proofs.lemmas.List.Sums.{fails_before_first}
use Rattle.mrp_cal.specs.DateText.{◌>>=◌}
use Rattle.mrp_rows.specs.Name.{is_name}
use Rattle.mrp_tables.specs.Facts.{AllDiffer, IsReceipt, IsStockRow}
use Rattle.mrp_tables.specs.Items.{item_at, names_of, no_item, place_of}
use Rattle.mrp_tables.specs.Tables.{AreTables, Tables}
use Rattle.mrp_tables.specs.declared.item.Item.{Item}
use Rattle.mrp_tables.specs.declared.rows.Receipt.{Receipt}
use Rattle.mrp_tables.specs.declared.rows.StockRow.{StockRow}
use Rattle.mrp_facts.specs.Facts.{facts_at, is_of_order, item_facts, on_hand_of, open_order, place_named, receipts_of, stock_of}
use Rattle.mrp_facts.specs.declared.facts.ItemFacts.{ItemFacts}
use Rattle.mrp_facts.proofs.Found.{on-hand-is, placed}

-- if something passes, a first place is found
passed : {X : Type 0} (p : X → Bool) (xs : List X) (k : ℕ) (d : X) → k < length xs → p (get_or xs k d) ≡ true → position p xs ≡ None → ⊥
passed p xs k d within is none = elim (cases_lt k (position_or_len p xs)) [
  | inl before ↦ let fails = fails_before_first p xs k d before in absurd cc
  | inr behind ↦
      let found = lt-ltb (position_or_len p xs) (length xs) (omega arith) in
      let some = rw found at none in
      absurd cc
]

name-at : (t : Tables) (place : ℕ) → place < length t.items → get_or (names_of t.items) place [] ≡ (item_at t.items place).name
name-at t place within = get_or-map (λ (i : Item). i.name) t.items place no_item [] within

apart : (t : Tables) (one other : ℕ) → AllDiffer (names_of t.items) → one < other → other < length t.items → (item_at t.items one).name ≡ (item_at t.items other).name → ⊥
apart t one other differ before within same =
    differ one other [] before (rw length-map within) (name-at t one (omega arith) ∙ same ∙ sym (name-at t other within))

-- items of one name are one
same-place : (t : Tables) (one other : ℕ) → AllDiffer (names_of t.items) → one < length t.items → other < length t.items → (item_at t.items one).name ≡ (item_at t.items other).name → one ≡ other
same-place t one other differ here there same = elim (cases_lt one other) [
  | inl before ↦ absurd (apart t one other differ before there same)
  | inr behind ↦ elim (cases_lt other one) [
    | inl after ↦ absurd (apart t other one differ after here (sym same))
    | inr at ↦ omega (arith, behind, at)
  ]
]

-- an item is found by its name
there : (t : Tables) (name : List ℕ) (place : ℕ) → AreTables t → place < length t.items → (item_at t.items place).name ≡ name → place_named t name ≡ None → ⊥
there t name place are within is none = by (is_name name) refl none
  where
    own : is_name name ≡ true
    own = subst (λ (n : List ℕ). is_name n ≡ true) is (are.items place no_item within).name

    by : (b : Bool) → is_name name ≡ b → ((if b then Some name else None) >>= (λ own. place_of own t.items)) ≡ None → ⊥
    by true so e = passed (pointwise nat_eq name) (names_of t.items) place [] (rw length-map within) (ap (pointwise nat_eq name) (name-at t place within ∙ is) ∙ nat_list_eq_equiv.refl name) e
    by false so e = let contra : true ≡ false = sym own ∙ so in cc

-- where there are no facts of a name, no item has it
pub no-item : (t : Tables) (name : List ℕ) (item : Item) → AreTables t → item_facts t name ≡ None → Contains t.items item → item.name ≢ name
no-item t name item are e has same = by (place_named t name) refl e
  where
    own : (item_at t.items has.0).name ≡ name
    own = sym (name-at t has.0 has.1) ∙ get_or-map (λ (i : Item). i.name) t.items has.0 item [] has.1 ∙ ap (λ (i : Item). i.name) has.2 ∙ same

    by : (o : Option ℕ) → place_named t name ≡ o → option_map (facts_at t) o ≡ None → ⊥
    by None none given = there t name has.0 are has.1 own none
    by (Some place) at given = absurd cc

-- the stock on hand of an item is that of the stock record of an item with its name
pub stocked : (t : Tables) (name : List ℕ) (own : ItemFacts) (row : StockRow) → AreTables t → item_facts t name ≡ Some own → Contains t.stock row → (item_at t.items row.item).name ≡ name → own.on_hand ≡ row.on_hand
stocked t name own row are e has is = by (place_named t name) refl e
  where
    by : (o : Option ℕ) → place_named t name ≡ o → option_map (facts_at t) o ≡ Some own → own.on_hand ≡ row.on_hand
    by None none given = absurd cc
    by (Some place) at given =
        let (within, named) = placed t name place at in
        let same : facts_at t place ≡ own = cc in
        let known : IsStockRow t.items row = All-contains (IsStockRow t.items) t.stock row are.stock has in
        let here : place ≡ row.item = same-place t place row.item are.names within known.item (named ∙ sym is) in
        sym (ap (λ (f : ItemFacts). f.on_hand) same) ∙ ap (on_hand_of t) here ∙ on-hand-is t row are has

unstocked-at : (rows : List StockRow) (item : ℕ) → ((row : StockRow) → Contains rows row → row.item ≡ item → ⊥) → get_or (stock_of rows item) 0 0 ≡ 0
unstocked-at [] item none = refl
unstocked-at (r ∷ rows) item none =
    let other : r.item ≢ item = λ same. none r (0, omega arith, refl) same in
    rw (ne_eqb r.item item other) (unstocked-at rows item (λ row has same. none row (suc has.0, omega (arith, has.1), has.2) same))

-- and 0 where there is none
pub unstocked : (t : Tables) (name : List ℕ) (own : ItemFacts) → item_facts t name ≡ Some own → ((row : StockRow) → Contains t.stock row → (item_at t.items row.item).name ≢ name) → own.on_hand ≡ 0
unstocked t name own e none = by (place_named t name) refl e
  where
    by : (o : Option ℕ) → place_named t name ≡ o → option_map (facts_at t) o ≡ Some own → own.on_hand ≡ 0
    by None lost given = absurd cc
    by (Some place) at given =
        let (within, named) = placed t name place at in
        let same : facts_at t place ≡ own = cc in
        sym (ap (λ (f : ItemFacts). f.on_hand) same) ∙ unstocked-at t.stock place (λ row has is. none row has (ap (λ (k : ℕ). (item_at t.items k).name) is ∙ named))

-- what is kept of a list and passes is found
not-kept : {X : Type 0} (p q : X → Bool) (xs : List X) (x : X) (k : ℕ) → k < length xs → get_or xs k x ≡ x → p x ≡ true → q x ≡ true → find q (filter p xs) ≡ None → ⊥
not-kept p q [] x k within is keeps pass e = absurd (omega (arith, within))
not-kept {X} p q (y ∷ xs) x k within is keeps pass e = by (p y) refl (λ n w i. not-kept p q xs x n w i keeps pass) k within is e
  where
    here : (f : X → Bool) → f y ≡ false → y ≡ x → f x ≡ true → ⊥
    here f fails same own = let so : f x ≡ false = subst (λ (z : X). f z ≡ false) same fails in let contra : true ≡ false = sym own ∙ so in cc

    later : ((n : ℕ) → n < length xs → get_or xs n x ≡ x → find q (filter p xs) ≡ None → ⊥) → (f : X → Bool) → f y ≡ false → f x ≡ true → (n : ℕ) → n < length (y ∷ xs) → get_or (y ∷ xs) n x ≡ x → find q (filter p xs) ≡ None → ⊥
    later more f fails own zero inside at none = here f fails at own
    later more f fails own (suc n) inside at none = more n (omega (arith, inside)) at none

    passing : ((n : ℕ) → n < length xs → get_or xs n x ≡ x → find q (filter p xs) ≡ None → ⊥) → (b : Bool) → q y ≡ b → (n : ℕ) → n < length (y ∷ xs) → get_or (y ∷ xs) n x ≡ x → (if b then Some y else find q (filter p xs)) ≡ None → ⊥
    passing more true so n inside at none = absurd cc
    passing more false so n inside at none = later more q so pass n inside at none

    by : (b : Bool) → p y ≡ b → ((n : ℕ) → n < length xs → get_or xs n x ≡ x → find q (filter p xs) ≡ None → ⊥) → (n : ℕ) → n < length (y ∷ xs) → get_or (y ∷ xs) n x ≡ x
        → find q (cond b (y ∷ filter p xs) (filter p xs)) ≡ None → ⊥
    by true so more n inside at none = passing more (q y) refl n inside at none
    by false so more n inside at none = later more p so keeps n inside at none

-- where no receipt is found, none is of the order and of an item with the name
pub no-receipt : (t : Tables) (name order : List ℕ) (row : Receipt) → AreTables t → open_order t name order ≡ None → Contains t.receipts row → row.order ≡ order → (item_at t.items row.item).name ≢ name
no-receipt t name order row are e has of is = by (place_named t name) refl e
  where
    known : IsReceipt t.calendar.weeks t.items row
    known = All-contains (IsReceipt t.calendar.weeks t.items) t.receipts row are.receipts has

    by : (o : Option ℕ) → place_named t name ≡ o → (o >>= (λ place. find (is_of_order order) (receipts_of t.receipts place))) ≡ None → ⊥
    by None none given = there t name row.item are known.item is none
    by (Some place) at given =
        let (within, named) = placed t name place at in
        let here : row.item ≡ place = same-place t row.item place are.names known.item within (is ∙ sym named) in
        let passes : is_of_order order row ≡ true = ap (λ (x : List ℕ). pointwise nat_eq x order) of ∙ nat_list_eq_equiv.refl order in
        not-kept (λ (r : Receipt). r.item == place) (is_of_order order) t.receipts row has.0 has.1 has.2 (eq-eqb row.item place here) passes given
