-- What is found among rows.
use Rattle.std.proofs.Common.{◌≡◌, ◌≢◌, ◌∙◌, ◌<◌, ℕ, zero, suc, Bool, true, false, List, [], ◌∷◌, Option, Some, None, get_or, length, refl, sym, ap, subst, cond, eqb, arith}
use Rattle.std.specs.Prelude.{◌==◌, if◌then◌else◌, nat_eq, option_map}
use Rattle.std.specs.List.{Contains, filter, find}
use Rattle.std.specs.Cmp.Lexicographic.{pointwise}
use Rattle.std.proofs.lemmas.Bool.{eqb-true, ne_eqb}
use Rattle.std.proofs.lemmas.List.{get_or-map, length-map}
use Rattle.std.proofs.lemmas.List.Elements.{Contains-get_or}
use Rattle.std.proofs.lemmas.List.Quantifiers.{position-Some}
use Rattle.std.proofs.lemmas.Slice.Eq.{bytes_eq-Decides}
use Rattle.mrp_cal.specs.DateText.{◌>>=◌}
use Rattle.mrp_rows.specs.Name.{is_name}
use Rattle.mrp_tables.specs.Facts.{AllDiffer}
use Rattle.mrp_tables.specs.Items.{item_at, names_of, no_item, place_of}
use Rattle.mrp_tables.specs.Stock.{items_in_stock}
use Rattle.mrp_tables.specs.Tables.{AreTables, Tables}
use Rattle.mrp_tables.specs.declared.item.Item.{Item}
use Rattle.mrp_tables.specs.declared.rows.Receipt.{Receipt}
use Rattle.mrp_tables.specs.declared.rows.StockRow.{StockRow}
use Rattle.mrp_facts.specs.Facts.{facts_at, is_of_order, item_facts, on_hand_of, open_order, place_named, receipts_of, stock_of}
use Rattle.mrp_facts.specs.declared.facts.ItemFacts.{ItemFacts}

-- what is found is an element that passes
found-in : {X : Type 0} (p : X → Bool) (xs : List X) (x : X) → find p xs ≡ Some x → Contains xs x × (p x ≡ true)
found-in p [] x e = absurd cc
found-in {X} p (y ∷ xs) x e = by (p y) refl (found-in p xs x) e
  where
    by : (b : Bool) → p y ≡ b → (find p xs ≡ Some x → Contains xs x × (p x ≡ true)) → (if b then Some y else find p xs) ≡ Some x → Contains (y ∷ xs) x × (p x ≡ true)
    by true passes more is =
        let same : y ≡ x = cc in
        ((0, omega arith, same), subst (λ (z : X). p z ≡ true) same passes)
    by false passes more is =
        let (has, ok) = more is in
        ((suc has.0, omega (arith, has.1), has.2), ok)

-- what is kept of a list is an element that passes
kept-in : {X : Type 0} (p : X → Bool) (xs : List X) (x : X) (k : ℕ) → k < length (filter p xs) → get_or (filter p xs) k x ≡ x → Contains xs x × (p x ≡ true)
kept-in p [] x k within is = absurd (omega (arith, within))
kept-in {X} p (y ∷ xs) x k within is = by (p y) refl (kept-in p xs x) k within is
  where
    onward : Contains xs x × (p x ≡ true) → Contains (y ∷ xs) x × (p x ≡ true)
    onward (has, ok) = ((suc has.0, omega (arith, has.1), has.2), ok)

    by : (b : Bool) → p y ≡ b → ((k : ℕ) → k < length (filter p xs) → get_or (filter p xs) k x ≡ x → Contains xs x × (p x ≡ true)) → (k : ℕ) → k < length (cond b (y ∷ filter p xs) (filter p xs))
        → get_or (cond b (y ∷ filter p xs) (filter p xs)) k x ≡ x → Contains (y ∷ xs) x × (p x ≡ true)
    by true passes more zero within is = ((0, omega arith, is), subst (λ (z : X). p z ≡ true) is passes)
    by true passes more (suc k) within is = onward (more k (omega (arith, within)) is)
    by false passes more k within is = onward (more k within is)

-- the item at the place of a name has the name
pub placed : (t : Tables) (name : List ℕ) (place : ℕ) → place_named t name ≡ Some place → (place < length t.items) × ((item_at t.items place).name ≡ name)
placed t name place e = by (is_name name) e
  where
    by : (b : Bool) → ((if b then Some name else None) >>= (λ own. place_of own t.items)) ≡ Some place → (place < length t.items) × ((item_at t.items place).name ≡ name)
    by true is =
        let (within, passes, none) = position-Some (pointwise nat_eq name) (names_of t.items) place [] is in
        let inside : place < length t.items = omega (arith, within, length-map t.items (λ (i : Item). i.name)) in
        let read : get_or (names_of t.items) place [] ≡ (item_at t.items place).name = get_or-map (λ (i : Item). i.name) t.items place no_item [] inside in
        (inside, sym ((bytes_eq-Decides name (get_or (names_of t.items) place [])).0 passes ∙ read))
    by false is = absurd cc

-- the facts of an item are those of an item with the name
pub facts-of : (t : Tables) (name : List ℕ) (own : ItemFacts) → item_facts t name ≡ Some own → Contains t.items own.item × (own.item.name ≡ name)
facts-of t name own e = by (place_named t name) refl e
  where
    by : (o : Option ℕ) → place_named t name ≡ o → option_map (facts_at t) o ≡ Some own → Contains t.items own.item × (own.item.name ≡ name)
    by None none is = absurd cc
    by (Some place) at is =
        let (within, named) = placed t name place at in
        let same : facts_at t place ≡ own = cc in
        subst (λ (f : ItemFacts). Contains t.items f.item × (f.item.name ≡ name)) same (Contains-get_or t.items place no_item within, named)

-- the stock on hand of an item is that of its stock record
on-hand-at : (rows : List StockRow) (k : ℕ) (row : StockRow) → AllDiffer (items_in_stock rows) → k < length rows → get_or rows k row ≡ row → get_or (stock_of rows row.item) 0 0 ≡ row.on_hand
on-hand-at [] k row differ within is = absurd (omega (arith, within))
on-hand-at (r ∷ rows) zero row differ within is = rw (is, eqb-same row.item) refl
  where
    eqb-same : (n : ℕ) → eqb n n ≡ true
    eqb-same n = grind arith
on-hand-at (r ∷ rows) (suc k) row differ within is =
    let size : length (items_in_stock rows) ≡ length rows = length-map rows (λ (s : StockRow). s.item) in
    let last : get_or (items_in_stock rows) k row.item ≡ row.item = get_or-map (λ (s : StockRow). s.item) rows k row row.item (omega (arith, within)) ∙ ap (λ (s : StockRow). s.item) is in
    let other : r.item ≢ row.item = λ same. differ 0 (suc k) row.item (omega arith) (omega (arith, within, size)) (same ∙ sym last) in
    rw (ne_eqb r.item row.item other) (on-hand-at rows k row (λ i j d before inside. differ (suc i) (suc j) d (omega (arith, before)) (omega (arith, inside))) (omega (arith, within)) is)

pub on-hand-is : (t : Tables) (row : StockRow) → AreTables t → Contains t.stock row → on_hand_of t row.item ≡ row.on_hand
on-hand-is t row are has = on-hand-at t.stock has.0 row are.stocked has.1 has.2

-- the receipt of an open order is one of the tables, of this order and item
pub receipt-of : (t : Tables) (name order : List ℕ) (own : Receipt) → open_order t name order ≡ Some own → Contains t.receipts own × (own.order ≡ order) × ((item_at t.items own.item).name ≡ name)
receipt-of t name order own e = by (place_named t name) refl e
  where
    here : (place : ℕ) → place_named t name ≡ Some place → find (is_of_order order) (receipts_of t.receipts place) ≡ Some own → Contains t.receipts own × (own.order ≡ order) × ((item_at t.items own.item).name ≡ name)
    here place at is =
        let (has, passes) = found-in (is_of_order order) (receipts_of t.receipts place) own is in
        let (among, item) = kept-in (λ (row : Receipt). row.item == place) t.receipts own has.0 has.1 has.2 in
        (among, (bytes_eq-Decides own.order order).0 passes, ap (λ (k : ℕ). (item_at t.items k).name) (eqb-true own.item place item) ∙ (placed t name place at).1)

    by : (o : Option ℕ) → place_named t name ≡ o → (o >>= (λ place. find (is_of_order order) (receipts_of t.receipts place))) ≡ Some own → Contains t.receipts own × (own.order ≡ order) × ((item_at t.items own.item).name ≡ name)
    by None none is = absurd cc
    by (Some place) at is = here place at is
