-- The supplies of an item have different sources.
use Rattle.std.proofs.Common.{◌≡◌, ◌≢◌, ℕ, ◌<◌, Bool, true, List, [], ◌∷◌, ◌++◌, get_or, map, arith}
use Rattle.std.specs.Prelude.{◌==◌, ◌&&◌, All, AllPairs, filter, flat_map}
use Rattle.std.specs.List.{enumerate_from}
use Rattle.std.proofs.lemmas.Bool.{and_parts, eqb-true}
use Rattle.std.proofs.lemmas.List.Elements.{All-nil, All-append, All-map}
use Rattle.std.proofs.lemmas.List.Kept.{AllPairs-cons, AllPairs-filter}
use Rattle.mrp_tables.specs.Facts.{NumbersRise}
use Rattle.mrp_tables.specs.declared.rows.Receipt.{Receipt}
use Rattle.mrp_phase.specs.Weeks.{weeks}
use Rattle.mrp_item.specs.declared.order.Order.{Order}
use Rattle.mrp_item.specs.declared.supplies.Supplied.TheVariants as supplied
use Rattle.mrp_item.specs.declared.supplies.Supply.{Supply}
use Rattle.mrp_item.specs.Dues.{receipt_due}
use Rattle.mrp_item.specs.Inputs.{Inputs, horizon}
use Rattle.mrp_item.specs.Plan.{outcome_of, plan_in}
use Rattle.mrp_item.specs.Rows.{on_hand, open_receipts}
use Rattle.mrp_item.specs.Supplies.{due_supply, order_supply, stock_supply, supplies_in, supplies_of, supplies_to_come}
use Rattle.mrp_peg.specs.Matching.{amount_offered}
use Rattle.mrp_peg.specs.Pegging.{supplies}
use Rattle.mrp_peg.proofs.Pairs.{append-pairs, flat-pairs, map-pairs, number-pairs, parts-apart, range-pairs}

-- two supplies have different sources
abbrev Differ : Supply → Supply → Type 0
Differ x y = x.source ≢ y.source

abbrev of_receipt : Receipt → Supply
of_receipt r = due_supply (receipt_due r)

abbrev of_order : ℕ × Order → Supply
of_order o = order_supply o.0 o.1

-- an open receipt of an item that is due in a week
abbrev is_due : ℕ → ℕ → Receipt → Bool
is_due i w r = (r.item == i) && (r.week == w)

abbrev comes : ℕ → ℕ × Order → Bool
comes w o = o.1.due == w

abbrev orders_that_come : List Order → ℕ → List (ℕ × Order)
orders_that_come orders w = filter (comes w) (enumerate_from 1 orders)

receipts-differ : (m n : ℕ) → m ≢ n → supplied.Receipt m ≢ supplied.Receipt n
receipts-differ m n apart same = let e : m ≡ n = cc in absurd (apart e)

orders-differ : (m n : ℕ) → m ≢ n → supplied.Order m ≢ supplied.Order n
orders-differ m n apart same = let e : m ≡ n = cc in absurd (apart e)

less-differ : (m n : ℕ) → m < n → m ≢ n
less-differ m n low same = absurd (omega (arith, low, same))

-- no open receipt is an order
kinds-apart : (rs : List Receipt) (os : List (ℕ × Order)) → All (λ x. All (Differ x) (map of_order os)) (map of_receipt rs)
kinds-apart rs os =
    All-map (λ x. All (Differ x) (map of_order os)) of_receipt rs (λ k d h. All-map (Differ (of_receipt (get_or rs k d))) of_order os (λ j e g same. cc))

apart-kinds : (rs : List Receipt) (os : List (ℕ × Order)) → All (λ x. All (Differ x) (map of_receipt rs)) (map of_order os)
apart-kinds rs os =
    All-map (λ x. All (Differ x) (map of_receipt rs)) of_order os (λ k d h. All-map (Differ (of_order (get_or os k d))) of_receipt rs (λ j e g same. cc))

-- what comes in a week
week-pairs : (s : Inputs) (i : ℕ) (orders : List Order) (w : ℕ) → NumbersRise s.tables.receipts → AllPairs Differ (supplies_in s i orders w)
week-pairs s i orders w rising =
    append-pairs Differ (map of_receipt (open_receipts s i w)) (map of_order (orders_that_come orders w))
    (map-pairs (λ (a b : Receipt). a.number < b.number) Differ of_receipt (λ a b low. receipts-differ a.number b.number (less-differ a.number b.number low))
    (open_receipts s i w) (AllPairs-filter (λ (a b : Receipt). a.number < b.number) (is_due i w) s.tables.receipts rising))
    (map-pairs (λ (a b : ℕ × Order). a.0 < b.0) Differ of_order (λ a b low. orders-differ a.0 b.0 (less-differ a.0 b.0 low))
    (orders_that_come orders w) (AllPairs-filter (λ (a b : ℕ × Order). a.0 < b.0) (comes w) (enumerate_from 1 orders) (number-pairs 1 orders)))
    (kinds-apart (open_receipts s i w) (orders_that_come orders w))

-- no open receipt is due in two weeks
two-dues : (i v w : ℕ) → v < w → (r : Receipt) → is_due i v r ≡ true → is_due i w r ≡ true → ⊥
two-dues i v w low r one other =
    let first = eqb-true r.week v (and_parts (r.item == i) (r.week == v) one).1 in
    let second = eqb-true r.week w (and_parts (r.item == i) (r.week == w) other).1 in
    omega (arith, low, first, second)

-- nor any order
two-weeks : (v w : ℕ) → v < w → (o : ℕ × Order) → comes v o ≡ true → comes w o ≡ true → ⊥
two-weeks v w low o one other = omega (arith, low, eqb-true o.1.due v one, eqb-true o.1.due w other)

receipts-apart : (s : Inputs) (i v w : ℕ) → v < w → NumbersRise s.tables.receipts → All (λ x. All (Differ x) (map of_receipt (open_receipts s i w))) (map of_receipt (open_receipts s i v))
receipts-apart s i v w low rising =
    let these = open_receipts s i v in
    let those = open_receipts s i w in
    All-map (λ x. All (Differ x) (map of_receipt those)) of_receipt these
    (λ k d h. All-map (Differ (of_receipt (get_or these k d))) of_receipt those
    (λ j e g. receipts-differ (get_or these k d).number (get_or those j e).number
    (parts-apart (λ (r : Receipt). r.number) (is_due i v) (is_due i w) (two-dues i v w low) s.tables.receipts rising k d h j e g)))

orders-apart : (orders : List Order) (v w : ℕ) → v < w → All (λ x. All (Differ x) (map of_order (orders_that_come orders w))) (map of_order (orders_that_come orders v))
orders-apart orders v w low =
    let these = orders_that_come orders v in
    let those = orders_that_come orders w in
    All-map (λ x. All (Differ x) (map of_order those)) of_order these
    (λ k d h. All-map (Differ (of_order (get_or these k d))) of_order those
    (λ j e g. orders-differ (get_or these k d).0 (get_or those j e).0
    (parts-apart (λ (o : ℕ × Order). o.0) (comes v) (comes w) (two-weeks v w low) (enumerate_from 1 orders) (number-pairs 1 orders) k d h j e g)))

-- what comes in two weeks
weeks-apart : (s : Inputs) (i : ℕ) (orders : List Order) → NumbersRise s.tables.receipts → (v w : ℕ) → v < w → All (λ x. All (Differ x) (supplies_in s i orders w)) (supplies_in s i orders v)
weeks-apart s i orders rising v w low =
    let these = map of_receipt (open_receipts s i v) in
    let those = map of_receipt (open_receipts s i w) in
    let ours = map of_order (orders_that_come orders v) in
    let theirs = map of_order (orders_that_come orders w) in
    All-append (λ x. All (Differ x) (those ++ theirs)) these ours
    (λ k d h. All-append (Differ (get_or these k d)) those theirs
    (receipts-apart s i v w low rising k d h) (kinds-apart (open_receipts s i v) (orders_that_come orders w) k d h))
    (λ k d h. All-append (Differ (get_or ours k d)) those theirs
    (apart-kinds (open_receipts s i w) (orders_that_come orders v) k d h) (orders-apart orders v w low k d h))

-- what comes is not on hand
stock-apart : (s : Inputs) (i : ℕ) (orders : List Order) (quantity : ℕ) (ks : List ℕ) → All (Differ (stock_supply quantity)) (flat_map (supplies_in s i orders) ks)
stock-apart s i orders quantity [] = All-nil (Differ (stock_supply quantity))
stock-apart s i orders quantity (w ∷ ks) =
    let stock = stock_supply quantity in
    All-append (Differ stock) (supplies_in s i orders w) (flat_map (supplies_in s i orders) ks)
    (All-append (Differ stock) (map of_receipt (open_receipts s i w)) (map of_order (orders_that_come orders w))
    (All-map (Differ stock) of_receipt (open_receipts s i w) (λ k d h same. cc))
    (All-map (Differ stock) of_order (orders_that_come orders w) (λ k d h same. cc)))
    (stock-apart s i orders quantity ks)

-- the supplies of an item with these orders
all-differ : (s : Inputs) (i : ℕ) (orders : List Order) → NumbersRise s.tables.receipts → AllPairs Differ (supplies_of s i orders)
all-differ s i orders rising =
    AllPairs-cons Differ (stock_supply (on_hand s i)) (supplies_to_come s i orders) (stock-apart s i orders (on_hand s i) (weeks (horizon s)))
    (flat-pairs Differ (supplies_in s i orders) (λ v w. v < w) (weeks-apart s i orders rising) (weeks (horizon s)) (λ w. week-pairs s i orders w rising) (range-pairs 1 (horizon s)))

pub supplies-differ : (s : Inputs) (i : ℕ) → NumbersRise s.tables.receipts → AllPairs (λ a b. a.of ≢ b.of) (supplies s i)
unfolding supplies
supplies-differ s i rising =
    let orders = (plan_in (outcome_of s i)).orders in
    map-pairs Differ (λ a b. a.of ≢ b.of) amount_offered (λ x y apart. apart) (supplies_of s i orders) (all-differ s i orders rising)
