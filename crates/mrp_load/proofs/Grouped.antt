-- Operations are put in the groups of their work centres.
use Rattle.std.proofs.Common.{◌≡◌, ◌∙◌, ℕ, ◌+◌, ◌-◌, ◌<◌, Bool, cond, eqb, List, [], ◌∷◌, ◌++◌, length, take, map, get_or, sym, ap, subst, arith}
use Rattle.std.specs.Prelude.{All, filter, Vec}
use Rattle.std.specs.Int.{IsInRange}
use Rattle.std.specs.declared.alloc.Global.{Global}
use Rattle.std.proofs.lemmas.Grind.{get_or_default_zero}
use Rattle.std.proofs.lemmas.Simd.{map-map}
use Rattle.std.proofs.lemmas.List.{get_or-map, length-map}
use Rattle.std.proofs.lemmas.List.Elements.{All-filter, All-weaker, filter_more}
use Rattle.std.proofs.lemmas.List.FromFn.{fill_by_all, get_or-map-range_with_len, length-map-range_with_len}
use Rattle.std.proofs.lemmas.List.Sums.{length-filter, count_by-le-length}
use Rattle.mrp_bill.proofs.Listed.{listed-appends, listed-read}
use Rattle.mrp_bill.specs.Lists.{Appends, listed}
use Rattle.mrp_tables.specs.Facts.{IsOperation}
use Rattle.mrp_tables.specs.declared.rows.Operation.{Operation}
use Rattle.mrp_phase.specs.Weeks.{in_week, row}
use Rattle.mrp_phase.proofs.WeekRows.{in_week_at, in_week_row, length-row}
use Rattle.mrp_item.specs.Inputs.{Inputs, horizon}
use Rattle.mrp_load.specs.Bounds.{AreOperations}
use Rattle.mrp_load.specs.Kept.{AreLoads}
use Rattle.mrp_load.specs.Loads.{load, loads_by, operations_at}
use Rattle.mrp_load.proofs.Summing.{loads_by-row}

abbrev pub items : Vec Operation Global → List Operation
items group = group.items

-- the operations at a centre
abbrev pub at_centre : ℕ → Operation → Bool
at_centre centre operation = eqb operation.centre centre

-- one more operation in its group, stated for each group
pub grouped-more : (operations : List Operation) (k : ℕ) (d : Operation) (old new : List (Vec Operation Global)) → k < length operations
    → Appends old new (get_or operations k d).centre (get_or operations k d)
    → ((centre : ℕ) → listed old centre ≡ filter (at_centre centre) (take k operations))
    → (centre : ℕ) → listed new centre ≡ filter (at_centre centre) (take (k + 1) operations)
grouped-more operations k d old new h appends before centre =
    let o : Operation = get_or operations k d in
    listed-appends old new o.centre o appends centre ∙ ap (λ (xs : List Operation). xs ++ cond (at_centre centre o) (o ∷ []) []) (before centre)
    ∙ sym (filter_more (at_centre centre) operations k d h)

-- each group has operations of the tables
pub grouped-each : (s : Inputs) (operations : List Operation) (groups : List (Vec Operation Global)) → AreOperations s operations
    → ((centre : ℕ) → listed groups centre ≡ filter (at_centre centre) operations) → All (λ group. AreOperations s group.items) groups
grouped-each s operations groups are grouped = λ k d h.
    let same : filter (at_centre k) operations ≡ (get_or groups k d).items = sym (grouped k) ∙ listed-read groups k d h in
    subst (AreOperations s) same (record {
      each = All-filter (at_centre k) (IsOperation s.tables.items s.tables.centres) operations are.each;
      few = omega (arith, are.few, length-filter (at_centre k) operations, count_by-le-length (at_centre k) operations);
    })

-- rows that are made of the groups are the centres' loads
pub loads-are : (s : Inputs) (groups : List (Vec Operation Global)) (rows : List (Vec ℕ Global)) → length groups ≡ length s.tables.centres
    → ((centre : ℕ) → listed groups centre ≡ operations_at s centre)
    → map (λ loads. loads.items) rows ≡ map (λ group. loads_by s group.items) groups → AreLoads s rows
loads-are s groups rows size grouped made =
    let row_of : List Operation → List ℕ = loads_by s in
    let lists : List (List Operation) = map items groups in
    let long : length (map row_of lists) ≡ length s.tables.centres = length-map lists row_of ∙ length-map groups items ∙ size in
    let each : (k : ℕ) → k < length s.tables.centres → get_or (map row_of lists) k [] ≡ row (horizon s) (load s k) =
    (λ k h.
    let within : k < length lists = omega (arith, h, size, length-map groups items) in
    get_or-map row_of lists k [] [] within ∙ ap row_of (grouped k) ∙ loads_by-row s (operations_at s k)) in
    made ∙ sym (map-map row_of items groups) ∙ fill_by_all (λ k. row (horizon s) (load s k)) (map row_of lists) (length s.tables.centres) [] long each

-- as many rows as work centres
pub length-loads : (s : Inputs) (rows : List (Vec ℕ Global)) → AreLoads s rows → length rows ≡ length s.tables.centres
length-loads s rows are =
    let loads : Vec ℕ Global → List ℕ = λ v. v.items in
    sym (length-map rows loads) ∙ ap length are ∙ length-map-range_with_len (λ k. row (horizon s) (load s k)) 0 (length s.tables.centres)

-- the row of a work centre
pub loads-at : (s : Inputs) (rows : List (Vec ℕ Global)) (centre : ℕ) (d : Vec ℕ Global) → AreLoads s rows → centre < length s.tables.centres
    → (get_or rows centre d).items ≡ row (horizon s) (load s centre)
loads-at s rows centre d are h =
    let loads : Vec ℕ Global → List ℕ = λ v. v.items in
    let within : centre < length rows = omega (arith, h, length-loads s rows are) in
    sym (get_or-map loads rows centre d [] within) ∙ ap (λ (xs : List (List ℕ)). get_or xs centre []) are
    ∙ get_or-map-range_with_len (λ k. row (horizon s) (load s k)) 0 (length s.tables.centres) centre centre [] h (omega arith)

-- a load as it is read
pub load-read : (s : Inputs) (rows : List (Vec ℕ Global)) (centre week : ℕ) (own : Vec ℕ Global) (x : ℕ) → AreLoads s rows → centre < length s.tables.centres → IsInRange 1 (horizon s) week
    → own ≡ get_or rows centre own → x ≡ get_or own.items (week - 1) x → x ≡ load s centre week
load-read s rows centre week own x are h range row-is is =
    let loads : Vec ℕ Global → List ℕ = λ v. v.items in
    let same : own.items ≡ row (horizon s) (load s centre) = ap loads row-is ∙ loads-at s rows centre own are h in
    let low : 0 < week = omega (arith, range.0) in
    let short : week - 1 < length own.items = omega (arith, range.0, range.1, ap length same, length-row (load s centre) (horizon s)) in
    is ∙ get_or_default_zero own.items (week - 1) x short ∙ sym (in_week_at own.items week low) ∙ ap (λ (xs : List ℕ). in_week xs week) same
    ∙ in_week_row (load s centre) (horizon s) week low range.1

-- each operation of the tables is at one of the centres
pub centres-within : (s : Inputs) (operations : List Operation) (count : ℕ) → All (IsOperation s.tables.items s.tables.centres) operations → count ≡ length s.tables.centres
    → All (λ operation. operation.centre < count) operations
centres-within s operations count each size =
    All-weaker (IsOperation s.tables.items s.tables.centres) (λ (o : Operation). o.centre < count) (λ o is. omega (arith, is.centre, size)) operations each
