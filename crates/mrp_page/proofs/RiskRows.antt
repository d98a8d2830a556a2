-- Which bookings stand in *Promises at risk*.
use Rattle.std.proofs.Common.{◌≡◌, ◌∙◌, ◌+◌, ◌-◌, ◌<◌, ◌≤◌, ℕ, zero, suc, Bool, true, false, List, [], ◌∷◌, ◌++◌, codes, drop, get_or, length, refl, sym, ap, subst, arith, inl, inr}
use Rattle.std.specs.Prelude.{IfSome, IsPermutation, IsTrue, Option, None, Some, ◌↔◌, ◌⊎◌, is_some, if◌then◌else◌, sum_by}
use Rattle.std.specs.List.{flat_map, range_with_len, slice_get}
use Rattle.std.specs.List.Sorted.{IsNonDecreasingBy}
use Rattle.std.proofs.lemmas.Bool.{cases_lt}
use Rattle.std.proofs.lemmas.List.{append-nil, ext_get_or, get_or_past, length-drop, length-map, map-id}
use Rattle.std.proofs.lemmas.List.Concat.{flat_map-append}
use Rattle.std.proofs.lemmas.List.Elements.{All-map}
use Rattle.std.proofs.lemmas.List.FromFn.{get_or-range_with_len, length-range_with_len, map-range_with_len_more}
use Rattle.std.proofs.lemmas.List.Sorted.{IsPermutation-trans}
use Rattle.std.proofs.lemmas.Option.{slice_get_within}
use Rattle.mrp_page.specs.Folded.{capped_html}
use Rattle.mrp_page.specs.layout.Lists.{section_end}
use Rattle.mrp_page.specs.layout.Risk.{none_at_risk, risk_note, risk_open, risks_unknown}
use Rattle.mrp_page.specs.Numbering.{AreAnswers, booking_place, is_same_booking, late_weeks, lateness_of, need_of, numbered_peg, numbered_pegs, parent_need, parent_place, row_at, row_place, supplier_place}
use Rattle.mrp_page.specs.Orders.{is_numbered, is_order, place_of}
use Rattle.mrp_page.specs.Outs.{falling_late}
use Rattle.mrp_page.specs.Promises.{risk_listing, risks_first, risks_html, risks_or_none}
use Rattle.mrp_page.specs.Row.{RowView, cell_at}
use Rattle.mrp_page.specs.Rows.{start_of}
use Rattle.mrp_page.specs.Scene.{SceneView}
use Rattle.mrp_page.specs.Shares.{week_rank}
use Rattle.mrp_page.specs.Sorted.{sorted_by}
use Rattle.mrp_page.specs.Template.{has_word}
use Rattle.mrp_page.specs.declared.limits.TheConstants.{SOME_ROWS}
use Rattle.mrp_page.proofs.ByKey.{sorted-non-decreasing, sorted-permutes}
use Rattle.mrp_page.proofs.Folds.{some-rows}
use Rattle.mrp_risk.specs.declared.peg.Need.TheVariants.{Booking, Other}
use Rattle.mrp_risk.specs.declared.peg.Peg.{Peg}
use Rattle.mrp_risk.specs.declared.risk.Risk.{Risk}
use Rattle.mrp_risk.specs.Chains.{AreBookedWithin, AreWithin, HangsOn, IsBookedWithin, IsWithin, weeks_late}
use Rattle.mrp_risk.specs.Risks.{IsAnswer, pieces_of, risk_at}
use Rattle.mrp_risk.proofs.Answered.{at-most, at-risk, one-answer}
use Rattle.mrp_risk.proofs.Marked.{late-inside}

-- Numbers one by one.

numbers-more : (k : ℕ) → range_with_len 0 (k + 1) ≡ range_with_len 0 k ++ k ∷ []
numbers-more k =
    sym (map-id (range_with_len 0 (k + 1))) ∙ map-range_with_len_more (λ (n : ℕ). n) 0 k k (omega arith) ∙ ap (λ (ns : List ℕ). ns ++ k ∷ []) (map-id (range_with_len 0 k))

pub flat-more : {A : Type 0} (f : ℕ → List A) (k : ℕ) → flat_map f (range_with_len 0 (k + 1)) ≡ flat_map f (range_with_len 0 k) ++ f k
flat-more {A} f k =
    ap (flat_map f) (numbers-more k) ∙ flat_map-append f (range_with_len 0 k) (k ∷ []) ∙ ap (λ (more : List A). flat_map f (range_with_len 0 k) ++ more) (append-nil (f k))

-- a peg that is for another booking than the one before it
pub begins-booking : (pegs : List RowView) (place : ℕ) → (place ≡ 0 → ⊥) → is_same_booking (row_at pegs (place - 1)) (row_at pegs place) ≡ false → place ≡ booking_place pegs place
begins-booking pegs zero some other = absurd (some refl)
begins-booking pegs (suc place) some other =
    let before : suc place - 1 ≡ place = omega arith in
    let apart : is_same_booking (row_at pegs place) (row_at pegs (suc place)) ≡ false = subst (λ (n : ℕ). is_same_booking (row_at pegs n) (row_at pegs (suc place)) ≡ false) before other in
    rw apart refl

-- The numbers that pegs have are those of orders and of pegs.

row-place-within : (passes : RowView → Bool) (rows : List RowView) (start place : ℕ) → IfSome (row_place passes (start + place) (slice_get (drop start rows) place)) (λ found. found < length rows)
row-place-within passes rows start place = by (slice_get (drop start rows) place) refl
  where
    by : (o : Option RowView) → slice_get (drop start rows) place ≡ o → IfSome (row_place passes (start + place) o) (λ found. found < length rows)
    by None is = tt
    by (Some row) is = of (passes row)
      where
        of : (b : Bool) → IfSome (if b then Some (start + place) else None) (λ found. found < length rows)
        of true = omega (arith, slice_get_within (drop start rows) place row is, length-drop start rows)
        of false = tt

order-within : (orders : List RowView) (peg : RowView) (booking : ℕ) → IsWithin (length orders) (need_of orders peg booking)
order-within orders peg booking = by (has_word 2 (codes "booking") peg) (has_word 2 (codes "parent") peg)
  where
    parent : (place : Option ℕ) → IfSome place (λ found. found < length orders) → IsWithin (length orders) (parent_need place)
    parent None within = tt
    parent (Some place) within = within

    by : (b c : Bool) → IsWithin (length orders) (if b then Booking booking else if c then parent_need (parent_place orders peg) else Other)
    by true c = tt
    by false true = parent (parent_place orders peg) (row-place-within (is_numbered (cell_at peg 4) (cell_at peg 3)) orders (start_of orders (cell_at peg 4)) (place_of (cell_at peg 3)))
    by false false = tt

supplier-within : (orders : List RowView) (peg : RowView) → IfSome (supplier_place orders peg) (λ found. found < length orders)
supplier-within orders peg = row-place-within (is_order (cell_at peg 0) (cell_at peg 6) (cell_at peg 7)) orders (start_of orders (cell_at peg 0)) (place_of (cell_at peg 7))

lateness-count : (orders : List RowView) → length (lateness_of orders) ≡ length orders
lateness-count orders = length-map orders late_weeks

pub pegs-within : (orders pegs : List RowView) → AreWithin (length (lateness_of orders)) (numbered_pegs orders pegs)
pegs-within orders pegs =
    let P : Peg → Type 0 = λ peg. IsWithin (length (lateness_of orders)) peg.need × IfSome peg.supply (λ order. order < length (lateness_of orders)) in
    All-map P (numbered_peg orders pegs) (range_with_len 0 (length pegs)) (λ k d below.
    let place : ℕ = get_or (range_with_len 0 (length pegs)) k d in
    rw lateness-count (order-within orders (row_at pegs place) (booking_place pegs place), supplier-within orders (row_at pegs place)))

booking-within : (orders : List RowView) (peg : RowView) (booking bookings : ℕ) → booking < bookings → IsBookedWithin bookings (need_of orders peg booking)
booking-within orders peg booking bookings inside = by (has_word 2 (codes "booking") peg) (has_word 2 (codes "parent") peg)
  where
    parent : (place : Option ℕ) → IsBookedWithin bookings (parent_need place)
    parent None = tt
    parent (Some place) = tt

    by : (b c : Bool) → IsBookedWithin bookings (if b then Booking booking else if c then parent_need (parent_place orders peg) else Other)
    by true c = inside
    by false true = parent (parent_place orders peg)
    by false false = tt

place-most : (pegs : List RowView) (place : ℕ) → booking_place pegs place ≤ place
place-most pegs zero = omega arith
place-most pegs (suc place) = by (is_same_booking (row_at pegs place) (row_at pegs (suc place))) (place-most pegs place)
  where
    by : (b : Bool) → booking_place pegs place ≤ place → (if b then booking_place pegs place else suc place) ≤ suc place
    by true least = omega (arith, least)
    by false least = omega arith

pub bookings-within : (orders pegs : List RowView) → AreBookedWithin (length pegs) (numbered_pegs orders pegs)
bookings-within orders pegs =
    All-map (λ (peg : Peg). IsBookedWithin (length pegs) peg.need) (numbered_peg orders pegs) (range_with_len 0 (length pegs)) (λ k d below.
    let place : ℕ = get_or (range_with_len 0 (length pegs)) k d in
    let same : place ≡ 0 + k = get_or-range_with_len 0 (length pegs) k d (omega (arith, below, length-range_with_len 0 (length pegs))) in
    booking-within orders (row_at pegs place) (booking_place pegs place) (length pegs) (omega (arith, place-most pegs place, same, below, length-range_with_len 0 (length pegs))))

-- the order of a risk is one of the orders
pub orders-within : (orders pegs : List RowView) (risks : List (Option Risk)) → AreAnswers orders pegs risks → (place : ℕ) → IfSome (risk_at risks place) (λ risk. risk.order < length orders)
orders-within orders pegs risks are place = by (cases_lt place (length pegs))
  where
    of : (answer : Option Risk) → IsAnswer (lateness_of orders) (numbered_pegs orders pegs) place answer → IfSome answer (λ risk. risk.order < length orders)
    of None none = tt
    of (Some risk) is = omega (arith, late-inside (lateness_of orders) risk.order is.latest.late, lateness-count orders)

    by : (place < length pegs) ⊎ (length pegs ≤ place) → IfSome (risk_at risks place) (λ risk. risk.order < length orders)
    by (inl inside) = of (risk_at risks place) (are.answers place inside)
    by (inr past) = let none : risk_at risks place ≡ None = get_or_past risks place None (omega (arith, past, are.size)) in rw none tt

-- What stands there.

pub stands : (orders pegs : List RowView) (risks : List (Option Risk)) (place : ℕ) → AreAnswers orders pegs risks → place < length pegs
    → (IsTrue (is_some (risk_at risks place)) ↔ ((order : ℕ) × HangsOn (numbered_pegs orders pegs) place order × (0 < weeks_late (lateness_of orders) order)))
stands orders pegs risks place are inside = at-risk (lateness_of orders) (numbered_pegs orders pegs) place (risk_at risks place) (are.answers place inside)

pub told-latest : (orders pegs : List RowView) (risks : List (Option Risk)) (place other : ℕ) (risk : Risk) → AreAnswers orders pegs risks → place < length pegs → risk_at risks place ≡ Some risk
    → HangsOn (numbered_pegs orders pegs) place other → weeks_late (lateness_of orders) other ≤ weeks_late (lateness_of orders) risk.order
told-latest orders pegs risks place other risk are inside is hangs =
    let answer : IsAnswer (lateness_of orders) (numbered_pegs orders pegs) place (Some risk) = subst (IsAnswer (lateness_of orders) (numbered_pegs orders pegs) place) is (are.answers place inside) in
    (answer.latest.first other hangs).later

pub pieces-most : (orders pegs : List RowView) (risks : List (Option Risk)) (place : ℕ) (risk : Risk) → AreAnswers orders pegs risks → place < length pegs → risk_at risks place ≡ Some risk
    → risk.pieces ≤ sum_by (pieces_of place) (numbered_pegs orders pegs)
pieces-most orders pegs risks place risk are inside is =
    at-most (lateness_of orders) (numbered_pegs orders pegs) place risk (subst (IsAnswer (lateness_of orders) (numbered_pegs orders pegs) place) is (are.answers place inside))

pub one-list : (orders pegs : List RowView) (risks others : List (Option Risk)) → AreAnswers orders pegs risks → AreAnswers orders pegs others → risks ≡ others
one-list orders pegs risks others are same =
    ext_get_or None risks others (are.size ∙ sym same.size)
    (λ place inside. one-answer (lateness_of orders) (numbered_pegs orders pegs) place (risk_at risks place) (risk_at others place) (are.answers place (omega (arith, inside, are.size))) (same.answers place (omega (arith, inside, are.size))))

pub once : (rows : List RowView) → IsPermutation rows (risks_first rows)
once rows = IsPermutation-trans rows (sorted_by week_rank rows) (risks_first rows) (sorted-permutes week_rank rows) (sorted-permutes falling_late (sorted_by week_rank rows))

pub in-order : (rows : List RowView) → IsNonDecreasingBy falling_late (risks_first rows)
in-order rows = sorted-non-decreasing falling_late (sorted_by week_rank rows)

pub says-unknown : (scene : SceneView) → risks_html scene (record { known = false; rows = [] }) ≡ risk_open ++ (risks_unknown ++ section_end)
unfolding risks_html risks_or_none
says-unknown scene = refl

pub says-none : (scene : SceneView) → risks_html scene (record { known = true; rows = [] }) ≡ risk_open ++ (none_at_risk ++ section_end)
unfolding risks_html risks_or_none sorted_by
says-none scene = refl

pub says-some : (scene : SceneView) (row : RowView) (rows : List RowView) → risks_or_none scene true (row ∷ rows) ≡ risk_note ++ capped_html (risk_listing scene) SOME_ROWS (row ∷ rows)
unfolding risks_or_none
says-some scene row rows = rw (some-rows row rows) refl
