-- The result of a walk.
use Rattle.std.proofs.Common.{◌≡◌, ◌≢◌, ℕ, ◌*◌, ◌<◌, ◌≤◌, List, length, refl, ap, ◌∙◌, arith, sum_by}
use Rattle.std.proofs.lemmas.List.{get_or_default}
use Rattle.std.proofs.lemmas.List.Sums.{sum_by-le}
use Rattle.mrp_bill.specs.declared.climb.Stage.{Stage}
use Rattle.mrp_bill.specs.declared.climb.Stage.TheVariants.{New, Open, Placed}
use Rattle.mrp_bill.specs.declared.climb.Climb.{Climb}
use Rattle.mrp_bill.specs.Bill.{HoldsEachOnce}
use Rattle.mrp_bill.specs.Climb.{stage_at, moves, IsClimb}

-- a stage that is neither new nor open
is_placed : (s : Stage) → (s ≡ New → ⊥) → ((depth : ℕ) → s ≡ Open depth → ⊥) → (place : ℕ) × (s ≡ Placed place)
is_placed New new shut = absurd (new refl)
is_placed (Open depth) new shut = absurd (shut depth refl)
is_placed (Placed place) new shut = (place, refl)

-- with an empty stack, items that were all found are all placed
all-placed : (parents : List (List ℕ)) (c : Climb) → IsClimb parents c → length c.stack.items ≡ 0 → ((i : ℕ) → i < length parents → stage_at c.stages.items i ≢ New)
    → (i : ℕ) → i < length parents → (place : ℕ) × (stage_at c.stages.items i ≡ Placed place)
all-placed parents c k empty met i h =
    is_placed (stage_at c.stages.items i) (met i h) (λ depth e. absurd (omega (arith, (k.stages.opened i depth (omega (arith, k.size)) e).0)))

pub order-size : (parents : List (List ℕ)) (c : Climb) → IsClimb parents c → length c.stack.items ≡ 0 → ((i : ℕ) → i < length parents → stage_at c.stages.items i ≢ New)
    → length c.order.items ≡ length parents
order-size parents c k empty met =
    let none : sum_by moves c.stages.items ≤ length c.stages.items * 0 = sum_by-le moves 0 c.stages.items (λ i d h.
    let (place, is) = all-placed parents c k empty met i (omega (arith, k.size)) in
    let e = ap moves (get_or_default c.stages.items i d New h ∙ is) in omega arith) in
    omega (arith, k.stages.moved, k.size)

pub order-once : (parents : List (List ℕ)) (c : Climb) → IsClimb parents c → length c.stack.items ≡ 0 → ((i : ℕ) → i < length parents → stage_at c.stages.items i ≢ New)
    → HoldsEachOnce (length parents) c.order.items
order-once parents c k empty met = record {
  items = λ i d h. omega (arith, get_or_default c.order.items i d 0 h, (k.stages.ordered i h).0, k.size);
  each = λ i h.
      let (place, is) = all-placed parents c k empty met i h in
      let (low, at) = k.stages.placed i place (omega (arith, k.size)) is in
      (place, low, at);
  once = λ i j low high e.
      let p = (k.stages.ordered i low).1 in
      let q = (k.stages.ordered j high).1 in
      let r = ap (stage_at c.stages.items) e in
      cc;
}
