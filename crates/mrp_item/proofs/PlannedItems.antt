-- The plan of an item, if it is planned.
use Rattle.std.proofs.Common.{◌≡◌, ◌∙◌, false, sym, ap, refl}
use Rattle.std.specs.Prelude.{Some, None}
use Rattle.mrp_item.specs.Places.{ItemOf, PlannedItem}
use Rattle.mrp_item.specs.Plan.{Outcome, Planned, Over, Blocked, is_planned, outcome_of, plan_in}
use Rattle.mrp_item.specs.Made.{planned_as, planned_item}

-- a plan is the item's
pub record IsPlanOf (o : ItemOf) (p : PlannedItem) : Type 0 where
  pub inputs : p.inputs ≡ o.inputs
  pub item : p.item ≡ o.item
  pub outcome : outcome_of o.inputs o.item ≡ Planned p.plan

pub planned-is : (o : ItemOf) (p : PlannedItem) → Some p ≡ planned_item o → IsPlanOf o p
planned-is o p e = by (outcome_of o.inputs o.item) refl e
  where
    by : (x : Outcome) → outcome_of o.inputs o.item ≡ x → Some p ≡ planned_as o x → IsPlanOf o p
    by (Planned plan) f k =
        let same : p ≡ record { inputs = o.inputs; item = o.item; plan = plan } = cc in
        record { inputs = ap (λ (x : PlannedItem). x.inputs) same; item = ap (λ (x : PlannedItem). x.item) same; outcome = f ∙ ap Planned (ap (λ (x : PlannedItem). x.plan) (sym same)) }
    by Over f k = absurd (cc)
    by Blocked f k = absurd (cc)

-- what follows from a plan for its item
pub planned-plan : (o : ItemOf) (p : PlannedItem) → Some p ≡ planned_item o → p ≡ record { inputs = o.inputs; item = o.item; plan = plan_in (outcome_of o.inputs o.item) }
planned-plan o p e =
    let is = planned-is o p e in
    (λ k. record { inputs = is.inputs k; item = is.item k; plan = ap plan_in (sym is.outcome) k })

pub not-planned : (o : ItemOf) → None ≡ planned_item o → is_planned (outcome_of o.inputs o.item) ≡ false
not-planned o e = by (outcome_of o.inputs o.item) e
  where
    by : (x : Outcome) → None ≡ planned_as o x → is_planned x ≡ false
    by (Planned plan) k = absurd (cc)
    by Over k = refl
    by Blocked k = refl
