use Rattle.std.proofs.Common.{◌≡◌, ◌∙◌, ◌++◌, ℕ, List, length, map, sym, ap, subst, arith, cond, true, false}
use Rattle.std.specs.Prelude.{All, IfOk, flat_map}
use Rattle.std.specs.Int.{IsInRange}
use Rattle.mrp_phase.specs.Weeks.{row, weeks}
use Rattle.mrp_item.specs.declared.due.Due.{Due}
use Rattle.mrp_item.specs.Dues.{booking_dues}
use Rattle.mrp_item.specs.Inputs.{Inputs, horizon, is_master, item_at}
use Rattle.mrp_item.specs.Limits.{IsSized}
use Rattle.mrp_item.specs.Places.{PlannedItem}
use Rattle.mrp_item.specs.Plan.{outcome_of, plan_in}
use Rattle.mrp_peg.specs.declared.matching.Requirement.{Requirement}
use Rattle.mrp_peg.specs.Weekly.{AreWithin, by_weeks}
use Rattle.mrp_peg.specs.Rows.{all_requirements, beyond, booking_requirement, independent_requirements, forecast_requirements, part_requirements}
use Rattle.mrp_item.proofs.DueRows.{bookings-within}
use Rattle.mrp_peg.proofs.Own.{gross-length}
use Rattle.mrp_peg.proofs.pegging.listed_needs.Goals as goal

pub demand_of-requires : goal.demand_of-requires
demand_of-requires c =
    let s = c.args.plan.now.inputs in
    let x = c.deref-inputs.result.now in
    let i = c.args.item in
    let e : x ≡ s = c.deref-inputs.ensures ∙ c.inputs.ensures.inputs in
    let gross : c.as_slice.result.now ≡ (plan_in (outcome_of s i)).gross = c.as_slice.ensures ∙ c.gross-demand.ensures.gross ∙ ap (λ (p : PlannedItem). p.plan.gross) c.item.ensures in
    let size : length c.as_slice.result.now ≡ horizon s = ap length gross ∙ gross-length s i c.requires.own in
    let same : horizon x ≡ horizon s = ap (λ (y : Inputs). horizon y) e in
    let P : List Due → Type 0 = λ l. All (λ (d : Due). IsInRange 1 (horizon x) d.week) l in
    let all = subst P (sym c.bookings.ensures.dues) (bookings-within x i c.bookings.ensures.booked) in
    record {
      weeks = size ∙ sym same ∙ sym c.weeks.ensures.value;
      within = λ k d h. let r = all k d h in (r.0, omega (arith, r.1, size, same));
    }

pub part_needs-requires : goal.part_needs-requires
part_needs-requires c =
    let e = c.deref-inputs.ensures ∙ c.inputs.ensures.inputs in
    record {
      item = c.requires.item;
      part = sym (ap (λ (y : Inputs). is_master y c.args.item) e) ∙ sym c.is_master_item.ensures.class ∙ c.if-is_master_item.false;
      own = c.requires.own;
      within = c.requires.within;
    }

pub returns-then-is_master_item-clause-needs : goal.returns-then-is_master_item-clause-needs
returns-then-is_master_item-clause-needs c =
    let s = c.args.plan.now.inputs in
    let i = c.args.item in
    let e : c.deref-inputs.result.now ≡ s = c.deref-inputs.ensures ∙ c.inputs.ensures.inputs in
    let master : is_master s i ≡ true = sym (ap (λ (y : Inputs). is_master y i) e) ∙ sym c.is_master_item.ensures.class ∙ c.if-is_master_item.true in
    let gross : c.as_slice.result.now ≡ (plan_in (outcome_of s i)).gross = c.as_slice.ensures ∙ c.gross-demand.ensures.gross ∙ ap (λ (p : PlannedItem). p.plan.gross) c.item.ensures in
    let size : length c.as_slice.result.now ≡ horizon s = ap length gross ∙ gross-length s i c.requires.own in
    let dues : c.bookings.result.now ≡ booking_dues s.standing i = c.bookings.ensures.dues ∙ ap (λ (y : Inputs). booking_dues y.standing i) e in
    let horizon_is : c.weeks.result ≡ horizon s = c.weeks.ensures.value ∙ ap (λ (y : Inputs). horizon y) e in
    let F : List Due → List ℕ → ℕ → ℕ → List Requirement = λ b g n m. map (booking_requirement i) b ++ flat_map (forecast_requirements i (row n (beyond g b))) (weeks m) in
    let whole = ap (λ b. F b c.as_slice.result.now (length c.as_slice.result.now) c.weeks.result) dues
    ∙ ap (λ g. F (booking_dues s.standing i) g (length c.as_slice.result.now) c.weeks.result) gross
    ∙ ap (λ n. F (booking_dues s.standing i) (plan_in (outcome_of s i)).gross n c.weeks.result) size
    ∙ ap (λ m. F (booking_dues s.standing i) (plan_in (outcome_of s i)).gross (horizon s) m) horizon_is
    ∙ sym (ap (λ b. cond b (independent_requirements s i) (part_requirements s i)) master) in
    let needs : c.in_ok-needs.needs.items ≡ all_requirements s i = c.in_ok-needs.ensures ∙ whole in
    let W : List Requirement → Type 0 = λ l. AreWithin (λ (w : Requirement). w.need.week) 1 (horizon s) l in
    c.in_ok-sort_needs.ensures 1 (horizon s) (subst W (sym needs) c.requires.within) ∙ ap (by_weeks (λ (w : Requirement). w.need.week) (weeks (horizon s))) needs

pub returns-clause-needs : goal.returns-clause-needs
returns-clause-needs c =
    let s = c.args.plan.now.inputs in
    let i = c.args.item in
    let e : c.deref-inputs.result.now ≡ s = c.deref-inputs.ensures ∙ c.inputs.ensures.inputs in
    let part : is_master s i ≡ false = sym (ap (λ (y : Inputs). is_master y i) e) ∙ sym c.is_master_item.ensures.class ∙ c.if-is_master_item.false in
    let Q : List Requirement → Type 0 = λ l. IfOk c.part_needs.result (λ needs. needs.items ≡ l) in
    subst Q (ap (by_weeks (λ (w : Requirement). w.need.week) (weeks (horizon s))) (sym (ap (λ b. cond b (independent_requirements s i) (part_requirements s i)) part))) c.part_needs.ensures

pub returns-then-is_master_item-clause-sized : goal.returns-then-is_master_item-clause-sized
returns-then-is_master_item-clause-sized c =
    subst (λ (y : Inputs). IsSized (item_at y c.args.item)) (c.deref-inputs.ensures ∙ c.inputs.ensures.inputs) c.is_master_item.ensures.sized

pub returns-clause-sized : goal.returns-clause-sized
returns-clause-sized c =
    subst (λ (y : Inputs). IsSized (item_at y c.args.item)) (c.deref-inputs.ensures ∙ c.inputs.ensures.inputs) c.is_master_item.ensures.sized
