use Rattle.std.proofs.Common.{subst, Option}
use Rattle.std.specs.Prelude.{slice_index}
use Rattle.std.specs.Option.{option_map}
use Rattle.mrp_item.specs.NetChange.{Carries}
use Rattle.mrp_item.proofs.Untouched.{alone-keeps}
use Rattle.mrp_engine.proofs.day.net_change.carry_or_plan.Goals as goal

pub returns-in-Some : goal.returns-in-Some
returns-in-Some g c =
    let old = c.args.old.now.inputs in
    let new = c.args.inputs.now.value in
    let i = c.args.item in
    let ranked = rw c.deref.ensures at c.shop-ranked.ensures.ranked in
    let has = rw c.deref.ensures at c.shop-ranked.ensures.parents in
    let h = subst (λ (o : Option g.row.P-Made.Denot). Carries old new i (option_map g.P.Planner.item_of o)) c.in-Some.is c.in_ok-carried.ensures.outcome in
    record {
      own = h.0;
      keeps = λ e. alone-keeps old new (slice_index c.shop-ranked.result.now.codes) _ ranked has c.inputs-whole.ensures.plan i c.requires.item h.1;
      uncounted = λ e. c.carry.ensures.planned;
      counted = λ e. absurd (cc);
      touched = λ e. absurd (cc);
    }
