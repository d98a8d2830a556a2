use Rattle.std.proofs.Common.{subst}
use Rattle.mrp_bill.specs.Shop.{Shop}
use Rattle.mrp_turn.specs.Seen.{TurnId}
use Rattle.mrp_desk.specs.Calls.{Tells}
use Rattle.mrp_desk.specs.Offices.{supply_at}
use Rattle.mrp_desk.proofs.Told.{roomy, tells}
use Rattle.mrp_desk.proofs.office.Office.call.Goals as goal

pub answered-requires : goal.answered-requires
answered-requires g c =
    roomy c.self.inside.turn c.args.call c.args.desk.now c.call.new.seat c.call.result c.self.invariant c.call.ensures.told

pub returns : goal.returns
returns g c =
    subst (λ (office : TurnId Shop). Tells (supply_at office) c.args.call c.args.desk.now c.answered.result c.call.new.seat) c.self.view_is
    (tells c.self.inside.turn c.args.call c.args.desk.now c.call.new.seat c.call.result c.answered.result c.answered.ensures c.call.ensures.same.0 c.call.ensures.same.1 c.call.ensures.told)
