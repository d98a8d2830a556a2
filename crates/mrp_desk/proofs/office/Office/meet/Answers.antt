use Rattle.std.proofs.Common.{subst}
use Rattle.mrp_bill.specs.Shop.{Shop}
use Rattle.mrp_turn.specs.Seen.{TurnId}
use Rattle.mrp_book.specs.declared.call.Call.TheVariants as call
use Rattle.mrp_desk.specs.Calls.{Tells}
use Rattle.mrp_desk.specs.Offices.{supply_at}
use Rattle.mrp_desk.proofs.Told.{roomy, tells}
use Rattle.mrp_desk.proofs.office.Office.meet.Goals as goal

pub answered-requires : goal.answered-requires
answered-requires g c =
    roomy c.self.inside.turn call.Front c.args.desk.now c.meet.new.seat c.meet.result c.self.invariant c.meet.ensures.told

pub returns-clause-told : goal.returns-clause-told
returns-clause-told g c =
    subst (λ (office : TurnId Shop). Tells (supply_at office) call.Front c.args.desk.now c.answered.result c.meet.new.seat) c.self.view_is
    (tells c.self.inside.turn call.Front c.args.desk.now c.meet.new.seat c.meet.result c.answered.result c.answered.ensures c.meet.ensures.same.0 c.meet.ensures.same.1 c.meet.ensures.told)
