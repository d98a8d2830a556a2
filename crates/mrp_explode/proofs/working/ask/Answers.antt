use Rattle.std.proofs.Common.{◌∙◌, Some, ap, inl, inr, subst}
use Rattle.std.specs.Prelude.{IfOk}
use Rattle.mrp_turn.specs.declared.turn.CallFault.TheVariants as fault
use Rattle.mrp_explode.specs.Work.{Asks}
use Rattle.mrp_explode.proofs.WorkerCalls.{IsRefusedItem, asks-told, refused-told, unchanged-told}
use Rattle.mrp_explode.proofs.working.ask.Goals as goal

pub returns-in-Ok-clause-asked : goal.returns-in-Ok-clause-asked
returns-in-Ok-clause-asked g c =
    let s = c.args.board.now.about.object in
    let old = c.args.worker.now in
    let new = c.call.new.seat in
    subst (λ (r : _). IfOk r (λ x. Asks s old.number old.mine (Some x.1) new.seen new.mine)) c.in-Ok.is
    (asks-told s old.number c.args.board.now.about.room old.seen old.mine c.call.result new.seen new.mine c.call.ensures.told)

pub returns-in-Err-NoMemory-clause-memory : goal.returns-in-Err-NoMemory-clause-memory
returns-in-Err-NoMemory-clause-memory g c =
    let about = c.args.board.now.about in
    let old = c.args.worker.now in
    let new = c.call.new.seat in
    let arm = c.in-Err-NoMemory in
    inr (subst (IsRefusedItem about.object old.number about.room new.seen) arm.field-0-is
    (refused-told about.object old.number about.room old.seen old.mine c.call.result arm.field-0 new.seen new.mine arm.is c.call.ensures.told))

pub returns-in-Err-Refused-NoMemory-clause-memory : goal.returns-in-Err-Refused-NoMemory-clause-memory
returns-in-Err-Refused-NoMemory-clause-memory g c =
    let about = c.args.board.now.about in
    let old = c.args.worker.now in
    let new = c.call.new.seat in
    let arm = c.in-Err-Refused-NoMemory in
    inl (subst (IsRefusedItem about.object old.number about.room new.seen) (arm.field-0-is ∙ ap fault.Refused arm.field-0-0-is)
    (refused-told about.object old.number about.room old.seen old.mine c.call.result arm.field-0 new.seen new.mine arm.is c.call.ensures.told))

pub returns-in-Err-Refused-NotYet-clause-asked : goal.returns-in-Err-Refused-NotYet-clause-asked
returns-in-Err-Refused-NotYet-clause-asked g c =
    let about = c.args.board.now.about in
    let old = c.args.worker.now in
    let new = c.call.new.seat in
    let arm = c.in-Err-Refused-NotYet in (
      unchanged-told about.object old.number about.room old.seen old.mine c.call.result arm.field-0 new.seen new.mine arm.is c.call.ensures.told,
      subst (IsRefusedItem about.object old.number about.room new.seen) (arm.field-0-is ∙ ap fault.Refused arm.field-0-0-is)
          (refused-told about.object old.number about.room old.seen old.mine c.call.result arm.field-0 new.seen new.mine arm.is c.call.ensures.told),
    )
