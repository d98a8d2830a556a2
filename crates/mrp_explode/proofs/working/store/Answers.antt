use Rattle.std.proofs.Common.{subst, sym}
use Rattle.std.specs.Prelude.{OnOk}
use Rattle.mrp_explode.specs.Work.{HoldsNone}
use Rattle.mrp_explode.proofs.WorkerCalls.{finish-told}
use Rattle.mrp_explode.proofs.working.store.Goals as goal
use Rattle.mrp_explode.proofs.working.store.Goals.{in-Ok, in-Err}

pub returns-clause-stored : goal.returns-clause-stored
returns-clause-stored g c =
    let about = c.args.board.now.about in
    let old = c.args.worker.now in
    let new = c.call.new.seat in
    let told = finish-told about.object old.number about.room c.args.outcome old.seen old.mine c.call.result new.seen new.mine c.requires.inputs c.requires.holds c.call.ensures.told in
    elim c.match-call.branch [
      | in-Ok w ↦ subst (λ (r : _). OnOk r (HoldsNone about.object old.number new.mine)) (sym w.result-is) (subst (λ (r : _). OnOk r (HoldsNone about.object old.number new.mine)) w.in-Ok.is told)
      | in-Err w ↦ subst (λ (r : _). OnOk r (HoldsNone about.object old.number new.mine)) (sym w.result-is) tt
    ]
