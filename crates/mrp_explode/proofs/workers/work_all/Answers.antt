use Rattle.std.proofs.Common.{rules, arith, subst, sym}
use Rattle.std.specs.Prelude.{slice_index_or}
use Rattle.std.proofs.Crossing.{crosses}
use Rattle.std.proofs.lemmas.Result.{IfOk-weaker}
use denote.Param.Send.{sendable}
use types.Keyed.{entry}
use Rattle.mrp_explode.specs.Work.{Worker}
use Rattle.mrp_explode.specs.Workers.{HasWorked}
use Rattle.mrp_explode.proofs.Crossing.{worker-send}
use Rattle.mrp_explode.proofs.workers.work_all.Goals as goal

pub map_vec-requires-send-J : goal.map_vec-requires-send-J
unfolding entry
map_vec-requires-send-J g c κs within = search (worker-send, sendable, crosses) depth 40

pub map_vec-requires-send-X : goal.map_vec-requires-send-X
unfolding entry
map_vec-requires-send-X g c κs within = search (worker-send, sendable, crosses) depth 40

pub returns-clause-each : goal.returns-clause-each
returns-clause-each g c =
    IfOk-weaker c.map_vec.result _ _ (λ all gives k w d low.
    let x = (gives k d (omega (arith, low, c.args.workers.ok.0))).1 in
    let own : HasWorked c.args.board.now x.job (slice_index_or all.items k d) = search rules in
    subst (λ (old : Worker). HasWorked c.args.board.now old (slice_index_or all.items k d)) (sym (x.job_is w)) own) c.map_vec.ensures.each
