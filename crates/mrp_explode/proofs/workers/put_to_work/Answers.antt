use Rattle.std.proofs.Common.{◌≡◌, arith, length}
use Rattle.mrp_explode.proofs.SideBySide.{worked-if}
use Rattle.mrp_explode.proofs.workers.put_to_work.Goals as goal

pub returns : goal.returns
returns g c =
    let all = c.in_ok-all.all in
    let workers = c.args.workers in
    let told = c.in_ok-all.ensures in
    let size : length all.items ≡ length workers.items = omega (arith, all.ok.0, workers.ok.0, told.count) in
    worked-if c.args.board.now workers.items all.items c.all_done.result (λ v. v.items) size (λ k w d h. told.each k w d (omega (arith, h, workers.ok.0))) c.all_done.ensures
