use Rattle.std.proofs.Common.{◌≡◌, Some, subst, sym}
use Rattle.mrp_item.specs.Inputs.{inputs_of}
use Rattle.mrp_report.proofs.Progress.{on-err}
use Rattle.mrp_runs.specs.File.{Comes, refusal_of, refusal_text}
use Rattle.mrp_runs.specs.declared.refusal.Refusal.{Refusal}
use Rattle.mrp_runs.proofs.Kept.{may-behind}
use Rattle.mrp_runs.proofs.Runs.{refused}
use Rattle.mrp_runs.proofs.making.RunMaker.keep.Goals as goal

pub returns-in_err-keep_refusal-in-Err-clause-either : goal.returns-in_err-keep_refusal-in-Err-clause-either
returns-in_err-keep_refusal-in-Err-clause-either g c =
    let s = inputs_of c.args.self.now c.args.run.now.snapshot in
    let why = c.of-refusal.result in
    let is : why ≡ refusal_of c.in-Err.fault = c.of-refusal.ensures in
    let comes : Comes s (Some why) (refusal_text why) = subst (λ (x : Refusal). Comes s (Some x) (refusal_text x)) (sym is) (refused s c.in-Err.fault c.in-Err.ensures) in
    on-err c.from_residual.result
    (may-behind c.args.head.now (refusal_text why) (Comes s) (Some why) c.args.name.now (g.D.Folder.named c.args.folder.now) (g.D.Folder.named c.keep_refusal.new.folder) comes c.in_err-keep_refusal-in-Err.ensures.either)
