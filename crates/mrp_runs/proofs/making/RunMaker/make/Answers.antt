use Rattle.std.proofs.Common.{◌≡◌, ◌∙◌, ap}
use Rattle.mrp_report.proofs.Progress.{on-err}
use Rattle.mrp_tables.specs.Tables.{Tables}
use Rattle.mrp_runs.specs.File.{run_head, run_name}
use Rattle.mrp_runs.proofs.Runs.{kept-file, may-keep-file, run-booked}
use Rattle.mrp_runs.proofs.making.RunMaker.make.Goals as goal

pub keep-requires-after_bounds : goal.keep-requires-after_bounds
keep-requires-after_bounds g c κs within = run-booked c.args.self.now c.args.run.now c.requires

pub returns-in_err-keep-clause-either : goal.returns-in_err-keep-clause-either
returns-in_err-keep-clause-either g c before legal =
    let run = c.args.run.now in
    let named : c.self.inside.names ≡ c.args.self.now = cc (c.self.invariant.named, c.self.view_is) in
    let head : c.deref.result.now ≡ run_head c.args.self.now run = c.deref.ensures.value ∙ c.in_ok-head.ensures ∙ ap (λ (t : Tables). run_head t run) named in
    let name : c.deref-2.result.now ≡ run_name run.snapshot.front = c.deref-2.ensures ∙ c.in_ok-name.ensures ∙ ap run_name c.front.ensures in
    on-err c.from_residual-in_err-keep.result
    (may-keep-file c.args.self.now before run legal c.deref.result.now c.deref-2.result.now (g.D.Folder.named c.args.folder.now) (g.D.Folder.named c.keep.new.folder) head name c.in_err-keep.ensures.either)

pub returns-clause-kept : goal.returns-clause-kept
returns-clause-kept g c before legal =
    let run = c.args.run.now in
    let named : c.self.inside.names ≡ c.args.self.now = cc (c.self.invariant.named, c.self.view_is) in
    let head : c.deref.result.now ≡ run_head c.args.self.now run = c.deref.ensures.value ∙ c.in_ok-head.ensures ∙ ap (λ (t : Tables). run_head t run) named in
    let name : c.deref-2.result.now ≡ run_name run.snapshot.front = c.deref-2.ensures ∙ c.in_ok-name.ensures ∙ ap run_name c.front.ensures in
    kept-file c.args.self.now before run legal c.deref.result.now c.deref-2.result.now c.in_ok-keep.field-0 (g.D.Folder.named c.args.folder.now) (g.D.Folder.named c.keep.new.folder) head name c.in_ok-keep.ensures.added
