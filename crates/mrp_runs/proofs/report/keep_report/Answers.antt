use Rattle.std.proofs.Common.{List, ◌++◌, Option, None, Some, refl, subst}
use Rattle.mrp_rows.specs.Told.{inner_of}
use Rattle.mrp_report.specs.ReportText.{report_text}
use Rattle.mrp_report.proofs.Progress.{on-err}
use Rattle.mrp_folder.specs.Kept.{Holds}
use Rattle.mrp_folder.specs.Named.{Named}
use Rattle.mrp_runs.specs.File.{Comes, refusal_text}
use Rattle.mrp_runs.specs.Kept.{MayAddBehind}
use Rattle.mrp_runs.specs.declared.refusal.Refusal.TheVariants as refusal
use Rattle.mrp_runs.proofs.Kept.{holds-more, may-behind, may-finish}
use Rattle.mrp_runs.proofs.report.keep_report.Goals as goal

pub returns-in_err-finish_file-in-Ok-clause-either : goal.returns-in_err-finish_file-in-Ok-clause-either
returns-in_err-finish_file-in-Ok-clause-either g c =
    let contents = g.D.Part.Write.contents in
    let s = c.args.plan.now.inputs in
    let head = c.args.head.now in
    let name = c.args.name.now in
    let text = report_text s in
    let old = g.D.Folder.named c.args.folder.now in
    let mid = g.D.Folder.named c.begin_file.new.folder in
    let new = g.D.Folder.named c.finish_file.new.folder in
    let begun = contents (inner_of c.in_ok-part.part) in
    let written = contents (inner_of c.write_report.new.writer) in
    let holds : Holds old written (head ++ text) = holds-more old begun written head text c.in_ok-part.ensures.holds c.in-Ok.ensures.whole.2.bytes in
    on-err c.from_residual-in_err-finish_file-in-Ok.result
    (may-behind head text (Comes s) None name old new (c.requires.plannable, refl) (may-finish name (head ++ text) written old mid new c.begin_file.ensures.same holds c.in_err-finish_file-in-Ok.ensures.either))

pub returns-in_err-keep_refusal-in-Err-NoMemory-clause-either : goal.returns-in_err-keep_refusal-in-Err-NoMemory-clause-either
returns-in_err-keep_refusal-in-Err-NoMemory-clause-either g c =
    let s = c.args.plan.now.inputs in
    let head = c.args.head.now in
    let name = c.args.name.now in
    let mid = g.D.Folder.named c.begin_file.new.folder in
    let new = g.D.Folder.named c.keep_refusal.new.folder in
    on-err c.from_residual-in_err-keep_refusal-in-Err-NoMemory.result
    (subst (λ (f : Option (List Named)). MayAddBehind head (Comes s) name f new) c.begin_file.ensures.same
    (may-behind head (refusal_text refusal.NoMemory) (Comes s) (Some refusal.NoMemory) name mid new refl c.in_err-keep_refusal-in-Err-NoMemory.ensures.either))
