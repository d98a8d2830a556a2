use Rattle.std.proofs.Common.{◌∙◌, ℕ, Option, refl, subst, sym}
use Rattle.std.specs.Prelude.{OnOk}
use Rattle.mrp_report.specs.Taken.{HasTakenAll}
use Rattle.mrp_runs.specs.Notes.{note_text}
use Rattle.mrp_runs.specs.declared.telling.Note.{Note}
use Rattle.mrp_open.specs.Made.{TellsNote}
use Rattle.mrp_open.proofs.Making.{makes-run, tells-note}
use Rattle.mrp_open.proofs.handing.make_one.Goals as goal

pub returns-in-Some-clause-made : goal.returns-in-Some-clause-made
returns-in-Some-clause-made g c =
    let contents = g.N.Write.contents in
    let whole = subst (λ (n : ℕ). OnOk c.tell_run.result (HasTakenAll contents c.args.notes.now c.tell_run.new.writer (note_text n c.in-Some.note))) c.front.ensures c.tell_run.ensures.whole in
    let told = tells-note contents c.args.run.now c.in-Some.note c.args.notes.now c.tell_run.new.writer c.tell_run.result whole c.tell_run.ensures.gave_up in
    makes-run contents g.row.D-Part.Denot c.args.maker.now c.args.run.now (g.D.Folder.failures c.args.files.now) (g.D.Folder.failures c.make-made.new.folder) (g.D.Folder.named c.args.files.now) (g.D.Folder.named c.make-made.new.folder)
    c.args.notes.now c.tell_run.new.writer c.make-made.result c.make-made.ensures.kept c.make-made.ensures.either c.make-made.ensures.sound c.make-made.ensures.failed
    (subst (λ (o : Option Note). TellsNote contents c.args.run.now o c.args.notes.now c.tell_run.new.writer) (sym c.in-Some.is ∙ c.of.ensures) told)

pub returns-clause-made : goal.returns-clause-made
returns-clause-made g c =
    let contents = g.N.Write.contents in
    makes-run contents g.row.D-Part.Denot c.args.maker.now c.args.run.now (g.D.Folder.failures c.args.files.now) (g.D.Folder.failures c.make-made.new.folder) (g.D.Folder.named c.args.files.now) (g.D.Folder.named c.make-made.new.folder)
    c.args.notes.now c.args.notes.now c.make-made.result c.make-made.ensures.kept c.make-made.ensures.either c.make-made.ensures.sound c.make-made.ensures.failed
    (subst (λ (o : Option Note). TellsNote contents c.args.run.now o c.args.notes.now c.args.notes.now) (sym c.in-None.is ∙ c.of.ensures) refl)
