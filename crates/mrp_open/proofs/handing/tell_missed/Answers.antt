use Rattle.mrp_runs.specs.Notes.{note_text}
use Rattle.mrp_runs.specs.declared.refusal.Refusal.TheVariants as refusal
use Rattle.mrp_runs.specs.declared.telling.Note.TheVariants as note
use Rattle.mrp_open.proofs.Making.{tells-text}
use Rattle.mrp_open.proofs.handing.tell_missed.Goals as goal

pub returns : goal.returns
returns g c =
    tells-text g.W.Write.contents c.args.notes.now c.tell_run.new.writer (note_text c.args.front (note.Refused refusal.NoMemory)) c.tell_run.result c.tell_run.ensures.whole c.tell_run.ensures.gave_up
