use Rattle.mrp_journal.proofs.WholeLines.{journal-left, whole-journal}
use Rattle.mrp_journal.proofs.laws.journals.Goals as goal

pub returns : goal.returns
returns c = record {
  whole = whole-journal;
  left = journal-left;
}
