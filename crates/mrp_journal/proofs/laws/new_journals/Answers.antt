use Rattle.mrp_journal.proofs.NewJournals.{begun-empty, new-records, new-takes}
use Rattle.mrp_journal.proofs.laws.new_journals.Goals as goal

pub returns : goal.returns
returns c = record {
  header = begun-empty;
  takes = new-takes;
  records = new-records;
}
