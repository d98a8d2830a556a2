use Rattle.mrp_journal.proofs.WholeLines.{whole-front, whole-fronts, whole-own}
use Rattle.mrp_journal.proofs.laws.lines.Goals as goal

pub returns : goal.returns
returns c = record {
  front = whole-front;
  own = whole-own;
  fronts = whole-fronts;
}
