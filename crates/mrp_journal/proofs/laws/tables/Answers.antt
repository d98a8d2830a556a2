use Rattle.mrp_journal.proofs.RowsBehind.{row-behind}
use Rattle.mrp_journal.proofs.laws.tables.Goals as goal

pub returns : goal.returns
returns c = record {
  takes = λ journal x y ys h r. (row-behind journal x y ys h r).0;
  records = λ journal x y ys h r. (row-behind journal x y ys h r).1;
}
