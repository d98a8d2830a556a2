use Rattle.mrp_lines.proofs.TakenLines.{lines-begin, lines-taken, long-taken}
use Rattle.mrp_lines.proofs.laws.lines_are_read_in_pieces.Goals as goal

pub returns : goal.returns
returns c = record {
  taken = λ text front xs more taken rows is ended. lines-taken text taken front xs more is ended rows;
  first = λ text front xs more taken rows is ended. lines-begin text taken front xs more is ended rows;
  long = λ text front xs more taken. long-taken text taken front xs more;
}
