use Rattle.mrp_lines.proofs.TakenLines.{taken-all, taken-first}
use Rattle.mrp_lines.proofs.laws.the_rest_is_read_by_csv.Goals as goal

pub returns : goal.returns
returns c = record {
  all = λ text front rest taken more is. taken-all text taken front rest is more;
  first = λ text front rest taken more is. taken-first text taken front rest is more;
}
