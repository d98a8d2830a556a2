use Rattle.mrp_calls.proofs.RefusedLines.{refused-behind}
use Rattle.mrp_calls.proofs.TableRows.{call-behind}
use Rattle.mrp_calls.proofs.laws.journals.Goals as goal

pub returns : goal.returns
returns c = record {
  takes = λ t journal line script r given table reads few e. (call-behind t journal line script r given table reads few e).0;
  rows = λ t journal line script r given table reads few e. (call-behind t journal line script r given table reads few e).1;
  refused = λ t journal line script cells f table reads few one e. refused-behind t journal line script cells f table reads few one e;
}
