use Rattle.mrp_page.proofs.ShownCells.{begins, ends}
use Rattle.mrp_page.proofs.laws.pages_are_whole.Goals as goal

pub returns-clause-begins : goal.returns-clause-begins
returns-clause-begins c = begins

pub returns-clause-ends : goal.returns-clause-ends
returns-clause-ends c = ends
