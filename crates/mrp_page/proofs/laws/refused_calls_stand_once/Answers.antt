use Rattle.mrp_page.proofs.RefusedCalls.{none-is, refused-once, refused-stand}
use Rattle.mrp_page.proofs.laws.refused_calls_stand_once.Goals as goal

pub returns-clause-once : goal.returns-clause-once
returns-clause-once c = refused-once

pub returns-clause-page : goal.returns-clause-page
returns-clause-page c = refused-stand

pub returns-clause-none : goal.returns-clause-none
returns-clause-none c = none-is
