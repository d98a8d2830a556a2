use Rattle.std.proofs.lemmas.List.{take-append-drop}
use Rattle.mrp_page.proofs.Columns.{later-is, later-loads-are, load-weeks-are, weeks-are}
use Rattle.mrp_page.specs.declared.limits.TheConstants.{TABLE_WEEKS}
use Rattle.mrp_page.proofs.laws.weeks_stand_once.Goals as goal

pub returns-clause-record : goal.returns-clause-record
returns-clause-record c = weeks-are

pub returns-clause-later : goal.returns-clause-later
returns-clause-later c = later-is

pub returns-clause-centre : goal.returns-clause-centre
returns-clause-centre c = load-weeks-are

pub returns-clause-later_loads : goal.returns-clause-later_loads
returns-clause-later_loads c = later-loads-are

pub returns-clause-all : goal.returns-clause-all
returns-clause-all c = take-append-drop TABLE_WEEKS
