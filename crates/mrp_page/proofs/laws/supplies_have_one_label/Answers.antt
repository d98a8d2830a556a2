use Rattle.mrp_page.proofs.Labels.{framed-is, none-firm, promised-firm, some-firm}
use Rattle.mrp_page.proofs.laws.supplies_have_one_label.Goals as goal

pub returns-clause-record : goal.returns-clause-record
returns-clause-record c = framed-is

pub returns-clause-promised : goal.returns-clause-promised
returns-clause-promised c = promised-firm

pub returns-clause-firm : goal.returns-clause-firm
returns-clause-firm c = some-firm

pub returns-clause-scheduled : goal.returns-clause-scheduled
returns-clause-scheduled c = none-firm
