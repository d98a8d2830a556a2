use Rattle.mrp_cal.proofs.DateTexts.{is_accepted, is_text}
use Rattle.mrp_cal.proofs.date_text.read_date.Goals as goal

pub returns-clause-accepted : goal.returns-clause-accepted
returns-clause-accepted c = is_accepted c.args.text.now c.date_of.result c.date_of.ensures

pub returns-clause-which : goal.returns-clause-which
returns-clause-which c = is_text c.args.text.now c.date_of.result c.date_of.ensures
