use Rattle.mrp_cal.proofs.Weekdays.{weekday_of-day}
use Rattle.mrp_cal.proofs.laws.weekdays.Goals as goal

pub returns : goal.returns
returns c = weekday_of-day
