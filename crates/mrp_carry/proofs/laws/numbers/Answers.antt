use Rattle.mrp_carry.proofs.Renumbered.{renumbered-all, renumbered-carried}
use Rattle.mrp_carry.proofs.laws.numbers.Goals as goal

pub returns-clause-all : goal.returns-clause-all
returns-clause-all c = λ start bookings. renumbered-all start 1 bookings

pub returns-clause-carried : goal.returns-clause-carried
returns-clause-carried c = λ start bookings. renumbered-carried start 1 bookings
