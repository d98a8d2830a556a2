use Rattle.mrp_engine.proofs.ScriptLaws.{books-within, stays-covered}
use Rattle.mrp_engine.proofs.laws.bookings.Goals as goal

pub returns-clause-within : goal.returns-clause-within
returns-clause-within c = λ tables h answers. books-within tables h answers.legal

pub returns-clause-covered : goal.returns-clause-covered
returns-clause-covered c = λ tables h answers. stays-covered tables h answers.legal
