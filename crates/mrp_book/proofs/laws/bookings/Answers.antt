use Rattle.mrp_book.proofs.Promised.{booked_within, rising}
use Rattle.mrp_book.proofs.Standings.{standing_after}
use Rattle.mrp_book.proofs.laws.bookings.Goals as goal

pub returns-clause-within : goal.returns-clause-within
returns-clause-within c = λ s before after desk number l legal. (booked_within s before after desk number l legal).0

pub returns-clause-number : goal.returns-clause-number
returns-clause-number c = λ s before after desk number l legal. (booked_within s before after desk number l legal).1

pub returns-clause-stands : goal.returns-clause-stands
returns-clause-stands c = standing_after

pub returns-clause-rising : goal.returns-clause-rising
returns-clause-rising c = λ s h legal. (rising s h legal).0

pub returns-clause-entered : goal.returns-clause-entered
returns-clause-entered c = λ s h legal. (rising s h legal).1
