use Rattle.std.proofs.Common.{◌≡◌, subst, sym, take}
use Rattle.mrp_book.specs.Standing.{standing}
use Rattle.mrp_book.specs.History.{IsLegal}
use Rattle.mrp_book.proofs.Promised.{snapped}
use Rattle.mrp_book.proofs.SnapshotBookings.{taken-booked}
use Rattle.mrp_book.proofs.laws.snapshots.Goals as goal

pub returns-clause-front : goal.returns-clause-front
returns-clause-front c = λ s before after desk call t legal. (snapped s before after desk call t legal).0

pub returns-clause-before : goal.returns-clause-before
returns-clause-before c = λ s before after desk call t legal. (snapped s before after desk call t legal).1

pub returns-clause-at_front : goal.returns-clause-at_front
returns-clause-at_front c = λ s h before after desk call t legal is.
    subst (λ x. t.standing ≡ standing (take t.front x)) (sym is) (snapped s before after desk call t (subst (IsLegal s) is legal)).2

pub returns-clause-booked : goal.returns-clause-booked
returns-clause-booked c = taken-booked
