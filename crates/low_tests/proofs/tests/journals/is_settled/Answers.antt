use Rattle.std.proofs.Common.{[], refl, sym, subst}
use Rattle.mrp_journal.specs.Held.{Held, settled}
use Rattle.mrp_journal.specs.Journal.{IsFound}
use Rattle.mrp_journal.specs.Memory.{memory_held}
use Rattle.low_tests.proofs.tests.journals.is_settled.Goals as goal

empty : IsFound [] (settled [])
empty = record { bytes_are = refl; durable = record { behind = []; is = refl } }

pub begin-requires : goal.begin-requires
begin-requires g c = subst (λ (held : Held). IsFound [] held) (sym c.requires) empty
