use Rattle.mrp_tables.proofs.RowLaws.{read_in_turn}
use Rattle.mrp_tables.proofs.laws.records_are_read_in_turn.Goals as goal

pub returns : goal.returns
returns g c = read_in_turn
