use Rattle.mrp_tables.proofs.TableLaws.{first_tables_fault}
use Rattle.mrp_tables.proofs.laws.tables_are_read_in_turn.Goals as goal

pub returns : goal.returns
returns c = first_tables_fault
