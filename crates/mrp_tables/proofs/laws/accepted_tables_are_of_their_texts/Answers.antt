use Rattle.mrp_tables.proofs.AcceptedTables.{of_their_texts}
use Rattle.mrp_tables.proofs.laws.accepted_tables_are_of_their_texts.Goals as goal

pub returns : goal.returns
returns c = of_their_texts
