use Rattle.mrp_tables.proofs.TablesKept.{one_reading}
use Rattle.mrp_tables.proofs.laws.texts_have_one_reading.Goals as goal

pub returns : goal.returns
returns c = one_reading
