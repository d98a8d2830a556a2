use Rattle.mrp_calls.proofs.OneRecords.{one-record}
use Rattle.mrp_calls.proofs.laws.lines.Goals as goal

pub returns : goal.returns
returns c = one-record
