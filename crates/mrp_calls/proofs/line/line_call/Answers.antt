use Rattle.mrp_calls.proofs.LineCells.{of-line}
use Rattle.mrp_calls.proofs.line.line_call.Goals as goal

pub script_row-requires : goal.script_row-requires
script_row-requires c = (of-line c.args.number c.args.line.now c.in_ok-row.row c.in_ok-row.ensures).wide
