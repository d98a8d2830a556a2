use Rattle.mrp_board.proofs.LegalLogs.{logs-lead, logs-left, logs-legal}
use Rattle.mrp_board.proofs.laws.logs.Goals as goal

pub returns : goal.returns
returns c = record { legal = logs-legal; left = logs-left; leads = logs-lead }
