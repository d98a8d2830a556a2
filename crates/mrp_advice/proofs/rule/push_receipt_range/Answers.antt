use Rattle.std.proofs.Common.{ap}
use Rattle.mrp_advice.specs.Rules.{overdue_words}
use Rattle.mrp_advice.proofs.Pieces.{two-told}
use Rattle.mrp_advice.proofs.rule.push_receipt_range.Goals as goal

pub returns : goal.returns
returns c = two-told c.push_overdue.result _ _ _ _ _ _ c.in_ok-push_range.ensures (ap (overdue_words c.args.calendar.now) c.is_before.ensures) c.push_overdue.ensures
