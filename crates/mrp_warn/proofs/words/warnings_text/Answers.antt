use Rattle.std.proofs.Common.{[]}
use Rattle.mrp_warn.specs.Words.{group_text}
use Rattle.mrp_warn.proofs.Worded.{grows}
use Rattle.mrp_warn.proofs.words.warnings_text.Goals as goal

pub loop-group-preserved : goal.loop-group-preserved
loop-group-preserved c = grows (group_text c.args.sheets.now) c.args.groups.now c.loop-group.group-index c.group-item.result [] _ _ c.loop-group-test.true c.group-item.is c.loop-group.invariant c.in_ok-push_group.ensures
