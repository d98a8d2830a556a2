use Rattle.std.proofs.Common.{◌≡◌, ◌++◌, length, map}
use Rattle.mrp_rows.specs.Shown.{shown_of}
use Rattle.mrp_survey.proofs.rows.all_rows.Given as goal

abbrev pub invariant-loop-rows : goal.invariant-loop-rows
invariant-loop-rows l = map (shown_of l.most) l.fn.records ≡ l.rows.items ++ map (shown_of l.most) l.records

abbrev pub decreases-loop-rows : goal.decreases-loop-rows
decreases-loop-rows l = length l.records
