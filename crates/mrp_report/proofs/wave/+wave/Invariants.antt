use Rattle.std.proofs.Common.{◌+◌, ◌*◌, length}
use Rattle.mrp_report.proofs.wave.+wave.Given as goal

abbrev pub decreases-fill_parallel : goal.decreases-fill_parallel
decreases-fill_parallel g l = 3 * length l.rest.now + 2

abbrev pub decreases-fill_wave : goal.decreases-fill_wave
decreases-fill_wave g l = 3 * length l.slots.now

abbrev pub decreases-fill_parallel-here : goal.decreases-fill_parallel-here
decreases-fill_parallel-here g l = 3 * length l.rest.now + 1
