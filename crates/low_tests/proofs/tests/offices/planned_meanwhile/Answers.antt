use Rattle.std.proofs.Common.{rules}
use Rattle.std.proofs.Crossing.{crosses}
use denote.Param.Send.{sendable}
use types.Keyed.{entry}
use Rattle.low_tests.proofs.Crossing.{desk-send, office-sync}
use Rattle.low_tests.proofs.tests.offices.Meeting.TheSendSync.{the_sync}
use Rattle.low_tests.proofs.tests.offices.planned_meanwhile.Goals as goal

pub join_mut-plan-requires-send-F : goal.join_mut-plan-requires-send-F
unfolding entry
join_mut-plan-requires-send-F g c κs within = first_of (search (desk-send, office-sync, the_sync, sendable, crosses) depth 40, search rules)
