use Rattle.std.proofs.Common.{rules}
use types.Keyed.{entry}
use Rattle.low_tests.proofs.tests.offices.book_in_threads.Goals as goal

pub map_vec-requires-send-J : goal.map_vec-requires-send-J
unfolding entry
map_vec-requires-send-J g c κs within = search rules

pub map_vec-requires-send-X : goal.map_vec-requires-send-X
unfolding entry
map_vec-requires-send-X g c κs within = search rules
