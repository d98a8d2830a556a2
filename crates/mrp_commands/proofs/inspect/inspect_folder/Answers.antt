use Rattle.std.proofs.Common.{Ok, Err, refl}
use Rattle.mrp_commands.proofs.inspect.inspect_folder.Goals as goal

pub returns-in-Ok : goal.returns-in-Ok
returns-in-Ok g c = record { found = Ok c.in-Ok.found; is_found = c.in-Ok.ensures; ends = (c.inspect-inspected.result, c.inspect-inspected.ensures, c.tell_inspected.ensures) }

pub returns-in-Err : goal.returns-in-Err
returns-in-Err g c = record { found = Err c.in-Err.fault; is_found = c.in-Err.ensures; ends = (c.of_read.ensures, refl) }
