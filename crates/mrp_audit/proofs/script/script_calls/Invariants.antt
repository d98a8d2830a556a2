use Rattle.std.proofs.Common.{◌≡◌, take}
use Rattle.std.specs.Prelude.{map}
use Rattle.mrp_script.specs.Script.{record_of}
use Rattle.mrp_audit.proofs.script.script_calls.Given as goal

abbrev pub invariant-loop-row : goal.invariant-loop-row
invariant-loop-row l = l.calls.items ≡ map record_of (take l.row-index l.script)
