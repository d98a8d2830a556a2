use Rattle.std.proofs.Common.{take}
use Rattle.std.specs.Prelude.{flat_map, string_bytes}
use Rattle.mrp_report.specs.Taken.{HasTakenAll}
use Rattle.mrp_commands.proofs.inspect.write_texts.Given as goal

abbrev pub invariant-loop-text : goal.invariant-loop-text
invariant-loop-text g l = HasTakenAll g.W.Write.contents l.initial.output l.output (flat_map string_bytes (take l.text-index l.texts))
