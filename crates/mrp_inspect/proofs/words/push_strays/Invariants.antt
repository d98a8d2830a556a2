use Rattle.std.proofs.Common.{◌≡◌, drop, map}
use Rattle.mrp_advice.specs.Listing.{listed_in, with_lines}
use Rattle.mrp_inspect.specs.Words.{stray_text}
use Rattle.mrp_inspect.proofs.words.push_strays.Given as goal

abbrev pub invariant-loop-stray : goal.invariant-loop-stray
invariant-loop-stray l = with_lines (listed_in l.lines) (drop l.stray-index (map stray_text l.strays)) ≡ with_lines (listed_in l.initial.lines) (map stray_text l.strays)
