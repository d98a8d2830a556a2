use Rattle.std.proofs.Common.{◌≡◌}
use Rattle.mrp_page.specs.Escaped.{escaped_byte}
use Rattle.mrp_page.proofs.Pieces.{so_far}
use Rattle.mrp_page.proofs.escape.put_escaped.Given as goal

abbrev pub invariant-loop-byte : goal.invariant-loop-byte
invariant-loop-byte l = l.page.items ≡ so_far l.fn.page.items escaped_byte l.text l.byte-index
