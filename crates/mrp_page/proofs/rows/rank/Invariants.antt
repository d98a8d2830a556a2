use Rattle.std.proofs.Common.{◌≡◌, drop}
use Rattle.std.specs.List.{fold}
use Rattle.mrp_page.specs.Rows.{ranked}
use Rattle.mrp_page.proofs.rows.rank.Given as goal

abbrev pub invariant-loop-byte : goal.invariant-loop-byte
invariant-loop-byte l = fold ranked l.rank (drop l.byte-index l.text) ≡ fold ranked 0 l.text
