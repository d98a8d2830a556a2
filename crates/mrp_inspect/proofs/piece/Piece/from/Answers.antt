use Rattle.std.proofs.Common.{arith}
use Rattle.std.proofs.lemmas.List.Sums.{prefix_len-le-length}
use Rattle.mrp_rows.specs.Bundle.{ends_line}
use Rattle.mrp_inspect.proofs.piece.Piece.from.Goals as goal

pub split_at-requires : goal.split_at-requires
split_at-requires c = omega (arith, c.line_ends_len.ensures, prefix_len-le-length ends_line c.args.following.now)
