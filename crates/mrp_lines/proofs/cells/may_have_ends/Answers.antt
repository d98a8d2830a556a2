use Rattle.std.proofs.Common.{◌≡◌, Bool, not, true, false, refl, subst, sym}
use Rattle.std.specs.List.{All}
use Rattle.mrp_rows.specs.Bundle.{ends_line}
use Rattle.mrp_lines.proofs.Sizes.{row-none}
use Rattle.mrp_lines.proofs.cells.may_have_ends.Goals as goal

pub returns : goal.returns
returns c = λ none. row-none c.args.row.now (subst (λ bytes. All (λ byte. ends_line byte ≡ false) bytes) c.as_slice.ensures (c.are_unended.ensures (holds c.are_unended.result none)))
  where
    holds : (b : Bool) → not b ≡ false → b ≡ true
    holds true e = refl
    holds false e = absurd cc
