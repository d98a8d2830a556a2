use Rattle.std.proofs.Common.{◌∙◌, ◌%◌, ◌^◌, ap, arith, count_by, eqb, w8}
use Rattle.std.specs.Int.RustNames.{count_ones}
use Rattle.std.specs.Simd.Lanes.{chunk}
use Rattle.std.proofs.lemmas.List.{take-take}
use Rattle.std.proofs.lemmas.Simd.{bitmask_splat, length-chunk}
use Rattle.mrp_lines.specs.Lines.{is_comma}
use Rattle.mrp_lines.proofs.Masks.{ones-below}
use Rattle.mrp_lines.proofs.commas.count_in_block.Goals as goal

pub returns : goal.returns
returns c =
    let block = chunk c.args.place 32 c.args.text.now in
    let long = length-chunk c.args.place 32 c.args.text.now c.requires.block in
    ap count_ones (c.bits_below.ensures ∙ ap (λ m. m % 2 ^ c.args.len) (bitmask_splat w8 eqb block 32 44 long (omega arith)))
    ∙ ones-below is_comma c.args.len block (omega (arith, long, c.requires.within))
    ∙ ap (count_by is_comma) (take-take c.args.len 32 _ c.requires.within)
