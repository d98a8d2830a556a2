use Rattle.std.proofs.Common.{◌∙◌, ◌+◌, ◌<◌, arith, not, refl, subst, sym}
use Rattle.std.specs.Simd.Lanes.{chunk}
use Rattle.std.proofs.lemmas.Simd.{get_or-chunk, length-chunk, zip2_of_maps, zip2_splat}
use Rattle.mrp_rows.specs.PlainLines.{stops}
use Rattle.mrp_rows.proofs.MaskLanes.{lanes-in-front}
use Rattle.mrp_rows.proofs.plain_lines.front_in_block.Goals as goal

pub returns : goal.returns
returns c =
    let block = chunk c.args.place 16 c.args.text.now in
    let long = length-chunk c.args.place 16 c.args.text.now c.requires in
    c.first_set.ensures ∙ lanes-in-front (λ byte. not (stops byte)) _ block _ 16 long (omega arith)
    (λ k within. subst (λ byte. byte < 256) (sym (get_or-chunk c.args.place 16 c.args.text.now k 0 (omega (arith, within, long)))) (c.type_inv.text (c.args.place + k)).fits)
    (zip2_of_maps _ _ _ block (zip2_of_maps _ _ _ block (zip2_of_maps _ _ _ block (zip2_splat _ block 16 44 long) (zip2_splat _ block 16 10 long)) (zip2_splat _ block 16 13 long)) (zip2_splat _ block 16 34 long))
    refl
