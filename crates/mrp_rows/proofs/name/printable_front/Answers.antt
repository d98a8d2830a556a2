use Rattle.std.proofs.Common.{◌∙◌, arith, cond, ltb, refl}
use Rattle.std.proofs.lemmas.Simd.{zip2_of_maps, zip2_splat, zip2_splat_left}
use Rattle.mrp_rows.specs.Name.{is_printable}
use Rattle.mrp_rows.proofs.MaskLanes.{lanes-in-front}
use Rattle.mrp_rows.proofs.name.printable_front.Goals as goal

pub returns : goal.returns
returns c =
    let block = c.args.block.now in
    let long = c.told-block in
    c.first_set.ensures ∙ lanes-in-front is_printable _ block _ 32 long (omega arith) (λ k within. c.fits-block k) (zip2_of_maps _ _ _ block (zip2_splat _ block 32 32 long) (zip2_splat_left (λ a b. cond (ltb a b) 255 0) 126 32 block long)) refl
