use Rattle.std.proofs.Common.{◌≡◌, ◌+◌, ◌-◌, ap, arith, count_by, take}
use Rattle.mrp_lines.specs.Lines.{is_comma}
use Rattle.mrp_lines.proofs.Masks.{count-more}
use Rattle.mrp_lines.proofs.commas.count_commas.Goals as goal

pub loop-place-preserved : goal.loop-place-preserved
loop-place-preserved c = record {
  within = omega (arith, c.loop-place.invariant.within, c.min-step.ensures);
  counted = omega (arith, c.loop-place.invariant.counted, c.count_in_block-count.ensures, count-more is_comma c.loop-place.place c.min-step.result c.args.text.now);
}

pub returns : goal.returns
returns c =
    let i = c.loop-place.invariant in
    let whole : c.loop-place.place + (c.args.len - c.loop-place.place) ≡ c.args.len = omega (arith, i.within) in
    let more = count-more is_comma c.loop-place.place (c.args.len - c.loop-place.place) c.args.text.now in
    omega (arith, i.counted, c.count_each.ensures, more, ap (λ k. count_by is_comma (take k c.args.text.now)) whole)
