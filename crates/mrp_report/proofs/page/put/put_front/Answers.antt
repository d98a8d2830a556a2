use Rattle.std.proofs.Common.{◌≡◌, ◌+◌, length, take, arith, length-take-le, take-take}
use Rattle.std.proofs.lemmas.Simd.{take_more_put_chunk, length-put_chunk}
use Rattle.mrp_report.proofs.lemmas.page.Puts.{put_less}
use Rattle.mrp_report.specs.page.Put.{IsPut}
use Rattle.mrp_report.proofs.page.put.put_front.Goals as goal

pub returns : goal.returns
returns g c =
    let front = take g.row.N c.args.block.now in
    let long : length front ≡ g.row.N = length-take-le g.row.N c.args.block.now c.requires.0 in
    let whole : IsPut c.args.text.now _ c.args.at front (c.args.at + g.row.N) = record {
      text = take_more_put_chunk c.args.at c.args.text.now front _ (omega arith) c.requires.1;
      moved = omega arith;
      len = length-put_chunk c.args.at c.args.text.now front;
    } in
    rw (take-take c.args.len g.row.N c.args.block.now c.requires.2) at (put_less c.args.len (omega arith) (omega arith) whole)
