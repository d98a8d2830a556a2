use Rattle.std.proofs.Common.{◌≡◌, ◌<◌, length, arith}
use Rattle.std.specs.Prelude.{None}
use Rattle.std.proofs.lemmas.List.{get_or_read}
use Rattle.mrp_loops.specs.Needs.{line_at}
use Rattle.mrp_loops.specs.Links.{place_at}
use Rattle.mrp_loops.proofs.Listed.{lists-more}
use Rattle.mrp_loops.proofs.links.Links.of.Goals as goal

pub loop-place-preserved : goal.loop-place-preserved
loop-place-preserved c =
    let lines = c.args.lines.items in
    let k = c.loop-place.place in
    let last = c.loop-place.last.items in
    let value = c.deref-line-items.ensures.value in
    let inside : c.loop-place.place < length c.args.lines.items = rw value at c.loop-place-test.true in
    let within : (line_at c.args.lines.items c.loop-place.place).component < c.args.count = (c.requires k (record { parent = 0; component = 0 }) inside).1 in
    let read : c.index-before.result.now ≡ place_at c.loop-place.last.items (line_at c.args.lines.items c.loop-place.place).component =
    get_or_read last (line_at lines k).component c.index-before.result.now (omega (arith, within, c.loop-place.invariant.last_size)) (rw value at c.index-before.ensures) None in
    rw (c.in_ok-push.ensures.items, value, read) (lists-more c.args.count lines k last c.loop-place.previous.items c.loop-place.invariant within)
