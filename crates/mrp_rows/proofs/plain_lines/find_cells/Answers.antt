use Rattle.std.proofs.Common.{◌+◌, ◌<◌, [], arith, length, refl}
use Rattle.mrp_rows.proofs.HeldCells.{none-within, within-more, within-next}
use Rattle.mrp_rows.proofs.PlainCells.{plain-comma, plain-ends, plain-next, stop-ends}
use Rattle.mrp_rows.proofs.RecordCuts.{inside-first}
use Rattle.mrp_rows.proofs.plain_lines.find_cells.Goals as goal

pub loop-end-init : goal.loop-end-init
loop-end-init c = rw c.requires (record { within = omega arith; places = none-within 0; inside = inside-first c.args.text.now c.args.most [] refl })

pub returns-then-byte-ne44 : goal.returns-then-byte-ne44
returns-then-byte-ne44 c =
    let text = c.args.text.now in
    let start = c.loop-end.start in
    let end = c.in-Some.end in
    let places = c.loop-end.places.items in
    let i = c.loop-end.invariant in
    let stop = c.in-Some.ensures in
    let few : length places < c.args.most = omega (arith, c.loop-end-test.true, c.len.ensures, c.loop-end.places.ok.0) in
    let behind = plain-next text c.args.most start end places i.inside stop (stop-ends text start end stop c.if-byte-eq34.false) i.within few in
    rw c.in_ok-push.ensures.items (record {
      within = omega (arith, stop.within);
      inside = within-next (end + 1) places (start, end) (within-more start (end + 1) places (omega (arith, stop.first)) i.places) (record { ordered = omega (arith, stop.first); inside = omega arith });
      begins = plain-ends text c.args.most end _ _ behind stop.within c.if-byte-ne44.true;
    })

pub loop-end-preserved : goal.loop-end-preserved
loop-end-preserved c =
    let text = c.args.text.now in
    let start = c.loop-end.start in
    let end = c.in-Some.end in
    let places = c.loop-end.places.items in
    let i = c.loop-end.invariant in
    let stop = c.in-Some.ensures in
    let few : length places < c.args.most = omega (arith, c.loop-end-test.true, c.len.ensures, c.loop-end.places.ok.0) in
    let behind = plain-next text c.args.most start end places i.inside stop (stop-ends text start end stop c.if-byte-eq34.false) i.within few in
    rw c.in_ok-push.ensures.items (record {
      within = omega (arith, stop.within);
      places = within-next (end + 1) places (start, end) (within-more start (end + 1) places (omega (arith, stop.first)) i.places) (record { ordered = omega (arith, stop.first); inside = omega arith });
      inside = plain-comma text c.args.most end _ _ behind stop.within c.if-byte-ne44.false;
    })
