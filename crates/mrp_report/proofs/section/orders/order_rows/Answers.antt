use Rattle.std.proofs.Common.{◌≡◌, ◌∙◌, ◌+◌, length, sym, arith}
use Rattle.std.proofs.lemmas.List.FromFn.{length-enumerate_from}
use Rattle.std.specs.List.{enumerate_from}
use Rattle.mrp_report.specs.section.OrderText.{order_text}
use Rattle.mrp_report.proofs.lemmas.section.ListTexts.{is-numbered, numbered, so_far-added, whole}
use Rattle.mrp_report.proofs.section.orders.order_rows.Goals as goal

pub loop-place-preserved : goal.loop-place-preserved
loop-place-preserved c =
    let orders = c.args.orders.now in
    let k = c.loop-place.place in
    so_far-added c.args.page.now (order_text c.args.name.now) (enumerate_from 1 orders) k (k + 1, c.index-orders-place.result) _ c.loop-place.page c.order_row.new.page
    c.loop-place.invariant (is-numbered orders k c.loop-place-test.true) (numbered orders k c.index-orders-place.result _ c.loop-place-test.true c.index-orders-place.is) c.in_ok-order_row.ensures

pub returns : goal.returns
returns c =
    let orders = c.args.orders.now in
    let all : c.loop-place.place ≡ length orders = omega (arith, c.loop-place-test.false, c.loop-place.auto.place-end) in
    c.loop-place.invariant ∙ whole c.args.page.now (order_text c.args.name.now) (enumerate_from 1 orders) c.loop-place.place (all ∙ sym (length-enumerate_from 1 orders))
