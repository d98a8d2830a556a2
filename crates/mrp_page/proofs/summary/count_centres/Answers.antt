use Rattle.std.proofs.Common.{List, arith, map}
use Rattle.mrp_page.specs.Row.{RowView}
use Rattle.mrp_page.proofs.CentreCounts.{count-next, seen-at, seen-within}
use Rattle.mrp_page.proofs.RowLists.{last_next}
use Rattle.mrp_page.proofs.summary.count_centres.Goals as goal

pub loop-row-preserved : goal.loop-row-preserved
loop-row-preserved c =
    let rows : List RowView = map (λ r. r.now) c.args.rows.now in
    let r = c.row-item.result in
    let within = seen-within c.args.rows.now c.loop-row.row-index c.loop-row-test.true in
    let at = seen-at c.args.rows.now c.loop-row.row-index r c.loop-row-test.true c.row-item.is in
    let next = count-next rows c.loop-row.row-index r.now r.now c.loop-row.previous.now within at c.loop-row.invariant.previous in record {
      within = omega (arith, c.loop-row.invariant.within, c.leads-count.ensures.most);
      counted = omega (arith, next, c.loop-row.invariant.counted, c.leads-count.ensures.leads);
      previous = last_next rows c.loop-row.row-index r.now r.now c.name-previous.result.now within at c.name-previous.ensures;
    }
