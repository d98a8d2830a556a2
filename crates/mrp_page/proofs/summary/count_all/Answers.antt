use Rattle.std.proofs.Common.{arith}
use Rattle.mrp_page.proofs.CentreCounts.{count-next}
use Rattle.mrp_page.proofs.RowLists.{last_next}
use Rattle.mrp_page.proofs.summary.count_all.Goals as goal

pub loop-row-preserved : goal.loop-row-preserved
loop-row-preserved c =
    let next = count-next c.args.rows.now c.loop-row.row-index c.row-item.result c.row-item.result c.loop-row.previous.now c.loop-row-test.true c.row-item.is c.loop-row.invariant.previous in record {
      within = omega (arith, c.loop-row.invariant.within, c.leads-count.ensures.most);
      counted = omega (arith, next, c.loop-row.invariant.counted, c.leads-count.ensures.leads);
      previous = last_next c.args.rows.now c.loop-row.row-index c.row-item.result c.row-item.result c.name-previous.result.now c.loop-row-test.true c.row-item.is c.name-previous.ensures;
    }
