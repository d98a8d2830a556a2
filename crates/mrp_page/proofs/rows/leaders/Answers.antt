use Rattle.std.proofs.Common.{map}
use Rattle.mrp_page.proofs.RowLists.{last_next, leaders_next}
use Rattle.mrp_page.proofs.rows.leaders.Goals as goal

pub loop-row-preserved : goal.loop-row-preserved
loop-row-preserved c = record {
  found = leaders_next c.args.rows.now c.loop-row.row-index c.row-item.result c.row-item.result c.loop-row.previous.now (map (λ r. r.now) c.loop-row.found.items) (map (λ r. r.now) c.add_leader.new.found.items)
      c.loop-row-test.true c.row-item.is c.loop-row.invariant.previous c.loop-row.invariant.found c.in_ok-add_leader.ensures;
  previous = last_next c.args.rows.now c.loop-row.row-index c.row-item.result c.row-item.result c.name-previous.result.now c.loop-row-test.true c.row-item.is c.name-previous.ensures;
}
