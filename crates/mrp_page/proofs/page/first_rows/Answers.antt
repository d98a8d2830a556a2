use Rattle.mrp_page.specs.declared.limits.TheConstants.{MOST_ITEMS}
use Rattle.mrp_page.proofs.RowLists.{first-rows}
use Rattle.mrp_page.proofs.page.first_rows.Goals as goal

pub returns : goal.returns
returns c = first-rows c.args.rows.now c.split_at.result.0.now MOST_ITEMS c.min-count.result c.min-count.ensures c.split_at.ensures.front
