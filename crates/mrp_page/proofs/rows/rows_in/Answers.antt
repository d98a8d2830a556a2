use Rattle.std.proofs.Common.{not}
use Rattle.mrp_page.specs.Row.{is_in}
use Rattle.mrp_page.specs.Rows.{rows_in}
use Rattle.mrp_page.proofs.RowLists.{position_within, stretch_is}
use Rattle.mrp_page.proofs.rows.rows_in.Goals as goal

pub rows_from-rest-requires : goal.rows_from-rest-requires
rows_from-rest-requires c = rw c.first_in.ensures (position_within (is_in c.args.section) c.args.rows.now)

pub rows_before-requires : goal.rows_before-requires
rows_before-requires c = rw c.first_out.ensures (position_within (λ r. not (is_in c.args.section r)) c.rows_from-rest.result.now)

pub returns : goal.returns
unfolding rows_in
returns c =
    stretch_is (is_in c.args.section) c.args.rows.now c.rows_from-rest.result.now c.rows_before.result.now c.first_in.result c.first_out.result
    c.first_in.ensures c.rows_from-rest.ensures c.first_out.ensures c.rows_before.ensures
