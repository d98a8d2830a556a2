use Rattle.std.proofs.Common.{sym, subst, List, length, ◌≤◌}
use Rattle.std.specs.Prelude.{All}
use Rattle.mrp_tables.specs.declared.rows.Receipt.{Receipt}
use Rattle.mrp_tables.specs.Facts.{AllDiffer, IsReceipt}
use Rattle.mrp_tables.specs.Gathered.{GatheredByDate}
use Rattle.mrp_tables.specs.Receipts.{orders_of}
use Rattle.mrp_tables.proofs.Kept.{kept_orders, kept_receipts, kept_receipts-count}
use Rattle.mrp_tables.proofs.receipts.Receipts.into_rows.Goals as goal

pub returns-clause-within : goal.returns-clause-within
returns-clause-within c =
    let inside = c.self.inside in
    let Of : List Receipt → Type 0 = λ rows. All (IsReceipt inside.calendar.now.weeks inside.items.now) rows in
    let counted = subst Of (sym c.that_count.ensures) (kept_receipts inside.calendar.now.weeks inside.items.now inside.rows.items c.self.invariant.within) in
    let Seen : GatheredByDate Receipt → Type 0 = λ seen. All (IsReceipt seen.calendar.weeks seen.items) c.that_count.result.items in
    subst Seen c.self.view_is counted

pub returns-clause-count : goal.returns-clause-count
returns-clause-count c =
    let fewer = rw (← c.that_count.ensures) at (kept_receipts-count c.self.inside.rows.items) in
    let Seen : GatheredByDate Receipt → Type 0 = λ seen. length c.that_count.result.items ≤ length seen.rows in
    subst Seen c.self.view_is fewer

pub returns-clause-distinct : goal.returns-clause-distinct
returns-clause-distinct c =
    let Of : List Receipt → Type 0 = λ rows. AllDiffer (orders_of rows) in
    subst Of (sym c.that_count.ensures) (kept_orders c.self.inside.rows.items c.self.invariant.distinct)
