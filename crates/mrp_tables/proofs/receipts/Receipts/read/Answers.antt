use Rattle.std.proofs.Common.{◌≡◌, ◌≤◌, arith, length, Ok, refl, subst, sym}
use Rattle.mrp_rows.specs.Bundle.{text_in}
use Rattle.mrp_rows.specs.Columns.{layout_of}
use Rattle.mrp_rows.specs.declared.fault.Table.TheVariants as t
use Rattle.mrp_tables.specs.declared.limits.TheConstants as limits
use Rattle.mrp_tables.specs.Facts.{NumbersRise}
use Rattle.mrp_tables.specs.Reading.{reads_of, rows_of}
use Rattle.mrp_tables.specs.Receipts.{receipt_row}
use Rattle.mrp_tables.proofs.Rising.{receipts_rise}
use Rattle.mrp_tables.proofs.receipts.Receipts.read.Goals as goal

pub returns-clause-count : goal.returns-clause-count
returns-clause-count c =
    let read : length c.in_ok-receipts.receipts.rows ≤ limits.MOST_ROWS = c.in_ok-receipts.ensures.count limits.MOST_ROWS (omega arith) (λ before. refl) in
    let kept : length c.into_rows.result.items ≤ length c.in_ok-receipts.receipts.rows = c.into_rows.ensures.count in
    omega arith

pub returns-clause-numbers : goal.returns-clause-numbers
returns-clause-numbers c =
    let empty = c.new-empty.result in
    let text = text_in c.args.sections.now t.Receipts in
    let read : rows_of (reads_of t.Receipts (receipt_row empty.calendar empty.items)) (layout_of t.Receipts) text ≡ Ok c.in_ok-receipts.receipts.rows = c.in_ok-receipts.ensures.rows in
    subst NumbersRise (sym c.into_rows.ensures.rows) (receipts_rise empty.calendar empty.items text c.in_ok-receipts.receipts.rows read)
