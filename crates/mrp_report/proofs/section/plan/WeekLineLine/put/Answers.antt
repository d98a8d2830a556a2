use Rattle.std.proofs.Common.{decimal}
use Rattle.mrp_report.proofs.lemmas.page.Lines.{line_end, line_first, line_next}
use Rattle.mrp_report.proofs.section.plan.WeekLineLine.put.Goals as goal

pub returns : goal.returns
returns c =
    let r = c.args.self.now.row.now in
    let week = rw c.from.ensures at c.put_number-end.ensures.put in
    line_end
    (line_next (decimal r.balance)
    (line_next (decimal r.start)
    (line_next (decimal r.planned)
    (line_next (decimal r.firm)
    (line_next (decimal r.receipts)
    (line_next (decimal r.gross)
    (line_next (decimal r.week)
    (line_first c.args.self.now.name.now c.put_first-end.ensures.put)
    week)
    c.put_number-end-2.ensures.put)
    c.put_number-end-3.ensures.put)
    c.put_number-end-4.ensures.put)
    c.put_number-end-5.ensures.put)
    c.put_number-end-6.ensures.put)
    c.put_number-end-7.ensures.put)
    c.put_byte.ensures
