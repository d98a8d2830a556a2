use Rattle.std.proofs.Common.{◌<◌, refl, length, arith}
use Rattle.mrp_report.proofs.lemmas.section.SheetRows.{IsWeek, read-at, row_is, sums_are}
use Rattle.mrp_report.proofs.section.sheet.Sheet.row_at.Goals as goal
use Rattle.mrp_report.proofs.section.sheet.Sheet.row_at.Goals.{then-self, else-self}

-- what the week has
week : (c : goal.After-saturating_sub-2) → IsWeek c.args.self.now c.args.place c.value-gross.result c.value-scheduled.result c.value-received.result
week c =
    let gross : c.args.place < length c.args.self.now.gross.now = omega (arith, c.requires.within, c.requires.sheet.gross) in
    let scheduled : c.args.place < length c.args.self.now.scheduled.now = omega (arith, c.requires.within, c.requires.sheet.scheduled) in
    let received : c.args.place < length c.args.self.now.received.now = omega (arith, c.requires.within, c.requires.sheet.received) in
    record {
      gross_is = read-at c.args.self.now.gross.now c.value-gross.result c.from-at.result c.args.place _ c.value-gross.ensures.pieces c.from-at.ensures gross;
      scheduled_is = read-at c.args.self.now.scheduled.now c.value-scheduled.result c.from-at.result c.args.place _ c.value-scheduled.ensures.pieces c.from-at.ensures scheduled;
      received_is = read-at c.args.self.now.received.now c.value-received.result c.from-at.result c.args.place _ c.value-received.ensures.pieces c.from-at.ensures received;
    }

pub returns-clause-row : goal.returns-clause-row
returns-clause-row c =
    let started : c.args.place < length c.args.self.now.started.now = omega (arith, c.requires.within, c.requires.sheet.started) in
    let start = read-at c.args.self.now.started.now c.value.result c.from-at.result c.args.place _ c.value.ensures.pieces c.from-at.ensures started in
    elim c.if-self.branch [
      | then-self w ↦ row_is c.args.self.now c.args.place c.value-gross.result c.value-scheduled.result c.value-received.result c.value.result c.args.sums.now c.requires.sums (week c) start c.if-self.receipts.0 c.if-self.receipts.1 _ _
          (rw (w.if-self.true, w.receipts-is) refl) (rw (w.if-self.true, w.receipts-is) refl) c.saturating_sub.ensures c.saturating_sub-2.ensures
      | else-self w ↦ row_is c.args.self.now c.args.place c.value-gross.result c.value-scheduled.result c.value-received.result c.value.result c.args.sums.now c.requires.sums (week c) start c.if-self.receipts.0 c.if-self.receipts.1 _ _
          (rw (w.if-self.false, w.receipts-is) refl) (rw (w.if-self.false, w.receipts-is) refl) c.saturating_sub.ensures c.saturating_sub-2.ensures
    ]

pub returns-clause-sums : goal.returns-clause-sums
returns-clause-sums c =
    sums_are c.args.self.now c.args.place c.value-gross.result c.value-scheduled.result c.value-received.result c.args.sums.now c.requires.sums (week c)
    c.value-gross.ensures.within c.value-scheduled.ensures.within c.value-received.ensures.within
