use Rattle.std.proofs.Common.{◌≡◌, ◌∙◌, ◌+◌, ◌<◌, ℕ, length, sym, arith}
use Rattle.mrp_phase.specs.Weeks.{in_week}
use Rattle.mrp_phase.proofs.WeekRows.{in_week_next}
use Rattle.mrp_master.specs.AtpRow.{IsWeekOf, bucket, buckets_to}
use Rattle.mrp_report.proofs.lemmas.section.PromiseSums.{left-more}
use Rattle.mrp_report.proofs.lemmas.section.SheetRows.{read-at}
use Rattle.mrp_report.proofs.section.promise_sheet.PromiseSheet.row_at.Goals as goal

inside : (c : goal.After-value-2) → IsWeekOf c.args.self.now.row.now (c.args.place + 1)
inside c = (omega arith, omega (arith, c.requires.within, c.requires.sheet.supply))

carried : (c : goal.After-value-2) → c.value-bucket.result ≡ bucket c.args.self.now.row.now (c.args.place + 1)
carried c = c.value-bucket.ensures.pieces ∙ c.bucket.ensures

left-to : (c : goal.After-value-2) → c.args.before + c.value-bucket.result ≡ buckets_to c.args.self.now.row.now (c.args.place + 1)
left-to c = omega (arith, c.requires.before.left_is, carried c, left-more c.args.self.now.row.now c.args.place ((inside c).1))

pub returns-clause-left : goal.returns-clause-left
returns-clause-left c = record {
  left_is = left-to c;
  little = omega (arith, c.requires.before.little, c.value-bucket.ensures.within);
}

pub returns-clause-value : goal.returns-clause-value
returns-clause-value c =
    let s = c.args.self.now in
    let week : ℕ = c.args.place + 1 in
    let within : c.args.place < length s.firm.now = omega (arith, c.requires.within, c.requires.sheet.firm) in
    let firm : c.value.result ≡ in_week s.firm.now week =
    read-at s.firm.now c.value.result c.from.result c.args.place _ c.value.ensures.pieces c.from.ensures within ∙ sym (in_week_next s.firm.now c.args.place) in
    let booked : c.value-2.result ≡ in_week s.row.now.booked week = c.value-2.ensures.pieces ∙ c.booked.ensures.value in
    let left : c.value-bucket.result ≡ bucket s.row.now week = carried c in
    let promise : c.args.before + c.value-bucket.result ≡ buckets_to s.row.now week = left-to c in
    λ j. record { week = week; firm = firm j; booked = booked j; bucket = left j; available = promise j }
