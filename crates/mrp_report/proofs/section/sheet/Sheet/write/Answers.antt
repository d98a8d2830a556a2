use Rattle.mrp_report.specs.section.PlanText.{week_text}
use Rattle.mrp_report.specs.section.Sheet.{sheet_row}
use Rattle.mrp_report.proofs.lemmas.section.RowTexts.{texts_none, texts_more}
use Rattle.mrp_report.proofs.lemmas.section.SheetRows.{no_sums}
use Rattle.mrp_report.proofs.section.sheet.Sheet.write.Goals as goal

pub loop-place-init : goal.loop-place-init
loop-place-init c =
    (no_sums c.args.self.now c.value.result c.value.ensures.pieces c.value.ensures.within, texts_none (week_text c.args.name.now) (sheet_row c.args.self.now) c.args.page.now)

pub loop-place-preserved : goal.loop-place-preserved
loop-place-preserved c = (
  c.row_at-row.ensures.sums,
  texts_more (week_text c.args.name.now) (sheet_row c.args.self.now) c.loop-place.place c.loop-place.page c.week_row.new.page c.args.page.now c.row_at-row.result
      c.loop-place.invariant.1 c.row_at-row.ensures.row c.in_ok-week_row.ensures,
)
