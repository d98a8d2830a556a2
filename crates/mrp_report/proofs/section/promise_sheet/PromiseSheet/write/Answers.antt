use Rattle.std.proofs.Common.{arith, refl}
use Rattle.mrp_report.specs.section.PromiseText.{promise_text}
use Rattle.mrp_report.specs.section.PromiseSheet.{sheet_promise}
use Rattle.mrp_report.proofs.lemmas.section.RowTexts.{texts_none, texts_more}
use Rattle.mrp_report.proofs.section.promise_sheet.PromiseSheet.write.Goals as goal

pub loop-place-init : goal.loop-place-init
loop-place-init c = record {
  page = texts_none (promise_text c.args.name.now) (sheet_promise c.args.self.now) c.args.page.now;
  left = record { left_is = refl; little = omega arith };
}

pub loop-place-preserved : goal.loop-place-preserved
loop-place-preserved c = record {
  page = texts_more (promise_text c.args.name.now) (sheet_promise c.args.self.now) c.loop-place.place c.loop-place.page c.promise_row.new.page c.args.page.now c.row_at-row.result
      c.loop-place.invariant.page c.row_at-row.ensures.value c.in_ok-promise_row.ensures;
  left = c.row_at-row.ensures.left;
}
