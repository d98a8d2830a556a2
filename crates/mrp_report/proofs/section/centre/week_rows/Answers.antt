use Rattle.mrp_report.specs.section.LoadRows.{load_row}
use Rattle.mrp_report.specs.section.LoadText.{load_text}
use Rattle.mrp_report.proofs.lemmas.section.RowTexts.{texts_none, texts_more}
use Rattle.mrp_report.proofs.section.centre.week_rows.Goals as goal

pub loop-place-init : goal.loop-place-init
loop-place-init c = texts_none (load_text c.args.name.now) (load_row c.args.loads.now c.args.centre) c.args.page.now

pub loop-place-preserved : goal.loop-place-preserved
loop-place-preserved c =
    texts_more (load_text c.args.name.now) (load_row c.args.loads.now c.args.centre) c.loop-place.place c.loop-place.page c.load_row.new.page c.args.page.now c.row_of.result
    c.loop-place.invariant c.row_of.ensures c.in_ok-load_row.ensures
