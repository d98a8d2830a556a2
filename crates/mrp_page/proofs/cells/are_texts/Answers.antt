use Rattle.std.proofs.Common.{◌∙◌, sym, true, false}
use Rattle.mrp_rows.proofs.WordPlaces.{texts-drop}
use Rattle.mrp_page.proofs.cells.are_texts.Goals as goal

pub returns-then-ne : goal.returns-then-ne
returns-then-ne g c =
    let i = c.loop-column.invariant in
    sym (i.same_before ∙ texts-drop (g.C.Cells.cells c.args.cells.now) c.args.texts.now c.loop-column.column _ _ _ _ false i.long c.loop-column-test.true c.cell.ensures c.as_bytes.ensures.value c.ne.ensures c.if-ne.true)

pub loop-column-preserved : goal.loop-column-preserved
loop-column-preserved g c =
    let i = c.loop-column.invariant in
    record {
      long = i.long;
      same_before = i.same_before ∙ texts-drop (g.C.Cells.cells c.args.cells.now) c.args.texts.now c.loop-column.column _ _ _ _ true i.long c.loop-column-test.true c.cell.ensures c.as_bytes.ensures.value c.ne.ensures c.if-ne.false;
    }
