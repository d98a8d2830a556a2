use Rattle.std.proofs.Common.{◌∙◌, sym, true, false}
use Rattle.mrp_rows.proofs.WordPlaces.{texts-drop}
use Rattle.mrp_survey.proofs.Steps.{either-false}
use Rattle.mrp_survey.proofs.header.are_columns.Goals as goal

pub returns-then-ne : goal.returns-then-ne
returns-then-ne c =
    let i = c.loop-column.invariant in
    either-false _ _ (sym (i.same_before ∙ texts-drop c.args.row.now.first c.args.names.now c.loop-column.column _ _ _ _ false i.long c.loop-column-test.true c.cell_in.ensures c.as_bytes.ensures.value c.ne.ensures c.if-ne.true))

pub loop-column-preserved : goal.loop-column-preserved
loop-column-preserved c =
    let i = c.loop-column.invariant in
    record {
      long = i.long;
      same_before = i.same_before ∙ texts-drop c.args.row.now.first c.args.names.now c.loop-column.column _ _ _ _ true i.long c.loop-column-test.true c.cell_in.ensures c.as_bytes.ensures.value c.ne.ensures c.if-ne.false;
    }
