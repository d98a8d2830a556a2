use Rattle.std.proofs.Common.{◌∙◌, List, ap, arith, refl, subst, sym}
use Rattle.std.specs.Prelude.{All, map}
use Rattle.mrp_tables.specs.Facts.{IsScriptRow}
use Rattle.mrp_tables.specs.Tables.{Tables}
use Rattle.mrp_tables.specs.declared.rows.ScriptRow.{ScriptRow}
use Rattle.mrp_master.specs.Supply.{supply_of}
use Rattle.mrp_book.specs.History.{Fits}
use Rattle.mrp_script.specs.Script.{record_of}
use Rattle.mrp_script.proofs.ScriptCalls.{all-answered, entries-few, row-fits}
use Rattle.mrp_script.proofs.script.answer_records.Goals as goal

pub call_of-requires : goal.call_of-requires
call_of-requires c =
    let t = c.args.shop.now.tables in
    let rows : All (IsScriptRow t.calendar.weeks t.items) c.script-script.result.now =
    subst (λ (x : Tables). All (IsScriptRow x.calendar.weeks x.items) c.script-script.result.now) c.tables.ensures.value c.script-script.ensures.within in
    (row-fits t (supply_of t) c.script-script.result.now c.loop-row.row-index c.row-item.result refl rows c.loop-row-test.true c.row-item.is).2

pub answer-requires-clause-fits : goal.answer-requires-clause-fits
answer-requires-clause-fits c =
    let t = c.args.shop.now.tables in
    let rows : All (IsScriptRow t.calendar.weeks t.items) c.script-script.result.now =
    subst (λ (x : Tables). All (IsScriptRow x.calendar.weeks x.items) c.script-script.result.now) c.tables.ensures.value c.script-script.ensures.within in
    subst (Fits c.loop-row.book.supply) (sym c.call_of.ensures)
    (row-fits t c.loop-row.book.supply c.script-script.result.now c.loop-row.row-index c.row-item.result c.loop-row.invariant.0 rows c.loop-row-test.true c.row-item.is).2

pub answer-requires-clause-desk : goal.answer-requires-clause-desk
answer-requires-clause-desk c =
    let t = c.args.shop.now.tables in
    let rows : All (IsScriptRow t.calendar.weeks t.items) c.script-script.result.now =
    subst (λ (x : Tables). All (IsScriptRow x.calendar.weeks x.items) c.script-script.result.now) c.tables.ensures.value c.script-script.ensures.within in
    let row = row-fits t c.loop-row.book.supply c.script-script.result.now c.loop-row.row-index c.row-item.result c.loop-row.invariant.0 rows c.loop-row-test.true c.row-item.is in
    (row.0, row.1)

pub answer-requires-clause-room : goal.answer-requires-clause-room
answer-requires-clause-room c =
    entries-few c.loop-row.book.entries c.script-script.result.now c.loop-row.row-index c.loop-row.invariant.1 (omega (arith, c.loop-row-test.true)) c.script-script.ensures.count

pub returns-clause-asked : goal.returns-clause-asked
returns-clause-asked c =
    let rows = c.script-script.result.now in
    let from = ap (λ (x : List ScriptRow). map record_of x) (c.script-script.ensures.rows ∙ ap (λ (x : Tables). x.script) c.tables.ensures.value) in
    all-answered c.loop-row.book.entries rows c.loop-row.row-index c.loop-row.invariant.1 (omega (arith, c.loop-row-test.false)) ∙ from

pub returns-clause-few : goal.returns-clause-few
returns-clause-few c =
    entries-few c.loop-row.book.entries c.script-script.result.now c.loop-row.row-index c.loop-row.invariant.1 (omega (arith, c.loop-row.auto.row-index-end)) c.script-script.ensures.count
