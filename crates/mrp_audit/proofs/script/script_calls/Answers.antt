use Rattle.std.proofs.Common.{◌∙◌, [], ◌∷◌, ◌++◌, List, ap, refl, sym, subst, arith}
use Rattle.mrp_tables.specs.declared.rows.ScriptRow.{ScriptRow}
use Rattle.std.specs.Prelude.{All, map}
use Rattle.mrp_tables.specs.Tables.{Tables}
use Rattle.mrp_tables.specs.Facts.{IsScriptRow}
use Rattle.mrp_master.specs.Supply.{supply_of}
use Rattle.mrp_script.specs.Script.{Script, record_of, with_run}
use Rattle.mrp_script.proofs.ScriptCalls.{none-given, row-fits}
use Rattle.mrp_audit.proofs.DeskRecords.{all-taken}
use Rattle.mrp_audit.proofs.script.script_calls.Goals as goal
use Rattle.mrp_audit.proofs.script.script_calls.Goals.{in-Some+in_ok-push-2, in_default}

pub call_of-requires : goal.call_of-requires
call_of-requires c =
    let t = c.args.shop.now.tables in
    let rows : All (IsScriptRow t.calendar.weeks t.items) c.script-script.result.now =
    subst (λ (x : Tables). All (IsScriptRow x.calendar.weeks x.items) c.script-script.result.now) c.tables.ensures.value c.script-script.ensures.within in
    (row-fits t (supply_of t) c.script-script.result.now c.loop-row.row-index c.row-item.result refl rows c.loop-row-test.true c.row-item.is).2

pub returns : goal.returns
returns c =
    let script = c.script-script.result.now in
    let all = all-taken c.loop-row.calls.items script c.loop-row.row-index c.loop-row.invariant (omega (arith, c.loop-row-test.false)) in
    let from = ap (λ (rows : List ScriptRow). with_run (map record_of rows)) (c.script-script.ensures.rows ∙ ap (λ (x : Tables). x.script) c.tables.ensures.value) in
    elim c.match-added_run.branch [
      | in-Some+in_ok-push-2 w ↦ rw w.calls-is (w.in_ok-push-2.ensures.items ∙ ap (λ (r : Script). r ++ w.in-Some.last ∷ []) all ∙ sym w.in-Some.ensures.added ∙ from)
      | in_default w ↦ rw w.calls-is (all ∙ sym (c.added_run.ensures.none (none-given c.added_run.result w.in_default.not-Some)) ∙ from)
    ]
