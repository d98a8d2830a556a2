use Rattle.std.proofs.Common.{◌≡◌, ◌∙◌, Err, Ok, Result, rules, subst, sym}
use Rattle.std.specs.Prelude.{All, ⊤}
use Rattle.mrp_tables.specs.Facts.{IsScriptRow}
use Rattle.mrp_tables.specs.Tables.{Tables}
use Rattle.mrp_master.specs.Supply.{Supply, supply_of}
use Rattle.mrp_book.specs.Standing.{History}
use Rattle.mrp_book.specs.History.{IsLegal, asked}
use Rattle.mrp_engine.specs.day.RightDay.{FollowsDesks}
use Rattle.mrp_script.specs.Script.{Script, script_of, with_run}
use Rattle.mrp_audit.specs.declared.fault.AuditFault.{AuditFault}
use Rattle.mrp_audit.specs.Parts.{ComparesDesks, ComparesHistory}
use Rattle.mrp_audit.proofs.Judged.{all-desks, desk-refused, reports-compared}
use Rattle.mrp_audit.proofs.audit.check_history.Goals as goal

pub returns-in_err-check_desks : goal.returns-in_err-check_desks
returns-in_err-check_desks g c =
    let t = c.args.shop.tables in
    let h = c.args.history.now.entries in
    let legal : IsLegal (supply_of t) h = subst (λ (x : Supply). IsLegal x h) c.requires (subst (IsLegal c.args.history.now.supply) c.entries.ensures.entries c.entries.ensures.legal) in
    let fails : c.from_residual-in_err-check_desks.result ≡ Err c.in_err-check_desks.field-0.0 = search rules in
    let rows : All (IsScriptRow t.calendar.weeks t.items) t.script = subst (λ (x : Tables). All (IsScriptRow x.calendar.weeks x.items) x.script) c.tables-tables.ensures.value c.keep_limits.ensures.script in
    let script : c.deref.result.now ≡ with_run (script_of t) = c.deref.ensures.value ∙ c.in_ok-script.ensures in
    let compared : ComparesDesks (asked h) (with_run (script_of t)) (Err c.in_err-check_desks.field-0.0) =
    subst (λ (x : Script). ComparesDesks (asked h) x (Err c.in_err-check_desks.field-0.0)) script
    (subst (λ (x : History). ComparesDesks (asked x) c.deref.result.now (Err c.in_err-check_desks.field-0.0)) c.entries.ensures.entries c.in_err-check_desks.ensures) in
    subst (λ (r : Result ⊤ AuditFault). ComparesHistory t h c.args.text.now r) (sym fails) (desk-refused t h c.args.text.now c.in_err-check_desks.field-0.0 legal rows compared)

pub returns : goal.returns
returns g c =
    let t = c.args.shop.tables in
    let h = c.args.history.now.entries in
    let legal : IsLegal (supply_of t) h = subst (λ (x : Supply). IsLegal x h) c.requires (subst (IsLegal c.args.history.now.supply) c.entries.ensures.entries c.entries.ensures.legal) in
    let rows : All (IsScriptRow t.calendar.weeks t.items) t.script = subst (λ (x : Tables). All (IsScriptRow x.calendar.weeks x.items) x.script) c.tables-tables.ensures.value c.keep_limits.ensures.script in
    let script : c.deref.result.now ≡ with_run (script_of t) = c.deref.ensures.value ∙ c.in_ok-script.ensures in
    let compared : ComparesDesks (asked h) (with_run (script_of t)) (Ok tt) =
    subst (λ (x : Script). ComparesDesks (asked h) x (Ok tt)) script
    (subst (λ (x : History). ComparesDesks (asked x) c.deref.result.now (Ok tt)) c.entries.ensures.entries c.in_ok-check_desks.ensures) in
    let desks : FollowsDesks t h = all-desks t h legal rows compared in
    reports-compared t h c.args.text.now c.check_runs.result desks c.check_runs.ensures
