use Rattle.std.proofs.Common.{◌≡◌, ◌∙◌, Err, List, Vec, ap, arith, map, rules, subst, sym}
use Rattle.std.specs.Prelude.{All}
use Rattle.std.specs.declared.alloc.Global.{Global}
use Rattle.mrp_tables.specs.Facts.{IsScriptRow}
use Rattle.mrp_tables.specs.Tables.{Tables}
use Rattle.mrp_tables.specs.declared.rows.ScriptRow.{ScriptRow}
use Rattle.mrp_desk.specs.Offices.{Desk}
use Rattle.mrp_script.specs.Script.{record_of, script_of, with_run}
use Rattle.mrp_engine.specs.live.Desks.{AreDesksOf, HaveServed}
use Rattle.mrp_engine.specs.live.Runs.{HaveRuns, RunResult}
use Rattle.mrp_script.proofs.ScriptCalls.{call-fits}
use Rattle.mrp_engine.proofs.lemmas.live.DeskHistories.{run-fewer}
use Rattle.mrp_engine.proofs.lemmas.live.DeskLists.{lent-back, refused-more}
use Rattle.mrp_engine.proofs.lemmas.live.Parting.{End}
use Rattle.mrp_engine.proofs.live.desks.serve_day.Goals as goal
use Rattle.mrp_engine.proofs.live.desks.serve_day.Goals.{in-Ok, in-Err}

pub serve_script-requires-clause-fits : goal.serve_script-requires-clause-fits
serve_script-requires-clause-fits g c κs alive k d within =
    let t = c.args.shared.office.now.about.object.tables in
    let same : c.tables.result.now ≡ t = search rules in
    let rows : All (IsScriptRow t.calendar.weeks t.items) c.script-script.result.now =
    subst (λ (x : Tables). All (IsScriptRow x.calendar.weeks x.items) c.script-script.result.now) same c.script-script.ensures.within in
    call-fits t _ (rows k d within).call

pub returns-clause-desks : goal.returns-clause-desks
returns-clause-desks g c =
    let office = c.args.shared.office.now in
    let Are : Vec Desk Global → Type 0 = λ desks. AreDesksOf office desks.items in
    let lent = c.in_ok-desks.field-0.desks in
    let are = c.in_ok-desks.ensures.desks in
    let before = are.count in
    elim c.match-end.branch [
      | in-Ok w ↦
          let after = w.add_run-end.ensures.desks.count in
          let back = lent-back lent.len lent.items w.add_run-end.new.desks (omega (arith, before, after)) (omega (arith, lent.ok.0)) in
          subst Are (sym w.desks-is) (subst (AreDesksOf office) (sym back) w.add_run-end.ensures.desks)
      | in-Err w ↦ subst Are (sym w.desks-is) are
    ]

pub returns-clause-served : goal.returns-clause-served
returns-clause-served g c =
    let t = c.args.shared.office.now.about.object.tables in
    let all = with_run (script_of t) in
    let script : c.script-script.result.now ≡ t.script = search rules in
    let lent = c.in_ok-desks.field-0.desks in
    let before = c.in_ok-desks.ensures.desks.count in
    elim c.match-end.branch [
      | in-Ok w ↦
          let after = w.add_run-end.ensures.desks.count in
          let back = lent-back lent.len lent.items w.add_run-end.new.desks (omega (arith, before, after)) (omega (arith, lent.ok.0)) in
          let served : HaveServed all w.add_run-end.new.desks w.add_run-end.result =
          subst (λ (rows : List ScriptRow). HaveServed (with_run (map record_of rows)) w.add_run-end.new.desks w.add_run-end.result) script w.add_run-end.ensures.served in
          subst (λ (end : End). HaveServed all c.match-end.desks.items end) (sym w.end-is)
          (subst (λ (desks : Vec Desk Global). HaveServed all desks.items w.add_run-end.result) (sym w.desks-is)
          (subst (λ (desks : List Desk). HaveServed all desks w.add_run-end.result) (sym back) served))
      | in-Err w ↦
          let told = subst (λ (rows : List ScriptRow). HaveServed (map record_of rows) lent.items c.in_ok-desks.field-0.end) script c.in_ok-desks.ensures.served in
          let is : ◌≡◌ {A = End} c.in_ok-desks.field-0.end (Err w.in-Err.refused) = first_of (search rules, cc) in
          let refused = subst (λ (end : End). HaveServed (script_of t) lent.items end) is told in
          subst (λ (end : End). HaveServed all c.match-end.desks.items end) (sym w.end-is)
          (subst (λ (desks : Vec Desk Global). HaveServed all desks.items {U = Unit {0}} (Err w.in-Err.refused)) (sym w.desks-is)
          (refused-more (script_of t) all lent.items w.in-Err.refused (run-fewer (script_of t)) refused))
    ]

pub returns-clause-runs : goal.returns-clause-runs
returns-clause-runs g c =
    let office = c.args.shared.office.now in
    let lent = c.in_ok-desks.field-0.desks in
    let lists = c.in_ok-desks.field-0.runs in
    let have = c.in_ok-desks.ensures.runs in
    let before = c.in_ok-desks.ensures.desks.count in
    let many = have.count in
    elim c.match-end.branch [
      | in-Ok w ↦
          let after = w.add_run-end.ensures.desks.count in
          let size = w.add_run-end.ensures.runs.count in
          let back = lent-back lent.len lent.items w.add_run-end.new.desks (omega (arith, before, after)) (omega (arith, lent.ok.0)) in
          let given = lent-back lists.len lists.items w.add_run-end.new.runs (omega (arith, before, after, many, size)) (omega (arith, lists.ok.0)) in
          let desks : c.match-end.desks.items ≡ w.add_run-end.new.desks = ap (λ (v : Vec Desk Global). v.items) w.desks-is ∙ back in
          let runs : c.match-end.runs.items ≡ w.add_run-end.new.runs = ap (λ (v : Vec (Vec RunResult Global) Global). v.items) w.runs-is ∙ given in
          subst (λ (ds : List Desk). HaveRuns office ds c.match-end.runs.items) (sym desks) (subst (HaveRuns office w.add_run-end.new.desks) (sym runs) w.add_run-end.ensures.runs)
      | in-Err w ↦
          subst (λ (runs : Vec (Vec RunResult Global) Global). HaveRuns office c.match-end.desks.items runs.items) (sym w.runs-is)
          (subst (λ (desks : Vec Desk Global). HaveRuns office desks.items lists.items) (sym w.desks-is) have)
    ]
