use Rattle.std.proofs.Common.{◌≡◌, Err, Result, arith, rules, subst, sym}
use Rattle.std.specs.Prelude.{⊤}
use Rattle.mrp_master.specs.Supply.{Supply, supply_of}
use Rattle.mrp_book.specs.History.{IsLegal}
use Rattle.mrp_book.proofs.SnapshotBookings.{snapshot-booked}
use Rattle.mrp_item.specs.Inputs.{inputs_of}
use Rattle.mrp_engine.specs.day.Day.{runs_of}
use Rattle.mrp_engine.specs.day.RightDay.{run_report}
use Rattle.mrp_engine.proofs.lemmas.day.RunsPlanned.{not-a-run}
use Rattle.mrp_audit.specs.Parts.{ComparesReports}
use Rattle.mrp_audit.specs.declared.fault.AuditFault.{AuditFault}
use Rattle.mrp_audit.proofs.RunReports.{compared-none, compared-same, end-judged, run-judged, run-stands, stands-within}
use Rattle.mrp_audit.proofs.reports.check_reports.Goals as goal
use Rattle.mrp_audit.proofs.reports.check_reports.Goals.{in-Taken+in_ok-len, in_default}

pub loop-entry-init : goal.loop-entry-init
loop-entry-init g c = compared-none c.args.rows.now.value.tables c.entries-entry-items.result.now c.args.text.now

pub run_front-front-requires-after_bounds : goal.run_front-front-requires-after_bounds
run_front-front-requires-after_bounds g c κs within =
    let t = c.args.rows.now.value.tables in
    let h = c.entries-entry-items.result.now in
    let legal : IsLegal (supply_of t) h = subst (λ (x : Supply). IsLegal x h) c.requires c.entries-entry-items.ensures.legal in
    snapshot-booked (supply_of t) h c.loop-entry.entry-index c.entry-item.result c.in-Taken.snapshot legal c.loop-entry-test.true c.entry-item.is c.in-Taken.is

pub returns-in_err-len : goal.returns-in_err-len
returns-in_err-len g c =
    let t = c.args.rows.now.value.tables in
    let h = c.args.history.now.entries in
    let fails : c.from_residual.result ≡ Err c.in_err-len.field-0.0 = search rules in
    subst (λ (r : Result ⊤ AuditFault). ComparesReports (runs_of t h) c.args.text.now r) (sym fails)
    (run-judged t c.entries-entry-items.result.now h c.loop-entry.entry-index c.entry-item.result c.in-Taken.snapshot c.args.text.now c.loop-entry.left.now c.loop-entry.run c.run_front-front.result c.in_err-len.field-0.0
    c.entries-entry-items.ensures.entries c.loop-entry-test.true c.entry-item.is c.in-Taken.is c.loop-entry.invariant c.run_front-front.ensures c.in_err-len.ensures)

pub split_at-requires : goal.split_at-requires
split_at-requires g c =
    stands-within (run_report (inputs_of c.args.rows.now.value.tables c.in-Taken.snapshot)) c.loop-entry.left.now c.loop-entry.run c.in_ok-len.len c.run_front-front.result c.run_front-front.ensures c.in_ok-len.ensures

pub overflow_add-run : goal.overflow_add-run
overflow_add-run g c = omega (arith, c.loop-entry.invariant.few, c.loop-entry-test.true, c.entries-entry-items.ensures.few)

pub loop-entry-preserved : goal.loop-entry-preserved
loop-entry-preserved g c =
    let t = c.args.rows.now.value.tables in
    let h = c.entries-entry-items.result.now in
    let k = c.loop-entry.entry-index in
    let text = c.args.text.now in
    elim c.match-entry.branch [
      | in-Taken+in_ok-len w ↦
          rw (w.left-is, w.run-is)
          (run-stands t h k c.entry-item.result w.in-Taken.snapshot text c.loop-entry.left.now w.split_at.result.1.now c.loop-entry.run w.in_ok-len.len w.run_front-front.result c.loop-entry-test.true c.entry-item.is
          w.in-Taken.is c.loop-entry.invariant w.run_front-front.ensures w.in_ok-len.ensures w.split_at.ensures.back)
      | in_default w ↦
          rw (w.left-is, w.run-is)
          (compared-same t h k c.entry-item.result text c.loop-entry.left.now c.loop-entry.run c.loop-entry-test.true c.entry-item.is (not-a-run t c.entry-item.result.reply w.in_default.not-Taken)
          c.loop-entry.invariant)
    ]

pub returns : goal.returns
returns g c =
    end-judged c.args.rows.now.value.tables c.entries-entry-items.result.now c.args.history.now.entries c.loop-entry.entry-index c.args.text.now c.loop-entry.left.now c.loop-entry.run c.judge_end.result
    c.entries-entry-items.ensures.entries (omega (arith, c.loop-entry-test.false)) c.loop-entry.invariant c.judge_end.ensures
