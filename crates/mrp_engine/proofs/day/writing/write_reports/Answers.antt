use Rattle.std.proofs.Common.{◌≡◌, ◌∙◌, ◌+◌, List, ◌++◌, Option, Result, Err, ap, drop, inl, inr, refl, rules, subst, sym, take, take_all, ℕ}
use Rattle.std.proofs.Crossing.{crosses}
use denote.Param.Send.{sendable}
use Rattle.std.specs.Prelude.{All, IfSome}
use Rattle.mrp_master.specs.Supply.{Supply, supply_of}
use Rattle.mrp_book.specs.History.{IsLegal}
use Rattle.mrp_book.specs.Standing.{History}
use Rattle.mrp_book.proofs.SnapshotBookings.{snapshot-booked}
use Rattle.mrp_item.specs.Inputs.{Inputs, inputs_of}
use Rattle.mrp_item.specs.Places.{WholePlan}
use Rattle.mrp_report.specs.ReportText.{report_text}
use Rattle.mrp_engine.specs.day.Day.{IsPlannable, runs_of}
use Rattle.mrp_report.specs.Taken.{HasTakenAll}
use Rattle.mrp_report.proofs.TakenAll.{all-both, all-none}
use Rattle.mrp_engine.specs.day.Run.{WritesText}
use Rattle.mrp_engine.specs.day.RunPlans.{IsOfFirst, IsOfShop}
use Rattle.mrp_engine.specs.declared.day.fault.DayFault.{DayFault}
use Rattle.mrp_engine.proofs.lemmas.day.DayReports.{IsReady, made-is-next, reports, reports-around, reports-more, reports-same, run-plannable, still-ready}
use Rattle.mrp_engine.proofs.lemmas.day.DayWritten.{all-written, stopped-more, written-then}
use Rattle.mrp_engine.proofs.lemmas.day.RunsPlanned.{not-a-run}
use Rattle.mrp_engine.proofs.day.writing.write_reports.Goals as goal
use Rattle.mrp_engine.proofs.day.writing.write_reports.Goals.{in-Taken+in_ok-plan, in_default}

pub write_run-requires : goal.write_run-requires
write_run-requires g c =
    let t = c.args.day.rows.value.tables in
    let h = c.entries-entry-items.result.now in
    let k = c.loop-entry.entry-index in
    let given = c.args.day.history.entries in
    let same : given ≡ h = sym c.entries-entry-items.ensures.entries in
    let legal : IsLegal (supply_of t) h = subst (λ (x : Supply). IsLegal x h) c.requires.planned.supply c.entries-entry-items.ensures.legal in
    let first : IsOfFirst (runs_of t h) c.args.day.first = subst (λ (x : History). IsOfFirst (runs_of t x) c.args.day.first) same c.requires.planned.first in
    let made = made-is-next t h c.args.day.first k c.entry-item.result c.in-Taken.snapshot c.loop-entry.made c.loop-entry-test.true c.entry-item.is c.in-Taken.is first c.loop-entry.invariant.ready in (
      search (sendable, crosses) depth 40,
      (
        snapshot-booked (supply_of t) h k c.entry-item.result c.in-Taken.snapshot legal c.loop-entry-test.true c.entry-item.is c.in-Taken.is,
        (
          c.requires.workers,
          (
            subst (λ (m : Option WholePlan). IfSome m (λ p. p.inputs ≡ inputs_of t c.in-Taken.snapshot)) (sym c.take.ensures.value) made,
            (
              subst (IsOfShop t) (sym c.as_ref.ensures.value) c.loop-entry.invariant.last,
              run-plannable t h k c.entry-item.result c.in-Taken.snapshot c.loop-entry-test.true c.entry-item.is c.in-Taken.is
                  (subst (λ (x : History). All IsPlannable (runs_of t x)) same c.requires.planned.plannable),
            ),
          ),
        ),
      ),
    )

pub loop-entry-init : goal.loop-entry-init
loop-entry-init g c = record { taken = all-none g.W.Write.contents c.args.writer.now; last = tt; ready = inr (refl, refl) }

pub returns-in_err-plan : goal.returns-in_err-plan
returns-in_err-plan g c =
    let contents = g.W.Write.contents in
    let old = c.args.writer.now in
    let mid = c.loop-entry.writer in
    let new = c.write_run.new.writer in
    let t = c.args.day.rows.value.tables in
    let h = c.entries-entry-items.result.now in
    let k = c.loop-entry.entry-index in
    let text = report_text (inputs_of t c.in-Taken.snapshot) in
    let rest = reports t (drop (k + 1) h) in
    let f = c.in_err-plan.field-0.0 in
    let fails : c.from_residual.result ≡ Err f = search rules in
    let stop : WritesText {X = WholePlan} contents mid new text (Err f) = c.in_err-plan.ensures.text in
    let all : WritesText {X = Unit {0}} contents old new (reports t (take k h) ++ (text ++ rest)) (Err f) =
    written-then contents old mid new (reports t (take k h)) (text ++ rest) (Err f) c.loop-entry.invariant.taken (stopped-more (Unit {0}) contents mid new text rest f stop) in
    let whole : WritesText {X = Unit {0}} contents old new (reports t h) (Err f) =
    subst (λ (x : List ℕ). WritesText {X = Unit {0}} contents old new x (Err f)) (sym (reports-around t h k c.entry-item.result c.in-Taken.snapshot c.loop-entry-test.true c.entry-item.is c.in-Taken.is)) all in
    subst (λ (r : Result (Unit {0}) DayFault). WritesText contents old new (reports t c.args.day.history.entries) r) (sym fails)
    (subst (λ (x : History). WritesText {X = Unit {0}} contents old new (reports t x) (Err f)) c.entries-entry-items.ensures.entries whole)

pub loop-entry-preserved : goal.loop-entry-preserved
loop-entry-preserved g c =
    let contents = g.W.Write.contents in
    let old = c.args.writer.now in
    let mid = c.loop-entry.writer in
    let t = c.args.day.rows.value.tables in
    let h = c.entries-entry-items.result.now in
    let k = c.loop-entry.entry-index in
    let first = c.args.day.first in
    elim c.match-entry.branch [
      | in-Taken+in_ok-plan w ↦
          let text = report_text (inputs_of t w.in-Taken.snapshot) in
          let taken : HasTakenAll contents mid w.write_run.new.writer text = w.in_ok-plan.ensures.text.whole in
          let both : HasTakenAll contents old w.write_run.new.writer (reports t (take (k + 1) h)) =
          subst (λ (x : List ℕ). HasTakenAll contents old w.write_run.new.writer x) (sym (reports-more t h k c.entry-item.result w.in-Taken.snapshot c.loop-entry-test.true c.entry-item.is w.in-Taken.is))
          (all-both contents old mid w.write_run.new.writer (reports t (take k h)) text c.loop-entry.invariant.taken taken) in
          record {
            taken = subst (λ (x : _). HasTakenAll contents old x (reports t (take (k + 1) h))) (sym w.writer-is) both;
            last = subst (IsOfShop t) (sym w.last-is) (ap (λ (s : Inputs). s.tables) w.in_ok-plan.ensures.plan);
            ready = subst (λ (m : Option WholePlan). IsReady t h first (k + 1) m) (sym w.made-is) (inl w.take.ensures.after);
          }
      | in_default w ↦
          let none = not-a-run t c.entry-item.result.reply w.in_default.not-Taken in
          record {
            taken = subst (λ (x : _). HasTakenAll contents old x (reports t (take (k + 1) h))) (sym w.writer-is)
                (subst (λ (x : List ℕ). HasTakenAll contents old mid x) (sym (reports-same t h k c.entry-item.result c.loop-entry-test.true c.entry-item.is none)) c.loop-entry.invariant.taken);
            last = subst (IsOfShop t) (sym w.last-is) c.loop-entry.invariant.last;
            ready = subst (λ (m : Option WholePlan). IsReady t h first (k + 1) m) (sym w.made-is) (still-ready t h first k c.entry-item.result c.loop-entry.made c.loop-entry-test.true c.entry-item.is none c.loop-entry.invariant.ready);
          }
    ]

pub returns : goal.returns
returns g c =
    let contents = g.W.Write.contents in
    let old = c.args.writer.now in
    let new = c.loop-entry.writer in
    let t = c.args.day.rows.value.tables in
    all-written contents old new (reports t c.args.day.history.entries)
    (subst (λ (x : History). HasTakenAll contents old new (reports t x)) (take_all c.loop-entry.entry-index c.entries-entry-items.result.now c.loop-entry-test.false ∙ c.entries-entry-items.ensures.entries) c.loop-entry.invariant.taken)
