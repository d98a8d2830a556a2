use Rattle.std.proofs.Common.{◌∙◌, ap, sym}
use Rattle.mrp_advice.specs.Lines.{fault_line}
use Rattle.mrp_advice.specs.Listing.{listed_in, with_line}
use Rattle.mrp_advice.proofs.Runs.{begins, finishes, goes-on, no-runs}
use Rattle.mrp_advice.proofs.lines.push_runs.Goals as goal
use Rattle.mrp_advice.proofs.lines.push_runs.Goals.{then-not-follows+in_ok-push_fault, else-not-follows}

pub loop-next-preserved : goal.loop-next-preserved
loop-next-preserved c =
    let survey = c.args.survey.now in
    let first = c.loop-next.first.now in
    let last = c.loop-next.last.now in
    let now = listed_in c.loop-next.lines in
    let k = c.loop-next.next-index in
    let next = c.next-item.result in
    elim c.if-not-follows.branch [
      | then-not-follows+in_ok-push_fault w ↦
          rw (w.lines-is, w.first-is, w.last-is)
          (begins survey now first last _ k _ c.loop-next.invariant (listed_in w.push_fault.new.lines) next c.loop-next-test.true c.next-item.is (sym c.follows.ensures ∙ w.if-not-follows.true)
          (w.in_ok-push_fault.ensures ∙ ap (λ (n : _). with_line now (fault_line survey first n)) w.line.ensures))
      | else-not-follows w ↦
          rw (w.lines-is, w.first-is, w.last-is) (goes-on survey now first last _ k _ c.loop-next.invariant next c.loop-next-test.true c.next-item.is (sym c.follows.ensures ∙ w.if-not-follows.false))
    ]

pub returns : goal.returns
returns c =
    let survey = c.args.survey.now in
    let first = c.loop-next.first.now in
    let now = listed_in c.loop-next.lines in
    finishes survey now first c.loop-next.last.now _ c.loop-next.next-index _ c.loop-next.invariant (listed_in c.push_fault-2.new.lines) c.loop-next-test.false
    (c.in_ok-push_fault-2.ensures ∙ ap (λ (n : _). with_line now (fault_line survey first n)) c.line-2.ensures)

pub returns-in_default : goal.returns-in_default
returns-in_default c = no-runs (listed_in c.args.lines.now) c.args.survey.now c.args.faults.now c.in_default.len_below
