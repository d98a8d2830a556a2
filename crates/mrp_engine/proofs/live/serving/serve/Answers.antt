use Rattle.std.proofs.Common.{◌≡◌, ◌∙◌, ◌+◌, ◌++◌, ◌∷◌, [], ℕ, List, IfErr, OnErr, ap, arith, drop, subst, take}
use Rattle.std.proofs.lemmas.List.{take_all}
use Rattle.mrp_book.specs.declared.call.Call.{Call}
use Rattle.mrp_book.specs.History.{asked}
use Rattle.mrp_desk.specs.Calls.{HasCause}
use Rattle.mrp_desk.specs.Offices.{supply_at}
use Rattle.mrp_engine.specs.live.DeskCalls.{asks}
use Rattle.mrp_engine.proofs.lemmas.live.DeskRecords.{asks-more, ok-then, parts-at, tells-asked}
use Rattle.mrp_engine.proofs.lemmas.live.DeskRuns.{runs-left}
use Rattle.mrp_engine.proofs.live.serving.serve.Goals as goal

pub make_and_plan-requires-clause-room : goal.make_and_plan-requires-clause-room
make_and_plan-requires-clause-room g c =
    let left = runs-left c.args.calls.now c.loop-call.call-index c.call-item.result c.loop-call-test.true c.call-item.is in
    let room = c.loop-call.invariant.room in
    omega (arith, left, room)

pub loop-call-preserved : goal.loop-call-preserved
loop-call-preserved g c =
    let old = c.args.ready.desk in
    let k = c.loop-call.call-index in
    let kept = c.loop-call.invariant in
    let told = c.make_and_plan.ensures in
    let asks = tells-asked (supply_at c.args.shared.now.office.now) c.call-item.result c.loop-call.desk c.make_and_plan.new.desk c.make_and_plan.result told.call in
    let made = ok-then c.make_and_plan.result _ asks c.in_default.not-Err in
    let left = runs-left c.args.calls.now k c.call-item.result c.loop-call-test.true c.call-item.is in
    let room = kept.room in
    let count = told.count in
    let same = told.room in
    record {
      office = told.call.office ∙ kept.office;
      desk = told.call.desk ∙ kept.desk;
      served = made ∙ ap (λ (n : ℕ). asked c.loop-call.desk.mine ++ (n, c.call-item.result) ∷ []) kept.desk
          ∙ asks-more (asked c.loop-call.desk.mine) (asked old.mine) old.number c.args.calls.now k c.call-item.result kept.served c.loop-call-test.true c.call-item.is;
      runs = told.runs;
      room = omega (arith, left, room, count, same);
    }

pub returns : goal.returns
returns g c =
    let old = c.args.ready.desk in
    let kept = c.loop-call.invariant in
    record {
      made = record {
        office = kept.office;
        desk = kept.desk;
        served = kept.served ∙ ap (λ (calls : List Call). asked old.mine ++ asks old.number calls) (take_all c.loop-call.call-index c.args.calls.now c.loop-call-test.false);
        refused = tt;
      };
      planned = kept.runs;
    }

pub returns-in-Err : goal.returns-in-Err
returns-in-Err g c =
    let calls = c.args.calls.now in
    let k = c.loop-call.call-index in
    let kept = c.loop-call.invariant in
    let told = c.make_and_plan.ensures in
    let unchanged = subst (λ (r : _). OnErr r (c.make_and_plan.new.desk.mine ≡ c.loop-call.desk.mine)) c.in-Err.is told.call.unchanged in
    record {
      made = record {
        office = told.call.office ∙ kept.office;
        desk = told.call.desk ∙ kept.desk;
        served = tt;
        refused = record {
          done = take k calls;
          call = c.call-item.result;
          left = drop (k + 1) calls;
          place = parts-at calls k c.call-item.result c.loop-call-test.true c.call-item.is;
          made = ap asked unchanged ∙ kept.served;
          cause = subst (λ (r : _). IfErr r (HasCause (supply_at c.args.shared.now.office.now) c.call-item.result c.make_and_plan.new.desk.seen)) c.in-Err.is told.call.cause;
        };
      };
      planned = told.runs;
    }
