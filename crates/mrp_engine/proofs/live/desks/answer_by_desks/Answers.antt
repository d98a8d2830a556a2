use Rattle.std.proofs.Common.{◌≡◌, ◌∙◌, rules, subst, sym}
use Rattle.mrp_bill.specs.Shop.{Shop}
use Rattle.mrp_engine.specs.day.Planned.{PlansHistory}
use Rattle.mrp_engine.specs.day.RightDay.{AnswersDesks}
use Rattle.mrp_engine.specs.live.Runs.{AreRunsOf}
use Rattle.mrp_engine.proofs.lemmas.day.DayRuns.{answered-day}
use Rattle.mrp_engine.proofs.lemmas.live.DeskRuns.{runs-of-history}
use Rattle.mrp_engine.proofs.live.desks.answer_by_desks.Goals as goal

pub merge-requires-clause-runs : goal.merge-requires-clause-runs
merge-requires-clause-runs g c =
    let office = c.in_ok-office.office in
    let left = c.in_ok-desks.field-0 in
    let h = c.in_ok-history.history.entries in
    let same : c.in_ok-rows.rows.value ≡ office.about.object = search rules in
    subst (λ (shop : Shop). AreRunsOf shop.tables h left.runs.items) (sym same)
    (runs-of-history office left.desks.items h left.runs.items c.in_ok-desks.ensures.desks c.in_ok-desks.ensures.runs c.in_ok-history.ensures.mine c.in_ok-history.ensures.callers)

pub returns : goal.returns
returns g c =
    let office = c.in_ok-office.office in
    let h = c.in_ok-history.history.entries in
    let same : c.in_ok-rows.rows.value ≡ office.about.object = search rules in
    answered-day AnswersDesks c.args.shop.tables h c.merge.result (subst (λ (shop : Shop). AnswersDesks shop.tables h) c.in_ok-office.ensures.shop c.in_ok-history.ensures.answers)
    (subst (λ (shop : Shop). PlansHistory shop.tables h c.merge.result) (same ∙ c.in_ok-office.ensures.shop) c.merge.ensures.day)
