use Rattle.std.proofs.Common.{◌≡◌, ◌∙◌, ap, rules, subst, sym}
use Rattle.std.proofs.Crossing.{crosses}
use denote.Param.Send.{sendable}
use Rattle.mrp_tables.specs.Tables.{Tables}
use Rattle.mrp_bill.specs.Shop.{Shop}
use Rattle.mrp_master.specs.Supply.{supply_of}
use Rattle.mrp_script.specs.Script.{AnswersScript}
use Rattle.mrp_engine.specs.day.Planned.{PlansDay, PlansHistory}
use Rattle.mrp_engine.proofs.lemmas.day.DayRuns.{answered-day}
use Rattle.mrp_engine.proofs.day.run.plan_day.Goals as goal

pub plan_history-requires : goal.plan_history-requires
plan_history-requires g c = (
  search (sendable, crosses) depth 40,
  (c.in_ok-history.ensures.supply ∙ ap (λ (s : Shop). supply_of s.tables) (sym c.in_ok-history.ensures.rows), c.requires.workers),
)

pub returns : goal.returns
returns g c =
    let t = c.in_ok-shop.shop.value.tables in
    let h = c.in_ok-history.history.entries in
    let same : t ≡ c.args.shop.tables = search rules in
    subst (λ (x : Tables). PlansDay AnswersScript x c.plan_history.result) same
    (answered-day AnswersScript t h c.plan_history.result c.in_ok-history.ensures.answers
    (subst (λ (s : Shop). PlansHistory s.tables h c.plan_history.result) c.in_ok-history.ensures.rows c.plan_history.ensures))
