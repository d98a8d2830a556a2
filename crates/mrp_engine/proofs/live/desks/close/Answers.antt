use Rattle.std.proofs.Common.{◌≡◌, ℕ, Err, OnOk, arith, rules, subst}
use Rattle.std.specs.Prelude.{All}
use Rattle.std.proofs.lemmas.List.{length-map}
use Rattle.mrp_turn.proofs.Callers.{in_order}
use Rattle.mrp_master.specs.Supply.{Supply}
use Rattle.mrp_book.specs.declared.call.Call.{Call}
use Rattle.mrp_book.specs.declared.refused.Refused.TheVariants.{Full}
use Rattle.mrp_book.specs.History.{IsLegal, asked}
use Rattle.mrp_engine.specs.day.RightDay.{asked_by}
use Rattle.mrp_script.specs.Script.{record_of, script_of, with_run}
use Rattle.mrp_engine.proofs.lemmas.live.DeskHistories.{all-wide, follows, never-full, run-adds}
use Rattle.mrp_engine.proofs.lemmas.live.Parting.{End}
use Rattle.mrp_engine.proofs.live.desks.close.Goals as goal

pub close-history-requires-clause-all : goal.close-history-requires-clause-all
close-history-requires-clause-all c =
    in_order c.args.desks.items c.args.office.about.seats c.requires.desks.count (λ k d within. c.requires.desks.numbers k d (let count = c.requires.desks.count in omega (arith, within, count)))

pub unreachable-requires : goal.unreachable-requires
unreachable-requires c =
    let t = c.args.office.about.object.tables in
    let h = c.close-history.result.entries in
    let wide = all-wide c.args.office.about.seats t.script c.requires.rows c.requires.count.all c.requires.count.some in
    let adds = run-adds (script_of t) in
    let rows = length-map {B = ℕ × Call} t.script record_of in
    let few = c.requires.few in
    let full : c.args.end ≡ Err Full = search rules in
    never-full c.args.office c.args.desks.items h (with_run (script_of t)) c.requires.desks c.close-history.ensures.mine c.close-history.ensures.callers wide c.requires.served.few
    c.close-history.ensures.seen (omega (arith, adds, rows, few)) (c.requires.served.full full)

pub returns-in-Ok-clause-answers : goal.returns-in-Ok-clause-answers
returns-in-Ok-clause-answers c =
    let t = c.args.office.about.object.tables in
    let h = c.close-history.result.entries in
    let wide = all-wide c.args.office.about.seats t.script c.requires.rows c.requires.count.all c.requires.count.some in
    let served = subst (λ (r : End). OnOk r (All (λ d. asked d.mine ≡ asked_by d.number (with_run (script_of t))) c.args.desks.items)) c.in-Ok.is c.requires.served.served in
    record {
      legal = subst (λ (s : Supply). IsLegal s h) c.close-history.ensures.supply c.close-history.ensures.legal;
      by_desk = follows c.args.office c.args.desks.items h (with_run (script_of t)) c.requires.desks c.close-history.ensures.mine c.close-history.ensures.callers wide served;
    }
