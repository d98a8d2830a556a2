use Rattle.std.proofs.Common.{ℕ, ◌∷◌, Some, Option, sym, ap, ◌∙◌, subst, arith}
use mathlib.Core.Option.{none}
use Rattle.atomic_table.specs.Table.{Me, Allows, step, rest}
use Rattle.mrp_turn.specs.declared.views.View.{View}
use Rattle.mrp_turn.specs.declared.log.Held.{Held}
use Rattle.mrp_turn.specs.Rule.{FollowsRule}
use Rattle.mrp_turn.specs.Steps.{gave}
use Rattle.mrp_turn.proofs.Keeps.{yields}
use Rattle.mrp_turn.proofs.turn.Turn.give.Goals as goal

pub swap-found-requires : goal.swap-found-requires
swap-found-requires g c =
    let opens = g.O.Object.opens in
    let answers = g.O.Object.answers in
    let key = c.self.inside.table.shared.key in
    let seat = c.exchange.new.seat in
    let held = c.args.held in
    let may = c.requires.holds in
    let me = c.exchange.ensures.3 ∙ ap (λ (m : Me (Option (Held g.row.O-State.Denot g.row.O-Call.Denot g.row.O-Reply.Denot)) (View g.row.O.Denot g.row.O-Call.Denot g.row.O-Reply.Denot)). (m.0, (0, Some held) ∷ rest m.1)) may.1 in (
      c.exchange.ensures.0 ∙ (c.requires.turn ∙ sym (ap (λ t. t.table) c.self.view_is)),
      omega (arith, c.self.invariant.0),
      subst (λ (x : ℕ × Me (Option (Held g.row.O-State.Denot g.row.O-Call.Denot g.row.O-Reply.Denot)) (View g.row.O.Denot g.row.O-Call.Denot g.row.O-Reply.Denot)). Allows (FollowsRule opens answers key) x.0 seat.id x.1 0 (λ _. 0) (gave (step x.0 0 0 0 none) x.1))
          (λ i. (sym c.self.invariant.1 i, sym me i))
          (yields opens answers key seat.id may.0 held may.2.added may.2.holds may.2.goes_on may.2.own may.2.notes may.2.legal may.2.room),
    )
