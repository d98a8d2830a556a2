use Rattle.std.proofs.Common.{◌≡◌, ◌++◌, ◌∷◌, [], List, sym, ap, ◌∙◌, refl, arith, subst, append-nil, append_assoc}
use Rattle.std.proofs.lemmas.List.{nil_from_length}
use Rattle.mrp_turn.specs.Rule.{account, alone}
use Rattle.mrp_turn.specs.Seen.{Seated}
use Rattle.mrp_turn.specs.Calls.{StandsFor}
use Rattle.mrp_turn.proofs.Keeps.{joins}
use Rattle.mrp_turn.proofs.Gathers.{begins, gathers, moved}
use Rattle.mrp_turn.proofs.turn.Turn.gather.Goals as goal

pub loop-next-init : goal.loop-next-init
loop-next-init g c = let made = c.into_place-place.ensures in record {
  same = made.0 ∙ ap (λ t. t.table) c.requires.turn.0;
  stands = ([], sym (append-nil c.args.others.items), begins c.args.self.now.about c.args.first c.into_place-place.result.me made.2 made.1 (ap (λ t. t.about) c.requires.turn.0));
}

pub join_seat-requires : goal.join_seat-requires
join_seat-requires g c =
    let stands = c.loop-next.invariant.stands.2 in
    let made = c.into_place.ensures in
    let turn = moved c.args.self.now c.args.others.items c.loop-next.others.items c.loop-next.invariant.stands.0 c.pop.new.self.items c.in-Some.next c.loop-next.invariant.stands.1 c.in-Some.ensures.items c.requires.turn.1 in
    let here = ap (λ t. t.table) c.self.view_is in (
      c.loop-next.invariant.same ∙ sym here,
      made.0 ∙ (ap (λ t. t.table) turn ∙ sym here),
      ap (λ x. x.1) made.2,
      omega (arith, c.self.invariant.0),
      rw (stands.is, made.2) (joins g.O.Object.opens g.O.Object.answers c.self.inside.table.shared.key c.loop-next.place.id c.into_place.result.id stands.seat (alone c.in-Some.next.turn.about (account c.in-Some.next.number c.in-Some.next.seen c.in-Some.next.mine)) stands.rests refl),
    )

pub loop-next-preserved : goal.loop-next-preserved
loop-next-preserved g c =
    let stands = c.loop-next.invariant.stands in
    let made = c.into_place.ensures in record {
      same = c.join_seat.ensures.0 ∙ c.loop-next.invariant.same;
      stands = (
        c.in-Some.next ∷ stands.0,
        stands.1 ∙ (ap (λ l. l ++ stands.0) c.in-Some.ensures.items ∙ append_assoc c.pop.new.self.items (c.in-Some.next ∷ []) stands.0),
        gathers c.args.self.now.about c.in-Some.next.turn.about c.args.first c.in-Some.next stands.0 c.loop-next.place.me c.into_place.result.me c.join_seat.new.seat.me stands.2 made.2 c.join_seat.ensures.2,
      );
    }

pub returns-clause-all : goal.returns-clause-all
returns-clause-all g c = let stands = c.loop-next.invariant.stands in
    let none : c.loop-next.others.items ≡ [] = nil_from_length c.loop-next.others.items (omega (arith, c.loop-next.others.ok.0, c.in_default.ensures.cases.0)) in
    let all : c.args.others.items ≡ stands.0 = stands.1 ∙ ap (λ l. l ++ stands.0) none in
    subst (λ (l : List (Seated g.row.O.Denot g.row.O-Call.Denot g.row.O-Reply.Denot)). StandsFor c.args.self.now.about (c.args.first ∷ l) c.loop-next.place.me) (sym all) stands.2
