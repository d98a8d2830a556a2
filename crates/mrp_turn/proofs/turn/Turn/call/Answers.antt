use Rattle.std.proofs.Common.{ap, ◌∙◌}
use Rattle.mrp_turn.specs.Rule.{account, alone, seen_of, mine_of}
use Rattle.mrp_turn.proofs.Seats.{rests, is_seat, seat_told}
use Rattle.mrp_turn.proofs.turn.Turn.call.Goals as goal

pub run-requires-clause-seat : goal.run-requires-clause-seat
run-requires-clause-seat g c = let s = c.seat.inside in let m = s.place.me in
    (is_seat s.about.value s.number m (seen_of m.0) (mine_of m.0) c.seat.invariant.2 c.args.self.now.about (ap (λ x. x.turn.about) c.seat.view_is ∙ ap (λ t. t.about) c.requires.turn), c.seat.invariant.0, c.seat.invariant.1)

pub invariant_of-seat : goal.invariant_of-seat
invariant_of-seat g c = let s = c.seat.inside in let m = s.place.me in let told = c.run.ensures.told (alone s.about.value (account s.number (seen_of m.0) (mine_of m.0))) c.seat.invariant.2 in
    (c.seat.invariant.0, c.seat.invariant.1, rests s.about.value s.number c.run.new.place.me told.0 told.1 told.2)

pub returns-clause-told : goal.returns-clause-told
returns-clause-told g c = let ob = g.O.Object in let s = c.seat.inside in let m = s.place.me in let told = c.run.ensures.told (alone s.about.value (account s.number (seen_of m.0) (mine_of m.0))) c.seat.invariant.2 in
    seat_told ob.opens ob.answers ob.refuses ob.out_of_memory c.args.call c.run.result _ c.args.seat.now c.seat.view_is c.args.self.now c.requires.turn s.number c.run.new.place.me told.0 told.1 told.2 told.3
