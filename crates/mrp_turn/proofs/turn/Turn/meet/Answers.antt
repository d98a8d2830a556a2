use Rattle.std.proofs.Common.{[], sym, ap, ◌∙◌, refl, arith}
use Rattle.mrp_turn.specs.Rule.{account, alone, seen_of, mine_of}
use Rattle.mrp_turn.proofs.Keeps.{notes, joins}
use Rattle.mrp_turn.proofs.Seats.{rests, seat_told, noting, note_is, joined_is, is_noting, met}
use Rattle.mrp_turn.proofs.turn.Turn.meet.Goals as goal

pub split_seat-note-requires : goal.split_seat-note-requires
split_seat-note-requires g c = let s = c.other.inside in let m = s.place.me in (
  ap (λ x. x.turn.table) c.other.view_is ∙ (ap (λ t. t.table) c.requires.turn.1 ∙ sym (ap (λ t. t.table) c.self.view_is)),
  omega (arith, c.self.invariant.0),
  rw c.other.invariant.2 (notes g.O.Object.opens g.O.Object.answers c.self.inside.table.shared.key s.place.id (alone s.about.value (account s.number (seen_of m.0) (mine_of m.0))) refl),
)

pub join_seat-requires : goal.join_seat-requires
join_seat-requires g c = let s = c.seat.inside in let m = s.place.me in let o = c.other.inside in let p = o.place.me in
    let own = account s.number (seen_of m.0) (mine_of m.0) in
    let its = account o.number (seen_of p.0) (mine_of p.0) in
    let note = note_is p c.split_seat-note.result.me o.about.value its c.other.invariant.2 c.split_seat-note.ensures.4 in
    let here = ap (λ t. t.table) c.self.view_is in (
      ap (λ x. x.turn.table) c.seat.view_is ∙ (ap (λ t. t.table) c.requires.turn.0 ∙ sym here),
      c.split_seat-note.ensures.3 ∙ (ap (λ x. x.turn.table) c.other.view_is ∙ (ap (λ t. t.table) c.requires.turn.1 ∙ sym here)),
      ap (λ x. x.1) note,
      omega (arith, c.self.invariant.0),
      rw (c.seat.invariant.2, note) (joins g.O.Object.opens g.O.Object.answers c.self.inside.table.shared.key s.place.id c.split_seat-note.result.id (alone s.about.value own) (alone o.about.value (account 0 its.seen [])) refl refl),
    )

pub run-requires-clause-seat : goal.run-requires-clause-seat
run-requires-clause-seat g c = let s = c.seat.inside in let m = s.place.me in let o = c.other.inside in let p = o.place.me in
    let own = account s.number (seen_of m.0) (mine_of m.0) in
    let its = account o.number (seen_of p.0) (mine_of p.0) in
    let note = note_is p c.split_seat-note.result.me o.about.value its c.other.invariant.2 c.split_seat-note.ensures.4 in
    let both = joined_is m c.split_seat-note.result.me c.join_seat.new.seat.me s.about.value o.about.value own its.seen c.seat.invariant.2 note c.join_seat.ensures.2 in
    (is_noting s.about.value own c.join_seat.new.seat.me its.seen both c.args.self.now.about (ap (λ x. x.turn.about) c.seat.view_is ∙ ap (λ t. t.about) c.requires.turn.0), c.seat.invariant.0, c.seat.invariant.1)

pub invariant_of-seat : goal.invariant_of-seat
invariant_of-seat g c = let s = c.seat.inside in let m = s.place.me in let o = c.other.inside in let p = o.place.me in
    let own = account s.number (seen_of m.0) (mine_of m.0) in
    let its = account o.number (seen_of p.0) (mine_of p.0) in
    let note = note_is p c.split_seat-note.result.me o.about.value its c.other.invariant.2 c.split_seat-note.ensures.4 in
    let both = joined_is m c.split_seat-note.result.me c.join_seat.new.seat.me s.about.value o.about.value own its.seen c.seat.invariant.2 note c.join_seat.ensures.2 in
    let told = c.run.ensures.told (noting s.about.value own its.seen) both in
    (c.seat.invariant.0, c.seat.invariant.1, rests s.about.value s.number c.run.new.place.me told.0 told.1 told.2)

pub returns-clause-told : goal.returns-clause-told
returns-clause-told g c = let ob = g.O.Object in let s = c.seat.inside in let m = s.place.me in let o = c.other.inside in let p = o.place.me in
    let own = account s.number (seen_of m.0) (mine_of m.0) in
    let its = account o.number (seen_of p.0) (mine_of p.0) in
    let note = note_is p c.split_seat-note.result.me o.about.value its c.other.invariant.2 c.split_seat-note.ensures.4 in
    let both = joined_is m c.split_seat-note.result.me c.join_seat.new.seat.me s.about.value o.about.value own its.seen c.seat.invariant.2 note c.join_seat.ensures.2 in
    let told = c.run.ensures.told (noting s.about.value own its.seen) both in
    seat_told ob.opens ob.answers ob.refuses ob.out_of_memory c.args.call c.run.result _ c.args.seat.now c.seat.view_is c.args.self.now c.requires.turn.0 s.number c.run.new.place.me told.0 told.1 told.2 told.3

pub returns-clause-met : goal.returns-clause-met
returns-clause-met g c = let s = c.seat.inside in let m = s.place.me in let o = c.other.inside in let p = o.place.me in
    let own = account s.number (seen_of m.0) (mine_of m.0) in
    let its = account o.number (seen_of p.0) (mine_of p.0) in
    let note = note_is p c.split_seat-note.result.me o.about.value its c.other.invariant.2 c.split_seat-note.ensures.4 in
    let both = joined_is m c.split_seat-note.result.me c.join_seat.new.seat.me s.about.value o.about.value own its.seen c.seat.invariant.2 note c.join_seat.ensures.2 in
    let told = c.run.ensures.told (noting s.about.value own its.seen) both in
    met c.run.new.place.me s.about.value s.number told.0 told.1 its.seen c.args.other.now.seen told.2 (ap (λ x. x.seen) c.other.view_is) told.4.0
