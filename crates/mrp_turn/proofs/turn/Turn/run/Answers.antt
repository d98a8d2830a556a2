use Rattle.std.proofs.Common.{ℕ, sym, ap, ◌∙◌, subst, arith}
use Rattle.mrp_turn.specs.Log.{IsReached}
use Rattle.mrp_turn.specs.Steps.{holding}
use Rattle.mrp_turn.proofs.Runs.{ends, tells, Answered, is_at}
use Rattle.mrp_turn.proofs.turn.Turn.run.Goals as goal

pub take-held-requires-clause-idle : goal.take-held-requires-clause-idle
take-held-requires-clause-idle g c = let at = c.requires.seat.0 in record { seat = at.seat; is = at.is; rests = at.rests; about = at.about; numbered = omega (arith, at.number, c.requires.seat.1) }

pub answer-result-requires-clause-state : goal.answer-result-requires-clause-state
answer-result-requires-clause-state g c =
    let ob = g.O.Object in
    let at = c.requires.seat.0 in
    let taken = c.take-held.ensures.taken at.seat at.is in
    let object = ap (λ t. t.about.object) c.self.view_is ∙ ap (λ k. k.object) (sym at.about) in
    subst (λ (o : g.row.O.Denot). IsReached (ob.answers o) (ob.opens o) c.take-held.result.state) (sym object) (taken.0, taken.2.legal)

pub give-requires-clause-holds : goal.give-requires-clause-holds
give-requires-clause-holds g c =
    let ob = g.O.Object in
    let at = c.requires.seat.0 in
    let s = at.seat in
    let taken = c.take-held.ensures.taken s at.is in
    let object = ap (λ t. t.about.object) c.self.view_is ∙ ap (λ k. k.object) (sym at.about) in
    let answered = subst (λ (x : g.row.O.Denot × ℕ). Answered ob.opens ob.answers ob.refuses ob.out_of_memory x.0 x.1 c.args.call c.take-held.result c.answer-result.result c.answer-result.new.held) (λ i. (object i, sym at.number i)) c.answer-result.ensures.answer in
    (holding s taken.0, taken.1, ends ob.opens ob.answers ob.refuses ob.out_of_memory s c.args.call c.take-held.result taken.0 c.answer-result.new.held c.answer-result.result taken.2 c.answer-result.ensures.room at.notes answered)

pub returns-clause-told : goal.returns-clause-told
returns-clause-told g c s e =
    let ob = g.O.Object in
    let at = is_at c.args.self.now.about c.args.number c.args.place.now.me c.requires.seat.0 s e in
    let taken = c.take-held.ensures.taken s e in
    let object = ap (λ t. t.about.object) c.self.view_is ∙ ap (λ k. k.object) (sym at.1) in
    let answered = subst (λ (x : g.row.O.Denot × ℕ). Answered ob.opens ob.answers ob.refuses ob.out_of_memory x.0 x.1 c.args.call c.take-held.result c.answer-result.result c.answer-result.new.held) (λ i. (object i, sym at.2 i)) c.answer-result.ensures.answer in
    tells ob.opens ob.answers ob.refuses ob.out_of_memory s c.args.call c.take-held.result taken.0 c.answer-result.new.held c.answer-result.result taken.2 c.answer-result.ensures.room at.3 answered c.give.new.place.me (c.give.ensures.given (holding s taken.0) taken.1)
