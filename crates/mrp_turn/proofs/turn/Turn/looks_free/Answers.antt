use Rattle.std.proofs.Common.{[], sym, ap, ◌∙◌, arith}
use Rattle.mrp_turn.proofs.Keeps.{looks}
use Rattle.mrp_turn.proofs.turn.Turn.looks_free.Goals as goal

pub load-found-requires : goal.load-found-requires
load-found-requires g c = let idle = c.requires.idle in (
  c.loop.invariant.same ∙ (c.requires.turn ∙ sym (ap (λ t. t.table) c.self.view_is)),
  omega (arith, c.self.invariant.0),
  rw (c.loop.invariant.me, idle.is) (looks g.O.Object.opens g.O.Object.answers c.self.inside.table.shared.key c.self.inside.table.shared.table_id.slots c.loop.place.id idle.seat []),
)
