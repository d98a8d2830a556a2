use Rattle.mrp_audit.proofs.Shapes.{HasRead}
use Rattle.mrp_audit.proofs.shape.read_history.Given as goal

abbrev pub invariant-loop-number : goal.invariant-loop-number
invariant-loop-number l = HasRead l.shop.tables l.text l.claims.items l.number l.len
