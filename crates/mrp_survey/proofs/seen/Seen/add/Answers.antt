use Rattle.std.proofs.Common.{◌≡◌, Bool, true, not, Option, Some, None, refl}
use Rattle.std.specs.Prelude.{is_none, is_some}
use Rattle.mrp_survey.proofs.Steps.{key-added}
use Rattle.mrp_survey.proofs.seen.Seen.add.Goals as goal

absent : {X : Type 0} (o : Option X) (b : Bool) → is_some o ≡ not b → b ≡ true → is_none o ≡ true
absent None b e t = refl
absent (Some x) b e t = absurd (let no = rw t at e in cc)

pub returns-in_ok-insert : goal.returns-in_ok-insert
returns-in_ok-insert c =
    let none = absent c.line_of.result c.is_none.result c.is_none.ensures c.if-is_none.true in
    key-added c.args.self.now c.insert.new.self.entries c.args.key c.args.line (rw c.line_of.ensures at none) (rw c.self.view_is at c.in_ok-insert.ensures.entries)
