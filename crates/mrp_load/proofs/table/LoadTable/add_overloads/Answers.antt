use Rattle.std.proofs.Common.{◌∙◌, ◌<◌, ◌≤◌, ◌+◌, ◌∷◌, ◌++◌, [], ℕ, ap, arith}
use Rattle.mrp_load.specs.Loads.{over}
use Rattle.mrp_load.proofs.Overloads.{over-more, over-same}
use Rattle.mrp_load.proofs.table.LoadTable.add_overloads.Goals as goal
use Rattle.mrp_load.proofs.table.LoadTable.add_overloads.Goals.{then-value-gt0+in_ok-push, else-value-gt0}

pub loop-place-preserved : goal.loop-place-preserved
loop-place-preserved c = elim c.if-value-gt0.branch [
  | then-value-gt0+in_ok-push w ↦
      let above : 0 < over c.args.self.now c.args.centre (c.loop-place.place + 1) = omega (arith, c.value.ensures, c.over-over.ensures, w.if-value-gt0.true) in
      ap (λ v. v.items) w.all-is ∙ w.in_ok-push.ensures.items
      ∙ ap (λ (n : ℕ). c.loop-place.all.items ++ (c.args.centre, c.loop-place.place + 1, n) ∷ []) c.over-over.ensures
      ∙ over-more c.args.self.now c.args.centre c.loop-place.place c.args.all.now.items c.loop-place.all.items c.loop-place.invariant above
  | else-value-gt0 w ↦
      let none : over c.args.self.now c.args.centre (c.loop-place.place + 1) ≤ 0 = omega (arith, c.value.ensures, c.over-over.ensures, w.if-value-gt0.false) in
      ap (λ v. v.items) w.all-is ∙ over-same c.args.self.now c.args.centre c.loop-place.place c.args.all.now.items c.loop-place.all.items c.loop-place.invariant none
]
