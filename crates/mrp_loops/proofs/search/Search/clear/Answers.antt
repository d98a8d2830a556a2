use Rattle.std.proofs.Common.{◌≡◌, ◌-◌, ◌∙◌, ℕ, [], take, refl, ap, subst}
use Rattle.std.proofs.lemmas.List.{append-nil}
use Rattle.mrp_loops.specs.Search.{IsClear}
use Rattle.mrp_loops.proofs.Searches.{all-clear}
use Rattle.mrp_loops.proofs.search.Search.clear.Goals as goal

pub returns : goal.returns
returns c =
    let empty : c.pop.new.self.items ≡ [] = c.in_default.ensures.rest ∙ ap (λ (n : ℕ). take (n - 1) c.loop-met.self.met.items) c.in_default.ensures.cases.0 in
    let before : c.loop-met.self.met.items ≡ [] = c.in_default.ensures.items ∙ append-nil c.pop.new.self.items ∙ empty in
    subst (λ (n : ℕ). IsClear n (record { far = c.loop-met.self.far; met = c.pop.new.self })) c.loop-met.invariant.size
    (all-clear c.loop-met.self (record { far = c.loop-met.self.far; met = c.pop.new.self }) c.loop-met.invariant.listed before refl empty)
