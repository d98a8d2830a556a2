use Rattle.std.proofs.Common.{ℕ, List, subst, sym}
use Rattle.mrp_inspect.specs.Warned.{WarnsOf}
use Rattle.mrp_inspect.proofs.inspecting.inspect_accepted.Goals as goal

pub returns : goal.returns
returns g c = λ found. subst (λ (t : List ℕ). WarnsOf c.args.bundle.now c.args.sources.now t) (sym c.in_ok-texts.ensures) c.in_ok-text.ensures
