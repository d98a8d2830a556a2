use Rattle.std.proofs.Common.{◌≡◌, ◌∙◌, ◌++◌, ◌∷◌, [], ℕ, List, subst}
use Rattle.std.specs.Prelude.{decimal}
use Rattle.mrp_commands.specs.Telling.{Says}
use Rattle.mrp_commands.specs.declared.ending.Ending.TheVariants as end
use Rattle.mrp_main.proofs.check.say_at.Goals as goal

pub returns : goal.returns
returns g c =
    let text : c.as_bytes-number.result.now ≡ decimal c.args.number = c.as_bytes-number.ensures.value ∙ c.format.ensures.text in
    subst (λ (digits : List ℕ). Says g.W.Write.contents c.args.output.now c.say.new.output (c.args.head.now ++ digits ++ 10 ∷ []) end.Wrong c.say.result) text c.say.ensures
