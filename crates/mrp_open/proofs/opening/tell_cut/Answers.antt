use Rattle.std.proofs.Common.{◌≡◌, ◌∙◌, ◌++◌, ◌∷◌, [], ℕ, List, Option, codes, decimal, subst, sym}
use Rattle.mrp_open.specs.Ends.{IsTold}
use Rattle.mrp_open.specs.Start.{cut_text}
use Rattle.mrp_open.proofs.Told.{is-told}
use Rattle.mrp_open.proofs.opening.tell_cut.Goals as goal

pub returns-in-Some : goal.returns-in-Some
returns-in-Some g c =
    let digits : c.as_bytes.result.now ≡ decimal c.in-Some.number = c.as_bytes.ensures.value ∙ c.format.ensures.text in
    let told = is-told g.E.Write.contents c.args.errors.now c.write_line.new.errors (codes "cut: script " ++ c.as_bytes.result.now ++ 10 ∷ []) c.write_line.result
    c.write_line.ensures.whole c.write_line.ensures.front c.write_line.ensures.gave_up in
    subst (λ (n : Option ℕ). IsTold g.E.Write.contents c.args.errors.now c.write_line.new.errors (cut_text n)) (sym c.in-Some.is)
    (subst (λ (text : List ℕ). IsTold g.E.Write.contents c.args.errors.now c.write_line.new.errors (codes "cut: script " ++ text ++ 10 ∷ [])) digits told)
