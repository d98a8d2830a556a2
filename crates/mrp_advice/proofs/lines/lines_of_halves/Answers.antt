use Rattle.std.proofs.Common.{◌≡◌, ◌∙◌, [], ap₂, Result, subst}
use Rattle.std.specs.Prelude.{IfOk}
use Rattle.mrp_qty.specs.declared.memory.NoMemory.{NoMemory}
use Rattle.mrp_advice.specs.declared.listing.Listing.{Listing}
use Rattle.mrp_advice.specs.Lines.{run_lines}
use Rattle.mrp_advice.specs.Listing.{listed_in, none_listed, with_lines, with_listed}
use Rattle.mrp_advice.proofs.Runs.{lines-of-both}
use Rattle.mrp_advice.proofs.lines.lines_of_halves.Goals as goal

pub returns : goal.returns
returns g c =
    let survey = c.args.survey.now in
    let old = listed_in c.args.lines.now in
    let first : listed_in c.in_ok-all.all ≡ with_lines old (run_lines survey c.args.front.now) =
    subst (λ (r : Result Listing NoMemory). IfOk r (λ own. listed_in own ≡ with_lines old (run_lines survey c.args.front.now))) c.in_ok-all.was c.join-first.ensures.first.1.1 in
    let second : listed_in c.in_ok-behind.behind ≡ with_lines (none_listed []) (run_lines survey c.args.back.now) =
    subst (λ (r : Result Listing NoMemory). IfOk r (λ own. listed_in own ≡ with_lines (none_listed []) (run_lines survey c.args.back.now))) c.in_ok-behind.was c.join-first.ensures.second in
    c.in_ok-append.ensures
    ∙ ap₂ with_listed first second
    ∙ lines-of-both survey old c.args.front.now c.args.back.now c.requires
