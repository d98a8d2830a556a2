use Rattle.std.proofs.Common.{◌≡◌, ◌∙◌, ◌++◌, [], List, Option, None, ap, sym, subst, rules}
use Rattle.std.proofs.lemmas.List.{append-nil}
use Rattle.mrp_peg.specs.declared.peg.Peg.{Peg}
use Rattle.mrp_peg.specs.Left.{IsNext, pegs_left}
use Rattle.mrp_peg.specs.Pegging.{pegs_of}
use Rattle.mrp_peg.specs.Laws.{AddUpToRequirements, AddUpToSupplies}
use Rattle.mrp_peg.proofs.ItemSums.{to-requirements, to-supplies}
use Rattle.mrp_peg.proofs.pegging.item_pegs.Goals as goal

pub returns-clause-requirements : goal.returns-clause-requirements
returns-clause-requirements c =
    let s = c.args.plan.now.inputs in
    let i = c.args.item in
    let none : c.in_ok-peg.field-0 ≡ None = search rules in
    let last : pegs_left c.loop-pegs.walk ≡ [] = (subst (λ (o : Option Peg). IsNext (pegs_left c.loop-pegs.walk) o (pegs_left c.next.new.self)) none c.in_ok-peg.ensures).0 in
    let pegs : c.loop-pegs.pegs.items ≡ pegs_of s i = sym (append-nil c.loop-pegs.pegs.items) ∙ ap (λ (l : List Peg). c.loop-pegs.pegs.items ++ l) (sym last) ∙ c.loop-pegs.invariant in
    subst (AddUpToRequirements s i) (sym pegs) (to-requirements s i c.in_ok-walk.ensures.covered)

pub returns-clause-supplies : goal.returns-clause-supplies
returns-clause-supplies c =
    let s = c.args.plan.now.inputs in
    let i = c.args.item in
    let none : c.in_ok-peg.field-0 ≡ None = search rules in
    let last : pegs_left c.loop-pegs.walk ≡ [] = (subst (λ (o : Option Peg). IsNext (pegs_left c.loop-pegs.walk) o (pegs_left c.next.new.self)) none c.in_ok-peg.ensures).0 in
    let pegs : c.loop-pegs.pegs.items ≡ pegs_of s i = sym (append-nil c.loop-pegs.pegs.items) ∙ ap (λ (l : List Peg). c.loop-pegs.pegs.items ++ l) (sym last) ∙ c.loop-pegs.invariant in
    subst (AddUpToSupplies s i) (sym pegs) (to-supplies s i)
