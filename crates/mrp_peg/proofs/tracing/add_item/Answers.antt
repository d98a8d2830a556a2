use Rattle.std.proofs.Common.{rules, ◌≡◌, ◌∙◌, false, sym}
use Rattle.mrp_peg.proofs.Skipped.{untold}
use Rattle.mrp_peg.proofs.tracing.add_item.Goals as goal

pub returns-then-not-contains : goal.returns-then-not-contains
returns-then-not-contains c =
    let none : c.contains.result ≡ false = search rules in
    sym (untold c.args.plan.now.inputs c.args.ends.now.causes.keys c.args.found.now.keys c.args.ends.now.items.keys c.args.item c.requires.among (sym c.contains.ensures ∙ none))
