use Rattle.std.proofs.Common.{◌∙◌, Some, None}
use Rattle.mrp_inspect.proofs.FirstLines.{tells-so}
use Rattle.mrp_inspect.proofs.first.tells_first.Goals as goal

pub returns-in-Some : goal.returns-in-Some
returns-in-Some c =
    let found = c.args.found.now in
    c.is.ensures
    ∙ tells-so found c.args.survey.now c.args.strays.now c.args.firsts.now c.is_bare.result (Some c.in-Some.own) c.args.fault.now c.requires.strays c.requires.firsts c.is_bare.ensures (c.in-Some.ensures found.path_kind found.others.items)

pub returns-in-None : goal.returns-in-None
returns-in-None c =
    let found = c.args.found.now in
    tells-so found c.args.survey.now c.args.strays.now c.args.firsts.now c.is_bare.result None c.args.fault.now c.requires.strays c.requires.firsts c.is_bare.ensures (c.in-None.ensures found.path_kind found.others.items)
