use Rattle.std.proofs.Common.{◌≡◌, ◌-◌, ◌∙◌, ap, arith, length}
use Rattle.std.proofs.lemmas.List.{length-drop}
use Rattle.mrp_rows.proofs.BracketPlaces.{bracket-behind, none-behind}
use Rattle.mrp_rows.proofs.bundle.bracket_from.Goals as goal

pub returns-in-Some-clause-within : goal.returns-in-Some-clause-within
returns-in-Some-clause-within c =
    let long : length c.split_at.result.1.now ≡ length c.args.bytes.now - c.args.from = ap length c.split_at.ensures.back ∙ length-drop c.args.from c.args.bytes.now in
    omega (arith, c.in-Some.ensures.0.high, long)

pub returns-in-Some-clause-bracket : goal.returns-in-Some-clause-bracket
returns-in-Some-clause-bracket c = λ _. bracket-behind c.args.bytes.now c.split_at.result.1.now c.args.from c.in-Some.gap c.split_at.ensures.back c.in-Some.ensures.1

pub returns-in-Some-clause-none : goal.returns-in-Some-clause-none
returns-in-Some-clause-none c = none-behind c.args.bytes.now c.split_at.result.1.now c.args.from c.in-Some.gap c.split_at.ensures.back c.in-Some.ensures.0.before

pub returns-in-None-clause-none : goal.returns-in-None-clause-none
returns-in-None-clause-none c = λ k low high.
    let rest = c.split_at.result.1.now in
    let long : length rest ≡ length c.args.bytes.now - c.args.from = ap length c.split_at.ensures.back ∙ length-drop c.args.from c.args.bytes.now in
    none-behind c.args.bytes.now rest c.args.from (length rest) c.split_at.ensures.back c.in-None.ensures k low (omega (arith, low, high, long))
