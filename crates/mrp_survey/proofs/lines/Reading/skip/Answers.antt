use Rattle.std.proofs.Common.{◌≡◌, ◌∙◌, false, sym, arith}
use Rattle.mrp_survey.specs.Lines.{is_between}
use Rattle.mrp_survey.proofs.Skipping.{last-special, line-stays, skipped}
use Rattle.mrp_survey.proofs.lines.Reading.skip.Goals as goal

pub returns-in-Some-clause-lines : goal.returns-in-Some-clause-lines
returns-in-Some-clause-lines c =
    let inside : is_between c.args.self.spot ≡ false = sym c.is_between.ensures ∙ c.if-is_between.false in
    rw c.after.ensures
    (skipped c.args.self c.args.bytes.now c.split_at.result.0.now c.split_at.result.1.now c.in-Some.field-0-1.now c.plain_len.result c.in-Some.last.now inside c.plain_len.ensures.plain c.plain_len.ensures.within c.split_at.ensures.front c.split_at.ensures.back
    c.in-Some.ensures.cases.0)

pub returns-in-Some-clause-line : goal.returns-in-Some-clause-line
returns-in-Some-clause-line c =
    rw c.after.ensures
    (line-stays c.args.self c.in-Some.last.now
    (last-special c.args.bytes.now c.split_at.result.0.now c.in-Some.field-0-1.now c.plain_len.result c.in-Some.last.now c.plain_len.ensures.plain c.plain_len.ensures.within c.split_at.ensures.front c.in-Some.ensures.cases.0))

pub after-requires : goal.after-requires
after-requires c = omega (arith, c.in-Some.ensures.cases.1, c.split_at.ensures.front_len, c.plain_len.ensures.within, c.requires)
