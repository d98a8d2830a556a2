use Rattle.std.proofs.Common.{◌≡◌, ◌∙◌, arith, false, get_or, sym}
use Rattle.mrp_rows.proofs.SplitLines.{opens_line, sections-from}
use Rattle.mrp_rows.proofs.BracketPlaces.{up-to-next}
use Rattle.mrp_rows.proofs.bundle.before_section.Goals as goal

pub loop-at-init : goal.loop-at-init
loop-at-init c = record {
  within = c.bracket_from-at.ensures.within;
  bracket = c.bracket_from-at.ensures.bracket;
  before = λ k below is. absurd (c.bracket_from-at.ensures.none k (omega arith) below is);
}

pub loop-at-preserved : goal.loop-at-preserved
loop-at-preserved c = record {
  within = c.bracket_from-at-in-loop-at.ensures.within;
  bracket = c.bracket_from-at-in-loop-at.ensures.bracket;
  before = up-to-next {P = λ k. get_or c.args.bytes.now k 0 ≡ 91 → opens_line c.args.bytes.now k ≡ false} c.loop-at.at c.bracket_from-at-in-loop-at.result c.loop-at.invariant.before
      (λ _. sym c.begins_line.ensures ∙ c.if-begins_line.false) (λ k low high is. absurd (c.bracket_from-at-in-loop-at.ensures.none k low high is));
}

pub returns-then-begins_line-clause-before : goal.returns-then-begins_line-clause-before
returns-then-begins_line-clause-before c =
    (sections-from c.args.bytes.now c.loop-at.at c.loop-at.invariant.within c.loop-at.invariant.before (λ lt. (c.loop-at.invariant.bracket lt, sym c.begins_line.ensures ∙ c.if-begins_line.true))).0

pub returns-then-begins_line-clause-sections : goal.returns-then-begins_line-clause-sections
returns-then-begins_line-clause-sections c =
    (sections-from c.args.bytes.now c.loop-at.at c.loop-at.invariant.within c.loop-at.invariant.before (λ lt. (c.loop-at.invariant.bracket lt, sym c.begins_line.ensures ∙ c.if-begins_line.true))).1

pub returns-clause-before : goal.returns-clause-before
returns-clause-before c = (sections-from c.args.bytes.now c.loop-at.at c.loop-at.invariant.within c.loop-at.invariant.before (λ lt. absurd (omega (arith, lt, c.loop-at-test.false)))).0

pub returns-clause-sections : goal.returns-clause-sections
returns-clause-sections c = (sections-from c.args.bytes.now c.loop-at.at c.loop-at.invariant.within c.loop-at.invariant.before (λ lt. absurd (omega (arith, lt, c.loop-at-test.false)))).1
