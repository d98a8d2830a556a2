use Rattle.std.proofs.Common.{◌≡◌, ◌∙◌, ◌-◌, ◌++◌, ℕ, ap, arith, map}
use Rattle.std.specs.Prelude.{if◌then◌else◌}
use Rattle.std.specs.List.{range_with_len}
use Rattle.mrp_survey.specs.Survey.{missing}
use Rattle.mrp_survey.proofs.Steps.{missing-further, span-of}
use Rattle.mrp_survey.proofs.tables.tell_missing.Goals as goal
use Rattle.mrp_survey.proofs.tables.tell_missing.Goals.{then-form, else-form}

pub loop-number-preserved : goal.loop-number-preserved
loop-number-preserved c = record {
  told = missing-further (missing c.args.form c.args.file) c.args.count c.loop-number.number c.args.findings.now.items c.loop-number.findings.items c.tell_lack.new.findings.items c.loop-number.auto.number c.loop-number.invariant.told c.in_ok-tell_lack.ensures;
  none = λ past. absurd (omega (arith, past, c.loop-number-test.true));
}

pub returns : goal.returns
returns c =
    let count = c.args.count in
    let number = c.loop-number.number in
    let span : number - count ≡ c.if-form.most - count = span-of count number c.if-form.most c.loop-number.auto.number c.loop-number-test.false c.loop-number.auto.number-end c.loop-number.invariant.none in
    let all = c.loop-number.invariant.told ∙ ap (λ (k : ℕ). c.args.findings.now.items ++ map (missing c.args.form c.args.file) (range_with_len count k)) span in
    let most : c.if-form.most ≡ (if c.args.form.has_version then 4 else 3) = elim c.if-form.branch [
      | then-form w ↦ rw w.if-form.true w.most-is
      | else-form w ↦ rw w.if-form.false w.most-is
    ] in
    all ∙ ap (λ (k : ℕ). c.args.findings.now.items ++ map (missing c.args.form c.args.file) (range_with_len count (k - count))) most
