use Rattle.std.proofs.Common.{◌≡◌, ◌∙◌, ◌≤◌, ◌+◌, ◌-◌, ◌++◌, ℕ, List, true, false, ap, drop, get_or, length, refl, sym, take, arith}
use Rattle.mrp_survey.specs.declared.lines.Reading.{Reading}
use Rattle.mrp_survey.specs.Lines.{lines_from, step_to}
use Rattle.mrp_survey.proofs.FileLines.{all_left, left_next}
use Rattle.mrp_survey.proofs.Steps.{line-most, lines-end, lines-next}
use Rattle.mrp_survey.proofs.lines.record_lines.Goals as goal
use Rattle.mrp_survey.proofs.lines.record_lines.Goals.{then-begins_record+in_ok-push, else-begins_record}

pub skip-requires : goal.skip-requires
skip-requires c =
    let r = c.loop-rest.reading in
    let rest = c.loop-rest.rest.now in
    let long : 1 ≤ length rest = omega (arith, c.in-len1-up.len_at_least) in
    let line : c.after-begun.result.line ≡ (step_to r (get_or rest 0 0)).line = ap (λ (q : Reading). q.line) c.after-begun.ensures in
    omega (arith, line, line-most r (get_or rest 0 0), left_next rest long, c.loop-rest.invariant.small, c.requires)

pub loop-rest-preserved : goal.loop-rest-preserved
loop-rest-preserved c =
    let r = c.loop-rest.reading in
    let rest = c.loop-rest.rest.now in
    let long : 1 ≤ length rest = omega (arith, c.in-len1-up.len_at_least) in
    let line : c.skip.result.0.line ≡ (step_to r (get_or rest 0 0)).line = c.skip.ensures.line ∙ ap (λ (q : Reading). q.line) c.after-begun.ensures in
    let others : List ℕ = take (length rest - 1) (drop 1 rest) in
    let begun : Reading = step_to r (get_or rest 0 0) in
    let skipped = λ (more : List ℕ).
    ap (λ (t : List ℕ). more ++ lines_from begun t) (sym (all_left rest long)) ∙ ap (λ (q : Reading). more ++ lines_from q others) (sym c.after-begun.ensures) ∙ ap (λ (t : List ℕ). more ++ t) c.skip.ensures.lines in
    let small : c.skip.result.0.line + length c.skip.result.1.now ≤ c.args.line + length c.args.text.now = omega (arith, line, line-most r (get_or rest 0 0), left_next rest long, c.skip.ensures.shorter, c.loop-rest.invariant.small) in
    elim c.if-begins_record.branch [
      | then-begins_record+in_ok-push w ↦
          rw w.lines-is (record {
            lines = lines-next r rest _ c.loop-rest.lines.items w.push.new.self.items 0 _ true long refl (sym c.begins_record.ensures ∙ w.if-begins_record.true) w.in_ok-push.ensures.items c.loop-rest.invariant.lines ∙ skipped w.push.new.self.items;
            small = small;
          })
      | else-begins_record w ↦
          rw w.lines-is (record {
            lines = lines-next r rest _ c.loop-rest.lines.items c.loop-rest.lines.items 0 _ false long refl (sym c.begins_record.ensures ∙ w.if-begins_record.false) refl c.loop-rest.invariant.lines ∙ skipped c.loop-rest.lines.items;
            small = small;
          })
    ]

pub returns : goal.returns
returns c = lines-end c.loop-rest.reading c.loop-rest.rest.now _ c.loop-rest.lines.items 0 (omega (arith, c.in_default.len_below)) c.loop-rest.invariant.lines
