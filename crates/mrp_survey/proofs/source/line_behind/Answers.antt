use Rattle.std.proofs.Common.{◌≡◌, ◌∙◌, ◌≤◌, true, get_or, length, refl, sym, arith}
use Rattle.mrp_survey.proofs.FileLines.{is-true, left_next, line_end, line_next}
use Rattle.mrp_survey.proofs.Steps.{line-most}
use Rattle.mrp_survey.proofs.source.line_behind.Goals as goal

pub loop-rest-preserved : goal.loop-rest-preserved
loop-rest-preserved c =
    let r = c.loop-rest.reading in
    let rest = c.loop-rest.rest.now in
    let long : 1 ≤ length rest = omega (arith, c.in-len1-up.len_at_least) in
    let ends : c.is_line_end.result ≡ true = first_of (search (c.if-not-is_line_end.false), search (is-true, c.if-not-is_line_end.false), grind (arith, c.if-not-is_line_end.false)) in
    rw (c.after-reading.ensures) (record {
      line = line_next r _ _ rest long refl (sym c.is_line_end.ensures ∙ ends) c.loop-rest.invariant.line;
      small = omega (arith, line-most r (get_or rest 0 0), left_next rest long, c.loop-rest.invariant.small);
    })

pub returns-clause-line : goal.returns-clause-line
returns-clause-line c = line_end c.loop-rest.reading _ c.loop-rest.rest.now (omega (arith, c.in_default.len_below)) c.loop-rest.invariant.line
