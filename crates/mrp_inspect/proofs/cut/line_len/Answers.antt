use Rattle.std.proofs.Common.{arith, length, ◌∙◌, sym, add-one}
use Rattle.std.proofs.lemmas.List.{take_all, drop_all}
use Rattle.mrp_rows.specs.Bundle.{lines_of}
use Rattle.mrp_rows.proofs.SplitLines.{line-cut, line-all}
use Rattle.mrp_inspect.proofs.cut.line_len.Goals as goal

pub returns-then-is_line_end-clause-line : goal.returns-then-is_line_end-clause-line
returns-then-is_line_end-clause-line c =
    rw add-one (line-cut c.args.bytes.now c.loop-at.at c.loop-at-test.true c.loop-at.invariant (sym c.is_line_end.ensures ∙ c.if-is_line_end.true))

pub returns-clause-line : goal.returns-clause-line
unfolding lines_of
returns-clause-line c =
    let t = c.args.bytes.now in
    let e = line-all t c.requires (λ k h. c.loop-at.invariant k (omega arith)) in
    rw (take_all (length t) t (omega arith), drop_all (length t) t (omega arith)) e
