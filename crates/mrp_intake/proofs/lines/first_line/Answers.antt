use Rattle.std.proofs.Common.{◌≡◌, ◌∷◌, ◌∙◌, ℕ, List, length, arith}
use Rattle.std.proofs.lemmas.List.{drop_all, take_all}
use Rattle.mrp_intake.specs.Lines.{lines_of}
use Rattle.mrp_intake.proofs.ToldLines.{first-line, only-line}
use Rattle.mrp_intake.proofs.lines.first_line.Goals as goal

-- the first line and the rest, as they were split
as-split : (text line rest first behind : List ℕ) → lines_of text ≡ line ∷ lines_of rest → first ≡ line → behind ≡ rest → lines_of text ≡ first ∷ lines_of behind
as-split text line rest first behind e f b = rw (f, b) e

pub returns-in-Some-clause-lines : goal.returns-in-Some-clause-lines
returns-in-Some-clause-lines c =
    as-split c.args.text.now _ _ c.split_at.result.0.now c.split_at.result.1.now
    (first-line c.args.text.now c.in-Some.at c.in-Some.ensures.0 c.in-Some.ensures.1) c.split_at.ensures.front c.split_at.ensures.back

pub returns-in-None-clause-lines : goal.returns-in-None-clause-lines
returns-in-None-clause-lines c =
    let n = length c.args.text.now in
    as-split c.args.text.now _ _ c.split_at-in-None.result.0.now c.split_at-in-None.result.1.now
    (only-line c.args.text.now c.requires c.in-None.ensures)
    (c.split_at-in-None.ensures.front ∙ take_all n c.args.text.now (omega arith))
    (c.split_at-in-None.ensures.back ∙ drop_all n c.args.text.now (omega arith))
