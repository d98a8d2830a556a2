use Rattle.std.proofs.Common.{◌≡◌, ◌∙◌, ◌++◌, take, ap, sym, subst}
use Rattle.mrp_intake.specs.Intake.{IsInLine}
use Rattle.mrp_intake.specs.Lines.{told_lines}
use Rattle.mrp_intake.proofs.ToldLines.{in-append, in-take, told-short}
use Rattle.mrp_intake.proofs.pieces.go_on.Goals as goal

pub returns-clause-same : goal.returns-clause-same
returns-clause-same c = λ after.
    let line = c.args.begun.now.items ++ c.args.more.now in
    let kept : c.truncate.new.self.items ≡ take 4097 line = c.truncate.ensures.items ∙ ap (take 4097) c.in_ok-extend_from_slice.ensures.items in
    told-short line after (in-append c.args.begun.now.items c.args.more.now c.requires.begun c.requires.more) ∙ ap (λ l. told_lines (l ++ after)) (sym kept)

pub returns-clause-within : goal.returns-clause-within
returns-clause-within c =
    let line = c.args.begun.now.items ++ c.args.more.now in
    let kept : c.truncate.new.self.items ≡ take 4097 line = c.truncate.ensures.items ∙ ap (take 4097) c.in_ok-extend_from_slice.ensures.items in
    subst IsInLine (sym kept) (in-take 4097 line (in-append c.args.begun.now.items c.args.more.now c.requires.begun c.requires.more))
