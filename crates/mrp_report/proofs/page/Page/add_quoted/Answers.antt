use Rattle.std.proofs.Common.{◌∙◌, ℕ, List, [], ◌∷◌, ◌++◌, ap, append_assoc, get_or, take}
use Rattle.csv.proofs.WriteFacts.{quoted-step}
use Rattle.csv.specs.Writing.{default_writer, escaped}
use Rattle.mrp_report.proofs.page.Page.add_quoted.Goals as goal

pub loop-byte-init : goal.loop-byte-init
unfolding escaped
loop-byte-init c = c.in_ok-add.ensures

pub loop-byte-preserved : goal.loop-byte-preserved
loop-byte-preserved c =
    let i = c.loop-byte.byte-index in
    let cell = c.args.cell.now in
    let page = c.args.self.now in
    let next : List ℕ = escaped default_writer (get_or cell i 0 ∷ []) in
    c.in_ok-add_escaped.ensures
    ∙ ap (λ (t : List ℕ). t ++ next) c.loop-byte.invariant
    ∙ append_assoc page (34 ∷ escaped default_writer (take i cell)) next
    ∙ ap (λ (t : List ℕ). page ++ t) (quoted-step default_writer 34 cell i c.loop-byte-test.true)
