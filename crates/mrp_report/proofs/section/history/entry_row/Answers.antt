use Rattle.std.proofs.Common.{◌≡◌, ◌++◌, List, ℕ, subst, rules}
use Rattle.std.specs.Prelude.{OnOk}
use Rattle.mrp_report.proofs.section.history.entry_row.Goals as goal

pub returns : goal.returns
returns c =
    let Adds : List ℕ → Type 0 = λ text. OnOk c.line.result (c.line.new.self ≡ c.args.page.now ++ text) in
    subst Adds c.entry_line.ensures (search rules)
