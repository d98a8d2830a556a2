use Rattle.std.proofs.Common.{ℕ, List, ◌++◌, decimal, sym, subst}
use Rattle.mrp_report.specs.declared.section.peg_shares.Shared.{Shared}
use Rattle.mrp_report.specs.page.CsvCells.{next_cell}
use Rattle.mrp_report.specs.page.Put.{IsPut}
use Rattle.mrp_report.specs.section.PegShares.{shared_cells}
use Rattle.mrp_report.proofs.lemmas.page.Puts.{put_then}
use Rattle.mrp_report.proofs.section.peg_shares.put_shared.Goals as goal

pub returns-in-Week-clause-put : goal.returns-in-Week-clause-put
returns-in-Week-clause-put c =
    subst (λ (what : Shared). IsPut c.args.text.now c.put_word.new.text 0 (shared_cells c.args.names.now.tables.now what c.args.number) c.put_word.result) (sym c.in-Week.is)
    (put_then c.put_number-end.ensures.put c.put_word.ensures.put)

pub returns-in-Line-clause-put : goal.returns-in-Line-clause-put
returns-in-Line-clause-put c =
    subst (λ (what : Shared). IsPut c.args.text.now c.put_number.new.text 0 (shared_cells c.args.names.now.tables.now what c.args.number) c.put_number.result) (sym c.in-Line.is)
    (subst (λ (name : List ℕ). IsPut c.args.text.now c.put_number.new.text 0 (next_cell name ++ next_cell (decimal c.args.number)) c.put_number.result) c.parent.ensures
    (put_then c.put_next-end.ensures.put c.put_number.ensures.put))

pub returns-in-Order-clause-put : goal.returns-in-Order-clause-put
returns-in-Order-clause-put c =
    subst (λ (what : Shared). IsPut c.args.text.now c.put_number-in-Order.new.text 0 (shared_cells c.args.names.now.tables.now what c.args.number) c.put_number-in-Order.result) (sym c.in-Order.is)
    (subst (λ (word : List ℕ). IsPut c.args.text.now c.put_number-in-Order.new.text 0 (next_cell word ++ next_cell (decimal c.args.number)) c.put_number-in-Order.result) c.kind_word.ensures
    (put_then c.put_word-end.ensures.put c.put_number-in-Order.ensures.put))
