use Rattle.std.proofs.Common.{sym, ◌∙◌}
use Rattle.mrp_rows.proofs.CellCuts.{between-quotes}
use Rattle.mrp_rows.proofs.cutting.between_quotes.Goals as goal

pub returns : goal.returns
returns c =
    between-quotes _ _ c.args.spelled.now _ c.in_ok-last.cell.now c.in_ok-first.ensures.cases.0 c.in_ok-last.ensures.cases.0 c.if-first-ne34.false c.if-last-ne34.false
    (sym c.has_quote.ensures ∙ c.if-has_quote.false)
