use Rattle.std.proofs.Common.{◌≡◌, ◌∙◌, ◌++◌, sym, ap}
use Rattle.mrp_tables.specs.Tables.{Tables}
use Rattle.mrp_report.specs.declared.section.peg_shares.Shared.TheVariants as shared
use Rattle.mrp_report.specs.page.CsvCells.{next_cell}
use Rattle.mrp_report.specs.section.PegShares.{shared_cells}
use Rattle.mrp_report.specs.section.SourceText.{source_name, source_word}
use Rattle.mrp_report.proofs.section.pegs.ItemRows.cells.Goals as goal

pub returns : goal.returns
returns c =
    let rows = c.args.self.now in
    let readings = rows.readings.now in
    let group = c.args.group.now in
    let same : readings.pegs.tables.now ≡ readings.names.tables.now = readings.shared ∙ sym readings.named in
    record {
      week = c.in_ok-week.ensures ∙ ap (λ (t : Tables). shared_cells t shared.Week group.week) same;
      source = c.in_ok-source.ensures ∙ ap (λ (t : Tables). next_cell (source_word rows.orders.now group.supply) ++ next_cell (source_name t group.supply)) same;
    }
