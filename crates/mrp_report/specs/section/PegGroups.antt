-- The rows of a group of pegs.
use Rattle.std.specs.Prelude.{ℕ, ◌≡◌, List, ◌++◌}
use Rattle.mrp_tables.specs.Tables.{Tables}
use Rattle.mrp_item.specs.declared.order.Order.{Order}
use Rattle.mrp_peg.specs.declared.matching.Requirement.{Requirement}
use Rattle.mrp_peg.specs.declared.peg_group.PegGroup.{PegGroup}
use Rattle.mrp_peg.specs.Groups.{group_peg}
use Rattle.mrp_report.specs.declared.section.peg_shares.Shared.TheVariants as shared
use Rattle.mrp_report.specs.declared.section.pegs.GroupCells.{GroupCells}
use Rattle.mrp_report.specs.page.CsvCells.{next_cell}
use Rattle.mrp_report.specs.section.PegShares.{shared_cells}
use Rattle.mrp_report.specs.section.PegText.{peg_text}
use Rattle.mrp_report.specs.section.SourceText.{source_name, source_word}

-- the peg of a requirement of a group
abbrev pub whole_text : Tables → List ℕ → List Order → PegGroup → Requirement → List ℕ
whole_text t name orders g r = peg_text t name orders (group_peg g r)

-- the cells of a group's week and of its supply
pub record AreCells (t : Tables) (orders : List Order) (g : PegGroup) (c : GroupCells) : Type 0 where
  pub week : c.week.now ≡ shared_cells t shared.Week g.week
  pub source : c.source.now ≡ next_cell (source_word orders g.supply) ++ next_cell (source_name t g.supply)
