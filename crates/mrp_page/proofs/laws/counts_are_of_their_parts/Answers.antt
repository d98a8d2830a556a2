use Rattle.std.specs.Prelude.{codes}
use Rattle.mrp_page.specs.Summary.{is_undone}
use Rattle.mrp_page.specs.Template.{has_word}
use Rattle.mrp_page.proofs.Tiles.{all-centres-are, centres-are, head-stands, items-are, kinds-counted, risk-is, summary-stands, tile-is, top-is, undone-is}
use Rattle.mrp_page.proofs.laws.counts_are_of_their_parts.Goals as goal

pub returns-clause-kinds : goal.returns-clause-kinds
returns-clause-kinds c = kinds-counted

pub returns-clause-short : goal.returns-clause-short
returns-clause-short c = undone-is (has_word 7 (codes "short"))

pub returns-clause-undone : goal.returns-clause-undone
returns-clause-undone c = undone-is is_undone

pub returns-clause-tile : goal.returns-clause-tile
returns-clause-tile c = tile-is

pub returns-clause-page : goal.returns-clause-page
returns-clause-page c = summary-stands

pub returns-clause-risk : goal.returns-clause-risk
returns-clause-risk c = risk-is

pub returns-clause-centres : goal.returns-clause-centres
returns-clause-centres c = centres-are

pub returns-clause-all_centres : goal.returns-clause-all_centres
returns-clause-all_centres c = all-centres-are

pub returns-clause-items : goal.returns-clause-items
returns-clause-items c = items-are

pub returns-clause-head : goal.returns-clause-head
returns-clause-head c = head-stands

pub returns-clause-top : goal.returns-clause-top
returns-clause-top c = top-is
