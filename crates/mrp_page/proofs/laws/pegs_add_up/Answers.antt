use Rattle.std.proofs.Common.{◌≡◌, ◌∙◌, ◌^◌, ◌<◌, ap, arith, Bool, List, length, Option, refl, sym, ℕ}
use Rattle.std.specs.List.{filter}
use Rattle.mrp_day.specs.declared.section.Section.TheVariants as s
use Rattle.mrp_page.specs.Counted.{is_peg_of, records_of, together, wanted_rows}
use Rattle.mrp_page.specs.Notes.{Noted}
use Rattle.mrp_page.specs.Reading.{IsDayOf}
use Rattle.mrp_page.specs.Row.{Cells, RowView, is_in}
use Rattle.mrp_page.specs.Rows.{rows_in}
use Rattle.mrp_page.specs.Shown.{run_shown}
use Rattle.mrp_page.specs.Spot.{Names}
use Rattle.mrp_page.proofs.CountedRows.{all-kept}
use Rattle.mrp_page.proofs.OrderedRows.{stand-together}
use Rattle.mrp_page.proofs.laws.pegs_add_up.Goals as goal

-- the pegs that are kept are all of the day
all-pegs : (items : Names) (asked : Option ℕ) (records : List Cells) (notes : Noted) → IsDayOf items asked records notes → length records < 2 ^ 64 → notes.counts.pegs ≡ 0
    → records_of (rows_in s.Pegs notes.report) ≡ wanted_rows items s.Pegs (run_shown asked records) records
all-pegs items asked records notes day countable none =
    let found : rows_in s.Pegs notes.report ≡ filter (is_in s.Pegs) notes.report =
    ap (λ (n : Noted). rows_in s.Pegs n.report) day.kept ∙ stand-together items asked records countable s.Pegs ∙ ap (λ (n : Noted). filter (is_in s.Pegs) n.report) (sym day.kept) in
    ap records_of found ∙ all-kept items asked records notes day countable s.Pegs (omega arith) none

pub returns-clause-sum : goal.returns-clause-sum
returns-clause-sum c = λ items asked records notes passes day countable none. ap (together passes) (all-pegs items asked records notes day countable none)

pub returns-clause-order : goal.returns-clause-order
returns-clause-order c = λ items asked records notes order day countable none whole. ap (λ (pegs : List Cells). together (is_peg_of order) pegs) (all-pegs items asked records notes day countable none) ∙ whole
