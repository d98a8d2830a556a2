use Rattle.std.proofs.Common.{◌∙◌, ◌+◌, ℕ, List, [], ap, sym}
use Rattle.std.specs.Prelude.{flat_map}
use Rattle.std.specs.List.{range_with_len}
use Rattle.std.proofs.lemmas.List.{flat_map_more}
use Rattle.mrp_survey.specs.Entries.{kind_in, wrong_in}
use Rattle.mrp_survey.specs.Marks.{cell_mark}
use Rattle.mrp_survey.specs.Told.{Mark}
use Rattle.mrp_survey.proofs.Marking.{range-more, told-more}
use Rattle.mrp_survey.proofs.tell.tell_cells.Goals as goal

pub loop-column-preserved : goal.loop-column-preserved
loop-column-preserved c =
    let f : ℕ → List Mark = λ column. cell_mark column (kind_in c.args.entry.now column) (wrong_in c.args.entry.now column) in
    let k = c.loop-column.column in
    told-more c.args.entry.now c.args.findings.now.items c.loop-column.findings.items c.tell_cell.new.findings.items (flat_map f (range_with_len 0 k)) (f k) (flat_map f (range_with_len 0 (k + 1)))
    c.loop-column.invariant c.in_ok-tell_cell.ensures (flat_map_more f [] (range_with_len 0 k) k ∙ ap (flat_map f) (sym (range-more k)))
