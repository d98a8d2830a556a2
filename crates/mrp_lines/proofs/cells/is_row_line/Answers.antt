use Rattle.std.proofs.Common.{◌∙◌, ◌≡◌, ◌≤◌, ◌<◌, ◌+◌, [], List, ap, arith, get_or, inl, inr, length, refl, subst, sym, true, ℕ}
use Rattle.std.specs.List.{list_any}
use Rattle.std.proofs.lemmas.List.{take_all}
use Rattle.std.proofs.lemmas.List.Folds.{list_any_more}
use Rattle.std.proofs.lemmas.List.Sums.{sum_by_more}
use Rattle.csv.specs.Records.{fields_of}
use Rattle.mrp_rows.specs.Bundle.{ends_line}
use Rattle.mrp_lines.specs.Lines.{have_ends, size_of}
use Rattle.mrp_lines.proofs.Sizes.{cell-ends, cell-long, line-is}
use Rattle.mrp_lines.proofs.cells.is_row_line.Goals as goal

pub loop-column-init : goal.loop-column-init
loop-column-init c = record { room = refl; none = refl }

pub returns-then-has_end_if : goal.returns-then-has_end_if
returns-then-has_end_if c =
    let fields = fields_of c.args.row.now in
    let i = c.loop-column.column in
    let within : i < length fields = omega (arith, c.loop-column-test.true, c.len-column-end.ensures) in
    elim c.then-has_end_if.either [
      | inl has ↦ sym (cell-ends fields i within (subst (λ (cell : List ℕ). list_any ends_line cell ≡ true) c.cell-cell.ensures (sym c.has_end_if.ensures ∙ has)))
      | inr long ↦ sym (cell-long fields i c.loop-column.room within c.loop-column.invariant.room (subst (λ (cell : List ℕ). c.loop-column.room ≤ length cell) c.cell-cell.ensures long.1))
    ]

pub loop-column-preserved : goal.loop-column-preserved
loop-column-preserved c =
    let fields = fields_of c.args.row.now in
    let i = c.loop-column.column in
    let within : i < length fields = omega (arith, c.loop-column-test.true, c.len-column-end.ensures) in
    let long : length c.cell-cell.result.now ≡ length (get_or fields i []) = ap length c.cell-cell.ensures in
    record {
      room = omega (arith, sum_by_more (λ (cell : List ℕ). length cell + 1) fields i [] within, c.loop-column.invariant.room, c.if-room-cell.false, long);
      none =
          list_any_more (list_any ends_line) fields i [] within
          ∙ rw (c.loop-column.invariant.none) (ap (list_any ends_line) (sym c.cell-cell.ensures) ∙ sym c.has_end_if.ensures ∙ c.if-has_end_if.false);
    }

pub returns : goal.returns
returns c =
    let fields = fields_of c.args.row.now in
    let all = take_all c.loop-column.column fields (omega (arith, c.loop-column-test.false, c.len-column-end.ensures)) in
    sym (line-is fields (omega (arith, c.loop-column.invariant.room, ap size_of all)) (ap have_ends (sym all) ∙ c.loop-column.invariant.none))
