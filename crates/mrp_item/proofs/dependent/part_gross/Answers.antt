use Rattle.std.proofs.Common.{◌≡◌, ◌∙◌, length, map, sym, ap}
use Rattle.std.specs.Prelude.{All}
use Rattle.std.proofs.lemmas.Result.{err_from_is_err_and}
use Rattle.mrp_phase.specs.Weeks.{row}
use Rattle.mrp_phase.proofs.WeekRows.{length-row}
use Rattle.mrp_item.specs.DependentDemand.{line_starts}
use Rattle.mrp_item.specs.Dues.{due_sum}
use Rattle.mrp_item.specs.Rows.{lines_to}
use Rattle.mrp_item.proofs.DependentDemand.{gross_over, gross_row, service_over, starts_whole}
use Rattle.mrp_item.proofs.dependent.part_gross.Goals as goal

pub returns-in_err-dated-clause-over : goal.returns-in_err-dated-clause-over
returns-in_err-dated-clause-over g c =
    let p = err_from_is_err_and c.from_residual.result c.from_residual.ensures.1 in
    rw (p.1, p.2) (λ over. service_over c.args.inputs.now c.args.item c.services.result.now c.services.ensures.dues (rw c.weeks.ensures.value at (c.in_err-dated.ensures.over over)))

pub add_lines-requires : goal.add_lines-requires
add_lines-requires g c =
    let s = c.args.inputs.now in
    let i = c.args.item in
    let n = c.weeks.result in
    let dues = c.services.result.now in
    let so_far : c.into_vec-demand.result.items ≡ row n (due_sum dues) = c.into_vec-demand.ensures ∙ c.in_ok-dated.ensures.value in
    let told : c.as_slice.result.now ≡ map (line_starts s) (lines_to s i) = c.as_slice.ensures.value ∙ c.in_ok-lines.ensures in
    let whole : All (λ line. length line.started ≡ n) c.as_slice.result.now = rw told (starts_whole s (lines_to s i) n c.weeks.ensures.value) in
    λ k d h. whole k d h ∙ sym (ap length so_far ∙ length-row (due_sum dues) n)

pub returns-in_err-or_over-clause-over : goal.returns-in_err-or_over-clause-over
returns-in_err-or_over-clause-over g c =
    let p = err_from_is_err_and c.from_residual-in_err-or_over.result c.from_residual-in_err-or_over.ensures.1 in
    let s = c.args.inputs.now in
    let i = c.args.item in
    let n = c.weeks.result in
    let dues = c.services.result.now in
    let demand = c.into_vec-demand.result.items in
    let so_far : demand ≡ row n (due_sum dues) = c.into_vec-demand.ensures ∙ c.in_ok-dated.ensures.value in
    let told : c.as_slice.result.now ≡ map (line_starts s) (lines_to s i) = c.as_slice.ensures.value ∙ c.in_ok-lines.ensures in
    let (week, a, b, past) = rw c.in_err-or_over.ensures.found at c.add_lines.ensures.none in
    rw (p.1, p.2) (λ _. gross_over s i week n dues demand c.as_slice.result.now c.weeks.ensures.value c.services.ensures.dues so_far told a b past)

pub returns-clause-value : goal.returns-clause-value
returns-clause-value g c =
    let s = c.args.inputs.now in
    let i = c.args.item in
    let n = c.weeks.result in
    let dues = c.services.result.now in
    let demand = c.into_vec-demand.result.items in
    let so_far : demand ≡ row n (due_sum dues) = c.into_vec-demand.ensures ∙ c.in_ok-dated.ensures.value in
    let told : c.as_slice.result.now ≡ map (line_starts s) (lines_to s i) = c.as_slice.ensures.value ∙ c.in_ok-lines.ensures in
    c.from_vec.ensures ∙ (rw c.in_ok-or_over.ensures.found at c.add_lines.ensures.added)
    ∙ gross_row s i n dues demand c.as_slice.result.now c.weeks.ensures.value c.services.ensures.dues so_far told
