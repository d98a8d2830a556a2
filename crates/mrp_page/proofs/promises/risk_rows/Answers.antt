use Rattle.std.proofs.Common.{◌≡◌, ◌∙◌, ◌<◌, ◌++◌, [], ℕ, List, ap, arith, length, sym}
use Rattle.std.specs.List.{flat_map, range_with_len}
use Rattle.std.proofs.lemmas.List.{get_or_read}
use Rattle.mrp_day.specs.declared.section.Section.TheVariants as s
use Rattle.mrp_page.specs.Numbering.{row_at}
use Rattle.mrp_page.specs.Promises.{rows_at_risk}
use Rattle.mrp_page.specs.Row.{RowView}
use Rattle.mrp_risk.specs.Risks.{risk_at}
use Rattle.mrp_page.proofs.RiskRows.{flat-more}
use Rattle.mrp_page.proofs.promises.risk_rows.Goals as goal

pub loop-place-preserved : goal.loop-place-preserved
loop-place-preserved c =
    let orders = c.args.orders.now in
    let pegs = c.args.pegs.now in
    let risks = c.args.risks.now in
    let k = c.loop-place.place in
    let inside : c.loop-place.place < length c.args.pegs.now = omega arith in
    let read : c.index-pegs-place.result ≡ row_at c.args.pegs.now c.loop-place.place = get_or_read pegs k c.index-pegs-place.result inside c.index-pegs-place.is (record { section = s.Run; cells = [] }) in
    let lines : ℕ → List RowView = λ place. rows_at_risk orders (row_at pegs place) (risk_at risks place) in
    c.in_ok-add_risk.ensures
    ∙ ap (λ (rows : List RowView). rows ++ rows_at_risk orders c.index-pegs-place.result (risk_at risks k)) c.loop-place.invariant
    ∙ ap (λ (peg : RowView). flat_map lines (range_with_len 0 k) ++ rows_at_risk orders peg (risk_at risks k)) read
    ∙ sym (flat-more lines k)
