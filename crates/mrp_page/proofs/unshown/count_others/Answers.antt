use Rattle.std.proofs.Common.{◌≡◌, ◌∙◌, ◌-◌, ◌+◌, ℕ, List, Bor, ap, arith, get_or, length, map, sum_by, take}
use Rattle.std.proofs.lemmas.List.{take_all}
use Rattle.std.proofs.lemmas.List.Sums.{sum_by_more}
use Rattle.mrp_page.specs.Row.{RowView, cell_at}
use Rattle.mrp_page.specs.Rows.{rows_named}
use Rattle.mrp_page.proofs.Pieces.{sum_by-map}
use Rattle.mrp_page.proofs.unshown.count_others.Goals as goal

pub loop-leader-preserved : goal.loop-leader-preserved
loop-leader-preserved c =
    let rows = c.args.rows.now in
    let shown = c.args.shown.now in
    let k = c.loop-leader.leader-index in
    let leader = c.leader-item.result in
    let of : Bor RowView → ℕ = λ r. length (rows_named (cell_at r.now 0) rows) in
    let named : length c.named.result.now ≡ of leader = ap length c.named.ensures ∙ ap (λ (name : List ℕ). length (rows_named name rows)) c.name.ensures in
    let more : sum_by of (take (k + 1) shown) ≡ sum_by of (take k shown) + of (get_or shown k leader) = sum_by_more of shown k leader c.loop-leader-test.true in
    omega (arith, c.saturating_sub-others.ensures, c.loop-leader.invariant, named, more, ap of c.leader-item.is)

pub returns : goal.returns
returns c =
    let of : RowView → ℕ = λ leader. length (rows_named (cell_at leader 0) c.args.rows.now) in
    let view : Bor RowView → RowView = λ r. r.now in
    let all : sum_by (λ (r : Bor RowView). of r.now) (take c.loop-leader.leader-index c.args.shown.now) ≡ sum_by of (map view c.args.shown.now) =
    ap (sum_by (λ (r : Bor RowView). of r.now)) (take_all c.loop-leader.leader-index c.args.shown.now (omega (arith, c.loop-leader-test.false))) ∙ sum_by-map of view c.args.shown.now in
    c.loop-leader.invariant ∙ ap (λ (n : ℕ). length c.args.rows.now - n) all
