use Rattle.std.proofs.Common.{ℕ, ◌≡◌, List, [], length, replicate, ap, sym, subst, ◌∙◌, arith}
use Rattle.mrp_phase.specs.Weeks.{row}
use Rattle.mrp_phase.proofs.WeekRows.{length-row}
use Rattle.mrp_master.specs.AtpRow.{atp_row, opening}
use Rattle.mrp_master.specs.Nodes.{IsPromiseRow}
use Rattle.mrp_master.specs.Supply.{Supply}
use Rattle.mrp_master.specs.Tree.{IsTree, row_of}
use Rattle.mrp_master.proofs.Fresh.{fresh_kept, fresh_row}
use Rattle.mrp_master.proofs.atp_row.AtpRow.of.Goals as goal

-- with a vector of zeros, one for each week, it is the row of an item without bookings
is_fresh : (s : Supply) (item : ℕ) (supply booked : List ℕ) (count zero_is : ℕ) → supply ≡ row s.weeks (opening s item) → count ≡ length supply → zero_is ≡ 0 → booked ≡ replicate count zero_is
    → row_of supply booked ≡ atp_row s item []
is_fresh s item supply booked count zero_is e g z is =
    fresh_row s item supply booked e (is ∙ ap (λ n. replicate n zero_is) (g ∙ ap length e ∙ length-row (opening s item) s.weeks) ∙ ap (λ (q : ℕ). replicate s.weeks q) z)

-- the borrowed fields of a row are that row
lent : (supply booked xs ys : List ℕ) → xs ≡ supply → ys ≡ booked → row_of xs ys ≡ row_of supply booked
lent supply booked xs ys e f = ap (λ l. row_of l ys) e ∙ ap (row_of supply) f

pub grow-requires : goal.grow-requires
grow-requires c =
    let s : Supply = c.args.supply.now in
    let supply : List ℕ = c.in_ok-supply.supply.items in
    let booked : List ℕ = c.in_ok-booked.booked.items in
    let fresh =
    is_fresh s c.args.item supply booked c.len.result c.quantity.result c.in_ok-supply.ensures.value (omega (arith, c.len.ensures, c.in_ok-supply.supply.ok)) c.quantity.ensures
    (c.in_ok-booked.ensures.items_if_clones_equal (λ y e. e)) in
    subst IsPromiseRow (sym (lent supply booked c.deref.result.now c.deref-2.result.now c.deref.ensures.value c.deref-2.ensures.value ∙ fresh)) (fresh_kept s c.args.item c.in_ok-supply.ensures.kept)

pub invariant_of-result : goal.invariant_of-result
invariant_of-result c =
    let s : Supply = c.args.supply.now in
    let supply : List ℕ = c.in_ok-supply.supply.items in
    let booked : List ℕ = c.in_ok-booked.booked.items in
    let fresh =
    is_fresh s c.args.item supply booked c.len.result c.quantity.result c.in_ok-supply.ensures.value (omega (arith, c.len.ensures, c.in_ok-supply.supply.ok)) c.quantity.ensures
    (c.in_ok-booked.ensures.items_if_clones_equal (λ y e. e)) in
    record {
      row = subst IsPromiseRow (sym fresh) (fresh_kept s c.args.item c.in_ok-supply.ensures.kept);
      tree = subst (λ r. IsTree r c.in_ok-nodes.nodes.items) (lent supply booked c.deref.result.now c.deref-2.result.now c.deref.ensures.value c.deref-2.ensures.value) c.in_ok-nodes.ensures;
    }

pub returns : goal.returns
returns c =
    let s : Supply = c.args.supply.now in
    let supply : List ℕ = c.in_ok-supply.supply.items in
    let booked : List ℕ = c.in_ok-booked.booked.items in
    let fresh =
    is_fresh s c.args.item supply booked c.len.result c.quantity.result c.in_ok-supply.ensures.value (omega (arith, c.len.ensures, c.in_ok-supply.supply.ok)) c.quantity.ensures
    (c.in_ok-booked.ensures.items_if_clones_equal (λ y e. e)) in
    fresh
