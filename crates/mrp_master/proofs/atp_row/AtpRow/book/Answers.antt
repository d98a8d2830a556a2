-- The row with the week's quantity replaced is covered, so its quantities are in range, and the nodes over the week are
-- renewed.
use Rattle.std.proofs.Common.{ℕ, ◌≡◌, ◌-◌, List, length, set, ap, sym, subst, ◌∙◌}
use Rattle.std.proofs.lemmas.List.{with_items_is}
use Rattle.mrp_phase.specs.Weeks.{with_week}
use Rattle.mrp_master.specs.declared.nodes.Node.{Node}
use Rattle.mrp_master.specs.AtpRow.{AtpRow, IsCoveredRow, IsWeekOf, with_booked}
use Rattle.mrp_master.specs.Nodes.{IsPromiseRow}
use Rattle.mrp_master.specs.Tree.{IsKept, IsMade, IsTree, row_of}
use Rattle.mrp_master.proofs.Rebooked.{changed, others_made, pieces_little, rebooked}
use Rattle.mrp_master.proofs.atp_row.AtpRow.book.Goals as goal

-- the caller's requirement on the row, said of its fields
as_kept : (kept row : AtpRow) (week pieces : ℕ) → kept ≡ row → IsWeekOf row week → IsCoveredRow (with_booked row week pieces) → IsWeekOf kept week × IsCoveredRow (with_booked kept week pieces)
as_kept kept row week pieces is inside covered = subst (λ r. IsWeekOf r week × IsCoveredRow (with_booked r week pieces)) (sym is) (inside, covered)

pub quantity-requires : goal.quantity-requires
quantity-requires c =
    let supply = c.self.inside.supply.items in
    let booked = c.self.inside.booked.items in
    let (inside, covered) = as_kept (row_of supply booked) c.args.self.now c.args.week c.args.pieces c.self.view_is c.requires.week c.requires.available in
    pieces_little supply booked c.self.inside.nodes.items c.args.week c.args.pieces c.self.invariant inside covered

-- the row of the borrowed fields is the row with the new booking
lent : (supply booked after d1 d2 : List ℕ) → d1 ≡ supply → d2 ≡ booked → booked ≡ after → row_of supply after ≡ row_of d1 d2
lent supply booked after d1 d2 e f g = ap (λ xs. row_of xs after) (sym e) ∙ ap (row_of d1) (sym (f ∙ g))

pub renew-requires-clause-row : goal.renew-requires-clause-row
renew-requires-clause-row c =
    let supply = c.self.inside.supply.items in
    let booked = c.self.inside.booked.items in
    let (inside, covered) = as_kept (row_of supply booked) c.args.self.now c.args.week c.args.pieces c.self.view_is c.requires.week c.requires.available in
    let is : set booked (c.from.result - 1) c.quantity.result ≡ with_week booked c.args.week c.args.pieces =
    changed booked c.args.week c.from.result c.args.pieces c.quantity.result inside.0 c.from.ensures c.quantity.ensures in
    subst IsPromiseRow (lent supply _ (with_week booked c.args.week c.args.pieces) c.deref.result.now c.deref-2.result.now c.deref.ensures.value c.deref-2.ensures.value is)
    (rebooked supply booked c.self.inside.nodes.items c.args.week c.args.pieces c.self.invariant inside covered)

pub renew-requires-clause-others : goal.renew-requires-clause-others
renew-requires-clause-others c =
    let supply = c.self.inside.supply.items in
    let booked = c.self.inside.booked.items in
    let (inside, covered) = as_kept (row_of supply booked) c.args.self.now c.args.week c.args.pieces c.self.view_is c.requires.week c.requires.available in
    let is : set booked (c.from.result - 1) c.quantity.result ≡ with_week booked c.args.week c.args.pieces =
    changed booked c.args.week c.from.result c.args.pieces c.quantity.result inside.0 c.from.ensures c.quantity.ensures in
    λ n some within other.
    subst (λ (r : AtpRow). IsMade r c.deref_mut.result.now n)
    (lent supply _ (with_week booked c.args.week c.args.pieces) c.deref.result.now c.deref-2.result.now c.deref.ensures.value c.deref-2.ensures.value is)
    (subst (λ (xs : List Node). IsMade (row_of supply (with_week booked c.args.week c.args.pieces)) xs n) (sym c.deref_mut.ensures.value)
    (others_made supply booked c.self.inside.nodes.items c.args.week c.args.pieces c.self.invariant inside covered n some within other))

pub invariant_of-self : goal.invariant_of-self
invariant_of-self c =
    let supply = c.self.inside.supply.items in
    let booked = c.self.inside.booked.items in
    let (inside, covered) = as_kept (row_of supply booked) c.args.self.now c.args.week c.args.pieces c.self.view_is c.requires.week c.requires.available in
    let after : List ℕ = set booked (c.from.result - 1) c.quantity.result in
    let is : after ≡ with_week booked c.args.week c.args.pieces = changed booked c.args.week c.from.result c.args.pieces c.quantity.result inside.0 c.from.ensures c.quantity.ensures in
    let lent_row : row_of c.deref.result.now c.deref-2.result.now ≡ row_of supply after = ap (λ xs. row_of xs c.deref-2.result.now) c.deref.ensures.value ∙ ap (row_of supply) c.deref-2.ensures.value in
    let size : length c.renew.new.nodes ≡ c.self.inside.nodes.len = c.renew.auto.nodes ∙ c.deref_mut.ensures.len in
    subst (λ (xs : List Node). IsKept supply after xs) (sym (with_items_is c.self.inside.nodes c.renew.new.nodes size)) (record {
      row = subst (λ xs. IsPromiseRow (row_of supply xs)) (sym is) (rebooked supply booked c.self.inside.nodes.items c.args.week c.args.pieces c.self.invariant inside covered);
      tree = subst (λ r. IsTree r c.renew.new.nodes) lent_row c.renew.ensures;
    })

pub returns : goal.returns
returns c =
    let supply = c.self.inside.supply.items in
    let booked = c.self.inside.booked.items in
    let (inside, covered) = as_kept (row_of supply booked) c.args.self.now c.args.week c.args.pieces c.self.view_is c.requires.week c.requires.available in
    ap (row_of supply) (changed booked c.args.week c.from.result c.args.pieces c.quantity.result inside.0 c.from.ensures c.quantity.ensures)
    ∙ ap (λ r. with_booked r c.args.week c.args.pieces) c.self.view_is
