use Rattle.std.proofs.Common.{ℕ, ◌≡◌, ◌+◌, ℤ, pos, ◌-ℤ◌, to_z, of_z, w64, ap, sym, ◌∙◌, arith}
use Rattle.std.proofs.lemmas.Int.{ints}
use Rattle.std.proofs.lemmas.List.{get_or_past, get_or_read}
use Rattle.mrp_phase.specs.Weeks.{in_week}
use Rattle.mrp_phase.proofs.WeekRows.{in_week_next}
use Rattle.mrp_master.specs.declared.nodes.Node.{Node}
use Rattle.mrp_master.proofs.tree.place_of.Goals as goal

both : ℤ → Node
both z = record { sum = z; least = z }

pub returns-then-place-supply : goal.returns-then-place-supply
unfolding both
returns-then-place-supply c =
    let k : ℕ = c.args.place in
    let supplied : in_week c.args.supply.now (k + 1) ≡ 0 = in_week_next c.args.supply.now k ∙ get_or_past c.args.supply.now k 0 c.if-place-supply.true in
    let booked : in_week c.args.booked.now (k + 1) ≡ 0 = in_week_next c.args.booked.now k ∙ get_or_past c.args.booked.now k 0 (omega (arith, c.requires, c.if-place-supply.true)) in
    let change : pos 0 ≡ pos (in_week c.args.supply.now (k + 1)) -ℤ pos (in_week c.args.booked.now (k + 1)) = omega (arith, ints) in
    ap both change

pub returns : goal.returns
unfolding both
returns c =
    let k : ℕ = c.args.place in
    let supplied : in_week c.args.supply.now (k + 1) ≡ c.index-supply-place.result =
    in_week_next c.args.supply.now k ∙ sym (get_or_read c.args.supply.now k c.index-supply-place.result c.if-place-supply.false c.index-supply-place.is 0) in
    let booked : in_week c.args.booked.now (k + 1) ≡ c.index-booked-place.result =
    in_week_next c.args.booked.now k ∙ sym (get_or_read c.args.booked.now k c.index-booked-place.result (omega (arith, c.requires, c.if-place-supply.false)) c.index-booked-place.is 0) in
    let change : to_z w64 (of_z w64 (to_z w64 c.value.result -ℤ to_z w64 c.value-2.result)) ≡ pos (in_week c.args.supply.now (k + 1)) -ℤ pos (in_week c.args.booked.now (k + 1)) =
    omega (arith, ints, c.value.ensures.pieces, c.value.ensures.within, c.value-2.ensures.pieces, c.value-2.ensures.within) in
    ap both change
