use Rattle.std.proofs.Common.{◌≡◌, ◌∙◌, ℕ, length, ap, arith}
use Rattle.std.specs.Prelude.{flat_map}
use Rattle.std.specs.List.{range_with_len}
use Rattle.mrp_item.specs.Inputs.{Inputs}
use Rattle.mrp_load.specs.Loads.{overloads_at}
use Rattle.mrp_load.proofs.Grouped.{length-loads}
use Rattle.mrp_load.proofs.Overloads.{centre-more}
use Rattle.mrp_load.proofs.table.LoadTable.overloads.Goals as goal

pub add_overloads-requires : goal.add_overloads-requires
add_overloads-requires c =
    let s = c.self.inside.inputs.value in
    omega (arith, c.loop-centre-test.true, c.len-centre-end.ensures, length-loads s c.self.inside.rows.items c.self.invariant, ap (λ (x : Inputs). length x.tables.centres) c.self.view_is)

pub loop-centre-preserved : goal.loop-centre-preserved
loop-centre-preserved c = centre-more c.args.self.now c.loop-centre.centre c.loop-centre.all.items c.add_overloads.new.all.items c.loop-centre.invariant c.in_ok-add_overloads.ensures

pub returns : goal.returns
returns c =
    let s = c.self.inside.inputs.value in
    let end : c.loop-centre.centre ≡ length c.args.self.now.tables.centres =
    omega (arith, c.loop-centre-test.false, c.loop-centre.auto.centre-end, c.len-centre-end.ensures, length-loads s c.self.inside.rows.items c.self.invariant, ap (λ (x : Inputs). length x.tables.centres) c.self.view_is) in
    c.loop-centre.invariant ∙ ap (λ (n : ℕ). flat_map (overloads_at c.args.self.now) (range_with_len 0 n)) end
