use Rattle.std.proofs.Common.{◌∙◌, ◌<◌, ℕ, length, ap, arith}
use Rattle.std.specs.Prelude.{Vec}
use Rattle.std.specs.Int.{IsInRange}
use Rattle.std.specs.declared.alloc.Global.{Global}
use Rattle.mrp_phase.proofs.WeekRows.{length-row}
use Rattle.mrp_item.specs.Inputs.{Inputs, horizon}
use Rattle.mrp_load.specs.Loads.{load}
use Rattle.mrp_load.proofs.Grouped.{length-loads, load-read, loads-at}
use Rattle.mrp_load.proofs.table.LoadTable.load.Goals as goal

pub index-requires : goal.index-requires
index-requires c =
    let s = c.self.inside.inputs.value in
    omega (arith, length-loads s c.self.inside.rows.items c.self.invariant, ap (λ (x : Inputs). length x.tables.centres) c.self.view_is, c.requires.centre)

pub index-requires-2 : goal.index-requires-2
index-requires-2 c =
    let s = c.self.inside.inputs.value in
    let within : c.args.centre < length s.tables.centres = omega (arith, ap (λ (x : Inputs). length x.tables.centres) c.self.view_is, c.requires.centre) in
    omega (
      arith,
      ap (λ (v : Vec ℕ Global). length v.items) c.index.ensures,
      ap (length {A = ℕ}) (loads-at s c.self.inside.rows.items c.args.centre c.index.result.now c.self.invariant within),
      length-row (load s c.args.centre) (horizon s),
      ap horizon c.self.view_is,
      c.from.ensures,
      c.requires.week.0,
      c.requires.week.1,
    )

pub returns : goal.returns
returns c =
    let s = c.self.inside.inputs.value in
    let within : c.args.centre < length s.tables.centres = omega (arith, ap (λ (x : Inputs). length x.tables.centres) c.self.view_is, c.requires.centre) in
    let range : IsInRange 1 (horizon s) c.from.result = (omega (arith, c.from.ensures, c.requires.week.0), omega (arith, c.from.ensures, c.requires.week.1, ap horizon c.self.view_is)) in
    c.new.ensures
    ∙ load-read s c.self.inside.rows.items c.args.centre c.from.result c.index.result.now c.index-2.result.now c.self.invariant within range c.index.ensures c.index-2.ensures
    ∙ ap (λ (x : Inputs). load x c.args.centre c.from.result) c.self.view_is
    ∙ ap (load c.args.self.now c.args.centre) c.from.ensures
