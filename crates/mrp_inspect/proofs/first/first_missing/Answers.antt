use Rattle.std.proofs.Common.{◌∙◌, Some, ap, refl, sym}
use Rattle.mrp_rows.specs.declared.fault.Fault.{Fault}
use Rattle.mrp_rows.specs.declared.fault.Table.TheVariants.{Calendar}
use Rattle.mrp_inspect.proofs.FirstLines.{finds, goes-on}
use Rattle.mrp_inspect.proofs.first.first_missing.Goals as goal

pub loop-table-init : goal.loop-table-init
loop-table-init c = λ others. refl

pub loop-table-preserved : goal.loop-table-preserved
loop-table-preserved c = λ others. goes-on c.args.firsts.now others c.loop-table.table-index Calendar _ c.loop-table-test.true (sym c.is_missing.ensures ∙ c.if-is_missing.false) (c.loop-table.invariant others)

pub returns-then-is_missing : goal.returns-then-is_missing
returns-then-is_missing c = λ others.
    ap (λ (f : Fault). Some f) c.missing_fault.ensures ∙ finds c.args.firsts.now others c.loop-table.table-index Calendar _ c.loop-table-test.true (sym c.is_missing.ensures ∙ c.if-is_missing.true) (c.loop-table.invariant others)
