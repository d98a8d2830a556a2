use Rattle.mrp_rows.specs.declared.fault.Table.TheVariants.{Calendar}
use Rattle.mrp_words.specs.Folder.{all_tables}
use Rattle.mrp_inspect.specs.Strays.{first_of}
use Rattle.mrp_inspect.proofs.Growing.{map-more}
use Rattle.mrp_inspect.proofs.stray.firsts_of.Goals as goal

pub loop-table-preserved : goal.loop-table-preserved
loop-table-preserved c =
    map-more (first_of c.args.pieces.now) all_tables c.loop-table.table-index Calendar c.loop-table.firsts.items _ c.first_of-first.result c.loop-table-test.true c.in_ok-push.ensures.items c.first_of-first.ensures c.loop-table.invariant
