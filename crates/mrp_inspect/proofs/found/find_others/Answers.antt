use Rattle.mrp_rows.specs.declared.fault.Table.TheVariants.{Calendar}
use Rattle.mrp_words.specs.Folder.{all_tables}
use Rattle.mrp_inspect.specs.Found.{IsOtherBeside}
use Rattle.mrp_inspect.proofs.Growing.{zip-all, zip-more}
use Rattle.std.proofs.Common.{refl}
use Rattle.mrp_inspect.proofs.found.find_others.Goals as goal

pub loop-table-preserved : goal.loop-table-preserved
loop-table-preserved g c =
    zip-more (IsOtherBeside (g.F.FileStore.known c.args.files.now) c.args.folder.now c.args.tables.now) all_tables c.loop-table.table-index Calendar c.loop-table.others.items _ c.in_ok-other.other c.loop-table-test.true
    c.in_ok-push.ensures.items c.in_ok-other.ensures c.loop-table.invariant

pub returns : goal.returns
returns g c =
    zip-all (IsOtherBeside (g.F.FileStore.known c.args.files.now) c.args.folder.now c.args.tables.now) all_tables all_tables c.loop-table.table-index c.loop-table.others.items refl c.loop-table-test.false c.loop-table.invariant
