use Rattle.std.proofs.Common.{◌<◌, ◌≤◌, ℕ, Vec, arith, length, map}
use Rattle.std.specs.declared.alloc.Global.{Global}
use Rattle.mrp_rows.specs.declared.fault.Table.{Table}
use Rattle.mrp_rows.specs.declared.streams.TheConstants.{GREATEST_BUNDLE}
use Rattle.mrp_rows.specs.Joined.{Part}
use Rattle.mrp_open.proofs.Folders.{has-found, too-long}
use Rattle.mrp_open.proofs.finding.find.Goals as goal

abbrev part_of : Table × Vec ℕ Global → Part
part_of read = (read.0, read.1.items)

pub returns-then-len-gt-GREATEST_BUNDLE-clause-past :
    goal.returns-then-len-gt-GREATEST_BUNDLE-clause-past
returns-then-len-gt-GREATEST_BUNDLE-clause-past g c e =
    let over : GREATEST_BUNDLE < length c.in-Ok-found_in.bundle.items = omega (arith, c.if-len-gt-GREATEST_BUNDLE.true, c.len.ensures, c.in-Ok-found_in.bundle.ok.0) in
    too-long (g.F.FileStore.known c.args.files.now) c.args.folder.now (map part_of c.in_ok-tables.tables.items) (map part_of c.take_script.new.tables.items) c.in-Ok.script.items
    c.in-Ok-found_in.found c.in-Ok-found_in.bundle.items c.in_ok-tables.ensures.parts c.in-Ok.ensures c.in-Ok-found_in.ensures over

pub returns-else-len-gt-GREATEST_BUNDLE-clause-found :
    goal.returns-else-len-gt-GREATEST_BUNDLE-clause-found
returns-else-len-gt-GREATEST_BUNDLE-clause-found g c =
    let fits : length c.in-Ok-found_in.bundle.items ≤ GREATEST_BUNDLE = omega (arith, c.if-len-gt-GREATEST_BUNDLE.false, c.len.ensures, c.in-Ok-found_in.bundle.ok.0) in
    has-found (g.F.FileStore.known c.args.files.now) c.args.folder.now (map part_of c.in_ok-tables.tables.items) (map part_of c.take_script.new.tables.items) c.in-Ok.script.items
    c.in-Ok-found_in.found c.in-Ok-found_in.bundle.items c.in_ok-tables.ensures.parts c.in-Ok.ensures c.in-Ok-found_in.ensures fits
