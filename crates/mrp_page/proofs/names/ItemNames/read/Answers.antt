use Rattle.std.proofs.Common.{◌∙◌, rules}
use Rattle.std.specs.contracts.io.impls.RefSliceU8Read.TheImpl.{ghosts}
use Rattle.csv.specs.Records.{fields_of}
use Rattle.mrp_page.proofs.NameLines.{names-are}
use Rattle.mrp_page.proofs.names.ItemNames.read.Goals as goal

pub returns-in-Ok : goal.returns-in-Ok
returns-in-Ok c =
    c.of.ensures ∙ names-are ghosts.remaining c.args.line.now c.from_reader-reader.result c.read_cells.new.reader c.in-Ok.found (fields_of c.read_cells.new.cells)
    (search rules) c.from_reader-reader.ensures.state c.from_reader-reader.ensures.source c.in-Ok.ensures.reads
