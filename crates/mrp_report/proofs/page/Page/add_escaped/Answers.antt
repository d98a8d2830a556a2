use Rattle.std.proofs.Common.{refl}
use Rattle.csv.proofs.WriteFacts.{escaped-double, escaped-other}
use Rattle.csv.specs.Writing.{default_writer}
use Rattle.mrp_report.proofs.page.Page.add_escaped.Goals as goal

pub returns-then-byte-eq34 : goal.returns-then-byte-eq34
returns-then-byte-eq34 c = rw (escaped-double default_writer c.args.byte c.if-byte-eq34.true refl) c.add.ensures

pub returns-else-byte-eq34 : goal.returns-else-byte-eq34
returns-else-byte-eq34 c = rw (escaped-other default_writer c.args.byte c.if-byte-eq34.false) c.add-else-byte-eq34.ensures
