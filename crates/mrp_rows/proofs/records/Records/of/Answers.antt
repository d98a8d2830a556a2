use Rattle.std.proofs.Common.{sym}
use Rattle.mrp_rows.proofs.FirstRecords.{records-front}
use Rattle.mrp_rows.proofs.records.Records.of.Goals as goal

pub returns : goal.returns
returns c = sym (records-front c.args.text.now c.after_mark.result.now c.after_mark.ensures)
