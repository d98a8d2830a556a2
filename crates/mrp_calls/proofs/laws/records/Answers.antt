use Rattle.mrp_calls.proofs.RecordLines.{back-of, line-of}
use Rattle.mrp_calls.proofs.ShortRecords.{record-short}
use Rattle.mrp_calls.proofs.laws.records.Goals as goal

pub returns : goal.returns
returns c = record {
  line = line-of;
  short = record-short;
  back = back-of;
}
