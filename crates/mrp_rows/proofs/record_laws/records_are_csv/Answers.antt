use Rattle.std.proofs.Common.{refl}
use Rattle.csv.specs.Reading.{strip_bom}
use Rattle.csv.specs.declared.parser.State.TheVariants as st
use Rattle.mrp_rows.specs.Records.{records_of}
use Rattle.mrp_rows.proofs.CsvRecords.{are-records, only-records}
use Rattle.mrp_rows.proofs.record_laws.records_are_csv.Goals as goal

pub returns : goal.returns
returns c = record {
  all = λ text. are-records (records_of text) st.StartRecord (strip_bom text) refl;
  only = λ text rows are. only-records rows st.StartRecord (strip_bom text) are;
}
