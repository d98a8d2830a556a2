use Rattle.std.proofs.Common.{◌+◌, ◌*◌, ◌≤◌, ◌∷◌, take}
use Rattle.csv.specs.Writing.{default_writer, escaped}
use Rattle.mrp_report.specs.page.Put.{IsPut}
use Rattle.mrp_report.proofs.page.quoting.put_quoted.Given as goal

abbrev pub invariant-loop-byte : goal.invariant-loop-byte
invariant-loop-byte l = record {
  put : IsPut l.fn.text l.text l.at (34 ∷ escaped default_writer (take l.byte-index l.bytes)) l.end;
  near : l.end ≤ l.at + (1 + 2 * l.byte-index);
}
