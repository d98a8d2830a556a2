use Rattle.std.proofs.Common.{◌≡◌, ◌<◌, ℕ, [], false}
use Rattle.std.specs.List.{slice_index_or}
use Rattle.csv.specs.Records.{fields_of}
use Rattle.csv.specs.Writing.{default_writer, needs_quotes}
use Rattle.mrp_claims.proofs.spelling.is_plain.Given as goal

abbrev pub invariant-loop-column : goal.invariant-loop-column
invariant-loop-column l = (i : ℕ) → i < l.column → needs_quotes default_writer (slice_index_or (fields_of l.cells) i []) ≡ false
