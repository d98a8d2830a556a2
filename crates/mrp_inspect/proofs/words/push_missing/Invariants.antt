use Rattle.std.proofs.Common.{◌≡◌, take}
use Rattle.std.specs.Prelude.{filter_map}
use Rattle.mrp_advice.specs.Listing.{listed_in, with_lines}
use Rattle.mrp_words.specs.Folder.{all_tables}
use Rattle.mrp_inspect.specs.Words.{missing_of}
use Rattle.mrp_inspect.proofs.words.push_missing.Given as goal

abbrev pub invariant-loop-table : goal.invariant-loop-table
invariant-loop-table l = listed_in l.lines ≡ with_lines (listed_in l.initial.lines) (filter_map (missing_of l.firsts l.others) (take l.table-index all_tables))
