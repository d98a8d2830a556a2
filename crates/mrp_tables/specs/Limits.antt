-- The limits of the tables' records, words and numbers (profile).
use Rattle.std.specs.Prelude.{ℕ, List, [], ◌∷◌, codes, Option, Some, None}
use Rattle.mrp_rows.specs.declared.fault.Table.{Table}
use Rattle.mrp_rows.specs.declared.fault.Table.TheVariants as t
use Rattle.mrp_tables.specs.declared.limits.TheConstants as limits

-- the most records of a table, if it has a limit
abbrev pub record_limit : Table → Option ℕ
record_limit t.Calendar = Some limits.MOST_CALENDAR_RECORDS
record_limit t.Items = Some limits.MOST_ITEMS
record_limit t.Centres = Some limits.MOST_CENTRES
record_limit t.Stock = None
record_limit t.Receipts = Some limits.MOST_ROWS
record_limit t.Bills = Some limits.MOST_ROWS
record_limit t.Routings = Some limits.MOST_OPERATIONS
record_limit t.Master = Some limits.MOST_ROWS
record_limit t.Script = Some limits.MOST_ROWS
record_limit t.Bundle = None

-- the words for the lot rules, in the order of their places
abbrev pub lot_words : List (List ℕ)
lot_words = codes "lfl" ∷ codes "fixed" ∷ codes "period" ∷ []

-- the words for the calls of a script, in the order of their places
abbrev pub call_words : List (List ℕ)
call_words = codes "book" ∷ codes "cancel" ∷ codes "ask" ∷ codes "when" ∷ codes "run" ∷ []
