-- The dates of weeks, where the tables of a day are given.
use Rattle.std.specs.Prelude.{ℕ, ◌==◌, List, [], ◌++◌, Option, Some, None, codes, length, if◌then◌else◌}
use Rattle.mrp_facts.specs.Dates.{in_week}
use Rattle.mrp_facts.specs.Facts.{Facts}
use Rattle.mrp_page.specs.Amounts.{amount}
use Rattle.mrp_page.specs.Escaped.{escaped}

-- the date of a week, by its text; empty without tables, or if there is no such week
abbrev pub date_in : Option Facts → List ℕ → List ℕ
date_in None number = []
date_in (Some facts) number = in_week facts.dates (amount number)

-- a date behind a week in a cell of a table; nothing if it is empty
abbrev pub cell_date : List ℕ → List ℕ
cell_date date = if length date == 0 then [] else codes " <i>" ++ (escaped date ++ codes "</i>")

-- a date behind a week in a sentence; nothing if it is empty
abbrev pub said_date : List ℕ → List ℕ
said_date date = if length date == 0 then [] else codes " (" ++ (escaped date ++ codes ")")
