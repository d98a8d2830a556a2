-- The sections of a day: a history, and for each run seven of its report (profile).
use Rattle.std.specs.Prelude.{ℕ, List, [], ◌∷◌, ◌++◌, codes}
use Rattle.csv.specs.Writing.{default_writer, row_text}
use Rattle.mrp_day.specs.declared.section.Section.{Section}
use Rattle.mrp_day.specs.declared.section.Section.TheVariants as section

-- the line that a section begins with
abbrev pub line_of : Section → List ℕ
line_of section.History = codes "[history]"
line_of section.Run = codes "[run]"
line_of section.Promises = codes "[promises]"
line_of section.Plan = codes "[plan]"
line_of section.Orders = codes "[orders]"
line_of section.Pegs = codes "[pegs]"
line_of section.Messages = codes "[messages]"
line_of section.Loads = codes "[loads]"

-- the names of the section's columns
abbrev pub columns_of : Section → List (List ℕ)
columns_of section.History = codes "entry" ∷ codes "desk" ∷ codes "call" ∷ codes "item" ∷ codes "week" ∷ codes "quantity" ∷ codes "number" ∷ codes "reply" ∷ codes "value" ∷ []
columns_of section.Run = codes "front" ∷ codes "standing" ∷ []
columns_of section.Promises = codes "item" ∷ codes "week" ∷ codes "firm" ∷ codes "booked" ∷ codes "bucket" ∷ codes "available" ∷ []
columns_of section.Plan = codes "item" ∷ codes "week" ∷ codes "gross" ∷ codes "open" ∷ codes "firm" ∷ codes "planned" ∷ codes "start" ∷ codes "balance" ∷ []
columns_of section.Orders = codes "item" ∷ codes "order" ∷ codes "kind" ∷ codes "due" ∷ codes "quantity" ∷ codes "start" ∷ codes "release" ∷ codes "late" ∷ []
columns_of section.Pegs = codes "item" ∷ codes "week" ∷ codes "need" ∷ codes "number" ∷ codes "parent" ∷ codes "line" ∷ codes "supply" ∷ codes "source" ∷ codes "quantity" ∷ []
columns_of section.Messages = codes "item" ∷ codes "supply" ∷ codes "source" ∷ codes "message" ∷ codes "value" ∷ []
columns_of section.Loads = codes "centre" ∷ codes "week" ∷ codes "load" ∷ codes "capacity" ∷ codes "over" ∷ []

-- what comes before the section's rows: its line, and the names of its columns as a record
unfoldable pub head_of : Section → List ℕ
head_of section = line_of section ++ codes "\n" ++ row_text default_writer (columns_of section)
