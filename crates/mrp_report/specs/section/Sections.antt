-- The sections with rows for each item or work centre, as they are written.
use Rattle.std.specs.Prelude.{ℕ, List, ◌++◌, flat_map, length}
use Rattle.std.specs.List.{range_with_len}
use Rattle.mrp_day.specs.Sections.{head_of}
use Rattle.mrp_day.specs.declared.section.Section.{Section as DaySection}
use Rattle.mrp_day.specs.declared.section.Section.TheVariants as day
use Rattle.mrp_item.specs.Inputs.{Inputs, count}
use Rattle.mrp_item.specs.Plan.{outcome_of, plan_in}
use Rattle.mrp_report.specs.declared.section.Section.{Section}
use Rattle.mrp_report.specs.declared.section.Section.TheVariants as section
use Rattle.mrp_report.specs.ReportText.{item_text, loaded_text, ordered_text, pegged_text, promised_text, told_text}

-- the section of a day that it is
abbrev pub of_day : Section → DaySection
of_day section.Promises = day.Promises
of_day section.Plan = day.Plan
of_day section.Orders = day.Orders
of_day section.Pegs = day.Pegs
of_day section.Messages = day.Messages
of_day section.Loads = day.Loads

-- how many items or work centres a section has rows for
abbrev pub count_in : Inputs → Section → ℕ
count_in s section.Promises = count s
count_in s section.Plan = count s
count_in s section.Orders = count s
count_in s section.Pegs = count s
count_in s section.Messages = count s
count_in s section.Loads = length s.tables.centres

-- these, by their places in the table
abbrev pub places_in : Inputs → Section → List ℕ
places_in s section = range_with_len 0 (count_in s section)

-- the rows of one of them in a section
abbrev pub rows_of : Inputs → Section → ℕ → List ℕ
rows_of s section.Promises i = promised_text s i
rows_of s section.Plan i = item_text s i (plan_in (outcome_of s i))
rows_of s section.Orders i = ordered_text s i (plan_in (outcome_of s i))
rows_of s section.Pegs i = pegged_text s i (plan_in (outcome_of s i))
rows_of s section.Messages i = told_text s i (plan_in (outcome_of s i))
rows_of s section.Loads i = loaded_text s i

-- the rows of a section, of each in table order
abbrev pub all_rows : Inputs → Section → List ℕ
all_rows s section = flat_map (rows_of s section) (places_in s section)

-- a section, with the rows of each in table order
abbrev pub section_text : Inputs → Section → List ℕ
section_text s section = head_of (of_day section) ++ all_rows s section
