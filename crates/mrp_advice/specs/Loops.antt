-- The line of items that need one another (profile).
use Rattle.std.specs.Prelude.{ℕ, nat_lt, if◌then◌else◌, List, [], ◌++◌, codes, decimal, length, map, slice_index, slice_index_or, take}
use Rattle.mrp_rows.specs.FaultText.{table_name}
use Rattle.mrp_survey.specs.Surveyed.{LoopTold}
use Rattle.mrp_advice.specs.declared.looped.TheConstants.{MOST_NAMED}
use Rattle.mrp_advice.specs.Shown.{shown}
use Rattle.mrp_advice.specs.Texts.{listed}

-- what stands for the rest, where there is one
abbrev pub rest_words : List ℕ → ℕ → List ℕ
rest_words words count = if nat_lt MOST_NAMED count then words else []

-- the items on the way, the first of them
abbrev pub names_words : List (List ℕ) → List ℕ
names_words names = listed (codes " > ") (take MOST_NAMED names) ++ rest_words (codes " > ..") (length names)

-- the lines of the bill lines on the way, the first of them
abbrev pub lines_words : List ℕ → List ℕ
lines_words lines = listed (codes ", ") (map decimal (take MOST_NAMED lines)) ++ rest_words (codes ", ..") (length lines)

-- where the way begins
abbrev pub loop_place : LoopTold → List ℕ
loop_place l = table_name l.file ++ (codes ".csv:" ++ (decimal (slice_index l.lines 0) ++ codes ": loop: "))

-- an item that needs itself, and its way
abbrev pub needs_words : List (List ℕ) → List ℕ
needs_words names = shown (slice_index_or names 0 []) ++ (codes " needs itself: " ++ names_words names)

abbrev pub bill_words : List ℕ → List ℕ
bill_words lines = codes " (lines " ++ (lines_words lines ++ codes ")")

abbrev pub way_words : LoopTold → List ℕ
way_words l = needs_words l.names ++ bill_words l.lines

-- the line of items that need one another, without a line end
abbrev pub loop_line : LoopTold → List ℕ
loop_line l = loop_place l ++ (way_words l ++ codes "; expected no way back")
