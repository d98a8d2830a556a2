-- The rows of a section in chunks of places (profile).
use Rattle.std.specs.Prelude.{ℕ, List, ◌+◌, ◌*◌, ◌-◌, IfSome, ◌≡◌, min, flat_map}
use Rattle.std.specs.List.{range_with_len}
use Rattle.mrp_item.specs.Inputs.{Inputs}
use Rattle.mrp_report.specs.declared.wave.cut.Chunks.{Chunks}
use Rattle.mrp_report.specs.declared.wave.slot.Slot.{Slot}
use Rattle.mrp_report.specs.section.Sections.{all_rows, count_in, rows_of, section_text}

-- the texts of the places from one up to, and without, another
abbrev pub between : (ℕ → List ℕ) → ℕ → ℕ → List ℕ
between text from to = flat_map text (range_with_len from (to - from))

-- where so many chunks from a place end: each has `size` places, the last what is left
abbrev pub reach : ℕ → ℕ → ℕ → ℕ → ℕ
reach count size from chunks = min (from + chunks * size) count

-- what a section's rows are made from
abbrev pub inputs_of : Chunks → Inputs
inputs_of c = c.readings.now.plan.now.inputs

-- how many places the section has
abbrev pub count_of : Chunks → ℕ
count_of c = count_in (inputs_of c) c.section

-- where so many chunks from a place end
abbrev pub end_of : Chunks → ℕ → ℕ → ℕ
end_of c from chunks = reach (count_of c) c.size from chunks

-- the rows of a place
abbrev pub row_of : Chunks → ℕ → List ℕ
row_of c = rows_of (inputs_of c) c.section

-- the rows of so many chunks from a place
abbrev pub rows_from : Chunks → ℕ → ℕ → List ℕ
rows_from c from chunks = between (row_of c) from (end_of c from chunks)

-- all rows, in table order
abbrev pub rows_in : Chunks → List ℕ
rows_in c = all_rows (inputs_of c) c.section

-- the section with these rows
abbrev pub text_of : Chunks → List ℕ
text_of c = section_text (inputs_of c) c.section

-- a page has the rows of the chunk that it is said to have, if any (profile)
abbrev pub IsMade : Chunks → Slot → Type 0
IsMade c slot = IfSome slot.chunk (λ from. slot.page ≡ rows_from c from 1)
