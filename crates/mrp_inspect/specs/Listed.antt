-- Lines of faults as a text (profile).
use Rattle.std.specs.Prelude.{ℕ, ◌+◌, if◌then◌else◌, Bool, List, [], ◌∷◌, ◌++◌, codes, decimal, length}
use Rattle.mrp_rows.specs.FaultText.{table_name, text_of_fault}
use Rattle.mrp_rows.specs.declared.fault.Fault.{Fault}
use Rattle.mrp_advice.specs.Listing.{Listed, lines_text}
use Rattle.mrp_advice.specs.Texts.{plural}
use Rattle.mrp_inspect.specs.Faults.{FaultLine, tells_first}

-- how many faults there are
abbrev pub count_text : ℕ → List ℕ
count_text count = decimal count ++ (codes " fault" ++ (plural count ++ codes " (warnings are told when there is none)\n"))

-- the first line, with what `mrp plan` says behind it
abbrev pub first_text : List ℕ → Fault → List ℕ
first_text first f = first ++ (codes " (refused: " ++ (text_of_fault f ++ codes ")\n"))

-- lines, and how many there are
abbrev pub listed : List ℕ → List (List ℕ) → Fault → List ℕ
listed first others f = first_text first f ++ lines_text others ++ count_text (length others + 1)

-- a line that says only that there is a fault
abbrev pub untold : Fault → FaultLine
untold f = record { text = table_name f.table ++ codes ".csv:0: row: a fault; expected none"; fault = f }

-- this line, unless the fault is told
abbrev pub unless_told : Bool → Fault → List FaultLine
unless_told told f = if told then [] else untold f ∷ []

-- lines of which the first tells this fault: where it does not, one more stands in front of it
abbrev pub led_by : Fault → List FaultLine → List FaultLine
led_by f lines = unless_told (tells_first lines f) f ++ lines

-- what stands behind the first line
abbrev pub remark_text : Fault → List ℕ
remark_text f = codes " (refused: " ++ (text_of_fault f ++ codes ")")

-- the text of lines as they are listed, and how many they are
abbrev pub told_text : Listed → List ℕ
told_text l = l.text ++ count_text l.count
