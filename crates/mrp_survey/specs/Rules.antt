-- What a record's right cells have to be beside other records and other tables (profile).
use Rattle.std.specs.Prelude.{ℕ, ◌==◌, Bool, true, false, not, if◌then◌else◌, List, [], ◌∷◌, Option, Some, None, is_none, option_and_then, option_map}
use Rattle.jiff.specs.Types.{Date}
use Rattle.mrp_cal.specs.Calendar.{ShopCalendar, week_of}
use Rattle.mrp_rows.specs.declared.fault.Table.{Table}
use Rattle.mrp_rows.specs.declared.fault.Table.TheVariants as t
use Rattle.mrp_tables.specs.declared.item.Class.{Class}
use Rattle.mrp_tables.specs.declared.item.Class.TheVariants.{Master, Part}
use Rattle.mrp_tables.specs.declared.version.Version.{Version}
use Rattle.mrp_tables.specs.Versions.{has_steps}
use Rattle.mrp_survey.specs.declared.finding.What.{What}
use Rattle.mrp_survey.specs.declared.finding.What.TheVariants as what
use Rattle.mrp_survey.specs.declared.rule.Beside.{Beside}
use Rattle.mrp_survey.specs.declared.rule.Rule.{Rule}
use Rattle.mrp_survey.specs.declared.rule.Rule.TheVariants as rule
use Rattle.mrp_survey.specs.Entry.{Entry}
use Rattle.mrp_survey.specs.Entries.{date_in, name_in, number_in, word_in}
use Rattle.mrp_survey.specs.Keys.{Key, Keys, line_of}
use Rattle.mrp_survey.specs.Names.{Names, class_among, is_among}
use Rattle.mrp_survey.specs.Told.{Mark}

-- the rules of a table's records, in the order of their faults
abbrev pub rules_of : Table → List Rule
rules_of t.Calendar = []
rules_of t.Items = rule.Once ∷ rule.Unstocked ∷ []
rules_of t.Centres = rule.Once ∷ []
rules_of t.Stock = rule.Once ∷ rule.Item 0 ∷ []
rules_of t.Receipts = rule.Once ∷ rule.Item 0 ∷ rule.Within 2 ∷ rule.OfClass 0 ∷ []
rules_of t.Bills = rule.Item 0 ∷ rule.Item 1 ∷ rule.OfClass 1 ∷ []
rules_of t.Routings = rule.Once ∷ rule.Item 0 ∷ rule.Centre 2 ∷ []
rules_of t.Master = rule.Item 0 ∷ rule.Within 2 ∷ rule.OfClass 0 ∷ []
rules_of t.Script = rule.Item 2 ∷ rule.Within 3 ∷ rule.OfClass 2 ∷ []
rules_of t.Bundle = []

-- what a record has to itself: its item or work centre
abbrev pub name_key : Option (List ℕ) → Option Key
name_key (Some name) = Some (name, (name, 0))
name_key None = None

-- an order of its item
abbrev pub order_key : Option (List ℕ) → Option (List ℕ) → Option Key
order_key (Some item) (Some order) = Some (item, (order, 0))
order_key (Some item) None = None
order_key None order = None

-- an operation of its item
abbrev pub operation_key : Option (List ℕ) → Option ℕ → Option Key
operation_key (Some item) (Some operation) = Some (item, (item, operation))
operation_key (Some item) None = None
operation_key None operation = None

abbrev pub key_in : Table → Entry → Option Key
key_in t.Calendar entry = None
key_in t.Items entry = name_key (name_in entry 0)
key_in t.Centres entry = name_key (name_in entry 0)
key_in t.Stock entry = name_key (name_in entry 0)
key_in t.Receipts entry = order_key (name_in entry 0) (name_in entry 1)
key_in t.Bills entry = None
key_in t.Routings entry = operation_key (name_in entry 0) (number_in entry 1)
key_in t.Master entry = None
key_in t.Script entry = None
key_in t.Bundle entry = None

-- what a record has to itself, where its cells are right
abbrev pub key_of : Entry → Option Key
key_of entry = key_in entry.form.table entry

-- the column of what a record has to itself beside its item
abbrev pub key_column : Table → ℕ
key_column t.Calendar = 0
key_column t.Items = 0
key_column t.Centres = 0
key_column t.Stock = 0
key_column t.Receipts = 1
key_column t.Bills = 0
key_column t.Routings = 1
key_column t.Master = 0
key_column t.Script = 0
key_column t.Bundle = 0

-- the line of an earlier record that has the record's key
abbrev pub repeated : Keys → Entry → Option ℕ
repeated seen entry = option_and_then (line_of seen) (key_of entry)

-- a name is none of those that are known
abbrev pub is_none_of : Option Names → Option (List ℕ) → Bool
is_none_of (Some names) (Some name) = not (is_among names name)
is_none_of (Some names) None = false
is_none_of None name = false

-- a right name is known to be none of those of a table that was read to its end
abbrev pub is_unknown : Option Names → Entry → ℕ → Bool
is_unknown names entry column = is_none_of names (name_in entry column)

abbrev pub is_outside : Option ShopCalendar → Option Date → Bool
is_outside (Some calendar) (Some date) = is_none (week_of calendar date)
is_outside (Some calendar) None = false
is_outside None date = false

-- a right date is outside a horizon that is known
abbrev pub has_gone_out : Option ShopCalendar → Entry → ℕ → Bool
has_gone_out calendar entry column = is_outside calendar (date_in entry column)

-- no safety stock of a master item
abbrev pub unstocked : Option ℕ → Option ℕ → Bool
unstocked (Some class) (Some safety) = if class == 0 then safety == 0 else true
unstocked (Some class) None = true
unstocked None safety = true

abbrev pub is_unstocked : Entry → Bool
is_unstocked entry = unstocked (word_in entry 1) (number_in entry 6)

abbrev pub not_master : Class → Option What
not_master Master = None
not_master Part = Some what.NotMaster

abbrev pub service_fault : Class → Option What
service_fault Master = Some what.ServiceMaster
service_fault Part = None

-- the fault of a row of the master schedule; a wrong kind of row could be `service`, where the version has such rows
abbrev pub row_fault : Version → Option ℕ → Class → Option What
row_fault version (Some kind) class = if kind == 2 then service_fault class else not_master class
row_fault version None class = if has_steps version then None else not_master class

abbrev pub receipt_fault : Class → Option What
receipt_fault Master = Some what.MasterReceipt
receipt_fault Part = None

abbrev pub component_fault : Class → Option What
component_fault Master = Some what.MasterComponent
component_fault Part = None

abbrev pub class_fault_in : Table → Entry → Class → Option What
class_fault_in t.Calendar entry class = None
class_fault_in t.Items entry class = None
class_fault_in t.Centres entry class = None
class_fault_in t.Stock entry class = None
class_fault_in t.Receipts entry class = receipt_fault class
class_fault_in t.Bills entry class = component_fault class
class_fault_in t.Routings entry class = None
class_fault_in t.Master entry class = row_fault entry.form.version (word_in entry 1) class
class_fault_in t.Script entry class = not_master class
class_fault_in t.Bundle entry class = None

-- the fault of an item of a class that the record is not for
abbrev pub class_fault : Entry → Class → Option What
class_fault entry class = class_fault_in entry.form.table entry class

-- the class of a right name, where it is known
abbrev pub known_class : Option Names → Option (List ℕ) → Option Class
known_class (Some names) (Some name) = class_among names name
known_class (Some names) None = None
known_class None name = None

-- the fault of the item in a column, where its class is known
abbrev pub misfit : Option Names → Entry → ℕ → Option What
misfit names entry column = option_and_then (class_fault entry) (known_class names (name_in entry column))

-- a mark, if this holds
abbrev pub marked_if : Bool → Mark → Option Mark
marked_if wrong mark = if wrong then Some mark else None

-- where a record breaks a rule, and how
abbrev pub broken : Beside → Keys → Entry → Rule → Option Mark
broken beside seen entry rule.Once = option_map (λ line. (key_column entry.form.table, what.Repeated line)) (repeated seen entry)
broken beside seen entry (rule.Item column) = marked_if (is_unknown beside.items entry column) (column, what.UnknownItem)
broken beside seen entry (rule.Centre column) = marked_if (is_unknown beside.centres entry column) (column, what.UnknownCentre)
broken beside seen entry (rule.Within column) = marked_if (has_gone_out beside.calendar entry column) (column, what.DateOutside)
broken beside seen entry (rule.OfClass column) = option_map (λ wrong. (column, wrong)) (misfit beside.items entry column)
broken beside seen entry rule.Unstocked = marked_if (not (is_unstocked entry)) (6, what.MasterSafety)
