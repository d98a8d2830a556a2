-- The section `messages` (profile).
use Rattle.std.specs.Prelude.{ℕ, List, [], ◌∷◌, codes, Option, Some, None}
use Rattle.mrp_tables.specs.Tables.{Tables}
use Rattle.mrp_item.specs.declared.order.Order.{Order}
use Rattle.mrp_notes.specs.declared.message.Advice.{Advice}
use Rattle.mrp_notes.specs.declared.message.Advice.TheVariants as advice
use Rattle.mrp_notes.specs.declared.message.Message.{Message}
use Rattle.mrp_report.specs.section.Cells.{number_cell}
use Rattle.mrp_report.specs.page.Rows.{row}
use Rattle.mrp_report.specs.section.SourceText.{source_name, source_word}

-- the word for what is said of a supply (APICS Dictionary: action message)
abbrev pub advice_word : Advice → List ℕ
advice_word advice.Release = codes "RELEASE"
advice_word (advice.PastDue weeks) = codes "PAST-DUE"
advice_word (advice.Earlier week) = codes "IN"
advice_word (advice.Later week) = codes "OUT"
advice_word advice.Cancel = codes "CANCEL"

-- how many weeks an order is past due, or the week in which a supply is needed
abbrev pub advice_value : Advice → Option ℕ
advice_value advice.Release = None
advice_value (advice.PastDue weeks) = Some weeks
advice_value (advice.Earlier week) = Some week
advice_value (advice.Later week) = Some week
advice_value advice.Cancel = None

-- a message about an item with this name and these orders
abbrev pub message_text : Tables → List ℕ → List Order → Message → List ℕ
message_text t name orders m =
    row (name ∷ source_word orders m.supply ∷ source_name t m.supply ∷ advice_word m.advice ∷ number_cell (advice_value m.advice) ∷ [])
