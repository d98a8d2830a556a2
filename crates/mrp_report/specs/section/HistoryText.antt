-- The section `history` (profile).
use Rattle.std.specs.Prelude.{ℕ, List, [], ◌∷◌, ◌++◌, codes, decimal, flat_map}
use Rattle.std.specs.List.{enumerate_from}
use Rattle.mrp_tables.specs.Tables.{Tables}
use Rattle.mrp_turn.specs.declared.log.Entry.{Entry}
use Rattle.mrp_book.specs.declared.call.Call.{Call}
use Rattle.mrp_book.specs.declared.call.Call.TheVariants as call
use Rattle.mrp_book.specs.declared.reply.Reply.{Reply}
use Rattle.mrp_book.specs.declared.reply.Reply.TheVariants as reply
use Rattle.mrp_book.specs.Standing.{History}
use Rattle.mrp_day.specs.Sections.{head_of}
use Rattle.mrp_day.specs.declared.section.Section.TheVariants as section
use Rattle.mrp_report.specs.section.Cells.{name_at}
use Rattle.mrp_report.specs.page.Rows.{row}

abbrev pub history_head : List ℕ
history_head = head_of section.History

-- a call: its word, item, week, quantity and number
abbrev pub call_cells : Tables → Call → List (List ℕ)
call_cells t (call.Book l) = codes "book" ∷ name_at t l.item ∷ decimal l.week ∷ decimal l.quantity ∷ [] ∷ []
call_cells t (call.Cancel n) = codes "cancel" ∷ [] ∷ [] ∷ [] ∷ decimal n ∷ []
call_cells t (call.Ask p) = codes "ask" ∷ name_at t p.item ∷ decimal p.week ∷ [] ∷ [] ∷ []
call_cells t (call.When w) = codes "when" ∷ name_at t w.item ∷ [] ∷ decimal w.quantity ∷ [] ∷ []
call_cells t call.Snapshot = codes "run" ∷ [] ∷ [] ∷ [] ∷ [] ∷ []
call_cells t call.Front = codes "front" ∷ [] ∷ [] ∷ [] ∷ [] ∷ []

-- a reply: its word and value
abbrev pub reply_cells : Reply → List (List ℕ)
reply_cells (reply.Booked n) = codes "booked" ∷ decimal n ∷ []
reply_cells (reply.Short available) = codes "short" ∷ decimal available ∷ []
reply_cells reply.Cancelled = codes "cancelled" ∷ [] ∷ []
reply_cells reply.NotStanding = codes "not-standing" ∷ [] ∷ []
reply_cells reply.NotYours = codes "not-yours" ∷ [] ∷ []
reply_cells (reply.Available available) = codes "available" ∷ decimal available ∷ []
reply_cells (reply.Week week) = codes "week" ∷ decimal week ∷ []
reply_cells reply.NoWeek = codes "no-week" ∷ [] ∷ []
reply_cells (reply.Taken snapshot) = codes "front" ∷ decimal snapshot.front ∷ []
reply_cells (reply.Front n) = codes "front" ∷ decimal n ∷ []

-- an entry with its number
abbrev pub entry_text : Tables → ℕ × Entry Call Reply → List ℕ
entry_text t (number, e) = row (decimal number ∷ decimal e.who ∷ (call_cells t e.call ++ reply_cells e.reply))

-- the entries, numbered from 1
unfoldable pub history_text : Tables → History → List ℕ
history_text t h = history_head ++ flat_map (entry_text t) (enumerate_from 1 h)
