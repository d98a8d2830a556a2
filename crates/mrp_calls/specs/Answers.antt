-- What an open desk answers to each line (profile).
use Rattle.std.specs.Prelude.{ℕ, ◌≡◌, ◌⊎◌, ◌-◌, List, [], ◌∷◌, ◌++◌, codes, length, Result, Ok, Err}
use Rattle.std.specs.Bool.{MatchBool}
use Rattle.mrp_rows.specs.declared.fault.Fault.{Fault}
use Rattle.mrp_rows.specs.FaultText.{text_of_fault}
use Rattle.mrp_rows.specs.Left.{Cells}
use Rattle.mrp_tables.specs.declared.rows.ScriptRow.{ScriptRow}
use Rattle.mrp_tables.specs.Facts.{IsScriptRow}
use Rattle.mrp_master.specs.Supply.{supply_of}
use Rattle.mrp_turn.specs.declared.log.Entry.{Entry}
use Rattle.mrp_turn.specs.Log.{entry}
use Rattle.mrp_book.specs.declared.call.Call.{Call}
use Rattle.mrp_book.specs.declared.reply.Reply.{Reply}
use Rattle.mrp_book.specs.Books.{OrderBook}
use Rattle.mrp_book.specs.History.{IsReply, next_number}
use Rattle.mrp_script.specs.Script.{call_of}
use Rattle.mrp_report.specs.section.HistoryText.{entry_text}
use Rattle.mrp_calls.specs.CallRecord.{record_text}
use Rattle.mrp_calls.specs.Desk.{Desk, is_full}
use Rattle.mrp_calls.specs.LineCall.{call_of_line}

abbrev pub full_text : List ℕ
full_text = codes "full\n"

abbrev pub no_memory_text : List ℕ
no_memory_text = codes "no memory\n"

-- a fault's number, its name, and where it stands
abbrev pub refusal_text : Fault → List ℕ
refusal_text f = codes "refused: " ++ text_of_fault f ++ codes "\n"

-- this is answered, nothing is journalled, and nothing has changed
pub record Stays (text : List ℕ) (old : Desk) (answer journalled : List ℕ) (new : Desk) : Type 0 where
  pub answered : answer ≡ text
  pub nothing : journalled ≡ []
  pub same : new ≡ old

-- the entry that a call makes with a reply
abbrev pub entry_of : ScriptRow → Reply → Entry Call Reply
entry_of given reply = entry given.desk (call_of given.call) reply

-- the entry that a call makes in a book, with the reply that the entries before it decide
pub record IsEntryOf (book : OrderBook) (given : ScriptRow) (e : Entry Call Reply) : Type 0 where
  pub reply : Reply
  pub is_reply : IsReply book.supply book.entries given.desk (call_of given.call) reply
  pub entry_is : e ≡ entry_of given reply

-- the desk with one more entry, and less room by its record
abbrev pub entered : Desk → Entry Call Reply → List ℕ → Desk
entered old e journalled = record { tables = old.tables; entries = old.entries ++ e ∷ []; room = old.room - length journalled }

-- a call of the shop makes one more entry: its row is answered, and its record is journalled
pub record Enters (r : Cells) (given : ScriptRow) (old : Desk) (answer journalled : List ℕ) (new : Desk) : Type 0 where
  pub within : IsScriptRow old.tables.calendar.weeks old.tables.items given
  pub reply : Reply
  pub is_reply : IsReply (supply_of old.tables) old.entries given.desk (call_of given.call) reply
  pub answered : answer ≡ entry_text old.tables (next_number old.entries, entry_of given reply)
  pub record_is : journalled ≡ record_text given.call r
  pub after : new ≡ entered old (entry_of given reply) journalled

-- a line's call makes an entry, or the line is refused
abbrev pub AnswersCall : Result (Cells × ScriptRow) Fault → Desk → List ℕ → List ℕ → Desk → Type 0
AnswersCall (Ok call) old answer journalled new = Enters call.0 call.1 old answer journalled new
AnswersCall (Err f) old answer journalled new = Stays (refusal_text f) old answer journalled new

-- a line is answered: first, where the journal takes no more records; otherwise for what it says, or for out of memory
abbrev pub AnswersLine : List ℕ → Desk → List ℕ → List ℕ → Desk → Type 0
AnswersLine line old answer journalled new =
    MatchBool (is_full old) (Stays full_text old answer journalled new)
    (AnswersCall (call_of_line old.tables (next_number old.entries) line) old answer journalled new ⊎ Stays no_memory_text old answer journalled new)

-- lines are answered one after the other
abbrev pub Answers : List (List ℕ) → Desk → List ℕ → List ℕ → Desk → Type 0
Answers [] old answers journalled new = (answers ≡ []) × (journalled ≡ []) × (new ≡ old)
Answers (line ∷ lines) old answers journalled new =
    (next : Desk) × (answer more_answers written more_written : List ℕ) × AnswersLine line old answer written next × Answers lines next more_answers more_written new
    × (answers ≡ answer ++ more_answers) × (journalled ≡ written ++ more_written)

-- an answer and a record are added behind others
abbrev pub Adds : (Desk → List ℕ → List ℕ → Desk → Type 0) → Desk → List ℕ → List ℕ → Desk → List ℕ → List ℕ → Type 0
Adds R old answers journalled new new_answers new_journalled =
    (answer written : List ℕ) × R old answer written new × (new_answers ≡ answers ++ answer) × (new_journalled ≡ journalled ++ written)
