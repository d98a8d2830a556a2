-- The cells of an entry's row.
use Rattle.std.proofs.Common.{◌≡◌, ◌∙◌, ℕ, List, ◌∷◌, ◌++◌, ap}
use Rattle.std.specs.Prelude.{decimal}
use Rattle.mrp_turn.specs.declared.log.Entry.{Entry}
use Rattle.mrp_book.specs.declared.call.Call.{Call}
use Rattle.mrp_book.specs.declared.reply.Reply.{Reply}
use Rattle.mrp_tables.specs.Tables.{Tables}
use Rattle.mrp_report.specs.declared.section.history.Called.{Called}
use Rattle.mrp_report.specs.declared.section.history.Replied.{Replied}
use Rattle.mrp_report.specs.section.EntryCells.{called_cells, replied_cells}
use Rattle.mrp_report.specs.section.HistoryText.{call_cells, entry_text, reply_cells}
use Rattle.mrp_report.specs.page.Rows.{row}

-- the row of an entry's cells is the entry's
pub row-is : (t : Tables) (n : ℕ) (e : Entry Call Reply) (called : Called) (replied : Replied) → called_cells called ≡ call_cells t e.call → replied_cells replied ≡ reply_cells e.reply
    → row (decimal n ∷ decimal e.who ∷ (called_cells called ++ replied_cells replied)) ≡ entry_text t (n, e)
row-is t n e called replied c r =
    ap (λ (cs : List (List ℕ)). row (decimal n ∷ decimal e.who ∷ (cs ++ replied_cells replied))) c
    ∙ ap (λ (rs : List (List ℕ)). row (decimal n ∷ decimal e.who ∷ (call_cells t e.call ++ rs))) r
