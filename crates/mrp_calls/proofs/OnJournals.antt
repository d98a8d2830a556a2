-- A journal behind which the records of answered lines are appended.
use Rattle.std.proofs.Common.{◌≡◌, ◌∙◌, ◌+◌, ◌<◌, ℕ, List, [], ◌∷◌, ◌++◌, length, Ok, sym, ap, subst, append_assoc, append-nil, inl, inr, arith}
use Rattle.std.specs.Prelude.{map}
use Rattle.std.proofs.lemmas.List.{length-map, map-append}
use Rattle.mrp_master.specs.Supply.{supply_of}
use Rattle.mrp_turn.specs.declared.log.Entry.{Entry}
use Rattle.mrp_book.specs.declared.call.Call.{Call}
use Rattle.mrp_book.specs.declared.reply.Reply.{Reply}
use Rattle.mrp_book.specs.History.{asked}
use Rattle.mrp_book.proofs.Histories.{legal-more}
use Rattle.mrp_script.proofs.ScriptCalls.{call-fits}
use Rattle.mrp_script.specs.Script.{Script, record_of}
use Rattle.mrp_calls.specs.Answers.{Answers, entered, entry_of}
use Rattle.mrp_calls.specs.CallRecord.{record_text}
use Rattle.mrp_calls.specs.Desk.{Desk}
use Rattle.mrp_calls.specs.Journals.{AnswersJournal}
use Rattle.mrp_calls.specs.LineCall.{call_of_line}
use Rattle.mrp_calls.proofs.Steps.{MakesEntry, step-of}
use Rattle.mrp_calls.proofs.TableRows.{call-behind}

-- as many records as entries
as-many : (journal : List ℕ) (d : Desk) (on : AnswersJournal journal d) → length on.script ≡ length d.entries
as-many journal d on =
    sym (length-map on.script record_of) ∙ sym (ap (length {A = ℕ × Call}) on.calls) ∙ length-map d.entries (λ (e : Entry Call Reply). (e.who, e.call))

-- the record of a call that makes an entry
entry-on : (journal line answer written : List ℕ) (old next : Desk) → AnswersJournal journal old → MakesEntry line old answer written next → AnswersJournal (journal ++ written) next
entry-on journal line answer written old next on m =
    let e : Entry Call Reply = entry_of m.given m.enters.reply in
    let many : length on.script ≡ length old.entries = as-many journal old on in
    let few : length on.script < 100000 = (let place = m.place.few in omega (arith, many, place)) in
    let call : call_of_line old.tables (length on.script + 1) line ≡ Ok (m.r, m.given) = subst (λ (n : ℕ). call_of_line old.tables (n + 1) line ≡ Ok (m.r, m.given)) (sym many) m.called in
    let both = call-behind old.tables journal line on.script m.r m.given on.table on.rows few call in
    let legal = legal-more (supply_of old.tables) old.entries e on.legal (m.enters.within.desk, m.enters.is_reply, call-fits old.tables m.given.call m.enters.within.call) in
    let calls : asked (old.entries ++ e ∷ []) ≡ map record_of (on.script ++ m.given ∷ []) =
    map-append (λ (x : Entry Call Reply). (x.who, x.call)) old.entries (e ∷ []) ∙ ap (λ (s : Script). s ++ record_of m.given ∷ []) on.calls ∙ sym (map-append record_of on.script (m.given ∷ [])) in
    let made : AnswersJournal (journal ++ record_text m.given.call m.r) (entered old e written) = record {
      table = both.0;
      script = on.script ++ m.given ∷ [];
      rows = both.1;
      calls = calls;
      legal = legal;
    } in
    subst (λ (w : List ℕ). AnswersJournal (journal ++ w) next) (sym m.enters.record_is) (subst (AnswersJournal (journal ++ record_text m.given.call m.r)) (sym m.enters.after) made)

pub records-on : (lines : List (List ℕ)) (journal : List ℕ) (old : Desk) (answers records : List ℕ) (new : Desk) → AnswersJournal journal old → Answers lines old answers records new → AnswersJournal (journal ++ records) new
records-on [] journal old answers records new on (a, r, n) =
    let same : journal ≡ journal ++ records = sym (append-nil journal) ∙ ap (λ (w : List ℕ). journal ++ w) (sym r) in
    subst (λ (d : Desk). AnswersJournal (journal ++ records) d) (sym n) (subst (λ (w : List ℕ). AnswersJournal w old) same on)
records-on (line ∷ lines) journal old answers records new on (next, answer, more_answers, written, more_written, step, rest, a, r) =
    let here : AnswersJournal (journal ++ written) next = (elim (step-of line old answer written next step) [
      | inl (text, alone) ↦
          let same : journal ≡ journal ++ written = sym (append-nil journal) ∙ ap (λ (w : List ℕ). journal ++ w) (sym alone.stays.nothing) in
          subst (λ (d : Desk). AnswersJournal (journal ++ written) d) (sym alone.stays.same) (subst (λ (w : List ℕ). AnswersJournal w old) same on)
      | inr made ↦ entry-on journal line answer written old next on made
    ]) in
    let behind = records-on lines (journal ++ written) next more_answers more_written new here rest in
    subst (λ (w : List ℕ). AnswersJournal w new) (append_assoc journal written more_written ∙ ap (λ (w : List ℕ). journal ++ w) (sym r)) behind
