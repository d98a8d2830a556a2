-- Lines that were answered one after the other: their answers, entries and records.
use Rattle.std.proofs.Common.{◌≡◌, ◌∙◌, ◌+◌, ◌≤◌, ℕ, suc, List, [], ◌∷◌, ◌++◌, length, Some, None, refl, sym, ap, subst, append_assoc, append-nil, length-append, inl, inr, arith}
use Rattle.std.specs.List.{enumerate_from}
use Rattle.std.proofs.lemmas.List.Elements.{All-cons, All-nil}
use Rattle.mrp_turn.specs.declared.log.Entry.{Entry}
use Rattle.mrp_book.specs.declared.call.Call.{Call}
use Rattle.mrp_book.specs.declared.reply.Reply.{Reply}
use Rattle.mrp_book.specs.History.{next_number}
use Rattle.mrp_journal.specs.Lines.{IsLine}
use Rattle.mrp_calls.specs.Answers.{Answers, entered, entry_of}
use Rattle.mrp_calls.specs.Batches.{AreAnswered, IsRowOf, Said}
use Rattle.mrp_calls.specs.CallRecord.{IsRecordLine}
use Rattle.mrp_calls.specs.Desk.{Desk}
use Rattle.mrp_calls.proofs.AnswerLines.{entry-line, short-line}
use Rattle.mrp_calls.proofs.RecordLines.{line-of}
use Rattle.mrp_calls.proofs.ShortRecords.{record-short}
use Rattle.mrp_calls.proofs.Steps.{MakesEntry, step-of}

-- an answer is one line
abbrev IsOneLine : Said → Type 0
IsOneLine said = IsLine said.0

none-answered : (old new : Desk) (answers records : List ℕ) → answers ≡ [] → records ≡ [] → new ≡ old → AreAnswered [] old answers records new
none-answered old new answers records a r n = record {
  said = [];
  one_each = refl;
  answers_are = a;
  line_each = λ names. All-nil IsOneLine;
  rows_are = All-nil (IsRowOf old.tables);
  made = [];
  in_order = refl;
  entries = ap (λ (d : Desk). d.entries) n ∙ sym (append-nil old.entries);
  tables = ap (λ (d : Desk). d.tables) n;
  texts = [];
  records_are = r;
  record_each = refl;
  lines_are = All-nil IsRecordLine;
  room = let same = ap (λ (d : Desk). d.room) n in let none = ap (length {A = ℕ}) r in omega (arith, same, none);
}

-- an answer that stands alone, and those behind it
alone-answered : (line : List ℕ) (lines : List (List ℕ)) (old new : Desk) (text answer written more_answers more_written : List ℕ) → answer ≡ text → IsLine text → written ≡ [] → AreAnswered lines old more_answers more_written new
    → AreAnswered (line ∷ lines) old (answer ++ more_answers) (written ++ more_written) new
alone-answered line lines old new text answer written more_answers more_written is one none more = record {
  said = (answer, None) ∷ more.said;
  one_each = ap (λ (n : ℕ). suc n) more.one_each;
  answers_are = ap (λ (xs : List ℕ). answer ++ xs) more.answers_are;
  line_each = λ names. All-cons IsOneLine (answer, None) more.said (subst IsLine (sym is) one) (more.line_each names);
  rows_are = All-cons (IsRowOf old.tables) (answer, None) more.said tt more.rows_are;
  made = more.made;
  in_order = more.in_order;
  entries = more.entries;
  tables = more.tables;
  texts = more.texts;
  records_are = ap (λ (xs : List ℕ). xs ++ more_written) none ∙ more.records_are;
  record_each = more.record_each;
  lines_are = more.lines_are;
  room = let same = ap (λ (xs : List ℕ). length (xs ++ more_written)) none in let left = more.room in omega (arith, same, left);
}

-- an entry, and those behind it
entry-answered : (line : List ℕ) (lines : List (List ℕ)) (old next new : Desk) (answer written more_answers more_written : List ℕ) → MakesEntry line old answer written next → AreAnswered lines next more_answers more_written new
    → AreAnswered (line ∷ lines) old (answer ++ more_answers) (written ++ more_written) new
entry-answered line lines old next new answer written more_answers more_written m behind =
    let e : Entry Call Reply = entry_of m.given m.enters.reply in
    let number : ℕ = next_number old.entries in
    let more : AreAnswered lines (entered old e written) more_answers more_written new = subst (λ (d : Desk). AreAnswered lines d more_answers more_written new) m.enters.after behind in
    let next_is : next_number (old.entries ++ e ∷ []) ≡ number + 1 = (let size = length-append old.entries (e ∷ []) in omega (arith, size)) in
    let short : length written ≤ 8192 = subst (λ (xs : List ℕ). length xs ≤ 8192) (sym m.enters.record_is) (record-short old.tables number line m.r m.given m.called) in
    record {
      said = (answer, Some (number, e)) ∷ more.said;
      one_each = ap (λ (n : ℕ). suc n) more.one_each;
      answers_are = ap (λ (xs : List ℕ). answer ++ xs) more.answers_are;
      line_each = λ names. All-cons IsOneLine (answer, Some (number, e)) more.said (subst IsLine (sym m.enters.answered) (entry-line old.tables number e names)) (more.line_each names);
      rows_are = All-cons (IsRowOf old.tables) (answer, Some (number, e)) more.said m.enters.answered more.rows_are;
      made = e ∷ more.made;
      in_order = ap (λ (es : List (ℕ × Entry Call Reply)). (number, e) ∷ es) (more.in_order ∙ ap (λ (n : ℕ). enumerate_from n more.made) next_is);
      entries = more.entries ∙ append_assoc old.entries (e ∷ []) more.made;
      tables = more.tables;
      texts = written ∷ more.texts;
      records_are = ap (λ (xs : List ℕ). written ++ xs) more.records_are;
      record_each = ap (λ (n : ℕ). suc n) more.record_each;
      lines_are = All-cons IsRecordLine written more.texts (subst IsRecordLine (sym m.enters.record_is) (line-of old.tables number line m.r m.given m.called)) more.lines_are;
      room = let left = more.room in let size = length-append written more_written in let some = m.place.room in omega (arith, left, size, some, short);
    }

pub are-answered : (lines : List (List ℕ)) (old : Desk) (answers records : List ℕ) (new : Desk) → Answers lines old answers records new → AreAnswered lines old answers records new
are-answered [] old answers records new (a, r, n) = none-answered old new answers records a r n
are-answered (line ∷ lines) old answers records new (next, answer, more_answers, written, more_written, step, rest, a, r) =
    let more : AreAnswered lines next more_answers more_written new = are-answered lines next more_answers more_written new rest in
    subst (λ (xs : List ℕ). AreAnswered (line ∷ lines) old xs records new) (sym a)
    (subst (λ (xs : List ℕ). AreAnswered (line ∷ lines) old (answer ++ more_answers) xs new) (sym r) (elim (step-of line old answer written next step) [
      | inl (text, alone) ↦
          alone-answered line lines old new text answer written more_answers more_written alone.stays.answered (short-line text alone.short) alone.stays.nothing
          (subst (λ (d : Desk). AreAnswered lines d more_answers more_written new) alone.stays.same more)
      | inr made ↦ entry-answered line lines old next new answer written more_answers more_written made more
    ]))
