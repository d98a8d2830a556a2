-- A folder whose desk a crash has ended.
use Rattle.std.proofs.Common.{◌≡◌, ◌∙◌, ◌≤◌, ℕ, zero, suc, List, [], ◌∷◌, ◌++◌, length, take, refl, sym, ap, subst, append_assoc, length-append, inl, inr, arith}
use Rattle.std.specs.Prelude.{All}
use Rattle.std.specs.List.{concat}
use Rattle.std.proofs.lemmas.List.Elements.{All-append, All-cons, All-head, All-nil, All-tail}
use Rattle.std.proofs.lemmas.List.Folds.{concat-append}
use Rattle.mrp_rows.specs.Joined.{Part}
use Rattle.mrp_book.specs.History.{next_number}
use Rattle.mrp_journal.specs.Held.{IsFront}
use Rattle.mrp_journal.specs.Lines.{IsLine, whole_lines}
use Rattle.mrp_journal.specs.Table.{header_for, header_unless, journal_records}
use Rattle.mrp_journal.proofs.Fronts.{front-more, front-then}
use Rattle.mrp_journal.proofs.Restarts.{begun-again}
use Rattle.mrp_journal.proofs.WholeLines.{whole-append, whole-fronts, whole-journal, whole-own}
use Rattle.mrp_calls.specs.Answers.{Answers, AnswersLine}
use Rattle.mrp_calls.specs.CallRecord.{IsRecordLine}
use Rattle.mrp_calls.specs.Desk.{Desk}
use Rattle.mrp_calls.specs.Journals.{AnswersFolder, IsLeftOpen, journal_in}
use Rattle.mrp_calls.proofs.OnFolders.{TextsTell, folder-on}
use Rattle.mrp_calls.proofs.RecordLines.{line-of}
use Rattle.mrp_calls.proofs.Steps.{MakesEntry, step-of}

-- the first lines, whose records these are
record First (lines : List (List ℕ)) (old : Desk) (records : List ℕ) : Type 0 where
  count : ℕ
  few : count ≤ length lines
  answers : List ℕ
  desk : Desk
  first : Answers (take count lines) old answers records desk

no-first : (lines : List (List ℕ)) (old : Desk) → First lines old []
no-first lines old = record { count = 0; few = omega arith; answers = []; desk = old; first = (refl, refl, refl) }

-- behind a line
first-behind : (line : List ℕ) (lines : List (List ℕ)) (old next : Desk) (answer written records : List ℕ) → AnswersLine line old answer written next → First lines next records → First (line ∷ lines) old (written ++ records)
first-behind line lines old next answer written records step f =
    let few = f.few in
    record {
      count = suc f.count;
      few = omega (arith, few);
      answers = answer ++ f.answers;
      desk = f.desk;
      first = (next, answer, f.answers, written, records, step, f.first, refl, refl);
    }

-- the records of lines, one after the other: the first of them are those of the first lines
record Firsts (lines : List (List ℕ)) (old : Desk) (records : List ℕ) : Type 0 where
  texts : List (List ℕ)
  are : records ≡ concat texts
  lines_are : All IsLine texts
  front : (count : ℕ) → First lines old (concat (take count texts))

entry-line : (line answer written : List ℕ) (old next : Desk) → MakesEntry line old answer written next → IsLine written
entry-line line answer written old next m =
    let is : IsRecordLine written = subst IsRecordLine (sym m.enters.record_is) (line-of old.tables (next_number old.entries) line m.r m.given m.called) in
    is.line.line

entry-first : (line : List ℕ) (lines : List (List ℕ)) (old next : Desk) (answer written : List ℕ) (texts : List (List ℕ)) → AnswersLine line old answer written next
    → ((count : ℕ) → First lines next (concat (take count texts))) → (count : ℕ) → First (line ∷ lines) old (concat (take count (written ∷ texts)))
entry-first line lines old next answer written texts step front zero = no-first (line ∷ lines) old
entry-first line lines old next answer written texts step front (suc count) = first-behind line lines old next answer written (concat (take count texts)) step (front count)

firsts : (lines : List (List ℕ)) (old : Desk) (answers records : List ℕ) (new : Desk) → Answers lines old answers records new → Firsts lines old records
firsts [] old answers records new (a, r, n) = record { texts = []; are = r; lines_are = All-nil IsLine; front = none }
  where
    none : (count : ℕ) → First [] old (concat (take count []))
    none zero = no-first [] old
    none (suc count) = no-first [] old
firsts (line ∷ lines) old answers records new (next, answer, more_answers, written, more_written, step, rest, a, r) =
    let more : Firsts lines next more_written = firsts lines next more_answers more_written new rest in
    elim (step-of line old answer written next step) [
      | inl (text, alone) ↦ record {
        texts = more.texts;
        are = r ∙ ap (λ (w : List ℕ). w ++ more_written) alone.stays.nothing ∙ more.are;
        lines_are = more.lines_are;
        front = λ count.
            let records : List ℕ = concat (take count more.texts) in
            subst (First (line ∷ lines) old) (ap (λ (w : List ℕ). w ++ records) alone.stays.nothing) (first-behind line lines old next answer written records step (more.front count));
      }
      | inr made ↦ record {
        texts = written ∷ more.texts;
        are = r ∙ ap (λ (w : List ℕ). written ++ w) more.are;
        lines_are = All-cons IsLine written more.texts (entry-line line answer written old next made) more.lines_are;
        front = entry-first line lines old next answer written more.texts step more.front;
      }
    ]

-- a line has a byte
line-some : (line : List ℕ) → IsLine line → 1 ≤ length line
line-some line is =
    let same = ap (length {A = ℕ}) is.is in
    let size = length-append is.text (10 ∷ []) in
    omega (arith, same, size)

-- of texts of lines, so many that those before are all among them
past-first : (before texts : List (List ℕ)) (count : ℕ) → All IsLine before → length (concat before) ≤ length (concat (take count (before ++ texts)))
    → (more : ℕ) × (concat (take count (before ++ texts)) ≡ concat before ++ concat (take more texts))
past-first [] texts count all enough = (count, refl)
past-first (line ∷ before) texts zero all enough =
    let some : 1 ≤ length line = line-some line (All-head IsLine line before all) in
    let size = length-append line (concat before) in
    absurd (omega (arith, enough, some, size))
past-first (line ∷ before) texts (suc count) all enough =
    let one = length-append line (concat before) in
    let two = length-append line (concat (take count (before ++ texts))) in
    let more = past-first before texts count (All-tail IsLine line before all) (omega (arith, enough, one, two)) in
    (more.0, ap (λ (l : List ℕ). line ++ l) more.1 ∙ sym (append_assoc line (concat before) (concat (take more.0 texts))))

header-whole : (records : List (List (List ℕ))) → whole_lines (header_unless records) ≡ header_unless records
unfolding whole_lines
header-whole [] = refl
header-whole (r ∷ rs) = refl

-- a journal that was begun has whole lines alone
begun-whole : (bytes : List ℕ) → whole_lines (journal_in bytes) ≡ journal_in bytes
begun-whole bytes =
    whole-append (whole_lines bytes) (header_for (whole_lines bytes)) (whole-own bytes) ∙ ap (λ (h : List ℕ). whole_lines bytes ++ h) (header-whole (journal_records (whole_lines bytes)))

pub left-open : TextsTell → (earlier lines : List (List ℕ)) (others : List Part) (bytes left : List ℕ) (first old new : Desk) (said written answers records : List ℕ)
    → AnswersFolder others (journal_in bytes) first → Answers earlier first said written old → Answers lines old answers records new
    → IsFront (journal_in bytes ++ written) left → IsFront left ((journal_in bytes ++ written) ++ records) → IsLeftOpen lines others (journal_in bytes ++ written) left old
left-open tell earlier lines others bytes left first old new said written answers records on before given f g =
    let start : List ℕ = journal_in bytes in
    let journal : List ℕ = start ++ written in
    let was : Firsts earlier first written = firsts earlier first said written old before in
    let is : Firsts lines old records = firsts lines old answers records new given in
    let texts : List (List ℕ) = was.texts ++ is.texts in
    let whole : journal ++ records ≡ start ++ concat texts =
    append_assoc start written records ∙ ap (λ (w : List ℕ). start ++ (w ++ records)) was.are ∙ ap (λ (w : List ℕ). start ++ (concat was.texts ++ w)) is.are ∙ ap (λ (w : List ℕ). start ++ w) (sym (concat-append was.texts is.texts)) in
    let again = begun-again bytes left texts on.table.takes (All-append IsLine was.texts is.texts was.lines_are is.lines_are) (front-then start journal left (front-more start written) f) (subst (IsFront left) whole g) in
    let count : ℕ = again.0 in
    let own : whole_lines journal ≡ journal =
    ap (λ (w : List ℕ). whole_lines (start ++ w)) was.are ∙ whole-journal start was.texts (begun-whole bytes) was.lines_are ∙ ap (λ (w : List ℕ). start ++ w) (sym was.are) in
    let longer : IsFront (whole_lines journal) (whole_lines left) = whole-fronts journal left f in
    let enough : length (concat was.texts) ≤ length (concat (take count texts)) = (let one = ap (length {A = ℕ}) own in
    let two = ap (length {A = ℕ}) longer.is in
    let three = length-append (whole_lines journal) longer.behind in
    let four = length-append (whole_lines left) (header_for (whole_lines left)) in
    let five = ap (length {A = ℕ}) again.2 in
    let six = length-append start (concat (take count texts)) in
    let seven = length-append start written in
    let eight = ap (length {A = ℕ}) was.are in
    omega (arith, one, two, three, four, five, six, seven, eight)) in
    let more = past-first was.texts is.texts count was.lines_are enough in
    let front : First lines old (concat (take more.0 is.texts)) = is.front more.0 in
    let kept : AnswersFolder others journal old = folder-on tell earlier others start first said written old on before in
    record {
      count = front.count;
      few = front.few;
      answers = front.answers;
      records = concat (take more.0 is.texts);
      desk = front.desk;
      first = front.first;
      begins = again.2 ∙ ap (λ (w : List ℕ). start ++ w) more.1 ∙ sym (append_assoc start (concat was.texts) (concat (take more.0 is.texts))) ∙ ap (λ (w : List ℕ). (start ++ w) ++ concat (take more.0 is.texts)) (sym was.are);
      opens = folder-on tell (take front.count lines) others journal old front.answers (concat (take more.0 is.texts)) front.desk kept front.first;
    }
