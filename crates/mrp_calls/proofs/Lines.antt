-- Lines that are answered one after the other.
use Rattle.std.proofs.Common.{◌≡◌, ◌∙◌, ◌⊎◌, ◌<◌, ℕ, Bool, true, false, List, [], ◌∷◌, ◌++◌, length, map, take, refl, sym, ap, subst, append_assoc, append-nil, arith}
use Rattle.std.specs.Prelude.{◌==◌, ◌&&◌, ◌-◌, nat_le, nat_lt, slice_index}
use Rattle.std.specs.Bool.{MatchBool}
use Rattle.std.proofs.lemmas.Bool.{leb-true, leb-false, lt-leb}
use Rattle.std.proofs.lemmas.List.{length-take-le, take_all}
use Rattle.mrp_intake.specs.Lines.{lines_of, told_lines, told_of}
use Rattle.mrp_tables.specs.Tables.{Tables}
use Rattle.mrp_book.specs.History.{next_number}
use Rattle.mrp_calls.specs.Answers.{Adds, Answers, AnswersCall, AnswersLine, Stays, full_text, no_memory_text}
use Rattle.mrp_calls.specs.Desk.{Desk, is_full}
use Rattle.mrp_calls.specs.LineCall.{call_of_line, is_whole}

-- a line that is too long is not whole
long : (line : List ℕ) → 4096 < length line → is_whole line ≡ false
long line h = by (nat_lt 0 (length line)) (nat_le (length line) 4096) (slice_index line (length line - 1) == 10) (lt-leb (length line) 4096 h)
  where
    by : (a b c : Bool) → b ≡ false → (a && b && c) ≡ false
    by true true c e = absurd cc
    by true false c e = refl
    by false b c e = refl

-- of a line that is too long it does not matter what more of it is told
pub told-call : (t : Tables) (number : ℕ) (line : List ℕ) → call_of_line t number (told_of line) ≡ call_of_line t number line
told-call t number line = by (nat_le (length line) 4097) refl
  where
    by : (b : Bool) → nat_le (length line) 4097 ≡ b → call_of_line t number (told_of line) ≡ call_of_line t number line
    by true e = ap (call_of_line t number) (take_all 4097 line (leb-true (length line) 4097 e))
    by false e =
        let over : 4097 < length line = leb-false (length line) 4097 e in
        let told : length (take 4097 line) ≡ 4097 = length-take-le 4097 line (omega arith) in
        rw (long (take 4097 line) (omega (arith, told)), long line (omega arith)) refl

told-answered : (line : List ℕ) (old : Desk) (answer journalled : List ℕ) (new : Desk) → AnswersLine line old answer journalled new → AnswersLine (told_of line) old answer journalled new
told-answered line old answer journalled new h = by (is_full old) h
  where
    by : (b : Bool)
        → MatchBool b (Stays full_text old answer journalled new) (AnswersCall (call_of_line old.tables (next_number old.entries) line) old answer journalled new ⊎ Stays no_memory_text old answer journalled new)
        → MatchBool b (Stays full_text old answer journalled new) (AnswersCall (call_of_line old.tables (next_number old.entries) (told_of line)) old answer journalled new ⊎ Stays no_memory_text old answer journalled new)
    by true is = is
    by false is = subst (λ call. AnswersCall call old answer journalled new ⊎ Stays no_memory_text old answer journalled new) (sym (told-call old.tables (next_number old.entries) line)) is

-- so far the first of a batch's lines are answered: what goes on from here answers all of them
pub record SoFar (batch : List ℕ) (first : Desk) (rest : List ℕ) (now : Desk) (answers records : List ℕ) : Type 0 where
  pub goes_on : (new : Desk) (more_answers more_records : List ℕ) → Answers (told_lines rest) now more_answers more_records new
      → Answers (told_lines batch) first (answers ++ more_answers) (records ++ more_records) new

pub so-far-none : (batch : List ℕ) (first : Desk) (answers records : List ℕ) → answers ≡ [] → records ≡ [] → SoFar batch first batch first answers records
so-far-none batch first answers records a r = record { goes_on = λ new more_answers more_records h. rw (a, r) h }

pub so-far-next : (batch : List ℕ) (first : Desk) (rest line behind : List ℕ) (now next : Desk) (answers records new_answers new_records : List ℕ)
    → SoFar batch first rest now answers records → lines_of rest ≡ line ∷ lines_of behind → Adds (AnswersLine line) now answers records next new_answers new_records
    → SoFar batch first behind next new_answers new_records
so-far-next batch first rest line behind now next answers records new_answers new_records so lines adds = record {
  goes_on = λ new more_answers more_records h.
      let (answer, written, answered, answers_are, records_are) = adds in
      let told : told_lines rest ≡ told_of line ∷ told_lines behind = ap (map told_of) lines in
      let here : Answers (told_of line ∷ told_lines behind) now (answer ++ more_answers) (written ++ more_records) new =
      (next, answer, more_answers, written, more_records, told-answered line now answer written next answered, h, refl, refl) in
      let all = so.goes_on new (answer ++ more_answers) (written ++ more_records) (subst (λ (ls : List (List ℕ)). Answers ls now (answer ++ more_answers) (written ++ more_records) new) (sym told) here) in
      let a : answers ++ (answer ++ more_answers) ≡ new_answers ++ more_answers = sym (append_assoc answers answer more_answers) ∙ ap (λ (l : List ℕ). l ++ more_answers) (sym answers_are) in
      let r : records ++ (written ++ more_records) ≡ new_records ++ more_records = sym (append_assoc records written more_records) ∙ ap (λ (l : List ℕ). l ++ more_records) (sym records_are) in
      subst (λ (l : List ℕ). Answers (told_lines batch) first (new_answers ++ more_answers) l new) r (subst (λ (l : List ℕ). Answers (told_lines batch) first l (records ++ (written ++ more_records)) new) a all);
}

lines-none : lines_of [] ≡ []
unfolding lines_of
lines-none = refl

pub so-far-all : (batch : List ℕ) (first : Desk) (rest : List ℕ) (now : Desk) (answers records : List ℕ) → SoFar batch first rest now answers records → rest ≡ [] → Answers (told_lines batch) first answers records now
so-far-all batch first rest now answers records so none =
    let told : told_lines rest ≡ [] = ap told_lines none ∙ ap (map told_of) lines-none in
    let end : Answers (told_lines rest) now [] [] now = subst (λ (ls : List (List ℕ)). Answers ls now [] [] now) (sym told) (refl, refl, refl) in
    subst (λ (l : List ℕ). Answers (told_lines batch) first answers l now) (append-nil records)
    (subst (λ (l : List ℕ). Answers (told_lines batch) first l (records ++ []) now) (append-nil answers) (so.goes_on now [] [] end))
