-- Batches are settled one after the other.
use Rattle.std.proofs.Common.{◌≡◌, ◌≢◌, ◌∙◌, ◌⊎◌, ◌<◌, ◌≤◌, ℕ, Bool, true, false, List, [], ◌∷◌, ◌++◌, Option, Some, None, inl, inr, ap, ap₂, append_assoc, arith, drop, length, length-append, map, refl, subst, sym}
use Rattle.std.proofs.Math.Seq.{drop-append_seam}
use Rattle.std.proofs.lemmas.List.{append-nil}
use Rattle.std.specs.Prelude.{IfSome, option_map}
use Rattle.std.specs.Bool.{MatchBool}
use Rattle.std.specs.Io.KnownBytes.{Appends, IsAtEnd}
use Rattle.std.specs.List.{FoldsTo}
use Rattle.mrp_rows.specs.Told.{HasRisenBy}
use Rattle.mrp_rows.specs.declared.streams.TheConstants.{WRITE_TRIES}
use Rattle.mrp_rows.specs.declared.fault.Fault.{Fault}
use Rattle.mrp_rows.specs.declared.streams.ReadFault.{ReadFault}
use Rattle.mrp_rows.specs.declared.streams.ReadFault.TheVariants as read
use Rattle.mrp_rows.specs.Left.{Cells}
use Rattle.mrp_tables.specs.declared.rows.ScriptRow.{ScriptRow}
use Rattle.mrp_turn.specs.declared.log.Entry.{Entry}
use Rattle.mrp_book.specs.declared.call.Call.{Call}
use Rattle.mrp_book.specs.declared.reply.Reply.{Reply}
use Rattle.mrp_book.specs.History.{next_number}
use Rattle.mrp_book.specs.Standing.{History}
use Rattle.mrp_intake.specs.Intake.{BringsKnown, IsLineLeft, Taken}
use Rattle.mrp_intake.specs.Lines.{lines_of, told_lines, told_of}
use Rattle.mrp_journal.specs.Held.{Held, IsSettled, settled}
use Rattle.mrp_journal.specs.Journal.{with_more}
use Rattle.mrp_calls.specs.Answers.{Answers, AnswersCall, AnswersLine, Stays, entry_of, full_text, no_memory_text}
use Rattle.mrp_calls.specs.Desk.{Desk, is_full}
use Rattle.mrp_calls.specs.LineCall.{call_of_line}
use Rattle.std.specs.Prelude.{Result, Ok, Err}
use Rattle.mrp_commands.specs.Refusal.{end_of_read}
use Rattle.mrp_commands.specs.declared.ending.Ending.{Ending}
use Rattle.mrp_commands.specs.declared.ending.Ending.TheVariants as ending
use Rattle.mrp_words.specs.Folder.{Known}
use Rattle.mrp_open.specs.Runs.{Handed, HandsOver, HandsOverAll}
use Rattle.mrp_open.proofs.Failing.{read-fault, read-memory}
use Rattle.mrp_open.specs.Served.{Advances, BringsLines, Fails, FailsToRead, FailsToSettle, Flushes, HandsMore, IsServingEnd, MakesUp, Serves, Settles, SettlesRuns, Source, Stand, Stops, StopsAt}

-- What lines do to a desk.

-- it has entries more, and the same tables
pub record Grows (old new : Desk) : Type 0 where
  pub more : History
  pub is : new.entries ≡ old.entries ++ more
  pub same : new.tables ≡ old.tables

grows-none : (old new : Desk) → new ≡ old → Grows old new
grows-none old new e = record { more = []; is = ap (λ (d : Desk). d.entries) e ∙ sym (append-nil old.entries); same = ap (λ (d : Desk). d.tables) e }

grows-both : (old mid new : Desk) → Grows old mid → Grows mid new → Grows old new
grows-both old mid new p q = record {
  more = p.more ++ q.more;
  is = q.is ∙ ap (λ (h : History). h ++ q.more) p.is ∙ append_assoc old.entries p.more q.more;
  same = q.same ∙ p.same;
}

grows-call : (call : Result (Cells × ScriptRow) Fault) (old new : Desk) (answer written : List ℕ) → AnswersCall call old answer written new → Grows old new
grows-call (Ok call) old new answer written h =
    record { more = entry_of call.1 h.reply ∷ []; is = ap (λ (d : Desk). d.entries) h.after; same = ap (λ (d : Desk). d.tables) h.after }
grows-call (Err f) old new answer written h = grows-none old new h.same

grows-tried : (call : Result (Cells × ScriptRow) Fault) (old new : Desk) (answer written : List ℕ) → AnswersCall call old answer written new ⊎ Stays no_memory_text old answer written new → Grows old new
grows-tried call old new answer written (inl h) = grows-call call old new answer written h
grows-tried call old new answer written (inr h) = grows-none old new h.same

grows-line : (line : List ℕ) (old new : Desk) (answer written : List ℕ) → AnswersLine line old answer written new → Grows old new
grows-line line old new answer written h = by (is_full old) h
  where
    by : (b : Bool)
        → MatchBool b (Stays full_text old answer written new) (AnswersCall (call_of_line old.tables (next_number old.entries) line) old answer written new ⊎ Stays no_memory_text old answer written new)
        → Grows old new
    by true is = grows-none old new is.same
    by false is = grows-tried (call_of_line old.tables (next_number old.entries) line) old new answer written is

pub grows : (lines : List (List ℕ)) (old new : Desk) (answers written : List ℕ) → Answers lines old answers written new → Grows old new
grows [] old new answers written (no_answers, no_records, same) = grows-none old new same
grows (line ∷ lines) old new answers written (next, answer, more_answers, record_of, more_records, one, rest, a, r) =
    grows-both old next new (grows-line line old next answer record_of one) (grows lines next new more_answers more_records rest)

-- Lines, and then more, are settled.

appends-none : (a : Option (List ℕ)) → Appends a a []
appends-none None = tt
appends-none (Some x) = sym (append-nil x)

appends-both : (a b c : Option (List ℕ)) (s t : List ℕ) → Appends a b s → Appends b c t → Appends a c (s ++ t)
appends-both None b c s t p q = tt
appends-both (Some x) None c s t p q = absurd p
appends-both (Some x) (Some y) None s t p q = absurd q
appends-both (Some x) (Some y) (Some z) s t p q = q ∙ ap (λ (l : List ℕ). l ++ t) p ∙ append_assoc x s t

-- lines, and then more, are answered
answers-both : (one two : List (List ℕ)) (old mid new : Desk) (a b r s : List ℕ) → Answers one old a r mid → Answers two mid b s new → Answers (one ++ two) old (a ++ b) (r ++ s) new
answers-both [] two old mid new a b r s (no_answers, no_records, same) q =
    let from_old : Answers two old b s new = subst (λ (d : Desk). Answers two d b s new) same q in
    let with_answers : Answers two old (a ++ b) s new = subst (λ (x : List ℕ). Answers two old (x ++ b) s new) (sym no_answers) from_old in
    subst (λ (x : List ℕ). Answers two old (a ++ b) (x ++ s) new) (sym no_records) with_answers
answers-both (line ∷ lines) two old mid new a b r s (next, answer, more_a, written, more_r, one, rest, a_is, r_is) q = (
  next,
  answer,
  more_a ++ b,
  written,
  more_r ++ s,
  one,
  answers-both lines two next mid new more_a b more_r s rest q,
  ap (λ (x : List ℕ). x ++ b) a_is ∙ append_assoc answer more_a b,
  ap (λ (x : List ℕ). x ++ s) r_is ∙ append_assoc written more_r s,
)

-- a journal that is durable, with nothing more
kept-none : (h : Option Held) → IfSome h IsSettled → h ≡ option_map (with_more []) h
kept-none None is = refl
kept-none (Some h) is = ap (λ (x : Held). Some x) (is ∙ ap settled (sym (append-nil h.bytes)))

-- with these records behind it, and then with more
kept-both : (a b c : Option Held) (r s : List ℕ) → b ≡ option_map (with_more r) a → c ≡ option_map (with_more s) b → c ≡ option_map (with_more (r ++ s)) a
kept-both None b c r s p q = q ∙ ap (option_map (with_more s)) p
kept-both (Some h) b c r s p q = q ∙ ap (option_map (with_more s)) p ∙ ap (λ (x : List ℕ). Some (settled x)) (append_assoc h.bytes r s)

-- no line is settled yet
settles-none : (old : Stand) → IfSome old.journal IsSettled → Settles [] old old
settles-none old is =
    record { answers = []; records = []; answered = (refl, refl, refl); kept = kept-none old.journal is; told = appends-none old.output; flushed = inl (refl, refl); sound = refl; clear = refl }

-- what is flushed last is flushed
flushed-last : (old mid new : Stand) (a b : List ℕ) → Appends old.output mid.output a → Flushes mid new b → Flushes old new (a ++ b)
flushed-last old mid new a b p q =
    record { written = q.written; calls = q.calls; appends = appends-both old.output mid.output q.written a b p q.appends; keeps = q.keeps; called = q.called }

-- no line has an answer
no-answers : (lines : List (List ℕ)) (old new : Desk) (answers records : List ℕ) → lines ≡ [] → Answers lines old answers records new → answers ≡ []
no-answers [] old new answers records none answered = answered.0
no-answers (line ∷ lines) old new answers records none answered = absurd cc

flushed-both : (one two : List (List ℕ)) (old mid new : Stand) (a b : List ℕ) → Appends old.output mid.output a → (two ≡ [] → b ≡ []) → ((one ≡ []) × (mid ≡ old)) ⊎ Flushes old mid a → ((two ≡ []) × (new ≡ mid)) ⊎ Flushes mid new b
    → ((one ++ two ≡ []) × (new ≡ old)) ⊎ Flushes old new (a ++ b)
flushed-both one two old mid new a b told silent p (inr q) = inr (flushed-last old mid new a b told q)
flushed-both one two old mid new a b told silent (inl (first, same)) (inl (second, kept)) = inl (ap₂ (λ (x y : List (List ℕ)). x ++ y) first second, kept ∙ same)
flushed-both one two old mid new a b told silent (inr p) (inl (second, kept)) =
    let all : a ≡ a ++ b = sym (append-nil a) ∙ ap (λ (x : List ℕ). a ++ x) (sym (silent second)) in
    inr (subst (λ (x : List ℕ). Flushes old new x) all (subst (λ (s : Stand). Flushes old s a) (sym kept) p))

-- lines are settled, and then more
settles-both : (one two : List (List ℕ)) (old mid new : Stand) → Settles one old mid → Settles two mid new → Settles (one ++ two) old new
settles-both one two old mid new p q = record {
  answers = p.answers ++ q.answers;
  records = p.records ++ q.records;
  answered = answers-both one two old.desk mid.desk new.desk p.answers q.answers p.records q.records p.answered q.answered;
  kept = kept-both old.journal mid.journal new.journal p.records q.records p.kept q.kept;
  told = appends-both old.output mid.output new.output p.answers q.answers p.told q.told;
  flushed = flushed-both one two old mid new p.answers q.answers p.told (λ none. no-answers two mid.desk new.desk q.answers q.records none q.answered) p.flushed q.flushed;
  sound = q.sound ∙ p.sound;
  clear = q.clear ∙ p.clear;
}

durable-kept : (a b : Option Held) (records : List ℕ) → b ≡ option_map (with_more records) a → IfSome b IsSettled
durable-kept None b records e = subst (λ (x : Option Held). IfSome x IsSettled) (sym e) tt
durable-kept (Some h) b records e = subst (λ (x : Option Held). IfSome x IsSettled) (sym e) refl

-- Runs that are handed over.

folds-both : {P A : Type 0} (R : P → A → P → Type 0) (a : P) (xs : List A) (b : P) (ys : List A) (c : P) → FoldsTo R a xs b → FoldsTo R b ys c → FoldsTo R a (xs ++ ys) c
folds-both {P} R a [] b ys c p q = subst (λ (v : P). FoldsTo R v ys c) (sym p) q
folds-both R a (x ∷ xs) b ys c (next, one, rest) q = (next, one, folds-both R next xs b ys c rest q)

-- the entries that a desk has made since
pub hands-since : (old new : Desk) (handed_old handed_new : Handed) → Grows old new → HandsOverAll (drop (length old.entries) new.entries) handed_old handed_new → HandsMore old.entries new.entries handed_old handed_new
hands-since old new handed_old handed_new g h = record {
  more = g.more;
  is = g.is;
  handed = subst (λ (es : History). HandsOverAll es handed_old handed_new) (ap (drop (length old.entries)) g.is ∙ drop-append_seam old.entries g.more) h;
}

pub hands-none : (h : History) (handed : Handed) → HandsMore h h handed handed
hands-none h handed = record { more = []; is = sym (append-nil h); handed = refl }

hands-both : (old mid new : History) (a b c : Handed) → HandsMore old mid a b → HandsMore mid new b c → HandsMore old new a c
hands-both old mid new a b c p q = record {
  more = p.more ++ q.more;
  is = q.is ∙ ap (λ (h : History). h ++ q.more) p.is ∙ append_assoc old p.more q.more;
  handed = folds-both (λ (handed : Handed) (e : Entry Call Reply) (next : Handed). HandsOver e.who e.reply handed next) a p.more b q.more c p.handed q.handed;
}

-- Lines that come.

brings-none : (given : Option (List ℕ)) → BringsLines [] given [] [] given
brings-none None = tt
brings-none (Some text) = refl

brings-both : (b1 b2 b3 : List ℕ) (g1 g2 g3 : Option (List ℕ)) (one two : List (List ℕ)) → BringsLines b1 g1 one b2 g2 → BringsLines b2 g2 two b3 g3 → BringsLines b1 g1 (one ++ two) b3 g3
brings-both b1 b2 b3 None g2 g3 one two p q = tt
brings-both b1 b2 b3 (Some x) None g3 one two p q = absurd p
brings-both b1 b2 b3 (Some x) (Some y) None one two p q = absurd q
brings-both b1 b2 b3 (Some x) (Some y) (Some z) one two p q = p ∙ ap (λ (ls : List (List ℕ)). one ++ ls) q ∙ sym (append_assoc one two (told_lines (b3 ++ z)))

-- a batch that an intake brings
pub brings-batch : (old new : Taken) (before after : Option (List ℕ)) → BringsKnown old new before after → BringsLines old.begun before (told_lines new.batch) new.begun after
brings-batch old new None after h = tt
brings-batch old new (Some x) None h = absurd h
brings-batch old new (Some x) (Some y) h = h

-- the lines that are still to come, or one where they are not known
abbrev left_lines : List ℕ → Option (List ℕ) → List (List ℕ)
left_lines begun None = [] ∷ []
left_lines begun (Some text) = told_lines (begun ++ text)

one-some : (line : List ℕ) → line ∷ [] ≢ []
one-some line none = cc

left-some : (begun : List ℕ) (given : Option (List ℕ)) → IsLineLeft begun given → left_lines begun given ≢ []
left-some begun None some = one-some []
left-some begun (Some text) some = some

lines-some : (lines more : List (List ℕ)) → lines ≢ [] → lines ++ more ≢ []
lines-some [] more some = absurd (some refl)
lines-some (line ∷ lines) more some = λ none. let e : line ∷ (lines ++ more) ≡ [] = none in cc

brings-rest : (b1 b2 : List ℕ) (given left : Option (List ℕ)) (lines : List (List ℕ)) → BringsLines b1 given lines b2 left → IfSome given (λ text. told_lines (b1 ++ text) ≡ lines ++ left_lines b2 left)
brings-rest b1 b2 None left lines h = tt
brings-rest b1 b2 (Some x) None lines h = absurd h
brings-rest b1 b2 (Some x) (Some y) lines h = h

-- An order desk goes on, and stops.

-- nothing was read yet
pub advances-none : (given : Source) (old : Stand) (handed : Handed) → IfSome old.journal IsSettled → Advances [] given [] given old old handed handed
advances-none given old handed is =
    record { lines = []; brings = brings-none given.left; heard = refl; settles = record { settled = settles-none old is; handed = hands-none old.desk.entries handed } }

-- one batch more
pub advances-both : (b1 b2 b3 : List ℕ) (s1 s2 s3 : Source) (old mid new : Stand) (h1 h2 h3 : Handed)
    → Advances b1 s1 b2 s2 old mid h1 h2 → Advances b2 s2 b3 s3 mid new h2 h3 → Advances b1 s1 b3 s3 old new h1 h3
advances-both b1 b2 b3 s1 s2 s3 old mid new h1 h2 h3 p q = record {
  lines = p.lines ++ q.lines;
  brings = brings-both b1 b2 b3 s1.left s2.left s3.left p.lines q.lines p.brings q.brings;
  heard = q.heard ∙ p.heard;
  settles = record {
    settled = settles-both p.lines q.lines old mid new p.settles.settled q.settles.settled;
    handed = hands-both old.desk.entries mid.desk.entries new.desk.entries h1 h2 h3 p.settles.handed q.settles.handed;
  };
}

-- what was settled is durable
pub advances-durable : (b1 b2 : List ℕ) (s1 s2 : Source) (old new : Stand) (h1 h2 : Handed) → Advances b1 s1 b2 s2 old new h1 h2 → IfSome new.journal IsSettled
advances-durable b1 b2 s1 s2 old new h1 h2 p = durable-kept old.journal new.journal p.settles.settled.records p.settles.settled.kept

-- the tables stay
pub advances-tables : (b1 b2 : List ℕ) (s1 s2 : Source) (old new : Stand) (h1 h2 : Handed) → Advances b1 s1 b2 s2 old new h1 h2 → new.desk.tables ≡ old.desk.tables
advances-tables b1 b2 s1 s2 old new h1 h2 p =
    let g : Grows old.desk new.desk = grows p.lines old.desk new.desk p.settles.settled.answers p.settles.settled.records p.settles.settled.answered in
    g.same

-- a batch was settled, and the runs behind the entries before were handed over
pub settles-runs : (lines : List (List ℕ)) (old new : Stand) (h1 h2 : Handed) → Settles lines old new → HandsOverAll (drop (length old.desk.entries) new.desk.entries) h1 h2 → SettlesRuns lines old new h1 h2
settles-runs lines old new h1 h2 s h =
    record { settled = s; handed = hands-since old.desk new.desk h1 h2 (grows lines old.desk new.desk s.answers s.records s.answered) h }

-- a batch was read and settled
pub advances-batch : (old_intake new_intake : Taken) (given left : Source) (old new : Stand) (h1 h2 : Handed) → BringsKnown old_intake new_intake given.left left.left → left.failures ≡ given.failures
    → SettlesRuns (told_lines new_intake.batch) old new h1 h2 → Advances old_intake.begun given new_intake.begun left old new h1 h2
advances-batch old_intake new_intake given left old new h1 h2 b heard s =
    record { lines = told_lines new_intake.batch; brings = brings-batch old_intake new_intake given.left left.left b; heard = heard; settles = s }

-- the input has ended
lines-none : lines_of [] ≡ []
unfolding lines_of
lines-none = refl

ended : (old new : Taken) (before after : Option (List ℕ)) → BringsKnown old new before after → new.batch ≡ [] → new.begun ≡ [] → IsAtEnd after → IfSome before (λ text. told_lines (old.begun ++ text) ≡ [])
ended old new None after h batch begun at = tt
ended old new (Some x) None h batch begun at = absurd h
ended old new (Some x) (Some y) h batch begun at =
    let none : told_lines [] ≡ [] = ap (map told_of) lines-none in
    let read : told_lines new.batch ≡ [] = ap told_lines batch ∙ none in
    let rest : told_lines (new.begun ++ y) ≡ [] = ap (λ (b : List ℕ). told_lines (b ++ y)) begun ∙ ap told_lines at ∙ none in
    h ∙ ap (λ (ls : List (List ℕ)). ls ++ told_lines (new.begun ++ y)) read ∙ rest

pub stops-done : (old_intake new_intake : Taken) (given left : Source) (old : Stand)
    → BringsKnown old_intake new_intake given.left left.left → new_intake.batch ≡ [] → new_intake.begun ≡ [] → IsAtEnd left.left → left.failures ≡ given.failures
    → StopsAt old_intake.begun given left old old ending.Done
stops-done old_intake new_intake given left old b batch begun at heard = record {
  lines = [];
  rest = [];
  given_are = ended old_intake new_intake given.left left.left b batch begun at;
  stopped = inl (λ (e : ending.Done ≡ ending.Write). cc, refl);
  fails = λ (e : ending.Done ≡ ending.Read). absurd cc;
  clear = λ other. heard;
  all = λ _. (refl, refl, refl);
  memory = λ (e : ending.Done ≡ ending.NoMemory). absurd cc;
  ends = inl refl;
}

left-all : (begun : List ℕ) (given : Option (List ℕ)) → IfSome given (λ text. told_lines (begun ++ text) ≡ [] ++ left_lines begun given)
left-all begun None = tt
left-all begun (Some text) = refl

-- what the fault of a read is
record IsReadEnd (end : Ending) : Type 0 where
  serving : IsServingEnd end
  not_done : end ≡ ending.Done → ⊥
  not_write : end ≡ ending.Write → ⊥

read-end : (fault : ReadFault) (end : Ending) → end ≡ end_of_read fault → IsReadEnd end
read-end read.Read end is =
    record { serving = inr (inr (inl is)); not_done = λ (done : end ≡ ending.Done). cc; not_write = λ (write : end ≡ ending.Write). cc }
read-end read.NoMemory end is =
    record { serving = inr (inl is); not_done = λ (done : end ≡ ending.Done). cc; not_write = λ (write : end ≡ ending.Write). cc }

-- where a read has not failed, there was no memory
clear-read : (fault : ReadFault) (end : Ending) (given left : Source) → end ≡ end_of_read fault → (fault ≡ read.NoMemory → left.failures ≡ given.failures) → end ≢ ending.Read → left.failures ≡ given.failures
clear-read read.Read end given left is heard other = absurd (other is)
clear-read read.NoMemory end given left is heard other = heard refl

-- a read has failed, or there was no memory
pub stops-read : (begun : List ℕ) (given left : Source) (old : Stand) (fault : ReadFault) (end : Ending) → end ≡ end_of_read fault → (fault ≡ read.Read → FailsToRead given left)
    → (fault ≡ read.NoMemory → left.failures ≡ given.failures) → (fault ≡ read.NoMemory → IsLineLeft begun given.left) → StopsAt begun given left old old end
stops-read begun given left old fault end is fails heard some =
    let ended_by = read-end fault end is in
    record {
      lines = [];
      rest = left_lines begun given.left;
      given_are = left-all begun given.left;
      stopped = inl (ended_by.not_write, refl);
      fails = λ e. fails (read-fault fault end is e);
      clear = clear-read fault end given left is heard;
      all = λ done. absurd (ended_by.not_done done);
      memory = λ e. left-some begun given.left (some (read-memory fault end is e));
      ends = ended_by.serving;
    }

-- what the end of a batch that was not settled is
record IsBatchEnd (lines : List (List ℕ)) (old new : Stand) (end : Ending) : Type 0 where
  serving : IsServingEnd end
  not_done : end ≡ ending.Done → ⊥
  not_read : end ≡ ending.Read → ⊥
  stopped : Stops lines old new end

batch-end : (lines : List (List ℕ)) (old new : Stand) (end : Ending) → Fails lines old new end → IsBatchEnd lines old new end
batch-end lines old new end (inl (is, same)) = record {
  serving = inr (inl is);
  not_done = λ (done : end ≡ ending.Done). cc;
  not_read = λ (read : end ≡ ending.Read). cc;
  stopped = inl (λ (write : end ≡ ending.Write). cc, same);
}
batch-end lines old new end (inr (is, breaks)) = record {
  serving = inr (inr (inr is));
  not_done = λ (done : end ≡ ending.Done). cc;
  not_read = λ (read : end ≡ ending.Read). cc;
  stopped = inr (is, breaks);
}

-- a batch was not settled
pub stops-batch : (old_intake new_intake : Taken) (given left : Source) (old new : Stand) (end : Ending)
    → BringsKnown old_intake new_intake given.left left.left → left.failures ≡ given.failures → told_lines new_intake.batch ≢ [] → Fails (told_lines new_intake.batch) old new end
    → StopsAt old_intake.begun given left old new end
stops-batch old_intake new_intake given left old new end b heard some fails =
    let ended_by = batch-end (told_lines new_intake.batch) old new end fails in
    record {
      lines = told_lines new_intake.batch;
      rest = left_lines new_intake.begun left.left;
      given_are = brings-rest old_intake.begun new_intake.begun given.left left.left (told_lines new_intake.batch) (brings-batch old_intake new_intake given.left left.left b);
      stopped = ended_by.stopped;
      fails = λ read. absurd (ended_by.not_read read);
      clear = λ other. heard;
      all = λ done. absurd (ended_by.not_done done);
      memory = λ _. lines-some (told_lines new_intake.batch) (left_lines new_intake.begun left.left) some;
      ends = ended_by.serving;
    }

given-both : (begun : List ℕ) (given left : Option (List ℕ)) (lines more rest : List (List ℕ)) → BringsLines [] given lines begun left → IfSome left (λ text. told_lines (begun ++ text) ≡ more ++ rest)
    → IfSome given (λ text. told_lines text ≡ lines ++ (more ++ rest))
given-both begun None left lines more rest p q = tt
given-both begun (Some x) None lines more rest p q = absurd p
given-both begun (Some x) (Some y) lines more rest p q = p ∙ ap (λ (ls : List (List ℕ)). lines ++ ls) q

-- an order desk went on, and then stopped
pub serves : (given waiting left : Source) (begun : List ℕ) (old between new : Stand) (handed_old handed_new : Handed) (end : Ending)
    → Advances [] given begun waiting old between handed_old handed_new → StopsAt begun waiting left between new end → Serves given left old new handed_old handed_new end
serves given waiting left begun old between new handed_old handed_new end p q = record {
  lines = p.lines;
  more = q.lines;
  rest = q.rest;
  waiting = waiting;
  between = between;
  given_are = given-both begun given.left waiting.left p.lines q.lines q.rest p.brings q.given_are;
  heard = p.heard;
  settles = p.settles;
  stopped = q.stopped;
  fails = q.fails;
  clear = q.clear;
  all = q.all;
  memory = q.memory;
  ends = q.ends;
}

-- entries stay
pub at-least : (lines : List (List ℕ)) (old new : Stand) → Settles lines old new → length old.desk.entries ≤ length new.desk.entries
at-least lines old new s =
    let g : Grows old.desk new.desk = grows lines old.desk new.desk s.answers s.records s.answered in
    omega (arith, ap (length {A = Entry Call Reply}) g.is, length-append old.desk.entries g.more)

-- so do the tables
pub same-tables : (lines : List (List ℕ)) (old new : Stand) → Settles lines old new → new.desk.tables ≡ old.desk.tables
same-tables lines old new s =
    let g : Grows old.desk new.desk = grows lines old.desk new.desk s.answers s.records s.answered in
    g.same

-- where a desk has ended by a failed write, a call of its journal has failed, or one of its output, or that was interrupted too often
pub broke : (known : Known) (folder : List ℕ) (given left : Source) (old new : Stand) (h1 h2 : Handed) (end : Ending) → MakesUp known folder given left old new h1 h2 end → end ≡ ending.Write
    → (0 < new.journal_failures) ⊎ (HasRisenBy 1 old.output_failures new.output_failures ⊎ (WRITE_TRIES ≤ new.output_interrupted))
broke known folder given left old new h1 h2 end (handed, missing, s) is = by s.stopped
  where
    from : FailsToSettle s.between new → (0 < new.journal_failures) ⊎ (HasRisenBy 1 old.output_failures new.output_failures ⊎ (WRITE_TRIES ≤ new.output_interrupted))
    from (inl up) = inl (omega (arith, up))
    from (inr (inl up)) = inr (inl (subst (λ (n : ℕ). HasRisenBy 1 n new.output_failures) s.settles.settled.clear up))
    from (inr (inr more)) = inr (inr (omega (arith, more)))

    by : Stops s.more s.between new end → (0 < new.journal_failures) ⊎ (HasRisenBy 1 old.output_failures new.output_failures ⊎ (WRITE_TRIES ≤ new.output_interrupted))
    by (inl (other, same)) = absurd (other is)
    by (inr (write, breaks)) = from breaks.fails
