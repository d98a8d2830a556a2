-- A history of the order book is the answers of a right list of calls and starts.
use Rattle.std.proofs.Common.{◌≡◌, ◌⊎◌, ◌∙◌, ◌<◌, ◌≤◌, ◌+◌, ◌==◌, ℕ, Bool, true, false, if◌then◌else◌, List, [], ◌∷◌, ◌++◌, length, map, inl, inr, refl, sym, ap, subst, arith}
use Rattle.std.proofs.lemmas.List.{append-nil, length-append}
use Rattle.std.proofs.lemmas.List.Elements.{All-append, All-cons, All-nil}
use Rattle.std.specs.Prelude.{All}
use Rattle.mrp_tables.specs.declared.limits.TheConstants.{MOST_ENTRIES}
use Rattle.mrp_turn.specs.declared.log.Entry.{Entry}
use Rattle.mrp_turn.specs.Log.{entry}
use Rattle.mrp_turn.proofs.Logs.{EachFollows-more, EachFollows-nil, InTurn, one_more}
use Rattle.mrp_tables.specs.Tables.{Tables}
use Rattle.mrp_master.specs.Supply.{supply_of}
use Rattle.mrp_book.specs.declared.call.Call.{Call}
use Rattle.mrp_book.specs.declared.call.Call.TheVariants as call
use Rattle.mrp_book.specs.declared.reply.Reply.{Reply}
use Rattle.mrp_book.specs.Standing.{History}
use Rattle.mrp_book.specs.History.{IsReply, MayFollow, next_number}
use Rattle.mrp_engine.specs.declared.event_core.event.Event.{Event}
use Rattle.mrp_engine.specs.declared.event_core.event.Event.TheVariants as event
use Rattle.mrp_engine.specs.declared.event_core.event.Answer.{Answer}
use Rattle.mrp_engine.specs.declared.event_core.event.Answer.TheVariants as answer
use Rattle.mrp_engine.specs.event_core.Core.{Core, FitsShop, IsAnswer, IsRight, MayFollowSteps, Run, Step, after, core_of, opened, snapshot_of}
use Rattle.mrp_engine.specs.event_core.Headline.{ChangesNothing}
use Rattle.mrp_engine.specs.event_core.Threads.{IsKept, book_steps, core_left}
use Rattle.mrp_engine.proofs.lemmas.event_core.CoreLaws.{core-none, core-one}

-- right steps, and the core after them
pub record Reaches (tables : Tables) (steps : List Step) (core : Core) : Type 0 where
  pub right : IsRight tables steps
  pub core_is : core_of tables steps ≡ core
  pub kept : All IsKept steps

pub reaches-none : (tables : Tables) → Reaches tables [] (opened tables)
reaches-none tables = record { right = EachFollows-nil (MayFollowSteps tables); core_is = core-none (opened tables); kept = All-nil IsKept }

pub reaches-more : (tables : Tables) (steps : List Step) (core new : Core) (e : Event) (a : Answer) → Reaches tables steps core → FitsShop tables e → IsAnswer core e a → after core e a ≡ new → (ChangesNothing a → ⊥)
    → Reaches tables (steps ++ (e, a) ∷ []) new
reaches-more tables steps core new e a has fits is now keeps = record {
  right = EachFollows-more (MayFollowSteps tables) steps (e, a) has.right (fits, subst (λ (c : Core). IsAnswer c e a) (sym has.core_is) is);
  core_is = core-one tables steps (e, a) ∙ ap (λ (c : Core). after c e a) has.core_is ∙ now;
  kept = All-append IsKept steps ((e, a) ∷ []) has.kept (All-cons IsKept (e, a) [] keeps (All-nil IsKept));
}

-- a run that has started
abbrev pub begun : Run → Run
begun r = record { front = r.front; log = [] }

-- the runs start at entries of the history, which are snapshots, one behind the other
abbrev pub StartIn : ℕ → History → List Run → Type 0
StartIn number [] [] = Unit {0}
StartIn number [] (r ∷ runs) = ⊥
StartIn number (e ∷ later) [] = Unit {0}
StartIn number (e ∷ later) (r ∷ runs) =
    (((r.front == number) ≡ true) × (r.front ≡ number) × (e.call ≡ call.Snapshot) × StartIn (number + 1) later runs)
    ⊎ (((r.front == number) ≡ false) × StartIn (number + 1) later (r ∷ runs))

module _ (tables : Tables) where
  abbrev pub core_at : History → List Run → Core
  core_at h runs = core_left tables h runs

  -- an entry is a call
  call-more : (number : ℕ) (steps : List Step) (h : History) (e : Entry Call Reply) (runs : List Run) → number ≡ next_number h → Reaches tables steps (core_at h runs) → MayFollow (supply_of tables) h e → length h < MOST_ENTRIES
      → Reaches tables (steps ++ (event.Call e.who e.call, answer.Replied number e.reply) ∷ []) (core_at (h ++ e ∷ []) runs)
  call-more number steps h e runs at has m open_ =
      reaches-more tables steps (core_at h runs) (core_at (h ++ e ∷ []) runs) (event.Call e.who e.call) (answer.Replied number e.reply) has
      (λ seat. m.2) (inl (m.0, inr ((λ full. absurd (omega (arith, open_, full))), e.reply, m.1, ap (λ (n : ℕ). answer.Replied n e.reply) at))) refl (λ none. none)

  -- a snapshot is a start
  start-more : (number run : ℕ) (steps : List Step) (h : History) (e : Entry Call Reply) (runs : List Run) → number ≡ next_number h → run ≡ length runs + 1 → Reaches tables steps (core_at h runs) → MayFollow (supply_of tables) h e → length h < MOST_ENTRIES
      → e.call ≡ call.Snapshot → Reaches tables (steps ++ (event.Start e.who, answer.Started run number) ∷ []) (core_at (h ++ e ∷ []) (runs ++ record { front = number; log = [] } ∷ []))
  start-more number run steps h e runs at new has m open_ snapshot =
      let said : e.reply ≡ snapshot_of (core_at h runs) number = subst (λ (c : Call). IsReply (supply_of tables) h e.who c e.reply) snapshot m.1 ∙ ap (λ (n : ℕ). snapshot_of (core_at h runs) n) (sym at) in
      let is : entry e.who call.Snapshot (snapshot_of (core_at h runs) number) ≡ e = ap (λ (r : Reply). entry e.who call.Snapshot r) (sym said) ∙ ap (λ (c : Call). entry e.who c e.reply) (sym snapshot) in
      reaches-more tables steps (core_at h runs) (core_at (h ++ e ∷ []) (runs ++ record { front = number; log = [] } ∷ [])) (event.Start e.who) (answer.Started run number) has
      tt (inl (m.0, inr ((λ full. absurd (omega (arith, open_, full))), ap (λ (n : ℕ). answer.Started n number) new ∙ ap (λ (n : ℕ). answer.Started (length runs + 1) n) at)))
      (ap (λ (x : Entry Call Reply). core_at (h ++ x ∷ []) (runs ++ record { front = number; log = [] } ∷ [])) is) (λ none. none)

  start-none : (number : ℕ) (later : History) → StartIn number later []
  start-none number [] = tt
  start-none number (e ∷ later) = tt

  -- what follows one more entry
  abbrev Goes : ℕ → ℕ → History → List Run → Type 0
  Goes number run later runs = (steps : List Step) (before : History) (started : List Run) → number ≡ next_number before → run ≡ length started + 1 → Reaches tables steps (core_at before started)
      → InTurn (MayFollow (supply_of tables)) before later → length before + length later ≤ MOST_ENTRIES
      → Reaches tables (steps ++ book_steps number run later runs) (core_at (before ++ later) (started ++ map begun runs))

  goes-none : (number run : ℕ) → Goes number run [] []
  unfolding book_steps
  goes-none number run steps before started at new has legal within =
      subst (λ (l : List Step). Reaches tables l (core_at (before ++ []) (started ++ []))) (sym (append-nil steps))
      (subst (λ (h : History). Reaches tables steps (core_at h (started ++ []))) (sym (append-nil before))
      (subst (λ (l : List Run). Reaches tables steps (core_at before l)) (sym (append-nil started)) has))

  longer : (h : History) (e : Entry Call Reply) → length (h ++ e ∷ []) ≡ length h + 1
  longer h e = length-append h (e ∷ [])

  goes-call : (number run : ℕ) (e : Entry Call Reply) (later : History) (runs : List Run) → Goes (number + 1) run later runs → (steps : List Step) (before : History) (started : List Run) → number ≡ next_number before
      → run ≡ length started + 1 → Reaches tables steps (core_at before started) → InTurn (MayFollow (supply_of tables)) before (e ∷ later) → length before + length (e ∷ later) ≤ MOST_ENTRIES
      → Reaches tables (steps ++ (event.Call e.who e.call, answer.Replied number e.reply) ∷ book_steps (number + 1) run later runs) (core_at (before ++ e ∷ later) (started ++ map begun runs))
  goes-call number run e later runs goes steps before started at new has legal within =
      let x : Step = (event.Call e.who e.call, answer.Replied number e.reply) in
      subst (λ (l : List Step). Reaches tables l (core_at (before ++ e ∷ later) (started ++ map begun runs))) (sym (one_more steps x (book_steps (number + 1) run later runs)))
      (subst (λ (h : History). Reaches tables ((steps ++ x ∷ []) ++ book_steps (number + 1) run later runs) (core_at h (started ++ map begun runs))) (sym (one_more before e later))
      (goes (steps ++ x ∷ []) (before ++ e ∷ []) started (omega (arith, at, longer before e)) new (call-more number steps before e started at has legal.0 (omega (arith, within))) legal.1 (omega (arith, within, longer before e))))

  goes-start : (number run : ℕ) (e : Entry Call Reply) (later : History) (r : Run) (runs : List Run) → r.front ≡ number → e.call ≡ call.Snapshot → Goes (number + 1) (run + 1) later runs
      → (steps : List Step) (before : History) (started : List Run) → number ≡ next_number before
      → run ≡ length started + 1 → Reaches tables steps (core_at before started) → InTurn (MayFollow (supply_of tables)) before (e ∷ later) → length before + length (e ∷ later) ≤ MOST_ENTRIES
      → Reaches tables (steps ++ (event.Start e.who, answer.Started run number) ∷ book_steps (number + 1) (run + 1) later runs) (core_at (before ++ e ∷ later) (started ++ begun r ∷ map begun runs))
  goes-start number run e later r runs front snapshot goes steps before started at new has legal within =
      let x : Step = (event.Start e.who, answer.Started run number) in
      let b : Run = record { front = number; log = [] } in
      subst (λ (l : List Step). Reaches tables l (core_at (before ++ e ∷ later) (started ++ begun r ∷ map begun runs))) (sym (one_more steps x (book_steps (number + 1) (run + 1) later runs)))
      (subst (λ (h : History). Reaches tables ((steps ++ x ∷ []) ++ book_steps (number + 1) (run + 1) later runs) (core_at h (started ++ begun r ∷ map begun runs))) (sym (one_more before e later))
      (subst (λ (n : ℕ). Reaches tables ((steps ++ x ∷ []) ++ book_steps (number + 1) (run + 1) later runs) (core_at ((before ++ e ∷ []) ++ later) (started ++ record { front = n; log = [] } ∷ map begun runs))) (sym front)
      (subst (λ (l : List Run). Reaches tables ((steps ++ x ∷ []) ++ book_steps (number + 1) (run + 1) later runs) (core_at ((before ++ e ∷ []) ++ later) l)) (sym (one_more started b (map begun runs)))
      (goes (steps ++ x ∷ []) (before ++ e ∷ []) (started ++ b ∷ []) (omega (arith, at, longer before e)) (omega (arith, new, length-append started (b ∷ [])))
      (start-more number run steps before e started at new has legal.0 (omega (arith, within)) snapshot) legal.1 (omega (arith, within, longer before e))))))

  -- the history, entry by entry
  pub book-goes : (number run : ℕ) (later : History) (runs : List Run) → StartIn number later runs → Goes number run later runs
  unfolding book_steps
  book-goes number run [] [] start = goes-none number run
  book-goes number run [] (r ∷ runs) start = absurd start
  book-goes number run (e ∷ later) [] start = goes-call number run e later [] (book-goes (number + 1) run later [] (start-none (number + 1) later))
  book-goes number run (e ∷ later) (r ∷ runs) (inl (is, front, snapshot, start)) =
      subst (λ (b : Bool). (steps : List Step) (before : History) (started : List Run) → number ≡ next_number before → run ≡ length started + 1 → Reaches tables steps (core_at before started)
      → InTurn (MayFollow (supply_of tables)) before (e ∷ later) → length before + length (e ∷ later) ≤ MOST_ENTRIES
      → Reaches tables (steps ++ (if b
      then (event.Start e.who, answer.Started run number) ∷ book_steps (number + 1) (run + 1) later runs
      else (event.Call e.who e.call, answer.Replied number e.reply) ∷ book_steps (number + 1) run later (r ∷ runs))) (core_at (before ++ e ∷ later) (started ++ begun r ∷ map begun runs))) (sym is)
      (goes-start number run e later r runs front snapshot (book-goes (number + 1) (run + 1) later runs start))
  book-goes number run (e ∷ later) (r ∷ runs) (inr (not, start)) =
      subst (λ (b : Bool). (steps : List Step) (before : History) (started : List Run) → number ≡ next_number before → run ≡ length started + 1 → Reaches tables steps (core_at before started)
      → InTurn (MayFollow (supply_of tables)) before (e ∷ later) → length before + length (e ∷ later) ≤ MOST_ENTRIES
      → Reaches tables (steps ++ (if b
      then (event.Start e.who, answer.Started run number) ∷ book_steps (number + 1) (run + 1) later runs
      else (event.Call e.who e.call, answer.Replied number e.reply) ∷ book_steps (number + 1) run later (r ∷ runs))) (core_at (before ++ e ∷ later) (started ++ begun r ∷ map begun runs))) (sym not)
      (goes-call number run e later (r ∷ runs) (book-goes (number + 1) run later (r ∷ runs) start))
