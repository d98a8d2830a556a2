-- Entries of the boards of a core's runs are the answers to the events of their workers.
use Rattle.std.proofs.Common.{◌≡◌, ◌≢◌, ◌⊎◌, ◌∙◌, ◌<◌, ◌≤◌, ◌+◌, ◌-◌, ℕ, Bool, true, false, if◌then◌else◌, List, [], ◌∷◌, ◌++◌, Option, Some, None, length, set, inl, inr, refl, sym, ap, subst, arith, append_assoc, ◌&&◌, not}
use Rattle.std.proofs.Math.Seq.{get_or-append_seam}
use Rattle.std.proofs.lemmas.Bool.{cases_lt, cases_order}
use Rattle.std.proofs.lemmas.List.{append-nil, get_or-set_other, get_or-set_same, get_or_append_left, length-append, length-set}
use Rattle.std.specs.List.{slice_index_or}
use Rattle.mrp_turn.specs.Log.{entry}
use Rattle.mrp_turn.proofs.Logs.{InTurn, InTurn-from_Each, one_more}
use Rattle.mrp_tables.specs.Tables.{Tables}
use Rattle.mrp_book.specs.declared.call.Call.{Call}
use Rattle.mrp_item.specs.Inputs.{Inputs}
use Rattle.mrp_item.specs.Made.{item_from}
use Rattle.mrp_explode.proofs.LevelLists.{apart}
use Rattle.mrp_board.specs.declared.call.BoardCall.TheVariants as board_call
use Rattle.mrp_board.specs.declared.reply.BoardReply.{BoardReply}
use Rattle.mrp_board.specs.declared.reply.BoardReply.TheVariants as board_reply
use Rattle.mrp_board.specs.Board.{BoardEntry, BoardLog, board_reply, held, is_out_to, is_stored, parents_in}
use Rattle.mrp_engine.specs.declared.event_core.event.Event.{Event}
use Rattle.mrp_engine.specs.declared.event_core.event.Event.TheVariants as event
use Rattle.mrp_engine.specs.declared.event_core.event.Answer.{Answer}
use Rattle.mrp_engine.specs.declared.event_core.event.Answer.TheVariants as answer
use Rattle.mrp_engine.specs.event_core.Board.{finish_entry, take_entry}
use Rattle.mrp_engine.specs.event_core.Core.{Core, IsAnswer, IsRight, IsStarted, MayFollowSteps, Run, Step, after, core_after, core_of, log_at, no_run, opened, run_at, run_inputs, told, with_entries}
use Rattle.mrp_engine.specs.event_core.Headline.{IsLogged, WasAnswered, WasLogged, board_event}
use Rattle.mrp_engine.proofs.lemmas.event_core.CoreAnswers.{answered-then, last-or-before}
use Rattle.mrp_engine.proofs.lemmas.event_core.CoreLaws.{answered, core-append, core-next, core-none, core-one, unchanged, written-inputs}

-- Logs grow.

-- what is started stays, and its log is only added to
abbrev LogsGrow : Core → Core → Type 0
LogsGrow old new = (run : ℕ) → IsStarted old run → IsStarted new run × (more : BoardLog) × (log_at new run ≡ log_at old run ++ more)

same-logs : (core : Core) → LogsGrow core core
same-logs core run started = (started, [], sym (append-nil (log_at core run)))

more-logs : (old between new : Core) → LogsGrow old between → LogsGrow between new → LogsGrow old new
more-logs old between new a b run started =
    let one = a run started in
    let two = b run one.0 in
    (two.0, one.1 ++ two.1, two.2 ∙ ap (λ (l : BoardLog). l ++ two.1) one.2 ∙ append_assoc (log_at old run) one.1 two.1)

still-started : (core : Core) (run other : ℕ) (entries : BoardLog) → IsStarted core other → IsStarted (with_entries core run entries) other
still-started core run other entries started = (started.0, omega (arith, started.1, length-set core.runs (run - 1) (record { front = (run_at core run).front; log = log_at core run ++ entries })))

-- the log of a run that has more entries
pub logged-here : (core : Core) (run : ℕ) (entries : BoardLog) → IsStarted core run → log_at (with_entries core run entries) run ≡ log_at core run ++ entries
logged-here core run entries started =
    ap (λ (r : Run). r.log) (get_or-set_same core.runs (run - 1) (record { front = (run_at core run).front; log = log_at core run ++ entries }) no_run (omega (arith, started.0, started.1)))

-- and those of others
logged-there : (core : Core) (run other : ℕ) (entries : BoardLog) → other - 1 ≢ run - 1 → log_at (with_entries core run entries) other ≡ log_at core other
logged-there core run other entries differ =
    ap (λ (r : Run). r.log) (get_or-set_other core.runs (run - 1) (other - 1) (record { front = (run_at core run).front; log = log_at core run ++ entries }) no_run differ)

with-logs : (core : Core) (run : ℕ) (entries : BoardLog) → LogsGrow core (with_entries core run entries)
with-logs core run entries other started =
    let there = still-started core run other entries started in
    let now : Run = record { front = (run_at core run).front; log = log_at core run ++ entries } in
    elim (cases_order (other - 1) (run - 1)) [
      | inl same ↦ (
        there,
        entries,
        ap (λ (n : ℕ). (slice_index_or (set core.runs (run - 1) now) n no_run).log) same
            ∙ ap (λ (r : Run). r.log) (get_or-set_same core.runs (run - 1) now no_run (omega (arith, same, started.0, started.1)))
            ∙ ap (λ (n : ℕ). (slice_index_or core.runs n no_run).log ++ entries) (sym same),
      )
      | inr other_run ↦ (there, [], logged-there core run other entries (apart (other - 1) (run - 1) other_run) ∙ sym (append-nil (log_at core other)))
    ]

start-logs : (core : Core) (desk : ℕ) (a : Answer) → LogsGrow core (after core (event.Start desk) a)
start-logs core desk (answer.Started number front) run started =
    let begun : Run = record { front = front; log = [] } in (
      (started.0, omega (arith, started.1, length-append core.runs (begun ∷ []))),
      [],
      ap (λ (r : Run). r.log) (get_or_append_left core.runs (begun ∷ []) no_run (run - 1) (omega (arith, started.0, started.1))) ∙ sym (append-nil (log_at core run)),
    )
start-logs core desk a run started = same-logs core run started

call-logs : (core : Core) (e : Event) (a : Answer) → (after core e a).runs ≡ core.runs → LogsGrow core (after core e a)
call-logs core e a same run started = (
  subst (λ (l : List Run). (1 ≤ run) × (run ≤ length l)) (sym same) started,
  [],
  ap (λ (l : List Run). (slice_index_or l (run - 1) no_run).log) same ∙ sym (append-nil (log_at core run)),
)

call-runs : (core : Core) (desk : ℕ) (c : Call) (a : Answer) → (after core (event.Call desk c) a).runs ≡ core.runs
call-runs core desk c (answer.Replied n r) = refl
call-runs core desk c a = refl

take-logs : (core : Core) (run who : ℕ) (a : Answer) → LogsGrow core (after core (event.Take run who) a)
take-logs core run who (answer.Item item) = with-logs core run (take_entry (run_inputs core run) (log_at core run) who item)
take-logs core run who answer.AllOut = with-logs core run (entry who board_call.Take board_reply.AllOut ∷ [])
take-logs core run who a = same-logs core

finish-logs : (core : Core) (run who : ℕ) (a : Answer) → LogsGrow core (after core (event.Finish run who) a)
finish-logs core run who answer.Stored = with-logs core run (finish_entry (run_inputs core run) who (held who (log_at core run)))
finish-logs core run who a = same-logs core

give_up-logs : (core : Core) (run who : ℕ) (a : Answer) → LogsGrow core (after core (event.GiveUp run who) a)
give_up-logs core run who answer.Stopped = with-logs core run (entry who board_call.GiveUp board_reply.Stopped ∷ [])
give_up-logs core run who a = same-logs core

step-logs : (core : Core) (e : Event) (a : Answer) → LogsGrow core (after core e a)
step-logs core (event.Call desk c) a = call-logs core (event.Call desk c) a (call-runs core desk c a)
step-logs core (event.Start desk) a = start-logs core desk a
step-logs core (event.Take run who) a = take-logs core run who a
step-logs core (event.Finish run who) a = finish-logs core run who a
step-logs core (event.GiveUp run who) a = give_up-logs core run who a
step-logs core (event.Write run) a = same-logs core

steps-logs : (core : Core) (steps : List Step) → LogsGrow core (core_after core steps)
unfolding core_after
steps-logs core [] = same-logs core
steps-logs core (x ∷ later) = more-logs core (after core x.0 x.1) (core_after (after core x.0 x.1) later) (step-logs core x.0 x.1) (steps-logs (after core x.0 x.1) later)

-- Answers are entries.

module _ (tables : Tables) (steps : List Step) (right : IsRight tables steps) where
  stays-logged : (before : List Step) (e : Event) (a : Answer) (run : ℕ) (x : BoardEntry) → WasAnswered steps before e a → IsStarted (core_of tables before) run
      → after (core_of tables before) e a ≡ with_entries (core_of tables before) run (x ∷ []) → IsLogged tables steps before run x
  stays-logged before e a run x was started adds =
      let core : Core = core_of tables before in
      let now : Core = after core e a in
      let whole : core_of tables steps ≡ core_after now was.after =
      ap (core_of tables) was.place ∙ core-append (opened tables) before ((e, a) ∷ was.after) ∙ core-next core (e, a) was.after in
      let g = steps-logs now was.after run (step-logs core e a run started).0 in
      let here : log_at now run ≡ log_at core run ++ x ∷ [] = ap (λ (c : Core). log_at c run) adds ∙ logged-here core run (x ∷ []) started in
      (g.1, ap (λ (c : Core). log_at c run) whole ∙ g.2 ∙ ap (λ (l : BoardLog). l ++ g.1) here ∙ append_assoc (log_at core run) (x ∷ []) g.1)

  -- what a run plans from when an event is answered is what it plans from at the end
  then-inputs : (before : List Step) (e : Event) (a : Answer) (run : ℕ) → WasAnswered steps before e a → IsStarted (core_of tables before) run → run_inputs (core_of tables before) run ≡ run_inputs (core_of tables steps) run
  then-inputs before e a run was started = sym (written-inputs tables steps before e a run right was started)

  handed-by : (before : List Step) (run who item : ℕ) → WasAnswered steps before (event.Take run who) (answer.Item item) → IsAnswer (core_of tables before) (event.Take run who) (answer.Item item)
      → IsLogged tables steps before run (entry who board_call.Take (board_reply.Item item (parents_in (run_inputs (core_of tables steps) run) (log_at (core_of tables before) run) item)))
  handed-by before run who item was (inl (has, is)) =
      subst (λ (s : Inputs). IsLogged tables steps before run (entry who board_call.Take (board_reply.Item item (parents_in s (log_at (core_of tables before) run) item))))
      (then-inputs before (event.Take run who) (answer.Item item) run was has.0)
      (stays-logged before (event.Take run who) (answer.Item item) run (entry who board_call.Take (board_reply.Item item (parents_in (run_inputs (core_of tables before) run) (log_at (core_of tables before) run) item))) was has.0 refl)
  handed-by before run who item was (inr (none, is)) = absurd (cc)

  pub handed-logged : (before : List Step) (run who item : ℕ) → WasAnswered steps before (event.Take run who) (answer.Item item)
      → IsLogged tables steps before run (entry who board_call.Take (board_reply.Item item (parents_in (run_inputs (core_of tables steps) run) (log_at (core_of tables before) run) item)))
  handed-logged before run who item was = handed-by before run who item was (answered tables steps before (event.Take run who) (answer.Item item) right was)

  abbrev StoredHeld : List Step → ℕ → ℕ → Type 0
  StoredHeld before run who =
      (item : ℕ) × (held who (log_at (core_of tables before) run) ≡ Some item) × IsLogged tables steps before run (entry who (board_call.Finish (item_from (run_inputs (core_of tables steps) run) item)) board_reply.Stored)

  stored-by : (before : List Step) (run who : ℕ) → WasAnswered steps before (event.Finish run who) answer.Stored → IsAnswer (core_of tables before) (event.Finish run who) answer.Stored → StoredHeld before run who
  stored-by before run who was (inl (has, (item, holds, is))) =
      let core : Core = core_of tables before in (
        item,
        holds,
        subst (λ (s : Inputs). IsLogged tables steps before run (entry who (board_call.Finish (item_from s item)) board_reply.Stored))
            (then-inputs before (event.Finish run who) answer.Stored run was has.0)
            (stays-logged before (event.Finish run who) answer.Stored run (entry who (board_call.Finish (item_from (run_inputs core run) item)) board_reply.Stored) was has.0
            (ap (λ (o : Option ℕ). with_entries core run (finish_entry (run_inputs core run) who o)) holds)),
      )
  stored-by before run who was (inr (none, is)) = absurd (cc)

  pub stored-logged : (before : List Step) (run who : ℕ) → WasAnswered steps before (event.Finish run who) answer.Stored → StoredHeld before run who
  stored-logged before run who was = stored-by before run who was (answered tables steps before (event.Finish run who) answer.Stored right was)

  ended-by : (before : List Step) (run who : ℕ) → WasAnswered steps before (event.Take run who) answer.AllOut → IsAnswer (core_of tables before) (event.Take run who) answer.AllOut
      → IsLogged tables steps before run (entry who board_call.Take board_reply.AllOut)
  ended-by before run who was (inl (has, is)) = stays-logged before (event.Take run who) answer.AllOut run (entry who board_call.Take board_reply.AllOut) was has.0 refl
  ended-by before run who was (inr (none, is)) = absurd (cc)

  pub ended-logged : (before : List Step) (run who : ℕ) → WasAnswered steps before (event.Take run who) answer.AllOut → IsLogged tables steps before run (entry who board_call.Take board_reply.AllOut)
  ended-logged before run who was = ended-by before run who was (answered tables steps before (event.Take run who) answer.AllOut right was)

  stopped-by : (before : List Step) (run who : ℕ) → WasAnswered steps before (event.GiveUp run who) answer.Stopped → IsAnswer (core_of tables before) (event.GiveUp run who) answer.Stopped
      → IsLogged tables steps before run (entry who board_call.GiveUp board_reply.Stopped)
  stopped-by before run who was (inl (has, is)) = stays-logged before (event.GiveUp run who) answer.Stopped run (entry who board_call.GiveUp board_reply.Stopped) was has.0 refl
  stopped-by before run who was (inr (none, is)) = absurd (cc)

  pub stopped-logged : (before : List Step) (run who : ℕ) → WasAnswered steps before (event.GiveUp run who) answer.Stopped → IsLogged tables steps before run (entry who board_call.GiveUp board_reply.Stopped)
  stopped-logged before run who was = stopped-by before run who was (answered tables steps before (event.GiveUp run who) answer.Stopped right was)

-- Entries are answers.

-- an event leaves every log, or starts a run, whose log is empty
abbrev Leaves : Core → Core → Type 0
Leaves old new = (run : ℕ) → IsStarted new run → (IsStarted old run × (log_at new run ≡ log_at old run)) ⊎ (log_at new run ≡ [])

-- or its answer is one more entry of a run's board
pub record Adds (core : Core) (e : Event) (a : Answer) : Type 0 where
  pub run : ℕ
  pub one : BoardEntry
  pub started : IsStarted core run
  pub now : after core e a ≡ with_entries core run (one ∷ [])
  pub event_is : e ≡ board_event run one.who one.call
  pub answer_is : a ≡ told (Some one.reply)

leaves-same : (old new : Core) → new.runs ≡ old.runs → Leaves old new
leaves-same old new same run started =
    inl (subst (λ (l : List Run). (1 ≤ run) × (run ≤ length l)) same started, ap (λ (l : List Run). (slice_index_or l (run - 1) no_run).log) same)

leaves-begun : (core : Core) (desk number front : ℕ) → Leaves core (after core (event.Start desk) (answer.Started number front))
leaves-begun core desk number front run started =
    let begun : Run = record { front = front; log = [] } in
    elim (cases_lt (length core.runs) run) [
      | inl past ↦ inr (
          ap (λ (n : ℕ). (slice_index_or (core.runs ++ begun ∷ []) n no_run).log) (omega (arith, past, started.1, length-append core.runs (begun ∷ [])))
          ∙ ap (λ (r : Run). r.log) (get_or-append_seam core.runs begun [] no_run)
          )
      | inr inside ↦ inl ((started.0, inside), ap (λ (r : Run). r.log) (get_or_append_left core.runs (begun ∷ []) no_run (run - 1) (omega (arith, started.0, inside))))
    ]

step-adds : (core : Core) (e : Event) (a : Answer) → IsAnswer core e a → Leaves core (after core e a) ⊎ Adds core e a
step-adds core e a (inr (none, is)) =
    inl (subst (λ (c : Core). Leaves core c) (sym (ap (after core e) is ∙ unchanged core e answer.Nothing tt)) (leaves-same core core refl))
step-adds core (event.Call desk c) a (inl (has, is)) = inl (leaves-same core (after core (event.Call desk c) a) (call-runs core desk c a))
step-adds core (event.Start desk) a (inl (has, inl (full, is))) = inl (subst (λ (x : Answer). Leaves core (after core (event.Start desk) x)) (sym is) (leaves-same core core refl))
step-adds core (event.Start desk) a (inl (has, inr (open_, is))) =
    inl (subst (λ (x : Answer). Leaves core (after core (event.Start desk) x)) (sym is) (leaves-begun core desk (length core.runs + 1) (length core.history + 1)))
step-adds core (event.Take run who) a (inl (has, is)) =
    subst (λ (x : Answer). Leaves core (after core (event.Take run who) x) ⊎ Adds core (event.Take run who) x) (sym is) (by (board_reply (run_inputs core run) (log_at core run) who board_call.Take))
  where
    by : (o : Option BoardReply) → Leaves core (after core (event.Take run who) (told o)) ⊎ Adds core (event.Take run who) (told o)
    by None = inl (leaves-same core core refl)
    by (Some board_reply.AllOut) = inr (record { run = run; one = entry who board_call.Take board_reply.AllOut; started = has.0; now = refl; event_is = refl; answer_is = refl })
    by (Some (board_reply.Item item parents)) =
        inr (record { run = run; one = entry who board_call.Take (board_reply.Item item (parents_in (run_inputs core run) (log_at core run) item)); started = has.0; now = refl; event_is = refl; answer_is = refl })
    by (Some board_reply.Stored) = inl (leaves-same core core refl)
    by (Some board_reply.NotOut) = inl (leaves-same core core refl)
    by (Some board_reply.Stopped) = inl (leaves-same core core refl)
step-adds core (event.Finish run who) a (inl (has, (item, holds, is))) =
    subst (λ (x : Answer). Leaves core (after core (event.Finish run who) x) ⊎ Adds core (event.Finish run who) x) (sym is) (by (is_out_to who (log_at core run) item && not (is_stored (log_at core run) item)))
  where
    by : (b : Bool) → Leaves core (after core (event.Finish run who) (told (if b then Some board_reply.Stored else Some board_reply.NotOut))) ⊎ Adds core (event.Finish run who) (told (if b then Some board_reply.Stored else Some board_reply.NotOut))
    by true = inr (record {
      run = run;
      one = entry who (board_call.Finish (item_from (run_inputs core run) item)) board_reply.Stored;
      started = has.0;
      now = ap (λ (o : Option ℕ). with_entries core run (finish_entry (run_inputs core run) who o)) holds;
      event_is = refl;
      answer_is = refl;
    })
    by false = inl (leaves-same core core refl)
step-adds core (event.GiveUp run who) a (inl (has, is)) =
    inr (record {
      run = run;
      one = entry who board_call.GiveUp board_reply.Stopped;
      started = has.0;
      now = ap (after core (event.GiveUp run who)) is;
      event_is = refl;
      answer_is = is;
    })
step-adds core (event.Write run) a (inl (has, is)) = inl (leaves-same core core refl)

module _ (tables : Tables) where
  abbrev AllLogged : List Step → Type 0
  AllLogged steps = (run : ℕ) (before rest : BoardLog) (x : BoardEntry) → IsStarted (core_of tables steps) run → log_at (core_of tables steps) run ≡ before ++ x ∷ rest → WasLogged tables steps run before x

  logged-then : (steps later : List Step) (run : ℕ) (before : BoardLog) (x : BoardEntry) → WasLogged tables steps run before x → WasLogged tables (steps ++ later) run before x
  logged-then steps later run before x (first, was, log) = (first, answered-then steps first later (board_event run x.who x.call) (told (Some x.reply)) was, log)

  none-logged : (run : ℕ) (before rest : BoardLog) (x : BoardEntry) → [] ≡ before ++ x ∷ rest → ⊥
  none-logged run before rest x is = absurd (omega (arith, ap (length {A = BoardEntry}) is, length-append before (x ∷ rest)))

  -- the entry that an answer made, or one of before
  added-or-before : (steps : List Step) (e : Event) (a : Answer) → AllLogged steps → (adds : Adds (core_of tables steps) e a) (before rest : BoardLog) (x : BoardEntry)
      → log_at (core_of tables steps) adds.run ++ adds.one ∷ [] ≡ before ++ x ∷ rest → WasLogged tables (steps ++ (e, a) ∷ []) adds.run before x
  added-or-before steps e a all adds before rest x is =
      elim (last-or-before (log_at (core_of tables steps) adds.run) adds.one before x rest is) [
        | inl k ↦
            let same : (e, a) ≡ (board_event adds.run x.who x.call, told (Some x.reply)) =
            ap (λ (f : Event). (f, a)) adds.event_is ∙ ap (λ (b : Answer). (board_event adds.run adds.one.who adds.one.call, b)) adds.answer_is
            ∙ ap (λ (y : BoardEntry). (board_event adds.run y.who y.call, told (Some y.reply))) (sym k.1) in
            (steps, record { after = []; place = ap (λ (y : Step). steps ++ y ∷ []) same }, sym k.0)
        | inr k ↦ logged-then steps ((e, a) ∷ []) adds.run before x (all adds.run before k.0 x adds.started k.1)
      ]

  logged-more : (steps : List Step) (e : Event) (a : Answer) → AllLogged steps → Leaves (core_of tables steps) (after (core_of tables steps) e a) ⊎ Adds (core_of tables steps) e a → AllLogged (steps ++ (e, a) ∷ [])
  logged-more steps e a all (inl leaves) run before rest x started is =
      let one = core-one tables steps (e, a) in
      let log : log_at (after (core_of tables steps) e a) run ≡ before ++ x ∷ rest = ap (λ (c : Core). log_at c run) (sym one) ∙ is in
      elim (leaves run (subst (λ (c : Core). IsStarted c run) one started)) [
        | inl k ↦ logged-then steps ((e, a) ∷ []) run before x (all run before rest x k.0 (sym k.1 ∙ log))
        | inr none ↦ absurd (none-logged run before rest x (sym none ∙ log))
      ]
  logged-more steps e a all (inr adds) run before rest x started is =
      let core : Core = core_of tables steps in
      let one : core_of tables (steps ++ (e, a) ∷ []) ≡ with_entries core adds.run (adds.one ∷ []) = core-one tables steps (e, a) ∙ adds.now in
      let log : log_at (with_entries core adds.run (adds.one ∷ [])) run ≡ before ++ x ∷ rest = ap (λ (c : Core). log_at c run) (sym one) ∙ is in
      let now : Run = record { front = (run_at core adds.run).front; log = log_at core adds.run ++ adds.one ∷ [] } in
      let there : IsStarted core run = (started.0, omega (arith, started.1, ap (λ (c : Core). length c.runs) one, length-set core.runs (adds.run - 1) now)) in
      elim (cases_order run adds.run) [
        | inl same ↦
            subst (λ (r : ℕ). WasLogged tables (steps ++ (e, a) ∷ []) r before x) (sym same)
            (added-or-before steps e a all adds before rest x (sym (logged-here core adds.run (adds.one ∷ []) adds.started) ∙ ap (λ (r : ℕ). log_at (with_entries core adds.run (adds.one ∷ [])) r) (sym same) ∙ log))
        | inr other ↦
            logged-then steps ((e, a) ∷ []) run before x
            (all run before rest x there (sym (logged-there core adds.run run (adds.one ∷ []) (differ run adds.run there.0 adds.started.0 other)) ∙ log))
      ]
    where
      differ : (i j : ℕ) → 1 ≤ i → 1 ≤ j → (i < j) ⊎ (j < i) → i - 1 ≢ j - 1
      differ i j a b (inl low) same = absurd (omega (arith, a, b, low, same))
      differ i j a b (inr high) same = absurd (omega (arith, a, b, high, same))

  logged-from : (before steps : List Step) → InTurn (MayFollowSteps tables) before steps → AllLogged before → AllLogged (before ++ steps)
  logged-from before [] w all = subst (λ (l : List Step). AllLogged l) (sym (append-nil before)) all
  logged-from before (x ∷ steps) w all =
      subst (λ (l : List Step). AllLogged l) (sym (one_more before x steps))
      (logged-from (before ++ x ∷ []) steps w.1 (logged-more before x.0 x.1 all (step-adds (core_of tables before) x.0 x.1 w.0.1)))

  nothing-logged : AllLogged []
  nothing-logged run before rest x started is = absurd (omega (arith, started.0, started.1, ap (λ (c : Core). length c.runs) (core-none (opened tables))))

  -- every entry of a board is the answer to an event
  pub all-logged : (steps : List Step) → IsRight tables steps → AllLogged steps
  all-logged steps right = logged-from [] steps (InTurn-from_Each (MayFollowSteps tables) [] steps right) nothing-logged
