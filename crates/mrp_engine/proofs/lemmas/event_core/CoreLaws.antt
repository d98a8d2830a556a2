-- What follows from right lists of events and answers.
use Rattle.std.proofs.Common.{◌≡◌, ◌≢◌, ◌⊎◌, ◌∙◌, ◌<◌, ◌≤◌, ◌+◌, ◌-◌, ◌↔◌, ℕ, zero, suc, Bool, true, false, List, [], ◌∷◌, ◌++◌, Option, Some, None, Result, Ok, Err, length, map, set, inl, inr, refl, sym, ap, subst, arith, append_assoc, ◌&&◌, not, if◌then◌else◌}
use Rattle.std.proofs.Math.Seq.{get_or-append_seam}
use Rattle.std.proofs.lemmas.Bool.{cases_lt, cases_order}
use Rattle.std.proofs.lemmas.List.{append-nil, length-append, length-map, take-append-le, get_or-set_other, get_or-set_same, get_or_append_left, length-set, map-append, map-set, set-get_or}
use Rattle.std.specs.Prelude.{IfOk, IsSome, OnErr, option_map, find}
use Rattle.std.specs.Global.{Vec}
use Rattle.std.specs.List.{slice_index_or}
use Rattle.mrp_turn.specs.declared.log.Entry.{Entry}
use Rattle.mrp_turn.specs.Log.{IsSeatNumber, entry}
use Rattle.mrp_turn.proofs.Logs.{EachFollows-front, InTurn, InTurn-from_Each, one_more}
use Rattle.mrp_tables.specs.Tables.{Tables}
use Rattle.mrp_master.specs.Supply.{supply_of}
use Rattle.mrp_book.specs.declared.call.Call.{Call}
use Rattle.mrp_book.specs.declared.call.Call.TheVariants as call
use Rattle.mrp_book.specs.declared.reply.Reply.{Reply}
use Rattle.mrp_book.specs.Standing.{History, standing}
use Rattle.mrp_book.specs.History.{IsFull, IsLegal, IsReply, next_number}
use Rattle.mrp_book.proofs.Histories.{legal-more, legal-none}
use Rattle.mrp_item.specs.Inputs.{Inputs, places}
use Rattle.mrp_report.specs.ReportText.{report_text}
use Rattle.mrp_board.specs.declared.call.BoardCall.TheVariants as board_call
use Rattle.mrp_board.specs.declared.reply.BoardReply.{BoardReply}
use Rattle.mrp_board.specs.declared.reply.BoardReply.TheVariants as board_reply
use Rattle.mrp_board.specs.Board.{BoardLog, board_reply, handed, held, is_at_end, is_out_to, is_ready, is_stored}
use Rattle.mrp_engine.specs.declared.event_core.event.Event.{Event}
use Rattle.mrp_engine.specs.declared.event_core.event.Event.TheVariants as event
use Rattle.mrp_engine.specs.declared.event_core.event.Answer.{Answer}
use Rattle.mrp_engine.specs.declared.event_core.event.Answer.TheVariants as answer
use Rattle.mrp_engine.specs.day.Day.{IsPlannable, IsRefusedBy}
use Rattle.mrp_engine.specs.event_core.Board.{finish_entry, take_entry}
use Rattle.mrp_engine.specs.event_core.Kept.{KeepsBoard}
use Rattle.mrp_engine.specs.event_core.Core.{AsksFullBook, Core, FitsShop, HasMeaning, IsAnswer, IsAnswered, IsOfDesk, IsRight, IsStarted, MayFollowSteps, Run, Step, after, core_after, core_of, inputs_at, log_at, no_run, opened, run_at, run_inputs, snapshot_of, told, with_entries}
use Rattle.mrp_engine.proofs.lemmas.event_core.BoardLaws.{keeps-end, keeps-none, keeps-stopped, keeps-stored, keeps-taken, stored-reply}
use Rattle.mrp_engine.specs.event_core.Headline.{ChangesNothing, IsEntry, WasAnswered}

abbrev pub fronts : Core → List ℕ
fronts core = map (λ (r : Run). r.front) core.runs

pub front-at : (runs : List Run) (i : ℕ) → (slice_index_or runs i no_run).front ≡ slice_index_or (map (λ (r : Run). r.front) runs) i 0
front-at [] i = refl
front-at (r ∷ runs) zero = refl
front-at (r ∷ runs) (suc i) = front-at runs i

-- a core that differs in the logs of its runs alone
pub record Same (old new : Core) : Type 0 where
  pub tables : new.tables ≡ old.tables
  pub history : new.history ≡ old.history
  pub fronts : fronts new ≡ fronts old

same-core : (core : Core) → Same core core
same-core core = record { tables = refl; history = refl; fronts = refl }

same-logged : (core : Core) (run : ℕ) (entries : BoardLog) → Same core (with_entries core run entries)
same-logged core run entries = record {
  tables = refl;
  history = refl;
  fronts =
      map-set (λ (r : Run). r.front) core.runs (run - 1) (record { front = (run_at core run).front; log = log_at core run ++ entries })
      ∙ ap (λ (n : ℕ). set (fronts core) (run - 1) n) (front-at core.runs (run - 1))
      ∙ set-get_or (fronts core) (run - 1) 0;
}

pub take-same : (core : Core) (run who : ℕ) (a : Answer) → Same core (after core (event.Take run who) a)
take-same core run who (answer.Item item) = same-logged core run (take_entry (run_inputs core run) (log_at core run) who item)
take-same core run who answer.AllOut = same-logged core run (entry who board_call.Take board_reply.AllOut ∷ [])
take-same core run who a = same-core core

pub finish-same : (core : Core) (run who : ℕ) (a : Answer) → Same core (after core (event.Finish run who) a)
finish-same core run who answer.Stored = same-logged core run (finish_entry (run_inputs core run) who (held who (log_at core run)))
finish-same core run who a = same-core core

pub give_up-same : (core : Core) (run who : ℕ) (a : Answer) → Same core (after core (event.GiveUp run who) a)
give_up-same core run who answer.Stopped = same-logged core run (entry who board_call.GiveUp board_reply.Stopped ∷ [])
give_up-same core run who a = same-core core

pub write-same : (core : Core) (run : ℕ) (a : Answer) → Same core (after core (event.Write run) a)
write-same core run a = same-core core

-- what changes nothing
pub unchanged : (core : Core) (e : Event) (a : Answer) → ChangesNothing a → after core e a ≡ core
unchanged core e (answer.Replied number r) is = absurd is
unchanged core e (answer.Started number front) is = absurd is
unchanged core e (answer.Item item) is = absurd is
unchanged core e answer.AllOut is = absurd is
unchanged core e answer.Stored is = absurd is
unchanged core e answer.Stopped is = absurd is
unchanged core (event.Call desk c) answer.Nothing is = refl
unchanged core (event.Call desk c) answer.Full is = refl
unchanged core (event.Call desk c) answer.NotYet is = refl
unchanged core (event.Call desk c) (answer.Bytes bytes) is = refl
unchanged core (event.Call desk c) (answer.TooLarge name) is = refl
unchanged core (event.Start desk) answer.Nothing is = refl
unchanged core (event.Start desk) answer.Full is = refl
unchanged core (event.Start desk) answer.NotYet is = refl
unchanged core (event.Start desk) (answer.Bytes bytes) is = refl
unchanged core (event.Start desk) (answer.TooLarge name) is = refl
unchanged core (event.Take run who) answer.Nothing is = refl
unchanged core (event.Take run who) answer.Full is = refl
unchanged core (event.Take run who) answer.NotYet is = refl
unchanged core (event.Take run who) (answer.Bytes bytes) is = refl
unchanged core (event.Take run who) (answer.TooLarge name) is = refl
unchanged core (event.Finish run who) answer.Nothing is = refl
unchanged core (event.Finish run who) answer.Full is = refl
unchanged core (event.Finish run who) answer.NotYet is = refl
unchanged core (event.Finish run who) (answer.Bytes bytes) is = refl
unchanged core (event.Finish run who) (answer.TooLarge name) is = refl
unchanged core (event.GiveUp run who) answer.Nothing is = refl
unchanged core (event.GiveUp run who) answer.Full is = refl
unchanged core (event.GiveUp run who) answer.NotYet is = refl
unchanged core (event.GiveUp run who) (answer.Bytes bytes) is = refl
unchanged core (event.GiveUp run who) (answer.TooLarge name) is = refl
unchanged core (event.Write run) answer.Nothing is = refl
unchanged core (event.Write run) answer.Full is = refl
unchanged core (event.Write run) answer.NotYet is = refl
unchanged core (event.Write run) (answer.Bytes bytes) is = refl
unchanged core (event.Write run) (answer.TooLarge name) is = refl

-- A core grows: entries and runs are only added.

pub record Grows (old new : Core) : Type 0 where
  pub tables : new.tables ≡ old.tables
  pub entries : History
  pub history : new.history ≡ old.history ++ entries
  pub runs : List ℕ
  pub fronts : fronts new ≡ fronts old ++ runs

grows-same : (old new : Core) → Same old new → Grows old new
grows-same old new same = record {
  tables = same.tables;
  entries = [];
  history = same.history ∙ sym (append-nil old.history);
  runs = [];
  fronts = same.fronts ∙ sym (append-nil (fronts old));
}

grows-more : (old between new : Core) → Grows old between → Grows between new → Grows old new
grows-more old between new a b = record {
  tables = b.tables ∙ a.tables;
  entries = a.entries ++ b.entries;
  history = b.history ∙ ap (λ (h : History). h ++ b.entries) a.history ∙ append_assoc old.history a.entries b.entries;
  runs = a.runs ++ b.runs;
  fronts = b.fronts ∙ ap (λ (l : List ℕ). l ++ b.runs) a.fronts ∙ append_assoc (fronts old) a.runs b.runs;
}

call-grows : (core : Core) (desk : ℕ) (c : Call) (a : Answer) → Grows core (after core (event.Call desk c) a)
call-grows core desk c (answer.Replied n r) = record { tables = refl; entries = entry desk c r ∷ []; history = refl; runs = []; fronts = sym (append-nil (fronts core)) }
call-grows core desk c a = grows-same core core (same-core core)

start-grows : (core : Core) (desk : ℕ) (a : Answer) → Grows core (after core (event.Start desk) a)
start-grows core desk (answer.Started run front) = record {
  tables = refl;
  entries = entry desk call.Snapshot (snapshot_of core front) ∷ [];
  history = refl;
  runs = front ∷ [];
  fronts = map-append (λ (r : Run). r.front) core.runs (record { front = front; log = [] } ∷ []);
}
start-grows core desk a = grows-same core core (same-core core)

step-grows : (core : Core) (e : Event) (a : Answer) → Grows core (after core e a)
step-grows core (event.Call desk c) a = call-grows core desk c a
step-grows core (event.Start desk) a = start-grows core desk a
step-grows core (event.Take run who) a = grows-same core (after core (event.Take run who) a) (take-same core run who a)
step-grows core (event.Finish run who) a = grows-same core (after core (event.Finish run who) a) (finish-same core run who a)
step-grows core (event.GiveUp run who) a = grows-same core (after core (event.GiveUp run who) a) (give_up-same core run who a)
step-grows core (event.Write run) a = grows-same core (after core (event.Write run) a) (write-same core run a)

-- an event changes no tables
pub tables-kept : {E : Type 0} (old new : Core) (e : Event) (r : Result Answer E) → IfOk r (λ a. new ≡ after old e a) → OnErr r (new ≡ old) → new.tables ≡ old.tables
tables-kept old new e (Ok a) is same = ap (λ (c : Core). c.tables) is ∙ (step-grows old e a).tables
tables-kept old new e (Err x) is same = ap (λ (c : Core). c.tables) same

pub steps-grow : (core : Core) (steps : List Step) → Grows core (core_after core steps)
unfolding core_after
steps-grow core [] = grows-same core core (same-core core)
steps-grow core (x ∷ later) = grows-more core (after core x.0 x.1) (core_after (after core x.0 x.1) later) (step-grows core x.0 x.1) (steps-grow (after core x.0 x.1) later)

-- later steps go on where earlier ones stopped
pub core-append : (core : Core) (xs ys : List Step) → core_after core (xs ++ ys) ≡ core_after (core_after core xs) ys
unfolding core_after
core-append core [] ys = refl
core-append core (x ∷ xs) ys = core-append (after core x.0 x.1) xs ys

core-last : (core : Core) (x : Step) → core_after core (x ∷ []) ≡ after core x.0 x.1
unfolding core_after
core-last core x = refl

pub core-none : (core : Core) → core_after core [] ≡ core
unfolding core_after
core-none core = refl

pub core-one : (tables : Tables) (steps : List Step) (x : Step) → core_of tables (steps ++ x ∷ []) ≡ after (core_of tables steps) x.0 x.1
core-one tables steps x = core-append (opened tables) steps (x ∷ []) ∙ core-last (core_of tables steps) x

pub tables-stay : (tables : Tables) (steps : List Step) → (core_of tables steps).tables ≡ tables
tables-stay tables steps = (steps-grow (opened tables) steps).tables

-- A core whose history is legal, and whose runs begin within it.

abbrev Within : List ℕ → ℕ → Type 0
Within xs n = (k : ℕ) → slice_index_or xs k 0 ≤ n

within-append : (xs ys : List ℕ) (n : ℕ) → Within xs n → Within ys n → Within (xs ++ ys) n
within-append [] ys n a b k = b k
within-append (x ∷ xs) ys n a b zero = a 0
within-append (x ∷ xs) ys n a b (suc k) = within-append xs ys n (λ j. a (suc j)) b k

within-one : (x n : ℕ) → x ≤ n → Within (x ∷ []) n
within-one x n h zero = h
within-one x n h (suc k) = omega arith

within-none : (n : ℕ) → Within [] n
within-none n k = omega arith

within-more : (xs : List ℕ) (m n : ℕ) → m ≤ n → Within xs m → Within xs n
within-more xs m n h w k = let a : slice_index_or xs k 0 ≤ m = w k in omega arith

pub record Sound (core : Core) : Type 0 where
  pub legal : IsLegal (supply_of core.tables) core.history
  pub within : Within (fronts core) (length core.history)

sound-none : (tables : Tables) → Sound (opened tables)
sound-none tables = record { legal = legal-none (supply_of tables); within = within-none 0 }

sound-same : (old new : Core) → Sound old → Same old new → Sound new
sound-same old new sound same = record {
  legal = subst (λ (h : History). IsLegal (supply_of new.tables) h) (sym same.history) (subst (λ (t : Tables). IsLegal (supply_of t) old.history) (sym same.tables) sound.legal);
  within = subst (λ (h : History). Within (fronts new) (length h)) (sym same.history) (subst (λ (l : List ℕ). Within l (length old.history)) (sym same.fronts) sound.within);
}

longer : (h : History) (e : Entry Call Reply) → length (h ++ e ∷ []) ≡ length h + 1
longer h e = length-append h (e ∷ [])

sound-entered : (core : Core) (desk : ℕ) (c : Call) (r : Reply) (n : ℕ) → Sound core → IsSeatNumber desk → IsReply (supply_of core.tables) core.history desk c r → FitsShop core.tables (event.Call desk c)
    → Sound (after core (event.Call desk c) (answer.Replied n r))
sound-entered core desk c r n sound seat is fits = record {
  legal = legal-more (supply_of core.tables) core.history (entry desk c r) sound.legal (seat, is, fits seat);
  within = within-more (fronts core) (length core.history) (length (core.history ++ entry desk c r ∷ [])) (omega (arith, longer core.history (entry desk c r))) sound.within;
}

sound-started : (core : Core) (desk run : ℕ) → Sound core → IsSeatNumber desk → Sound (after core (event.Start desk) (answer.Started run (next_number core.history)))
sound-started core desk run sound seat =
    let front : ℕ = next_number core.history in
    let e : Entry Call Reply = entry desk call.Snapshot (snapshot_of core front) in
    let n : ℕ = length (core.history ++ e ∷ []) in
    record {
      legal = legal-more (supply_of core.tables) core.history e sound.legal (seat, refl, tt);
      within = subst (λ (l : List ℕ). Within l n) (sym (map-append (λ (r : Run). r.front) core.runs (record { front = front; log = [] } ∷ [])))
          (within-append (fronts core) (front ∷ []) n
          (within-more (fronts core) (length core.history) n (omega (arith, longer core.history e)) sound.within)
          (within-one front n (omega (arith, longer core.history e))));
    }

module _ (core : Core) (sound : Sound core) where
  call-sound : (desk : ℕ) (c : Call) (a : Answer) → FitsShop core.tables (event.Call desk c) → IsAnswer core (event.Call desk c) a → Sound (after core (event.Call desk c) a)
  call-sound desk c a fits (inl (seat, inl (full, is))) = subst (λ (x : Answer). Sound (after core (event.Call desk c) x)) (sym is) sound
  call-sound desk c a fits (inl (seat, inr (open_, r, said, is))) = subst (λ (x : Answer). Sound (after core (event.Call desk c) x)) (sym is) (sound-entered core desk c r (next_number core.history) sound seat said fits)
  call-sound desk c a fits (inr (none, is)) = subst (λ (x : Answer). Sound (after core (event.Call desk c) x)) (sym is) sound

  start-sound : (desk : ℕ) (a : Answer) → IsAnswer core (event.Start desk) a → Sound (after core (event.Start desk) a)
  start-sound desk a (inl (seat, inl (full, is))) = subst (λ (x : Answer). Sound (after core (event.Start desk) x)) (sym is) sound
  start-sound desk a (inl (seat, inr (open_, is))) = subst (λ (x : Answer). Sound (after core (event.Start desk) x)) (sym is) (sound-started core desk (length core.runs + 1) sound seat)
  start-sound desk a (inr (none, is)) = subst (λ (x : Answer). Sound (after core (event.Start desk) x)) (sym is) sound

  pub step-sound : (e : Event) (a : Answer) → FitsShop core.tables e → IsAnswer core e a → Sound (after core e a)
  step-sound (event.Call desk c) a fits is = call-sound desk c a fits is
  step-sound (event.Start desk) a fits is = start-sound desk a is
  step-sound (event.Take run who) a fits is = sound-same core (after core (event.Take run who) a) sound (take-same core run who a)
  step-sound (event.Finish run who) a fits is = sound-same core (after core (event.Finish run who) a) sound (finish-same core run who a)
  step-sound (event.GiveUp run who) a fits is = sound-same core (after core (event.GiveUp run who) a) sound (give_up-same core run who a)
  step-sound (event.Write run) a fits is = sound-same core (after core (event.Write run) a) sound (write-same core run a)

module _ (tables : Tables) where
  sound-from : (before steps : List Step) → InTurn (MayFollowSteps tables) before steps → Sound (core_of tables before) → Sound (core_of tables (before ++ steps))
  sound-from before [] w sound = subst (λ (l : List Step). Sound (core_of tables l)) (sym (append-nil before)) sound
  sound-from before (x ∷ steps) w sound =
      subst (λ (l : List Step). Sound (core_of tables l)) (sym (one_more before x steps))
      (sound-from (before ++ x ∷ []) steps w.1
      (subst (λ (c : Core). Sound c) (sym (core-one tables before x))
      (step-sound (core_of tables before) sound x.0 x.1 (subst (λ (t : Tables). FitsShop t x.0) (sym (tables-stay tables before)) w.0.0) w.0.1)))

  pub right-sound : (steps : List Step) → IsRight tables steps → Sound (core_of tables steps)
  right-sound steps right =
      sound-from [] steps (InTurn-from_Each (MayFollowSteps tables) [] steps right) (subst (λ (c : Core). Sound c) (sym (core-none (opened tables))) (sound-none tables))

  -- what a run plans from stays, whatever comes later
  inputs-stay : (old new : Core) (run : ℕ) → Sound old → Grows old new → IsStarted old run → run_inputs new run ≡ run_inputs old run
  inputs-stay old new run sound grows started =
      let i : ℕ = run - 1 in
      let inside : i < length (fronts old) = omega (arith, length-map old.runs (λ (r : Run). r.front), started.0, started.1) in
      let same : (run_at new run).front ≡ (run_at old run).front =
      front-at new.runs i ∙ ap (λ (l : List ℕ). slice_index_or l i 0) grows.fronts ∙ get_or_append_left (fronts old) grows.runs 0 i inside ∙ sym (front-at old.runs i) in
      let low : (run_at old run).front ≤ length old.history = subst (λ (n : ℕ). n ≤ length old.history) (sym (front-at old.runs i)) (sound.within i) in
      ap (λ (n : ℕ). inputs_at new.tables new.history n) same
      ∙ ap (λ (t : Tables). inputs_at t new.history (run_at old run).front) grows.tables
      ∙ ap (λ (h : History). inputs_at old.tables h (run_at old run).front) grows.history
      ∙ ap (λ (h : History). record { tables = old.tables; front = (run_at old run).front; standing = standing h }) (take-append-le (run_at old run).front old.history grows.entries low)

  pub written-inputs : (steps before : List Step) (e : Event) (a : Answer) (run : ℕ) → IsRight tables steps → WasAnswered steps before e a → IsStarted (core_of tables before) run
      → run_inputs (core_of tables steps) run ≡ run_inputs (core_of tables before) run
  written-inputs steps before e a run right was started =
      let rest : List Step = (e, a) ∷ was.after in
      let front : IsRight tables before = EachFollows-front (MayFollowSteps tables) before rest (subst (λ (l : List Step). IsRight tables l) was.place right) in
      let whole : core_of tables steps ≡ core_after (core_of tables before) rest = ap (core_of tables) was.place ∙ core-append (opened tables) before rest in
      ap (λ (c : Core). run_inputs c run) whole
      ∙ inputs-stay (core_of tables before) (core_after (core_of tables before) rest) run (right-sound before front) (steps-grow (core_of tables before) rest) started

  -- the answer to an event
  pub answered : (steps before : List Step) (e : Event) (a : Answer) → IsRight tables steps → WasAnswered steps before e a → IsAnswer (core_of tables before) e a
  answered steps before e a right was = (right before (e, a) was.after was.place).1

-- The boards of a core's runs are legal, and their workers finish what they hold.

abbrev pub KeepsBoards : Core → Type 0
KeepsBoards core = (run : ℕ) → IsStarted core run → KeepsBoard (run_inputs core run) (log_at core run)

-- a worker that finishes what it holds is answered that it is stored
finished-stored : (core : Core) → KeepsBoards core → (run who : ℕ) (a : Answer) → IsStarted core run → IsAnswered core (event.Finish run who) a → a ≡ answer.Stored
finished-stored core boards run who a started (item, has, is) = is ∙ ap told (stored-reply (run_inputs core run) (log_at core run) (boards run started) who item has)

module _ (tables : Tables) (core : Core) (sound : Sound core) (boards : KeepsBoards core) where
  -- a run whose log has more entries
  run-logged : (run other : ℕ) (entries : BoardLog) → IsStarted core run → IsStarted core other → KeepsBoard (run_inputs core run) (log_at core run ++ entries)
      → KeepsBoard (run_inputs (with_entries core run entries) other) (log_at (with_entries core run entries) other)
  run-logged run other entries started there kept =
      let new : Core = with_entries core run entries in
      let now : Run = record { front = (run_at core run).front; log = log_at core run ++ entries } in
      let stays = inputs-stay tables core new other sound (grows-same core new (same-logged core run entries)) there in
      subst (λ (s : Inputs). KeepsBoard s (log_at new other)) (sym stays) (elim (cases_order other run) [
        | inl same ↦
            let log : log_at new other ≡ log_at core run ++ entries =
            ap (λ (r : ℕ). log_at new r) same ∙ ap (λ (r : Run). r.log) (get_or-set_same core.runs (run - 1) now no_run (omega (arith, started.0, started.1))) in
            subst (λ (l : BoardLog). KeepsBoard (run_inputs core other) l) (sym log) (subst (λ (r : ℕ). KeepsBoard (run_inputs core r) (log_at core run ++ entries)) (sym same) kept)
        | inr apart ↦
            let log : log_at new other ≡ log_at core other = ap (λ (r : Run). r.log) (get_or-set_other core.runs (run - 1) (other - 1) now no_run (differ other run there.0 started.0 apart)) in
            subst (λ (l : BoardLog). KeepsBoard (run_inputs core other) l) (sym log) (boards other there)
      ])
    where
      differ : (i j : ℕ) → 1 ≤ i → 1 ≤ j → (i < j) ⊎ (j < i) → i - 1 ≢ j - 1
      differ i j a b (inl low) same = absurd (omega (arith, a, b, low, same))
      differ i j a b (inr high) same = absurd (omega (arith, a, b, high, same))

  logged-boards : (run : ℕ) (entries : BoardLog) → IsStarted core run → KeepsBoard (run_inputs core run) (log_at core run ++ entries) → KeepsBoards (with_entries core run entries)
  logged-boards run entries started kept other there =
      run-logged run other entries started
      (there.0, omega (arith, there.1, length-set core.runs (run - 1) (record { front = (run_at core run).front; log = log_at core run ++ entries }))) kept

  -- a worker takes
  took-boards : (run who : ℕ) (o : Option BoardReply) → IsStarted core run → IsSeatNumber who → board_reply (run_inputs core run) (log_at core run) who board_call.Take ≡ o
      → KeepsBoards (after core (event.Take run who) (told o))
  took-boards run who None started seat is = boards
  took-boards run who (Some board_reply.AllOut) started seat is =
      logged-boards run (entry who board_call.Take board_reply.AllOut ∷ []) started (keeps-end (run_inputs core run) (log_at core run) (boards run started) who seat is)
  took-boards run who (Some (board_reply.Item item parents)) started seat is =
      logged-boards run (take_entry (run_inputs core run) (log_at core run) who item) started (keeps-taken (run_inputs core run) (log_at core run) (boards run started) who seat item parents is)
  took-boards run who (Some board_reply.Stored) started seat is = boards
  took-boards run who (Some board_reply.NotOut) started seat is = boards
  took-boards run who (Some board_reply.Stopped) started seat is = boards

  -- finishes
  finished-boards : (run who : ℕ) (o : Option ℕ) → IsStarted core run → IsSeatNumber who → held who (log_at core run) ≡ o → IsSome o → KeepsBoards (with_entries core run (finish_entry (run_inputs core run) who o))
  finished-boards run who None started seat is some = absurd (let n : false ≡ true = some in cc)
  finished-boards run who (Some item) started seat is some =
      logged-boards run (finish_entry (run_inputs core run) who (Some item)) started (keeps-stored (run_inputs core run) (log_at core run) (boards run started) who seat item is)

  -- the history grows, and the runs stay
  same-boards : (new : Core) → Grows core new → new.runs ≡ core.runs → KeepsBoards new
  same-boards new grows same run started =
      let there : IsStarted core run = subst (λ (l : List Run). (1 ≤ run) × (run ≤ length l)) same started in
      subst (λ (s : Inputs). KeepsBoard s (log_at new run)) (sym (inputs-stay tables core new run sound grows there))
      (subst (λ (l : List Run). KeepsBoard (run_inputs core run) (slice_index_or l (run - 1) no_run).log) (sym same) (boards run there))

  -- one more run
  begun-boards : (desk number front : ℕ) → KeepsBoards (after core (event.Start desk) (answer.Started number front))
  begun-boards desk number front run started =
      let new : Core = after core (event.Start desk) (answer.Started number front) in
      elim (cases_lt (length core.runs) run) [
        | inl past ↦
            let last : log_at new run ≡ [] =
            ap (λ (n : ℕ). (slice_index_or (core.runs ++ record { front = front; log = [] } ∷ []) n no_run).log) (place run past started)
            ∙ ap (λ (r : Run). r.log) (get_or-append_seam core.runs (record { front = front; log = [] }) [] no_run) in
            subst (λ (l : BoardLog). KeepsBoard (run_inputs new run) l) (sym last) (keeps-none (run_inputs new run))
        | inr inside ↦
            let there : IsStarted core run = (started.0, inside) in
            let log : log_at new run ≡ log_at core run =
            ap (λ (r : Run). r.log) (get_or_append_left core.runs (record { front = front; log = [] } ∷ []) no_run (run - 1) (omega (arith, started.0, inside))) in
            subst (λ (s : Inputs). KeepsBoard s (log_at new run)) (sym (inputs-stay tables core new run sound (start-grows core desk (answer.Started number front)) there))
            (subst (λ (l : BoardLog). KeepsBoard (run_inputs core run) l) (sym log) (boards run there))
      ]
    where
      place : (run : ℕ) → length core.runs < run → IsStarted (after core (event.Start desk) (answer.Started number front)) run → run - 1 ≡ length core.runs
      place run past started = omega (arith, past, started.1, length-append core.runs (record { front = front; log = [] } ∷ []))

  step-boards : (e : Event) (a : Answer) → IsAnswer core e a → KeepsBoards (after core e a)
  step-boards e a (inr (none, is)) = subst (λ (x : Answer). KeepsBoards (after core e x)) (sym is) (subst KeepsBoards (sym (unchanged core e answer.Nothing tt)) boards)
  step-boards (event.Call desk c) a (inl (has, inl (full, is))) = subst (λ (x : Answer). KeepsBoards (after core (event.Call desk c) x)) (sym is) boards
  step-boards (event.Call desk c) a (inl (has, inr (open_, r, said, is))) =
      subst (λ (x : Answer). KeepsBoards (after core (event.Call desk c) x)) (sym is)
      (same-boards (after core (event.Call desk c) (answer.Replied (next_number core.history) r)) (call-grows core desk c (answer.Replied (next_number core.history) r)) refl)
  step-boards (event.Start desk) a (inl (has, inl (full, is))) = subst (λ (x : Answer). KeepsBoards (after core (event.Start desk) x)) (sym is) boards
  step-boards (event.Start desk) a (inl (has, inr (open_, is))) =
      subst (λ (x : Answer). KeepsBoards (after core (event.Start desk) x)) (sym is) (begun-boards desk (length core.runs + 1) (next_number core.history))
  step-boards (event.Take run who) a (inl (has, is)) =
      subst (λ (x : Answer). KeepsBoards (after core (event.Take run who) x)) (sym is)
      (took-boards run who (board_reply (run_inputs core run) (log_at core run) who board_call.Take) has.0 has.1 refl)
  step-boards (event.Finish run who) a (inl (has, is)) =
      subst (λ (x : Answer). KeepsBoards (after core (event.Finish run who) x)) (sym (finished-stored core boards run who a has.0 is)) (finished-boards run who (held who (log_at core run)) has.0 has.1 refl has.2)
  step-boards (event.GiveUp run who) a (inl (has, is)) =
      subst (λ (x : Answer). KeepsBoards (after core (event.GiveUp run who) x)) (sym is)
      (logged-boards run (entry who board_call.GiveUp board_reply.Stopped ∷ []) has.0 (keeps-stopped (run_inputs core run) (log_at core run) (boards run has.0) who has.1))
  step-boards (event.Write run) a (inl (has, is)) = boards

module _ (tables : Tables) where
  boards-from : (before steps : List Step) → InTurn (MayFollowSteps tables) before steps → Sound (core_of tables before) → KeepsBoards (core_of tables before) → KeepsBoards (core_of tables (before ++ steps))
  boards-from before [] w sound boards = subst (λ (l : List Step). KeepsBoards (core_of tables l)) (sym (append-nil before)) boards
  boards-from before (x ∷ steps) w sound boards =
      subst (λ (l : List Step). KeepsBoards (core_of tables l)) (sym (one_more before x steps))
      (boards-from (before ++ x ∷ []) steps w.1
      (subst (λ (c : Core). Sound c) (sym (core-one tables before x)) (step-sound (core_of tables before) sound x.0 x.1 (subst (λ (t : Tables). FitsShop t x.0) (sym (tables-stay tables before)) w.0.0) w.0.1))
      (subst KeepsBoards (sym (core-one tables before x)) (step-boards tables (core_of tables before) sound boards x.0 x.1 w.0.1)))

  pub right-boards : (steps : List Step) → IsRight tables steps → KeepsBoards (core_of tables steps)
  right-boards steps right =
      boards-from [] steps (InTurn-from_Each (MayFollowSteps tables) [] steps right) (subst (λ (c : Core). Sound c) (sym (core-none (opened tables))) (sound-none tables))
      (subst KeepsBoards (sym (core-none (opened tables))) (λ run started. absurd (omega (arith, started.0, started.1))))

told-something : (s : Inputs) (log : BoardLog) (who : ℕ) → told (board_reply s log who board_call.Take) ≡ answer.Nothing → ⊥
told-something s log who e = by (is_at_end s log) (find (is_ready s log) (places s)) e
  where
    by : (b : Bool) (o : Option ℕ) → told (if b then Some board_reply.AllOut else option_map (handed s log) o) ≡ answer.Nothing → ⊥
    by true o k = cc
    by false None k = cc
    by false (Some i) k = cc

-- an event that has meaning is never answered Nothing
answered-something : (core : Core) → KeepsBoards core → (e : Event) → HasMeaning core e → IsAnswered core e answer.Nothing → ⊥
answered-something core boards (event.Call desk c) has (inl (full, is)) = cc
answered-something core boards (event.Call desk c) has (inr (open_, r, said, is)) = cc
answered-something core boards (event.Start desk) has (inl (full, is)) = cc
answered-something core boards (event.Start desk) has (inr (open_, is)) = cc
answered-something core boards (event.Take run who) has is = told-something (run_inputs core run) (log_at core run) who (sym is)
answered-something core boards (event.Finish run who) has is = let k : answer.Nothing ≡ answer.Stored = finished-stored core boards run who answer.Nothing has.0 is in cc
answered-something core boards (event.GiveUp run who) has is = cc
answered-something core boards (event.Write run) has (inl (bytes, is, plannable, text)) = cc
answered-something core boards (event.Write run) has (inr (name, is, refused)) = cc

pub meaningless : (core : Core) → KeepsBoards core → (e : Event) (a : Answer) → IsAnswer core e a → (a ≡ answer.Nothing) ↔ (HasMeaning core e → ⊥)
meaningless core boards e a (inl (has, is)) = (λ k. absurd (answered-something core boards e has (subst (λ (x : Answer). IsAnswered core e x) k is)), λ none. absurd (none has))
meaningless core boards e a (inr (none, is)) = (λ k. none, λ k. is)

told-full : (s : Inputs) (log : BoardLog) (who : ℕ) → told (board_reply s log who board_call.Take) ≡ answer.Full → ⊥
told-full s log who e = by (is_at_end s log) (find (is_ready s log) (places s)) e
  where
    by : (b : Bool) (o : Option ℕ) → told (if b then Some board_reply.AllOut else option_map (handed s log) o) ≡ answer.Full → ⊥
    by true o k = cc
    by false None k = cc
    by false (Some i) k = cc

answered-full : (core : Core) (e : Event) → IsAnswered core e answer.Full → IsOfDesk e × IsFull core.history
answered-full core (event.Call desk c) (inl (full, is)) = (tt, full)
answered-full core (event.Call desk c) (inr (open_, r, said, is)) = absurd (cc)
answered-full core (event.Start desk) (inl (full, is)) = (tt, full)
answered-full core (event.Start desk) (inr (open_, is)) = absurd (cc)
answered-full core (event.Take run who) is = absurd (told-full (run_inputs core run) (log_at core run) who (sym is))
answered-full core (event.Finish run who) (item, has, is) = absurd (finish-full (is_out_to who (log_at core run) item && not (is_stored (log_at core run) item)) (sym is))
  where
    finish-full : (b : Bool) → told (if b then Some board_reply.Stored else Some board_reply.NotOut) ≡ answer.Full → ⊥
    finish-full true k = cc
    finish-full false k = cc
answered-full core (event.GiveUp run who) is = absurd (cc)
answered-full core (event.Write run) (inl (bytes, is, plannable, text)) = absurd (cc)
answered-full core (event.Write run) (inr (name, is, refused)) = absurd (cc)

told-of-full : (core : Core) (e : Event) (a : Answer) → IsOfDesk e → IsFull core.history → IsAnswered core e a → a ≡ answer.Full
told-of-full core (event.Call desk c) a of full (inl (f, is)) = is
told-of-full core (event.Call desk c) a of full (inr (open_, r, said, is)) = absurd (open_ full)
told-of-full core (event.Start desk) a of full (inl (f, is)) = is
told-of-full core (event.Start desk) a of full (inr (open_, is)) = absurd (open_ full)
told-of-full core (event.Take run who) a of full is = absurd of
told-of-full core (event.Finish run who) a of full is = absurd of
told-of-full core (event.GiveUp run who) a of full is = absurd of
told-of-full core (event.Write run) a of full is = absurd of

pub full-is : (core : Core) (e : Event) (a : Answer) → IsAnswer core e a → (a ≡ answer.Full) ↔ AsksFullBook core e
full-is core e a (inl (has, is)) = (
  λ k. (let told_so = answered-full core e (subst (λ (x : Answer). IsAnswered core e x) k is) in (told_so.0, has, told_so.1)),
  λ asks. told-of-full core e a asks.0 asks.2 is,
)
full-is core e a (inr (none, is)) = (λ k. absurd (let n : answer.Full ≡ answer.Nothing = sym k ∙ is in cc), λ asks. absurd (none asks.1))

pub numbered-is : (core : Core) (desk n : ℕ) (c : Call) (r : Reply) → IsAnswer core (event.Call desk c) (answer.Replied n r) → n ≡ next_number core.history
numbered-is core desk n c r (inl (seat, inl (full, is))) = absurd (cc)
numbered-is core desk n c r (inl (seat, inr (open_, q, said, is))) = cc
numbered-is core desk n c r (inr (none, is)) = absurd (cc)

pub started-is : (core : Core) (desk run front : ℕ) → IsAnswer core (event.Start desk) (answer.Started run front) → (run ≡ length core.runs + 1) × (front ≡ next_number core.history)
started-is core desk run front (inl (seat, inl (full, is))) = absurd (cc)
started-is core desk run front (inl (seat, inr (open_, is))) = (cc, cc)
started-is core desk run front (inr (none, is)) = absurd (cc)

pub bytes-are : (core : Core) (run : ℕ) (bytes : Vec ℕ) → IsAnswer core (event.Write run) (answer.Bytes bytes)
    → IsStarted core run × IsPlannable (run_inputs core run) × (bytes.items ≡ report_text (run_inputs core run))
bytes-are core run bytes (inl (has, inl (given, is, plannable, text))) = let same : bytes ≡ given = cc in (has.0, plannable, ap (λ (v : Vec ℕ). v.items) same ∙ text)
bytes-are core run bytes (inl (has, inr (name, is, refused))) = absurd (cc)
bytes-are core run bytes (inr (none, is)) = absurd (cc)

pub name-is : (core : Core) (run : ℕ) (name : List ℕ) → IsAnswer core (event.Write run) (answer.TooLarge name) → IsStarted core run × IsRefusedBy (run_inputs core run) name
name-is core run name (inl (has, inl (given, is, plannable, text))) = absurd (cc)
name-is core run name (inl (has, inr (other, is, refused))) = let same : name ≡ other = cc in (has.0, subst (λ (x : List ℕ). IsRefusedBy (run_inputs core run) x) (sym same) refused)
name-is core run name (inr (none, is)) = absurd (cc)

-- an entry that a step made stays in the history to the end
pub core-next : (core : Core) (x : Step) (later : List Step) → core_after core (x ∷ later) ≡ core_after (after core x.0 x.1) later
unfolding core_after
core-next core x later = refl

pub stays-entered : (tables : Tables) (steps before : List Step) (e : Event) (a : Answer) → WasAnswered steps before e a → (n : ℕ) (x : Entry Call Reply)
    → (after (core_of tables before) e a).history ≡ (core_of tables before).history ++ x ∷ [] → n ≡ next_number (core_of tables before).history → IsEntry (core_of tables steps).history n x
stays-entered tables steps before e a was n x adds number =
    let core : Core = core_of tables before in
    let g = steps-grow (after core e a) was.after in
    let whole : core_of tables steps ≡ core_after (after core e a) was.after =
    ap (core_of tables) was.place ∙ core-append (opened tables) before ((e, a) ∷ was.after) ∙ core-next core (e, a) was.after in
    record {
      before = core.history;
      after = g.entries;
      place =
          ap (λ (c : Core). c.history) whole ∙ g.history ∙ ap (λ (h : History). h ++ g.entries) adds ∙ append_assoc core.history (x ∷ []) g.entries;
      counted = number;
    }
