-- Entries and runs of a core are the answers to events.
use Rattle.std.proofs.Common.{◌≡◌, ◌⊎◌, ◌∙◌, ◌+◌, ◌-◌, ℕ, List, [], ◌∷◌, ◌++◌, length, inl, inr, refl, sym, ap, subst, arith, append_assoc}
use Rattle.std.proofs.Math.Seq.{get_or-append_seam}
use Rattle.std.proofs.lemmas.Bool.{cases_lt}
use Rattle.std.proofs.lemmas.List.{append-nil, length-append, length-map, map-append}
use Rattle.std.specs.List.{slice_index_or}
use Rattle.mrp_turn.specs.declared.log.Entry.{Entry}
use Rattle.mrp_turn.specs.Log.{entry}
use Rattle.mrp_turn.proofs.Logs.{EachFollows-front, InTurn, InTurn-from_Each, one_more}
use Rattle.mrp_tables.specs.Tables.{Tables}
use Rattle.mrp_book.specs.declared.call.Call.{Call}
use Rattle.mrp_book.specs.declared.call.Call.TheVariants as call
use Rattle.mrp_book.specs.declared.reply.Reply.{Reply}
use Rattle.mrp_book.specs.Standing.{History}
use Rattle.mrp_book.specs.History.{next_number}
use Rattle.mrp_engine.specs.declared.event_core.event.Event.{Event}
use Rattle.mrp_engine.specs.declared.event_core.event.Event.TheVariants as event
use Rattle.mrp_engine.specs.declared.event_core.event.Answer.{Answer}
use Rattle.mrp_engine.specs.declared.event_core.event.Answer.TheVariants as answer
use Rattle.mrp_engine.specs.event_core.Core.{Core, IsAnswer, IsRight, IsStarted, MayFollowSteps, Run, Step, after, core_after, core_of, inputs_at, opened, run_at, run_inputs, snapshot_of}
use Rattle.mrp_engine.specs.event_core.Headline.{IsEntry, WasAnswered, WasEntered, WasStarted}
use Rattle.mrp_engine.proofs.lemmas.event_core.CoreLaws.{answered, core-append, core-next, core-none, core-one, finish-same, front-at, fronts, give_up-same, started-is, steps-grow, take-same, tables-stay, write-same}

-- what was answered, with later steps

pub answered-then : (steps before later : List Step) (e : Event) (a : Answer) → WasAnswered steps before e a → WasAnswered (steps ++ later) before e a
answered-then steps before later e a was = record {
  after = was.after ++ later;
  place = ap (λ (l : List Step). l ++ later) was.place ∙ append_assoc before ((e, a) ∷ was.after) later;
}

answered-last : (before : List Step) (e : Event) (a : Answer) → WasAnswered (before ++ (e, a) ∷ []) before e a
answered-last before e a = record { after = []; place = refl }

-- the last of a list, or one before it
pub last-or-before : {X : Type 0} (xs : List X) (x : X) (before : List X) (y : X) (after : List X) → xs ++ x ∷ [] ≡ before ++ y ∷ after
    → ((before ≡ xs) × (y ≡ x)) ⊎ ((rest : List X) × (xs ≡ before ++ y ∷ rest))
last-or-before [] x [] y after e = let same : x ≡ y = cc in inl (refl, sym same)
last-or-before {X} [] x (z ∷ before) y after e =
    let none : [] ≡ before ++ y ∷ after = cc in
    absurd (omega (arith, ap (length {A = X}) none, length-append before (y ∷ after)))
last-or-before (z ∷ xs) x [] y after e = let same : z ≡ y = cc in inr (xs, ap (λ w. w ∷ xs) same)
last-or-before {X} (z ∷ xs) x (w ∷ before) y after e =
    let same : z ≡ w = cc in
    let rest : xs ++ x ∷ [] ≡ before ++ y ∷ after = cc in
    elim (last-or-before xs x before y after rest) [
      | inl k ↦ inl (ap (λ l. w ∷ l) k.0 ∙ ap (λ v. v ∷ xs) (sym same), k.1)
      | inr k ↦ inr (k.0, ap (λ l. z ∷ l) k.1 ∙ ap (λ v. v ∷ (before ++ y ∷ k.0)) same)
    ]

-- an entry is the answer to an event in a core
abbrev Makes : Core → Event → Answer → Entry Call Reply → Type 0
Makes core e a x =
    ((e ≡ event.Call x.who x.call) × (a ≡ answer.Replied (next_number core.history) x.reply))
    ⊎ ((run : ℕ) × (e ≡ event.Start x.who) × (a ≡ answer.Started run (next_number core.history)) × (x ≡ entry x.who call.Snapshot (snapshot_of core (next_number core.history))))

-- an event leaves the history, or its answer is one more entry of it
abbrev Enters : Core → Event → Answer → Type 0
Enters core e a = ((after core e a).history ≡ core.history) ⊎ ((x : Entry Call Reply) × ((after core e a).history ≡ core.history ++ x ∷ []) × Makes core e a x)

step-enters : (core : Core) (e : Event) (a : Answer) → IsAnswer core e a → Enters core e a
step-enters core (event.Call desk c) a (inl (has, inl (full, is))) = inl (ap (λ (x : Answer). (after core (event.Call desk c) x).history) is)
step-enters core (event.Call desk c) a (inl (has, inr (open_, r, said, is))) = inr (entry desk c r, ap (λ (x : Answer). (after core (event.Call desk c) x).history) is, inl (refl, is))
step-enters core (event.Call desk c) a (inr (none, is)) = inl (ap (λ (x : Answer). (after core (event.Call desk c) x).history) is)
step-enters core (event.Start desk) a (inl (has, inl (full, is))) = inl (ap (λ (x : Answer). (after core (event.Start desk) x).history) is)
step-enters core (event.Start desk) a (inl (has, inr (open_, is))) =
    inr (entry desk call.Snapshot (snapshot_of core (next_number core.history)), ap (λ (x : Answer). (after core (event.Start desk) x).history) is, inr (length core.runs + 1, refl, is, refl))
step-enters core (event.Start desk) a (inr (none, is)) = inl (ap (λ (x : Answer). (after core (event.Start desk) x).history) is)
step-enters core (event.Take run who) a is = inl (take-same core run who a).history
step-enters core (event.Finish run who) a is = inl (finish-same core run who a).history
step-enters core (event.GiveUp run who) a is = inl (give_up-same core run who a).history
step-enters core (event.Write run) a is = inl (write-same core run a).history

-- an event leaves the number of runs, or it started one
abbrev Starts : Core → Event → Answer → Type 0
Starts core e a =
    (length (after core e a).runs ≡ length core.runs)
    ⊎ ((length (after core e a).runs ≡ length core.runs + 1) × (desk : ℕ) × (front : ℕ) × (e ≡ event.Start desk) × (a ≡ answer.Started (length core.runs + 1) front))

runs-same : (old new : Core) → fronts new ≡ fronts old → length new.runs ≡ length old.runs
runs-same old new same = sym (length-map new.runs (λ (r : Run). r.front)) ∙ ap (length {A = ℕ}) same ∙ length-map old.runs (λ (r : Run). r.front)

step-starts : (core : Core) (e : Event) (a : Answer) → IsAnswer core e a → Starts core e a
step-starts core (event.Call desk c) a (inl (has, inl (full, is))) = inl (ap (λ (x : Answer). length (after core (event.Call desk c) x).runs) is)
step-starts core (event.Call desk c) a (inl (has, inr (open_, r, said, is))) = inl (ap (λ (x : Answer). length (after core (event.Call desk c) x).runs) is)
step-starts core (event.Call desk c) a (inr (none, is)) = inl (ap (λ (x : Answer). length (after core (event.Call desk c) x).runs) is)
step-starts core (event.Start desk) a (inl (has, inl (full, is))) = inl (ap (λ (x : Answer). length (after core (event.Start desk) x).runs) is)
step-starts core (event.Start desk) a (inl (has, inr (open_, is))) =
    let front : ℕ = next_number core.history in
    inr (ap (λ (x : Answer). length (after core (event.Start desk) x).runs) is ∙ length-append core.runs (record { front = front; log = [] } ∷ []), desk, front, refl, is)
step-starts core (event.Start desk) a (inr (none, is)) = inl (ap (λ (x : Answer). length (after core (event.Start desk) x).runs) is)
step-starts core (event.Take run who) a is = inl (runs-same core (after core (event.Take run who) a) (take-same core run who a).fronts)
step-starts core (event.Finish run who) a is = inl (runs-same core (after core (event.Finish run who) a) (finish-same core run who a).fronts)
step-starts core (event.GiveUp run who) a is = inl (runs-same core (after core (event.GiveUp run who) a) (give_up-same core run who a).fronts)
step-starts core (event.Write run) a is = inl (runs-same core (after core (event.Write run) a) (write-same core run a).fronts)

module _ (tables : Tables) where
  -- Entries.

  abbrev AllEntered : List Step → Type 0
  AllEntered steps = (before : History) (x : Entry Call Reply) (later : History) → (core_of tables steps).history ≡ before ++ x ∷ later → WasEntered tables steps (next_number before) x

  entered-then : (steps later : List Step) (n : ℕ) (x : Entry Call Reply) → WasEntered tables steps n x → WasEntered tables (steps ++ later) n x
  entered-then steps later n x (inl (before, was)) = inl (before, answered-then steps before later (event.Call x.who x.call) (answer.Replied n x.reply) was)
  entered-then steps later n x (inr (before, run, was, is)) = inr (before, run, answered-then steps before later (event.Start x.who) (answer.Started run n) was, is)

  made-now : (steps : List Step) (e : Event) (a : Answer) (n : ℕ) (x : Entry Call Reply) → n ≡ next_number (core_of tables steps).history → Makes (core_of tables steps) e a x → WasEntered tables (steps ++ (e, a) ∷ []) n x
  made-now steps e a n x number (inl (call_is, is)) =
      let same : (e, a) ≡ (event.Call x.who x.call, answer.Replied n x.reply) =
      ap (λ (f : Event). (f, a)) call_is ∙ ap (λ (b : Answer). (event.Call x.who x.call, b)) (is ∙ ap (λ (m : ℕ). answer.Replied m x.reply) (sym number)) in
      inl (steps, record { after = []; place = ap (λ (y : Step). steps ++ y ∷ []) same })
  made-now steps e a n x number (inr (run, start_is, is, snapped)) =
      let same : (e, a) ≡ (event.Start x.who, answer.Started run n) =
      ap (λ (f : Event). (f, a)) start_is ∙ ap (λ (b : Answer). (event.Start x.who, b)) (is ∙ ap (λ (m : ℕ). answer.Started run m) (sym number)) in
      inr (steps, run, record { after = []; place = ap (λ (y : Step). steps ++ y ∷ []) same }, snapped ∙ ap (λ (m : ℕ). entry x.who call.Snapshot (snapshot_of (core_of tables steps) m)) (sym number))

  entered-more : (steps : List Step) (e : Event) (a : Answer) → AllEntered steps → Enters (core_of tables steps) e a → AllEntered (steps ++ (e, a) ∷ [])
  entered-more steps e a all (inl same) before x later is =
      entered-then steps ((e, a) ∷ []) (next_number before) x (all before x later (sym (ap (λ (c : Core). c.history) (core-one tables steps (e, a)) ∙ same) ∙ is))
  entered-more steps e a all (inr (y, adds, makes)) before x later is =
      elim (last-or-before (core_of tables steps).history y before x later (sym (ap (λ (c : Core). c.history) (core-one tables steps (e, a)) ∙ adds) ∙ is)) [
        | inl k ↦ made-now steps e a (next_number before) x (ap next_number k.0) (subst (λ (z : Entry Call Reply). Makes (core_of tables steps) e a z) (sym k.1) makes)
        | inr k ↦ entered-then steps ((e, a) ∷ []) (next_number before) x (all before x k.0 k.1)
      ]

  entered-from : (before steps : List Step) → InTurn (MayFollowSteps tables) before steps → AllEntered before → AllEntered (before ++ steps)
  entered-from before [] w all = subst (λ (l : List Step). AllEntered l) (sym (append-nil before)) all
  entered-from before (x ∷ steps) w all =
      subst (λ (l : List Step). AllEntered l) (sym (one_more before x steps))
      (entered-from (before ++ x ∷ []) steps w.1 (entered-more before x.0 x.1 all (step-enters (core_of tables before) x.0 x.1 w.0.1)))

  none-entered : AllEntered []
  none-entered before x later is =
      let none : [] ≡ before ++ x ∷ later = sym (ap (λ (c : Core). c.history) (core-none (opened tables))) ∙ is in
      absurd (omega (arith, ap (length {A = Entry Call Reply}) none, length-append before (x ∷ later)))

  -- every entry is of an event that was answered
  pub all-answered : (steps : List Step) → IsRight tables steps → (n : ℕ) (x : Entry Call Reply) → IsEntry (core_of tables steps).history n x → WasEntered tables steps n x
  all-answered steps right n x stands =
      subst (λ (m : ℕ). WasEntered tables steps m x) (sym stands.counted)
      (entered-from [] steps (InTurn-from_Each (MayFollowSteps tables) [] steps right) none-entered stands.before x stands.after stands.place)

  -- Runs.

  abbrev AllStarted : List Step → Type 0
  AllStarted steps = (run : ℕ) → IsStarted (core_of tables steps) run → WasStarted steps run

  started-then : (steps later : List Step) (run : ℕ) → WasStarted steps run → WasStarted (steps ++ later) run
  started-then steps later run (before, desk, front, was) = (before, desk, front, answered-then steps before later (event.Start desk) (answer.Started run front) was)

  started-more : (steps : List Step) (e : Event) (a : Answer) → AllStarted steps → Starts (core_of tables steps) e a → AllStarted (steps ++ (e, a) ∷ [])
  started-more steps e a all (inl same) run started =
      let count : length (core_of tables (steps ++ (e, a) ∷ [])).runs ≡ length (core_of tables steps).runs = ap (λ (c : Core). length c.runs) (core-one tables steps (e, a)) ∙ same in
      started-then steps ((e, a) ∷ []) run (all run (started.0, omega (arith, started.1, count)))
  started-more steps e a all (inr (more, desk, front, start_is, is)) run started =
      let old : ℕ = length (core_of tables steps).runs in
      let count : length (core_of tables (steps ++ (e, a) ∷ [])).runs ≡ old + 1 = ap (λ (c : Core). length c.runs) (core-one tables steps (e, a)) ∙ more in
      elim (cases_lt old run) [
        | inl past ↦
            let number : run ≡ old + 1 = omega (arith, past, started.1, count) in
            let same : (e, a) ≡ (event.Start desk, answer.Started run front) =
            ap (λ (f : Event). (f, a)) start_is ∙ ap (λ (b : Answer). (event.Start desk, b)) (is ∙ ap (λ (m : ℕ). answer.Started m front) (sym number)) in
            (steps, desk, front, record { after = []; place = ap (λ (y : Step). steps ++ y ∷ []) same })
        | inr inside ↦ started-then steps ((e, a) ∷ []) run (all run (started.0, inside))
      ]

  started-from : (before steps : List Step) → InTurn (MayFollowSteps tables) before steps → AllStarted before → AllStarted (before ++ steps)
  started-from before [] w all = subst (λ (l : List Step). AllStarted l) (sym (append-nil before)) all
  started-from before (x ∷ steps) w all =
      subst (λ (l : List Step). AllStarted l) (sym (one_more before x steps))
      (started-from (before ++ x ∷ []) steps w.1 (started-more before x.0 x.1 all (step-starts (core_of tables before) x.0 x.1 w.0.1)))

  none-started : AllStarted []
  none-started run started = absurd (omega (arith, started.0, started.1, ap (λ (c : Core). length c.runs) (core-none (opened tables))))

  -- every run was started by a desk
  pub all-started : (steps before later : List Step) (run : ℕ) → IsRight tables steps → steps ≡ before ++ later → IsStarted (core_of tables before) run → WasStarted steps run
  all-started steps before later run right is started =
      let front : IsRight tables before = EachFollows-front (MayFollowSteps tables) before later (subst (λ (l : List Step). IsRight tables l) is right) in
      subst (λ (l : List Step). WasStarted l run) (sym is)
      (started-then before later run (started-from [] before (InTurn-from_Each (MayFollowSteps tables) [] before front) none-started run started))

  -- and keeps the front that it was answered
  front-stays : (core : Core) (desk run front : ℕ) (later : List Step) → run ≡ length core.runs + 1 → (run_at (core_after (after core (event.Start desk) (answer.Started run front)) later) run).front ≡ front
  front-stays core desk run front later number =
      let now : Core = after core (event.Start desk) (answer.Started run front) in
      let end : Core = core_after now later in
      let g = steps-grow now later in
      let place : run - 1 ≡ length (fronts core) = omega (arith, number, length-map core.runs (λ (r : Run). r.front)) in
      let all : fronts end ≡ fronts core ++ front ∷ g.runs =
      g.fronts ∙ ap (λ (l : List ℕ). l ++ g.runs) (map-append (λ (r : Run). r.front) core.runs (record { front = front; log = [] } ∷ [])) ∙ append_assoc (fronts core) (front ∷ []) g.runs in
      front-at end.runs (run - 1)
      ∙ ap (λ (l : List ℕ). slice_index_or l (run - 1) 0) all
      ∙ ap (λ (i : ℕ). slice_index_or (fronts core ++ front ∷ g.runs) i 0) place
      ∙ get_or-append_seam (fronts core) front g.runs 0

  pub start-inputs : (steps before : List Step) (desk run front : ℕ) → IsRight tables steps → WasAnswered steps before (event.Start desk) (answer.Started run front)
      → run_inputs (core_of tables steps) run ≡ inputs_at tables (core_of tables steps).history front
  start-inputs steps before desk run front right was =
      let e : Event = event.Start desk in
      let a : Answer = answer.Started run front in
      let core : Core = core_of tables before in
      let whole : core_of tables steps ≡ core_after (after core e a) was.after =
      ap (core_of tables) was.place ∙ core-append (opened tables) before ((e, a) ∷ was.after) ∙ core-next core (e, a) was.after in
      let number : run ≡ length core.runs + 1 = (started-is core desk run front (answered tables steps before e a right was)).0 in
      let stays : (run_at (core_of tables steps) run).front ≡ front = ap (λ (c : Core). (run_at c run).front) whole ∙ front-stays core desk run front was.after number in
      ap (λ (n : ℕ). inputs_at (core_of tables steps).tables (core_of tables steps).history n) stays
      ∙ ap (λ (t : Tables). inputs_at t (core_of tables steps).history front) (tables-stay tables steps)
