-- Steps of a core, by what it keeps.
use Rattle.std.proofs.Common.{◌≡◌, ◌≢◌, ◌∙◌, ◌<◌, ◌≤◌, ◌+◌, ◌-◌, ℕ, zero, suc, Bool, true, false, if◌then◌else◌, List, [], ◌∷◌, ◌++◌, Option, Some, None, Result, Ok, Err, length, map, take, set, inl, inr, refl, sym, ap, subst, arith}
use Rattle.std.proofs.lemmas.List.{append-nil, length-append, length-map, take-append-le, map-append, map-set, set-get_or, take_all, get_or_default}
use Rattle.std.proofs.lemmas.List.Elements.{All-set, All-weaker}
use Rattle.std.specs.Prelude.{All, IfOk, OnErr, OnOk, IsSome, is_some, option_map, find}
use Rattle.std.specs.List.{slice_index_or}
use Rattle.mrp_turn.specs.declared.log.Entry.{Entry}
use Rattle.mrp_turn.specs.Log.{IsSeatNumber, entry}
use Rattle.mrp_tables.specs.Tables.{Tables}
use Rattle.mrp_master.specs.Supply.{supply_of}
use Rattle.mrp_book.specs.declared.call.Call.{Call}
use Rattle.mrp_book.specs.declared.call.Call.TheVariants as call
use Rattle.mrp_book.specs.declared.reply.Reply.{Reply}
use Rattle.mrp_book.specs.declared.reply.Reply.TheVariants as reply
use Rattle.mrp_book.specs.declared.booking.Booking.{Booking}
use Rattle.mrp_book.specs.Snapshot.{Snapshot}
use Rattle.mrp_book.specs.Standing.{History, standing}
use Rattle.mrp_book.specs.History.{IsFull, IsReply, next_number}
use Rattle.mrp_book.proofs.Standings.{standing_after}
use Rattle.mrp_item.specs.Inputs.{Inputs, inputs_of, places}
use Rattle.mrp_item.specs.Made.{item_from}
use Rattle.mrp_board.specs.declared.call.BoardCall.TheVariants as board_call
use Rattle.mrp_board.specs.declared.reply.BoardReply.TheVariants as board_reply
use Rattle.mrp_board.specs.Board.{BoardLog, board_reply, handed, held, is_at_end, is_finished, is_ready}
use Rattle.mrp_engine.specs.declared.event_core.event.Event.{Event}
use Rattle.mrp_engine.specs.declared.event_core.event.Event.TheVariants as event
use Rattle.mrp_engine.specs.declared.event_core.event.Answer.{Answer}
use Rattle.mrp_engine.specs.declared.event_core.event.Answer.TheVariants as answer
use Rattle.mrp_engine.specs.day.Day.{IsPlannable, IsRefusedBy}
use Rattle.mrp_engine.specs.event_core.Board.{RunLog, finish_entry, made, take_entry}
use Rattle.mrp_engine.specs.event_core.Core.{Core, HasMeaning, IsAnswer, IsOfDesk, IsReport, IsStarted, IsToldLater, IsToldTooLarge, Run, IsOutOfMemory, after, inputs_at, log_at, no_run, run_at, run_inputs, snapshot_of, told, with_entries}
use Rattle.mrp_engine.specs.event_core.Kept.{KeepsBoard}
use Rattle.mrp_engine.specs.event_core.KeptCore.{FollowsHistory, brief}
use Rattle.mrp_engine.proofs.lemmas.event_core.BoardLaws.{keeps-finish, keeps-none, keeps-stopped, keeps-told, stored-reply}

-- an event without meaning
pub no-meaning : (core : Core) (e : Event) → (HasMeaning core e → ⊥) → IsAnswer core e answer.Nothing
no-meaning core e none = inr (none, refl)

-- the history grows, and what runs plan from stays
pub follows-more : (tables : Tables) (h : History) (e : Entry Call Reply) (r : RunLog) → FollowsHistory tables h r → FollowsHistory tables (h ++ e ∷ []) r
follows-more tables h e r f = record {
  inputs = f.inputs ∙ ap (λ (g : History). record { tables = tables; front = r.inputs.front; standing = standing g }) (sym (take-append-le r.inputs.front h (e ∷ []) f.before));
  before = omega (arith, f.before, length-append h (e ∷ []));
  board = f.board;
}

pub follow-more : (tables : Tables) (h : History) (e : Entry Call Reply) (runs : List RunLog) → All (FollowsHistory tables h) runs → All (FollowsHistory tables (h ++ e ∷ [])) runs
follow-more tables h e runs all = All-weaker (FollowsHistory tables h) (FollowsHistory tables (h ++ e ∷ [])) (follows-more tables h e) runs all

-- a run at its place
pub record At (runs : List RunLog) (run place : ℕ) (r : RunLog) : Type 0 where
  pub within : place < length runs
  pub number : run ≡ place + 1
  pub is : r ≡ slice_index_or runs place r

brief-at : (runs : List RunLog) (i : ℕ) (d : RunLog) → i < length runs → slice_index_or (map brief runs) i no_run ≡ brief (slice_index_or runs i d)
brief-at [] i d h = absurd (omega (arith, h))
brief-at (r ∷ runs) zero d h = refl
brief-at (r ∷ runs) (suc i) d h = brief-at runs i d (omega (arith, h))

module _ (tables : Tables) (h : History) where
  abbrev pub seen : List RunLog → Core
  seen runs = record { tables = tables; history = h; runs = map brief runs }

  module _ (runs : List RunLog) (run place : ℕ) (r : RunLog) (at : At runs run place r) where
    place-is : run - 1 ≡ place
    place-is = omega (arith, at.number)

    run-is : run_at (seen runs) run ≡ brief r
    run-is = ap (λ (n : ℕ). slice_index_or (map brief runs) n no_run) place-is ∙ brief-at runs place r at.within ∙ ap brief (sym at.is)

    pub log-is : log_at (seen runs) run ≡ r.log
    log-is = ap (λ (x : Run). x.log) run-is

    pub inputs-are : FollowsHistory tables h r → run_inputs (seen runs) run ≡ r.inputs
    inputs-are f = ap (λ (x : Run). inputs_at tables h x.front) run-is ∙ sym f.inputs

    pub started : IsStarted (seen runs) run
    started = (omega (arith, at.number), omega (arith, at.number, at.within, length-map runs brief))

    pub logged : (now : RunLog) (entries : BoardLog) → now ≡ record r { log = r.log ++ entries } → seen (set runs place now) ≡ with_entries (seen runs) run entries
    logged now entries is = ap (λ (l : List Run). record { tables = tables; history = h; runs = l }) (
        map-set brief runs place now
        ∙ ap (λ (x : RunLog). set (map brief runs) place (brief x)) is
        ∙ ap (λ (x : Run). set (map brief runs) place (record { front = x.front; log = x.log ++ entries })) (sym run-is)
        ∙ ap (λ (n : ℕ). set (map brief runs) n (record { front = (run_at (seen runs) run).front; log = log_at (seen runs) run ++ entries })) (sym place-is)
        )

    pub unlogged : with_entries (seen runs) run [] ≡ seen runs
    unlogged = ap (λ (l : List Run). record { tables = tables; history = h; runs = l }) (
        ap (λ (l : BoardLog). set (map brief runs) (run - 1) (record { front = (run_at (seen runs) run).front; log = l })) (append-nil (log_at (seen runs) run))
        ∙ set-get_or (map brief runs) (run - 1) no_run
        )

    pub follow-set : (now : RunLog) → now.inputs ≡ r.inputs → KeepsBoard r.inputs now.log → FollowsHistory tables h r → All (FollowsHistory tables h) runs → All (FollowsHistory tables h) (set runs place now)
    follow-set now same board f all = All-set (FollowsHistory tables h) runs place now (record {
      inputs = subst (λ (s : Inputs). s ≡ inputs_at tables h s.front) (sym same) f.inputs;
      before = subst (λ (s : Inputs). s.front ≤ length h) (sym same) f.before;
      board = subst (λ (s : Inputs). KeepsBoard s now.log) (sym same) board;
    }) all

    -- A worker takes.

    pub take-answer : (who : ℕ) (a : Answer) → FollowsHistory tables h r → IsSeatNumber who → held who r.log ≡ None → a ≡ told (board_reply r.inputs r.log who board_call.Take)
        → IsAnswer (seen runs) (event.Take run who) a
    take-answer who a f seat none is = inl (
      (started, seat, ap (held who) log-is ∙ none),
      is ∙ sym (ap (λ (s : Inputs). told (board_reply s (log_at (seen runs) run) who board_call.Take)) (inputs-are f) ∙ ap (λ (l : BoardLog). told (board_reply r.inputs l who board_call.Take)) log-is),
    )

    took : FollowsHistory tables h r → (who : ℕ) (b : Bool) (o : Option ℕ)
        → with_entries (seen runs) run (made who board_call.Take (if b then Some board_reply.AllOut else option_map (handed r.inputs r.log) o))
        ≡ after (seen runs) (event.Take run who) (told (if b then Some board_reply.AllOut else option_map (handed r.inputs r.log) o))
    took f who true o = refl
    took f who false None = unlogged
    took f who false (Some i) =
        ap (λ (l : BoardLog). with_entries (seen runs) run (take_entry r.inputs l who i)) (sym log-is) ∙ ap (λ (s : Inputs). with_entries (seen runs) run (take_entry s (log_at (seen runs) run) who i)) (sym (inputs-are f))

    pub take-after : FollowsHistory tables h r → (who : ℕ) (a : Answer) (now : RunLog) → a ≡ told (board_reply r.inputs r.log who board_call.Take) → now ≡ record r { log = r.log ++ made who board_call.Take (board_reply r.inputs r.log who board_call.Take) }
        → seen (set runs place now) ≡ after (seen runs) (event.Take run who) a
    take-after f who a now is after_is =
        logged now (made who board_call.Take (board_reply r.inputs r.log who board_call.Take)) after_is
        ∙ took f who (is_at_end r.inputs r.log) (find (is_ready r.inputs r.log) (places r.inputs))
        ∙ ap (λ (x : Answer). after (seen runs) (event.Take run who) x) (sym is)

    pub take-held : (who item : ℕ) → held who r.log ≡ Some item → IsAnswer (seen runs) (event.Take run who) answer.Nothing
    take-held who item has = no-meaning (seen runs) (event.Take run who) (λ m. let k : None ≡ Some item = sym m.2 ∙ ap (held who) log-is ∙ has in cc)

    -- A worker finishes.

    -- it is answered that what it holds is stored
    told-stored : FollowsHistory tables h r → (who item : ℕ) → held who r.log ≡ Some item
        → told (board_reply (run_inputs (seen runs) run) (log_at (seen runs) run) who (board_call.Finish (item_from (run_inputs (seen runs) run) item))) ≡ answer.Stored
    told-stored f who item has =
        ap (λ (s : Inputs). told (board_reply s (log_at (seen runs) run) who (board_call.Finish (item_from s item)))) (inputs-are f)
        ∙ ap (λ (l : BoardLog). told (board_reply r.inputs l who (board_call.Finish (item_from r.inputs item)))) log-is
        ∙ ap told (stored-reply r.inputs r.log f.board who item has)

    finish-by : FollowsHistory tables h r → (who : ℕ) (a : Answer) (o : Option ℕ) → held who r.log ≡ o → IsSeatNumber who → (IsSome o → a ≡ answer.Stored) → (o ≡ None → a ≡ answer.Nothing)
        → IsAnswer (seen runs) (event.Finish run who) a × (with_entries (seen runs) run (finish_entry r.inputs who o) ≡ after (seen runs) (event.Finish run who) a)
    finish-by f who a (Some item) has seat stored nothing = (
      inl ((started, seat, subst (λ (x : Option ℕ). IsSome x) (sym (ap (held who) log-is ∙ has)) refl), (item, ap (held who) log-is ∙ has, stored refl ∙ sym (told-stored f who item has))),
      ap (λ (s : Inputs). with_entries (seen runs) run (finish_entry s who (Some item))) (sym (inputs-are f))
          ∙ ap (λ (x : Option ℕ). with_entries (seen runs) run (finish_entry (run_inputs (seen runs) run) who x)) (sym (ap (held who) log-is ∙ has)) ∙ ap (λ (x : Answer). after (seen runs) (event.Finish run who) x) (sym (stored refl)),
    )
    finish-by f who a None has seat stored nothing = (
      subst (λ (x : Answer). IsAnswer (seen runs) (event.Finish run who) x) (sym (nothing refl))
          (no-meaning (seen runs) (event.Finish run who) (λ m. let k : IsSome {T = ℕ} None = subst (λ (x : Option ℕ). IsSome x) (ap (held who) log-is ∙ has) m.2 in absurd (let n : false ≡ true = k in cc))),
      unlogged ∙ ap (λ (x : Answer). after (seen runs) (event.Finish run who) x) (sym (nothing refl)),
    )

    pub finish-answer : FollowsHistory tables h r → (who : ℕ) (a : Answer) → IsSeatNumber who → (IsSome (held who r.log) → a ≡ answer.Stored) → (held who r.log ≡ None → a ≡ answer.Nothing) → IsAnswer (seen runs) (event.Finish run who) a
    finish-answer f who a seat stored nothing = (finish-by f who a (held who r.log) refl seat stored nothing).0

    pub finish-after : FollowsHistory tables h r → (who : ℕ) (a : Answer) (now : RunLog) → IsSeatNumber who → (IsSome (held who r.log) → a ≡ answer.Stored) → (held who r.log ≡ None → a ≡ answer.Nothing)
        → now ≡ record r { log = r.log ++ finish_entry r.inputs who (held who r.log) } → seen (set runs place now) ≡ after (seen runs) (event.Finish run who) a
    finish-after f who a now seat stored nothing is = logged now (finish_entry r.inputs who (held who r.log)) is ∙ (finish-by f who a (held who r.log) refl seat stored nothing).1

    -- A worker gives up.

    pub give_up-answer : (who : ℕ) → IsSeatNumber who → IsAnswer (seen runs) (event.GiveUp run who) answer.Stopped
    give_up-answer who seat = inl ((started, seat), refl)

    -- A run is written.

    pub finished-is : FollowsHistory tables h r → is_finished (run_inputs (seen runs) run) (log_at (seen runs) run) ≡ is_finished r.inputs r.log
    finished-is f = ap (λ (s : Inputs). is_finished s (log_at (seen runs) run)) (inputs-are f) ∙ ap (λ (l : BoardLog). is_finished r.inputs l) log-is

    write-by : (b : Bool) (a : Answer) → is_finished r.inputs r.log ≡ b → FollowsHistory tables h r → (b ≡ true → IsReport r.inputs a) → (b ≡ false → a ≡ answer.Nothing)
        → IsAnswer (seen runs) (event.Write run) a
    write-by true a is f report nothing = inl ((started, finished-is f ∙ is), subst (λ (s : Inputs). IsReport s a) (sym (inputs-are f)) (report refl))
    write-by false a is f report nothing =
        subst (λ (x : Answer). IsAnswer (seen runs) (event.Write run) x) (sym (nothing refl))
        (no-meaning (seen runs) (event.Write run) (λ m. let k : false ≡ true = sym is ∙ sym (finished-is f) ∙ m.1 in cc))

    pub write-answer : (a : Answer) → FollowsHistory tables h r → (is_finished r.inputs r.log ≡ true → IsReport r.inputs a) → (is_finished r.inputs r.log ≡ false → a ≡ answer.Nothing)
        → IsAnswer (seen runs) (event.Write run) a
    write-answer a f report nothing = write-by (is_finished r.inputs r.log) a refl f report nothing

    pub write-same : (now : RunLog) → now ≡ r → seen (set runs place now) ≡ seen runs
    write-same now is =
        ap (λ (x : RunLog). seen (set runs place x)) (is ∙ at.is)
        ∙ ap seen (set-get_or runs place r)

  -- A call that was answered, and a start.

  pub call-answer : (runs : List RunLog) (desk : ℕ) (c : Call) (n : ℕ) (r : Reply) → IsSeatNumber desk → (IsFull h → ⊥) → IsReply (supply_of tables) h desk c r → n ≡ next_number h
      → IsAnswer (seen runs) (event.Call desk c) (answer.Replied n r)
  call-answer runs desk c n r seat open_ is number = inl (seat, inr (open_, r, is, ap (λ (m : ℕ). answer.Replied m r) number))

  pub call-full : (runs : List RunLog) (desk : ℕ) (c : Call) → IsSeatNumber desk → IsFull h → IsAnswer (seen runs) (event.Call desk c) answer.Full
  call-full runs desk c seat full = inl (seat, inl (full, refl))

  pub start-full : (runs : List RunLog) (desk : ℕ) → IsSeatNumber desk → IsFull h → IsAnswer (seen runs) (event.Start desk) answer.Full
  start-full runs desk seat full = inl (seat, inl (full, refl))

  pub start-answer : (runs : List RunLog) (desk run front : ℕ) → IsSeatNumber desk → (IsFull h → ⊥) → run ≡ length runs + 1 → front ≡ next_number h
      → IsAnswer (seen runs) (event.Start desk) (answer.Started run front)
  start-answer runs desk run front seat open_ number is =
      inl (seat, inr (open_, ap (λ (m : ℕ). answer.Started m front) (number ∙ ap (λ (m : ℕ). m + 1) (sym (length-map runs brief))) ∙ ap (λ (m : ℕ). answer.Started (length (map brief runs) + 1) m) is))

  -- the run that a snapshot starts
  pub snapshot-front : (t : Snapshot) (desk : ℕ) → IsReply (supply_of tables) h desk call.Snapshot (reply.Taken t)
      → (t.front ≡ next_number h) × (t.standing ≡ standing h) × (reply.Taken t ≡ snapshot_of (seen []) (next_number h))
  snapshot-front t desk is =
      let same : t ≡ record { front = next_number h; weeks = (supply_of tables).weeks; standing = standing h } = cc in
      (ap (λ (x : Snapshot). x.front) same, ap (λ (x : Snapshot). x.standing) same, is)

  stands-then : (t : Snapshot) (desk : ℕ) → t.front ≡ next_number h → standing (take t.front (h ++ entry desk call.Snapshot (reply.Taken t) ∷ [])) ≡ standing h
  stands-then t desk is =
      ap standing (take_all t.front (h ++ entry desk call.Snapshot (reply.Taken t) ∷ []) (omega (arith, is, length-append h (entry desk call.Snapshot (reply.Taken t) ∷ []))))
      ∙ standing_after h desk call.Snapshot (reply.Taken t)

  pub started-follows : (t : Snapshot) (desk : ℕ) (now : RunLog) → IsReply (supply_of tables) h desk call.Snapshot (reply.Taken t) → now ≡ record { inputs = inputs_of tables t; log = [] }
      → FollowsHistory tables (h ++ entry desk call.Snapshot (reply.Taken t) ∷ []) now
  started-follows t desk now is run =
      let k = snapshot-front t desk is in
      subst (λ (x : RunLog). FollowsHistory tables (h ++ entry desk call.Snapshot (reply.Taken t) ∷ []) x) (sym run) (record {
        inputs = ap (λ (l : List Booking). record { tables = tables; front = t.front; standing = l }) (k.1 ∙ sym (stands-then t desk k.0));
        before = omega (arith, k.0, length-append h (entry desk call.Snapshot (reply.Taken t) ∷ []));
        board = keeps-none (inputs_of tables t);
      })

  pub start-after : (runs : List RunLog) (t : Snapshot) (desk run front : ℕ) (now : RunLog) → IsReply (supply_of tables) h desk call.Snapshot (reply.Taken t) → front ≡ next_number h
      → now ≡ record { inputs = inputs_of tables t; log = [] }
      → record { tables = tables; history = h ++ entry desk call.Snapshot (reply.Taken t) ∷ []; runs = map brief (runs ++ now ∷ []) } ≡ after (seen runs) (event.Start desk) (answer.Started run front)
  start-after runs t desk run front now is number begun =
      let k = snapshot-front t desk is in
      let front-is : t.front ≡ front = k.0 ∙ sym number in
      let e : reply.Taken t ≡ snapshot_of (seen runs) front = k.2 ∙ ap (snapshot_of (seen runs)) (sym number) in
      ap (λ (r : Reply). record { tables = tables; history = h ++ entry desk call.Snapshot r ∷ []; runs = map brief (runs ++ now ∷ []) }) e
      ∙ ap (λ (l : List Run). record { tables = tables; history = h ++ entry desk call.Snapshot (snapshot_of (seen runs) front) ∷ []; runs = l }) (
      map-append brief runs (now ∷ [])
      ∙ ap (λ (x : RunLog). map brief runs ++ brief x ∷ []) begun
      ∙ ap (λ (n : ℕ). map brief runs ++ record { front = n; log = [] } ∷ []) front-is
      )

-- What is known of a result, at its value.

pub if-ok : {X E : Type 0} (P Q : X → Type 0) (r : Result X E) → IfOk r P → ((x : X) → P x → Q x) → IfOk r Q
if-ok P Q (Ok x) p f = f x p
if-ok P Q (Err e) p f = p

pub if-both : {X E : Type 0} (P Q : X → Type 0) (A : Type 0) (r : Result X E) → IfOk r P → OnOk r A → ((x : X) → P x → A → Q x) → IfOk r Q
if-both P Q A (Ok x) p a f = f x p a
if-both P Q A (Err e) p a f = p

pub if-two : {X E : Type 0} (P Q R : X → Type 0) (r : Result X E) → IfOk r P → IfOk r Q → ((x : X) → P x → Q x → R x) → IfOk r R
if-two P Q R (Ok x) p q f = f x p q
if-two P Q R (Err e) p q f = p

pub on-err : {X E : Type 0} (P : Type 0) (r : Result X E) → P → OnErr r P
on-err P (Ok x) p = tt
on-err P (Err e) p = p

at-err : {X E : Type 0} (P Q : Type 0) (r : Result X E) → OnErr r P → (P → Q) → OnErr r Q
at-err P Q (Ok x) p f = p
at-err P Q (Err e) p f = f p

-- a book that is not full may want memory
pub desk-out_of_memory : (core : Core) (e : Event) → IsOfDesk e → HasMeaning core e → (IsFull core.history → ⊥) → IsOutOfMemory core e
desk-out_of_memory core e of has open_ = record { meant = has; not_full = λ asks. open_ asks.2; not_later = never core e of; not_over = no-run core e of }
  where
    never : (core : Core) (e : Event) → IsOfDesk e → IsToldLater core e → ⊥
    never core (event.Call desk c) of later = later
    never core (event.Start desk) of later = later
    never core (event.Take run who) of later = of
    never core (event.Finish run who) of later = of
    never core (event.GiveUp run who) of later = of
    never core (event.Write run) of later = of

    no-run : (core : Core) (e : Event) → IsOfDesk e → IsToldTooLarge core e → ⊥
    no-run core (event.Call desk c) of over = over
    no-run core (event.Start desk) of over = over
    no-run core (event.Take run who) of over = over
    no-run core (event.Finish run who) of over = over
    no-run core (event.GiveUp run who) of over = over
    no-run core (event.Write run) of over = of

pub is-none : (o : Option ℕ) → is_some o ≡ false → o ≡ None
is-none None e = refl
is-none (Some n) e = absurd (let k : true ≡ false = e in cc)

is-item : (o : Option ℕ) → is_some o ≡ true → (n : ℕ) × (o ≡ Some n)
is-item None e = absurd (let k : false ≡ true = e in cc)
is-item (Some n) e = (n, refl)

-- the run at a place of a core
pub record Here (tables : Tables) (h : History) (runs : List RunLog) (now : Core) (run place : ℕ) (r : RunLog) : Type 0 where
  pub view : seen tables h runs ≡ now
  pub at : At runs run place r
  pub follows : FollowsHistory tables h r
  pub all : All (FollowsHistory tables h) runs

pub here-of : (tables : Tables) (h : History) (runs : List RunLog) (now : Core) (run place : ℕ) (r : RunLog) → seen tables h runs ≡ now → All (FollowsHistory tables h) runs → IsStarted now run → run ≡ place + 1
    → r ≡ slice_index_or runs place r → Here tables h runs now run place r
here-of tables h runs now run place r view all started number is =
    let inside : place < length runs = omega (arith, started.1, number, length-map runs brief, ap (λ (c : Core). length c.runs) view) in
    record {
      view = view;
      at = record { within = inside; number = number; is = is };
      follows = subst (λ (x : RunLog). FollowsHistory tables h x) (sym is) (all place r inside);
      all = all;
    }

module _ (tables : Tables) (h : History) (runs : List RunLog) (now : Core) (run place : ℕ) (r : RunLog) (x : Here tables h runs now run place r) where
  -- another reading of the place
  pub same-run : (q : RunLog) → q ≡ slice_index_or runs place q → q ≡ r
  same-run q is = is ∙ get_or_default runs place q r x.at.within ∙ sym x.at.is

  pub taken-answer : {E : Type 0} (who : ℕ) (o : Option ℕ) (q : RunLog) (res : Result Answer E) → IsSeatNumber who → is_some o ≡ false → o ≡ held who q.log → q ≡ slice_index_or runs place q
      → IfOk res (λ a. a ≡ told (board_reply r.inputs r.log who board_call.Take)) → IfOk res (IsAnswer now (event.Take run who))
  taken-answer who o q res seat none is read says =
      if-ok (λ a. a ≡ told (board_reply r.inputs r.log who board_call.Take)) (IsAnswer now (event.Take run who)) res says (λ a e.
      subst (λ (c : Core). IsAnswer c (event.Take run who) a) x.view
      (take-answer tables h runs run place r x.at who a x.follows seat (ap (λ (y : RunLog). held who y.log) (sym (same-run q read)) ∙ sym is ∙ is-none o none) e))

  pub taken-after : {E : Type 0} (who : ℕ) (res : Result Answer E) (new : RunLog) → IfOk res (λ a. a ≡ told (board_reply r.inputs r.log who board_call.Take))
      → OnOk res (new ≡ record r { log = r.log ++ made who board_call.Take (board_reply r.inputs r.log who board_call.Take) }) → IfOk res (λ a. seen tables h (set runs place new) ≡ after now (event.Take run who) a)
  taken-after who res new says adds =
      if-both (λ a. a ≡ told (board_reply r.inputs r.log who board_call.Take)) (λ a. seen tables h (set runs place new) ≡ after now (event.Take run who) a)
      (new ≡ record r { log = r.log ++ made who board_call.Take (board_reply r.inputs r.log who board_call.Take) }) res says adds (λ a e is.
      take-after tables h runs run place r x.at x.follows who a new e is ∙ ap (λ (c : Core). after c (event.Take run who) a) x.view)

  pub held-nothing : (who : ℕ) (o : Option ℕ) → is_some o ≡ true → o ≡ held who r.log → IsAnswer now (event.Take run who) answer.Nothing
  held-nothing who o some is =
      let k = is-item o some in
      subst (λ (c : Core). IsAnswer c (event.Take run who) answer.Nothing) x.view (take-held tables h runs run place r x.at who k.0 (sym is ∙ k.1))

  kept-now : (new now : RunLog) → new ≡ now → now.inputs ≡ r.inputs → KeepsBoard r.inputs now.log → All (FollowsHistory tables h) (set runs place new)
  kept-now new now is same board =
      follow-set tables h runs run place r x.at new (ap (λ (y : RunLog). y.inputs) is ∙ same) (subst (λ (y : RunLog). KeepsBoard r.inputs y.log) (sym is) board) x.follows x.all

  kept-set : {A E : Type 0} (res : Result A E) (log : BoardLog) (new : RunLog) → KeepsBoard r.inputs log → OnOk res (new ≡ record r { log = log }) → OnErr res (new ≡ r) → All (FollowsHistory tables h) (set runs place new)
  kept-set (Ok a) log new board grown same = kept-now new (record r { log = log }) grown refl board
  kept-set (Err e) log new board grown same = kept-now new r same refl x.follows.board

  -- each run keeps its board as a worker takes, finishes and gives up
  pub taken-set : {A E : Type 0} (who : ℕ) (res : Result A E) (new : RunLog) → IsSeatNumber who → OnOk res (new ≡ record r { log = r.log ++ made who board_call.Take (board_reply r.inputs r.log who board_call.Take) }) → OnErr res (new ≡ r)
      → All (FollowsHistory tables h) (set runs place new)
  taken-set who res new seat = kept-set res (r.log ++ made who board_call.Take (board_reply r.inputs r.log who board_call.Take)) new (keeps-told r.inputs r.log x.follows.board who seat)

  pub finished-set : {A E : Type 0} (who : ℕ) (res : Result A E) (new : RunLog) → IsSeatNumber who → OnOk res (new ≡ record r { log = r.log ++ finish_entry r.inputs who (held who r.log) }) → OnErr res (new ≡ r)
      → All (FollowsHistory tables h) (set runs place new)
  finished-set who res new seat = kept-set res (r.log ++ finish_entry r.inputs who (held who r.log)) new (keeps-finish r.inputs r.log x.follows.board who seat (held who r.log) refl)

  pub gave_up-set : {A E : Type 0} (who : ℕ) (res : Result A E) (new : RunLog) → IsSeatNumber who → OnOk res (new ≡ record r { log = r.log ++ entry who board_call.GiveUp board_reply.Stopped ∷ [] }) → OnErr res (new ≡ r)
      → All (FollowsHistory tables h) (set runs place new)
  gave_up-set who res new seat = kept-set res (r.log ++ entry who board_call.GiveUp board_reply.Stopped ∷ []) new (keeps-stopped r.inputs r.log x.follows.board who seat)

  pub finished-answer : {E : Type 0} (who : ℕ) (res : Result Answer E) → IsSeatNumber who → IfOk res (λ a. IsSome (held who r.log) → a ≡ answer.Stored) → IfOk res (λ a. held who r.log ≡ None → a ≡ answer.Nothing)
      → IfOk res (IsAnswer now (event.Finish run who))
  finished-answer who res seat stored nothing =
      if-two (λ a. IsSome (held who r.log) → a ≡ answer.Stored) (λ a. held who r.log ≡ None → a ≡ answer.Nothing) (IsAnswer now (event.Finish run who)) res stored nothing (λ a s n.
      subst (λ (c : Core). IsAnswer c (event.Finish run who) a) x.view (finish-answer tables h runs run place r x.at x.follows who a seat s n))

  pub finished-after : {E : Type 0} (who : ℕ) (res : Result Answer E) (new : RunLog) → IsSeatNumber who → IfOk res (λ a. IsSome (held who r.log) → a ≡ answer.Stored) → IfOk res (λ a. held who r.log ≡ None → a ≡ answer.Nothing)
      → OnOk res (new ≡ record r { log = r.log ++ finish_entry r.inputs who (held who r.log) }) → IfOk res (λ a. seen tables h (set runs place new) ≡ after now (event.Finish run who) a)
  finished-after who (Ok a) new seat stored nothing adds =
      finish-after tables h runs run place r x.at x.follows who a new seat stored nothing adds ∙ ap (λ (c : Core). after c (event.Finish run who) a) x.view
  finished-after who (Err e) new seat stored nothing adds = stored

  pub gave_up-after : (who : ℕ) (new : RunLog) → new ≡ record r { log = r.log ++ entry who board_call.GiveUp board_reply.Stopped ∷ [] }
      → seen tables h (set runs place new) ≡ with_entries now run (entry who board_call.GiveUp board_reply.Stopped ∷ [])
  gave_up-after who new is =
      logged tables h runs run place r x.at new (entry who board_call.GiveUp board_reply.Stopped ∷ []) is ∙ ap (λ (c : Core). with_entries c run (entry who board_call.GiveUp board_reply.Stopped ∷ [])) x.view

  pub written-answer : {E : Type 0} (res : Result Answer E) → IfOk res (λ a. is_finished r.inputs r.log ≡ true → IsReport r.inputs a) → IfOk res (λ a. is_finished r.inputs r.log ≡ false → a ≡ answer.Nothing)
      → IfOk res (IsAnswer now (event.Write run))
  written-answer res report nothing =
      if-two (λ a. is_finished r.inputs r.log ≡ true → IsReport r.inputs a) (λ a. is_finished r.inputs r.log ≡ false → a ≡ answer.Nothing) (IsAnswer now (event.Write run)) res report nothing (λ a s n.
      subst (λ (c : Core). IsAnswer c (event.Write run) a) x.view (write-answer tables h runs run place r x.at a x.follows s n))

  -- What may run out of memory.

  pub take-out_of_memory : {E : Type 0} (who : ℕ) (o : Option ℕ) (q : RunLog) (res : Result Answer E) → IsSeatNumber who → is_some o ≡ false → o ≡ held who q.log → q ≡ slice_index_or runs place q
      → OnErr res (board_reply r.inputs r.log who board_call.Take ≢ None) → OnErr res (IsOutOfMemory now (event.Take run who))
  take-out_of_memory who o q res seat none is read memory =
      let free : held who r.log ≡ None = ap (λ (y : RunLog). held who y.log) (sym (same-run q read)) ∙ sym is ∙ is-none o none in
      let says : board_reply (run_inputs (seen tables h runs) run) (log_at (seen tables h runs) run) who board_call.Take ≡ board_reply r.inputs r.log who board_call.Take =
      ap (λ (s : Inputs). board_reply s (log_at (seen tables h runs) run) who board_call.Take) (inputs-are tables h runs run place r x.at x.follows)
      ∙ ap (λ (l : BoardLog). board_reply r.inputs l who board_call.Take) (log-is tables h runs run place r x.at) in
      at-err (board_reply r.inputs r.log who board_call.Take ≢ None) (IsOutOfMemory now (event.Take run who)) res memory (λ now_told.
      subst (λ (c : Core). IsOutOfMemory c (event.Take run who)) x.view (record {
        meant = (started tables h runs run place r x.at, seat, ap (held who) (log-is tables h runs run place r x.at) ∙ free);
        not_full = λ asks. asks.0;
        not_later = λ later. now_told (sym says ∙ later);
        not_over = λ over. over;
      }))

  pub finish-out_of_memory : {E : Type 0} (who : ℕ) (res : Result Answer E) → IsSeatNumber who → OnErr res (IsSome (held who r.log)) → OnErr res (IsOutOfMemory now (event.Finish run who))
  finish-out_of_memory who res seat memory =
      at-err (IsSome (held who r.log)) (IsOutOfMemory now (event.Finish run who)) res memory (λ some.
      subst (λ (c : Core). IsOutOfMemory c (event.Finish run who)) x.view
      (record {
        meant = (started tables h runs run place r x.at, seat, subst (λ (o : Option ℕ). IsSome o) (sym (ap (held who) (log-is tables h runs run place r x.at))) some);
        not_full = λ asks. asks.0;
        not_later = λ later. later;
        not_over = λ over. over;
      }))

  pub give_up-out_of_memory : {E : Type 0} (who : ℕ) (res : Result Answer E) → IsSeatNumber who → OnErr res (IsOutOfMemory now (event.GiveUp run who))
  give_up-out_of_memory who res seat =
      on-err (IsOutOfMemory now (event.GiveUp run who)) res (subst (λ (c : Core). IsOutOfMemory c (event.GiveUp run who)) x.view (record {
        meant = (started tables h runs run place r x.at, seat);
        not_full = λ asks. asks.0;
        not_later = λ later. later;
        not_over = λ over. over;
      }))

  -- a plan is no refusal
  not-refused : (s : Inputs) → IsPlannable s → (name : List ℕ) → IsRefusedBy s name → ⊥
  not-refused s planned name refused = absurd (let e : Ok planned.0 ≡ Err refused.0 = sym planned.1 ∙ refused.1 in cc)

  pub write-out_of_memory : {E : Type 0} (res : Result Answer E) → OnErr res (is_finished r.inputs r.log ≡ true) → OnErr res (IsPlannable r.inputs) → OnErr res (IsOutOfMemory now (event.Write run))
  write-out_of_memory (Ok a) memory whole = tt
  write-out_of_memory (Err e) done whole =
      subst (λ (c : Core). IsOutOfMemory c (event.Write run)) x.view
      (record {
        meant = (started tables h runs run place r x.at, finished-is tables h runs run place r x.at x.follows ∙ done);
        not_full = λ asks. asks.0;
        not_later = λ later. later;
        not_over = λ over. not-refused r.inputs whole over.0 (subst (λ (s : Inputs). IsRefusedBy s over.0) (inputs-are tables h runs run place r x.at x.follows) over.1);
      })
