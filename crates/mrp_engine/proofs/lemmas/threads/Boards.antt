-- A legal and orderly log of a run's board is the answers of a right list of steps of its workers.
use Rattle.std.proofs.Common.{◌≡◌, ◌∙◌, ◌+◌, ◌-◌, ◌==◌, ◌&&◌, ℕ, Bool, true, false, cond, List, [], ◌∷◌, ◌++◌, Option, Some, None, length, map, set, inl, inr, refl, sym, ap, subst, arith, append_assoc}
use Rattle.std.proofs.Math.Seq.{get_or-append_seam, set-append_seam}
use Rattle.std.proofs.lemmas.List.{append-nil, length-append}
use Rattle.std.proofs.lemmas.List.Elements.{All-head, All-tail}
use Rattle.std.specs.Prelude.{All, IsSome}
use Rattle.std.specs.List.{slice_index_or}
use Rattle.mrp_turn.specs.Log.{IsSeatNumber, entries_by, entry}
use Rattle.mrp_turn.proofs.Logs.{InTurn, InTurn-from_Each, one_more}
use Rattle.mrp_tables.specs.Tables.{Tables}
use Rattle.mrp_book.specs.Standing.{History}
use Rattle.mrp_item.specs.Inputs.{Inputs}
use Rattle.mrp_item.specs.Made.{item_from}
use Rattle.mrp_item.specs.Places.{ItemOf}
use Rattle.mrp_board.specs.declared.call.BoardCall.{BoardCall}
use Rattle.mrp_board.specs.declared.call.BoardCall.TheVariants as call
use Rattle.mrp_board.specs.declared.reply.BoardReply.{BoardReply}
use Rattle.mrp_board.specs.declared.reply.BoardReply.TheVariants as reply
use Rattle.mrp_board.specs.Board.{BoardEntry, BoardLog, MayFollowOnBoard, board_reply, held, item_in, settles}
use Rattle.mrp_board.specs.Orderly.{IsCourse, IsEnd, IsOrderly, finished_by}
use Rattle.mrp_engine.specs.event_core.Board.{finish_entry}
use Rattle.mrp_engine.specs.event_core.Core.{Core, FitsShop, IsAnswer, IsStarted, Run, Step, after, inputs_at, log_at, no_run, run_at, run_inputs, told, with_entries}
use Rattle.mrp_engine.specs.event_core.Headline.{ChangesNothing, board_event}
use Rattle.mrp_engine.specs.event_core.Threads.{IsRunLeft, board_step, board_steps, logs_steps}
use Rattle.mrp_board.proofs.Tests.{same-number}
use Rattle.mrp_engine.proofs.lemmas.event_core.BoardLaws.{told-item}
use Rattle.mrp_engine.proofs.lemmas.event_core.BoardLogs.{held-more}
use Rattle.mrp_engine.proofs.lemmas.threads.Entries.{Reaches, begun, core_at, reaches-more}

-- what a worker may call and be told, by the item that it holds
abbrev pub IsDue : Inputs → BoardCall → BoardReply → Option ℕ → Type 0
IsDue s call.Take (reply.Item i parents) None = Unit {0}
IsDue s call.Take reply.AllOut None = Unit {0}
IsDue s (call.Finish o) reply.Stored (Some i) = item_from s i ≡ o
IsDue s call.GiveUp reply.Stopped o = Unit {0}
IsDue s c r o = ⊥

-- what it holds after a reply
abbrev pub holds : BoardReply → Option ℕ → Option ℕ
holds r o = cond (settles r) (item_in r) o

abbrev pub AreDue : Inputs → Option ℕ → BoardLog → Type 0
AreDue s o [] = Unit {0}
AreDue s o (e ∷ es) = IsDue s e.call e.reply o × AreDue s (holds e.reply o) es

due-end : (s : Inputs) (who : ℕ) (last : BoardLog) → IsEnd who last → AreDue s None last
due-end s who last (inl is) = subst (AreDue s None) (sym is) (tt, tt)
due-end s who last (inr (inl is)) = subst (AreDue s None) (sym is) (tt, tt)
due-end s who last (inr (inr (item, parents, is))) = subst (AreDue s None) (sym is) (tt, (tt, tt))

due-course : (s : Inputs) (who : ℕ) (items : List (ℕ × List ItemOf)) (last : BoardLog) → IsEnd who last → AreDue s None (finished_by s who items ++ last)
due-course s who [] last ends = due-end s who last ends
due-course s who (x ∷ items) last ends = (tt, (refl, due-course s who items last ends))

due-front : (s : Inputs) (o : Option ℕ) (xs ys : BoardLog) → AreDue s o (xs ++ ys) → AreDue s o xs
due-front s o [] ys due = tt
due-front s o (e ∷ xs) ys due = (due.0, due-front s (holds e.reply o) xs ys due.1)

-- the entries of a worker of an orderly log
pub orderly-due : (s : Inputs) (log : BoardLog) → IsOrderly s log → (who : ℕ) → AreDue s None (entries_by who log)
orderly-due s log orderly who =
    let c : IsCourse s who (entries_by who log) = orderly who in
    due-front s None (entries_by who log) c.left (subst (AreDue s None) c.prefix (due-course s who c.items c.last c.ends))

due-rest : (s : Inputs) (b : Bool) (o : Option ℕ) (e : BoardEntry) (l : BoardLog) → AreDue s o (cond b (e ∷ l) l) → AreDue s (cond (b && settles e.reply) (item_in e.reply) o) l
due-rest s true o e l due = due.1
due-rest s false o e l due = due

-- no worker makes a call of the order book
fits-board : (tables : Tables) (run who : ℕ) (c : BoardCall) → FitsShop tables (board_event run who c)
fits-board tables run who call.Take = tt
fits-board tables run who (call.Finish o) = tt
fits-board tables run who call.GiveUp = tt

module _ (tables : Tables) (h : History) (done rest : List Run) (front run : ℕ) (at : run ≡ length done + 1) where
  abbrev with_log : BoardLog → Core
  with_log log = core_at tables h (done ++ record { front = front; log = log } ∷ rest)

  module _ (logged : BoardLog) where
    place-is : run - 1 ≡ length done
    place-is = omega (arith, at)

    run-is : run_at (with_log logged) run ≡ record { front = front; log = logged }
    run-is =
        ap (λ (n : ℕ). slice_index_or (done ++ record { front = front; log = logged } ∷ rest) n no_run) place-is
        ∙ get_or-append_seam done (record { front = front; log = logged }) rest no_run

    log-is : log_at (with_log logged) run ≡ logged
    log-is = ap (λ (r : Run). r.log) run-is

    inputs-are : run_inputs (with_log logged) run ≡ inputs_at tables h front
    inputs-are = ap (λ (r : Run). inputs_at tables h r.front) run-is

    is-started : IsStarted (with_log logged) run
    is-started = (omega (arith, at), omega (arith, at, length-append done (record { front = front; log = logged } ∷ rest)))

    logged-as : (entries : BoardLog) → with_entries (with_log logged) run entries ≡ with_log (logged ++ entries)
    logged-as entries = ap (λ (l : List Run). core_at tables h l) (
        ap (λ (r : Run). set (done ++ record { front = front; log = logged } ∷ rest) (run - 1) (record { front = r.front; log = r.log ++ entries })) run-is
        ∙ ap (λ (n : ℕ). set (done ++ record { front = front; log = logged } ∷ rest) n (record { front = front; log = logged ++ entries })) place-is
        ∙ set-append_seam done (record { front = front; log = logged }) rest (record { front = front; log = logged ++ entries })
        )

    -- the board's reply, as the core has it
    says : (who : ℕ) (c : BoardCall) (r : BoardReply) → board_reply (inputs_at tables h front) logged who c ≡ Some r → board_reply (run_inputs (with_log logged) run) (log_at (with_log logged) run) who c ≡ Some r
    says who c r is =
        ap (λ (s : Inputs). board_reply s (log_at (with_log logged) run) who c) inputs-are
        ∙ ap (λ (l : BoardLog). board_reply (inputs_at tables h front) l who c) log-is
        ∙ is

    -- an entry of the board is the answer of an event
    abbrev IsAnswered : ℕ → BoardCall → BoardReply → Type 0
    IsAnswered who c r =
        IsAnswer (with_log logged) (board_event run who c) (told (Some r))
        × (after (with_log logged) (board_event run who c) (told (Some r)) ≡ with_entries (with_log logged) run (entry who c r ∷ []))
        × (ChangesNothing (told (Some r)) → ⊥)

    answered : (who : ℕ) (c : BoardCall) (r : BoardReply) (o : Option ℕ) → IsSeatNumber who → board_reply (inputs_at tables h front) logged who c ≡ Some r → held who logged ≡ o → IsDue (inputs_at tables h front) c r o
        → IsAnswered who c r
    answered who call.Take (reply.Item i parents) None seat is has due = (
      inl ((is-started, seat, ap (held who) log-is ∙ has), sym (ap told (says who call.Take (reply.Item i parents) is))),
      ap (λ (r : BoardReply). with_entries (with_log logged) run (entry who call.Take r ∷ []))
          (told-item (run_inputs (with_log logged) run) (log_at (with_log logged) run) who i parents (says who call.Take (reply.Item i parents) is)),
      λ none. none,
    )
    answered who call.Take reply.AllOut None seat is has due = (
      inl ((is-started, seat, ap (held who) log-is ∙ has), sym (ap told (says who call.Take reply.AllOut is))),
      refl,
      λ none. none,
    )
    answered who (call.Finish o) reply.Stored (Some i) seat is has due =
        let held_is : held who (log_at (with_log logged) run) ≡ Some i = ap (held who) log-is ∙ has in
        let own : item_from (run_inputs (with_log logged) run) i ≡ o = ap (λ (s : Inputs). item_from s i) inputs-are ∙ due in (
          inl (
            (is-started, seat, subst (λ (x : Option ℕ). IsSome x) (sym held_is) refl),
            (i, held_is, sym (ap (λ (x : ItemOf). told (board_reply (run_inputs (with_log logged) run) (log_at (with_log logged) run) who (call.Finish x))) own ∙ ap told (says who (call.Finish o) reply.Stored is))),
          ),
          ap (λ (x : Option ℕ). with_entries (with_log logged) run (finish_entry (run_inputs (with_log logged) run) who x)) held_is
              ∙ ap (λ (x : ItemOf). with_entries (with_log logged) run (entry who (call.Finish x) reply.Stored ∷ [])) own,
          λ none. none,
        )
    answered who call.GiveUp reply.Stopped o seat is has due = (inl ((is-started, seat), refl), refl, λ none. none)
    answered who c r o seat is has due = absurd due

    first-due : (e : BoardEntry) (later : BoardLog) → AreDue (inputs_at tables h front) (held e.who logged) (entries_by e.who (e ∷ later)) → IsDue (inputs_at tables h front) e.call e.reply (held e.who logged)
    first-due e later due =
        let all : AreDue (inputs_at tables h front) (held e.who logged) (e ∷ entries_by e.who later) = subst (λ (b : Bool). AreDue (inputs_at tables h front) (held e.who logged) (cond b (e ∷ entries_by e.who later) (entries_by e.who later))) (same-number e.who e.who refl) due in all.0

    later-due : (e : BoardEntry) (later : BoardLog) (who : ℕ) → AreDue (inputs_at tables h front) (held who logged) (entries_by who (e ∷ later)) → AreDue (inputs_at tables h front) (held who (logged ++ e ∷ [])) (entries_by who later)
    later-due e later who due = subst (λ (o : Option ℕ). AreDue (inputs_at tables h front) o (entries_by who later)) (sym (held-more who logged e)) (due-rest (inputs_at tables h front) (e.who == who) (held who logged) e (entries_by who later) due)

  -- the log, entry by entry
  pub log-goes : (later : BoardLog) (steps : List Step) (logged : BoardLog) → Reaches tables steps (with_log logged) → InTurn (MayFollowOnBoard (inputs_at tables h front)) logged later
      → ((who : ℕ) → AreDue (inputs_at tables h front) (held who logged) (entries_by who later)) → Reaches tables (steps ++ board_steps run later) (with_log (logged ++ later))
  log-goes [] steps logged has legal due =
      subst (λ (l : List Step). Reaches tables l (with_log (logged ++ []))) (sym (append-nil steps)) (subst (λ (l : BoardLog). Reaches tables steps (with_log l)) (sym (append-nil logged)) has)
  log-goes (e ∷ later) steps logged has legal due =
      let a = answered logged e.who e.call e.reply (held e.who logged) legal.0.0 legal.0.1 refl (first-due logged e later (due e.who)) in
      let more : Reaches tables (steps ++ board_step run e ∷ []) (with_log (logged ++ e ∷ [])) =
      reaches-more tables steps (with_log logged) (with_log (logged ++ e ∷ [])) (board_event run e.who e.call) (told (Some e.reply)) has (fits-board tables run e.who e.call) a.0 (a.1 ∙ logged-as logged (e ∷ [])) a.2 in
      subst (λ (l : List Step). Reaches tables l (with_log (logged ++ e ∷ later))) (sym (one_more steps (board_step run e) (board_steps run later)))
      (subst (λ (l : BoardLog). Reaches tables ((steps ++ board_step run e ∷ []) ++ board_steps run later) (with_log l)) (sym (one_more logged e later))
      (log-goes later (steps ++ board_step run e ∷ []) (logged ++ e ∷ []) more legal.1 (λ who. later-due logged e later who (due who))))

-- log after log
pub logs-go : (tables : Tables) (h : History) (runs : List Run) (run : ℕ) (steps : List Step) (done : List Run) → run ≡ length done + 1 → Reaches tables steps (core_at tables h (done ++ map begun runs)) → All (IsRunLeft tables h) runs
    → Reaches tables (steps ++ logs_steps run runs) (core_at tables h (done ++ runs))
unfolding logs_steps
logs-go tables h [] run steps done at has all = subst (λ (l : List Step). Reaches tables l (core_at tables h (done ++ []))) (sym (append-nil steps)) has
logs-go tables h (r ∷ runs) run steps done at has all =
    let of_run : IsRunLeft tables h r = All-head (IsRunLeft tables h) r runs all in
    let one : Reaches tables (steps ++ board_steps run r.log) (core_at tables h (done ++ r ∷ map begun runs)) =
    log-goes tables h done (map begun runs) r.front run at r.log steps [] has (InTurn-from_Each (MayFollowOnBoard (inputs_at tables h r.front)) [] r.log of_run.legal) (orderly-due (inputs_at tables h r.front) r.log of_run.orderly) in
    subst (λ (l : List Step). Reaches tables l (core_at tables h (done ++ r ∷ runs))) (append_assoc steps (board_steps run r.log) (logs_steps (run + 1) runs))
    (subst (λ (l : List Run). Reaches tables ((steps ++ board_steps run r.log) ++ logs_steps (run + 1) runs) (core_at tables h l)) (sym (one_more done r runs))
    (logs-go tables h runs (run + 1) (steps ++ board_steps run r.log) (done ++ r ∷ []) (omega (arith, at, length-append done (r ∷ [])))
    (subst (λ (l : List Run). Reaches tables (steps ++ board_steps run r.log) (core_at tables h l)) (one_more done r (map begun runs)) one) (All-tail (IsRunLeft tables h) r runs all)))
