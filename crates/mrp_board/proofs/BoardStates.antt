-- A legal log of a board is answered as the state that it leaves.
use Rattle.std.proofs.Common.{◌≡◌, ◌⊎◌, ◌∙◌, ◌<◌, ◌≤◌, ◌+◌, ◌==◌, ◌||◌, ◌&&◌, ℕ, zero, suc, Bool, true, false, cond, not, if◌then◌else◌, List, [], ◌∷◌, ◌++◌, Option, Some, None, map, replicate, inl, inr, refl, sym, ap, subst, arith, append-nil}
use Rattle.std.proofs.Math.Bool.{or-false}
use Rattle.std.proofs.lemmas.Bool.{cases_lt, false_from_ne_true}
use Rattle.std.proofs.lemmas.List.{get_or_past}
use Rattle.std.proofs.lemmas.List.Elements.{All-filter}
use Rattle.std.proofs.lemmas.List.FromFn.{get_or-map-range_with_len, length-map-range_with_len}
use Rattle.std.specs.Prelude.{find, is_some, option_map}
use Rattle.std.specs.List.{list_all, list_any, range_with_len}
use Rattle.mrp_turn.specs.Log.{entry}
use Rattle.mrp_turn.proofs.Logs.{InTurn, InTurn-from_Each, one_more}
use Rattle.mrp_bill.specs.Bill.{is_parent, parents_of}
use Rattle.mrp_item.specs.Inputs.{Inputs, count, places}
use Rattle.mrp_item.specs.Places.{ItemOf}
use Rattle.mrp_board.specs.declared.call.BoardCall.{BoardCall}
use Rattle.mrp_board.specs.declared.call.BoardCall.TheVariants as call
use Rattle.mrp_board.specs.declared.reply.BoardReply.{BoardReply}
use Rattle.mrp_board.specs.declared.reply.BoardReply.TheVariants as reply
use Rattle.mrp_board.specs.Board.{BoardEntry, BoardLog, IsLegalBoard, MayFollowOnBoard, board_reply, handed, hands_out, has_stopped, is_at_end, is_out, is_out_to, is_ready, is_stored, outcome_by, outcome_in, stores}
use Rattle.mrp_board.specs.BoardState.{BoardState, board_reply_in, can_go_out, handed_at, has_ended, has_stored, is_worker, new_board, out_after, outcome_at, outcomes_after, state_after, state_of, taker, worker_of}
use Rattle.mrp_board.proofs.BoardLogs.{out-more, out-to-more, outcome-more, stopped-more, stored-some}
use Rattle.mrp_board.proofs.Tests.{all-agree, and-first, each-place, equal, find-agree, found-in, gives-agree, is-not, map-same, no, none-some, one-set, other-number, same-number}

-- Finding in a log with one more entry.

abbrev found-or : {X : Type 0} → Option X → Option X → Option X
found-or None o = o
found-or (Some x) o = Some x

find-more : {X : Type 0} (test : X → Bool) (xs ys : List X) → find test (xs ++ ys) ≡ found-or (find test xs) (find test ys)
find-more test [] ys = refl
find-more {X} test (x ∷ xs) ys = by (test x) (find-more test xs ys)
  where
    by : (b : Bool) → find test (xs ++ ys) ≡ found-or (find test xs) (find test ys) → cond b (Some x) (find test (xs ++ ys)) ≡ found-or (cond b (Some x) (find test xs)) (find test ys)
    by true more = refl
    by false more = more

any-found : {X : Type 0} (test : X → Bool) (xs : List X) → list_any test xs ≡ is_some (find test xs)
any-found test [] = refl
any-found {X} test (x ∷ xs) = by (test x) (any-found test xs)
  where
    by : (b : Bool) → list_any test xs ≡ is_some (find test xs) → (b || list_any test xs) ≡ is_some (cond b (Some x) (find test xs))
    by true more = refl
    by false more = more

some-mapped : {X Y : Type 0} (f : X → Y) (o : Option X) → is_some (option_map f o) ≡ is_some o
some-mapped f None = refl
some-mapped f (Some x) = refl

-- an item is out if it has a taker
out-taken : (log : BoardLog) (i : ℕ) → is_out log i ≡ is_some (taker log i)
out-taken log i = any-found (λ (e : BoardEntry). hands_out i e.reply) log ∙ sym (some-mapped (λ (e : BoardEntry). e.who) (find (λ (e : BoardEntry). hands_out i e.reply) log))

taker-more : (log : BoardLog) (e : BoardEntry) (i : ℕ) (b : Bool) → hands_out i e.reply ≡ b → taker (log ++ e ∷ []) i ≡ (if is_out log i then taker log i else cond b (Some e.who) None)
taker-more log e i b is =
    ap (option_map (λ (x : BoardEntry). x.who)) (find-more (λ (x : BoardEntry). hands_out i x.reply) log (e ∷ []) ∙ ap (λ (c : Bool). found-or (find (λ (x : BoardEntry). hands_out i x.reply) log) (cond c (Some e) None)) is)
    ∙ by (find (λ (x : BoardEntry). hands_out i x.reply) log) refl b
  where
    by : (o : Option BoardEntry) → find (λ (x : BoardEntry). hands_out i x.reply) log ≡ o → (b : Bool)
        → option_map (λ (x : BoardEntry). x.who) (found-or o (cond b (Some e) None)) ≡ (if is_out log i then option_map (λ (x : BoardEntry). x.who) o else cond b (Some e.who) None)
    by None same true = sym (ap (λ (c : Bool). if c then None else Some e.who) (any-found (λ (x : BoardEntry). hands_out i x.reply) log ∙ ap (λ (o : Option BoardEntry). is_some o) same))
    by None same false = sym (ap (λ (c : Bool). if c then None else None) (any-found (λ (x : BoardEntry). hands_out i x.reply) log ∙ ap (λ (o : Option BoardEntry). is_some o) same))
    by (Some x) same c = sym (ap (λ (b : Bool). if b then Some x.who else cond c (Some e.who) None) (any-found (λ (y : BoardEntry). hands_out i y.reply) log ∙ ap (λ (o : Option BoardEntry). is_some o) same))

-- Legal logs.

-- what a worker is handed was found ready
pub found-ready : (s : Inputs) (log : BoardLog) (b : Bool) (o : Option ℕ) (i : ℕ) (parents : List ItemOf) → (if b then Some reply.AllOut else option_map (handed s log) o) ≡ Some (reply.Item i parents)
    → (o ≡ Some i) × (handed s log i ≡ reply.Item i parents)
found-ready s log true o i parents e = absurd (let n : Some reply.AllOut ≡ Some (reply.Item i parents) = e in cc)
found-ready s log false None i parents e = absurd (let n : None ≡ Some (reply.Item i parents) = e in cc)
found-ready s log false (Some j) i parents e =
    let n : Some (handed s log j) ≡ Some (reply.Item i parents) = e in
    let m : handed s log j ≡ reply.Item i parents = cc in
    let same : j ≡ i = cc in
    (ap (λ (k : ℕ). Some k) same, subst (λ (k : ℕ). handed s log k ≡ reply.Item i parents) same m)

-- what is handed out was not handed out before, and is within the table
pub new-out : (s : Inputs) (log : BoardLog) (who i : ℕ) (c : BoardCall) (r : BoardReply) → board_reply s log who c ≡ Some r → hands_out i r ≡ true → (is_out log i ≡ false) × (i < count s)
new-out s log who i call.Take (reply.Item j parents) is hands =
    let found : find (is_ready s log) (places s) ≡ Some j = (found-ready s log (is_at_end s log) (find (is_ready s log) (places s)) j parents is).0 in
    let k = found-in (is_ready s log) 0 (count s) j found in
    let same : j ≡ i = equal j i hands in (
      subst (λ (n : ℕ). is_out log n ≡ false) same (is-not (is_out log j) (and-first (not (is_out log j)) (list_all (is_stored log) (parents_of s.tables.bills (count s) j)) k.0)),
      omega (arith, k.1, same),
    )
new-out s log who i (call.Finish o) (reply.Item j parents) is hands = absurd (by (is_out_to who log o.item && not (is_stored log o.item)) is)
  where
    by : (b : Bool) → (if b then Some reply.Stored else Some reply.NotOut) ≡ Some (reply.Item j parents) → ⊥
    by true e = cc
    by false e = cc
new-out s log who i call.GiveUp (reply.Item j parents) is hands = absurd (let n : Some reply.Stopped ≡ Some (reply.Item j parents) = is in cc)
new-out s log who i c reply.AllOut is hands = no hands
new-out s log who i c reply.Stored is hands = no hands
new-out s log who i c reply.NotOut is hands = no hands
new-out s log who i c reply.Stopped is hands = no hands

-- what is out is within the table, and out to the one worker that took it
record HasTakers (s : Inputs) (log : BoardLog) : Type 0 where
  within : (i : ℕ) → is_out log i ≡ true → i < count s
  one : (who i : ℕ) → is_out_to who log i ≡ is_worker who (taker log i)

no-takers : (s : Inputs) → HasTakers s []
no-takers s = record { within = λ i is. no is; one = λ who i. refl }

module _ (s : Inputs) (log : BoardLog) (k : HasTakers s log) (e : BoardEntry) (follows : MayFollowOnBoard s log e) where
  within-by : (i : ℕ) (b : Bool) → hands_out i e.reply ≡ b → (is_out log i || b) ≡ true → i < count s
  within-by i true hands is = (new-out s log e.who i e.call e.reply follows.1 hands).1
  within-by i false hands is = k.within i (sym (or-false (is_out log i)) ∙ is)

  free : (i : ℕ) → is_out log i ≡ false → taker log i ≡ None
  free i is = none-some (taker log i) (sym (out-taken log i) ∙ is)

  one-by : (who i : ℕ) (b : Bool) → hands_out i e.reply ≡ b → (is_out_to who log i || ((e.who == who) && b)) ≡ is_worker who (if is_out log i then taker log i else cond b (Some e.who) None)
  one-by who i true hands =
      let new : is_out log i ≡ false = (new-out s log e.who i e.call e.reply follows.1 hands).0 in
      ap (λ (b : Bool). b || ((e.who == who) && true)) (k.one who i ∙ ap (is_worker who) (free i new))
      ∙ and-true (e.who == who)
      ∙ ap (λ (b : Bool). is_worker who (if b then taker log i else Some e.who)) (sym new)
    where
      and-true : (b : Bool) → (false || (b && true)) ≡ b
      and-true true = refl
      and-true false = refl
  one-by who i false hands = ap (λ (b : Bool). b || ((e.who == who) && false)) (k.one who i) ∙ none-more (is_worker who (taker log i)) (e.who == who) ∙ ap (is_worker who) (taken-by (is_out log i) refl)
    where
      none-more : (a b : Bool) → (a || (b && false)) ≡ a
      none-more true b = refl
      none-more false true = refl
      none-more false false = refl

      taken-by : (b : Bool) → is_out log i ≡ b → taker log i ≡ (if b then taker log i else None)
      taken-by true is = refl
      taken-by false is = free i is

  takers-more : HasTakers s (log ++ e ∷ [])
  takers-more = record {
    within = λ i is. within-by i (hands_out i e.reply) refl (sym (out-more log e i) ∙ is);
    one = λ who i. out-to-more who log e i ∙ one-by who i (hands_out i e.reply) refl ∙ ap (is_worker who) (sym (taker-more log e i (hands_out i e.reply) refl));
  }

takers-from : (s : Inputs) (before log : BoardLog) → InTurn (MayFollowOnBoard s) before log → HasTakers s before → HasTakers s (before ++ log)
takers-from s before [] w k = subst (HasTakers s) (sym (append-nil before)) k
takers-from s before (e ∷ log) w k = subst (HasTakers s) (sym (one_more before e log)) (takers-from s (before ++ e ∷ []) log w.1 (takers-more s before k e w.0))

takers : (s : Inputs) (log : BoardLog) → IsLegalBoard s log → HasTakers s log
takers s log legal = takers-from s [] log (InTurn-from_Each (MayFollowOnBoard s) [] log legal) (no-takers s)

-- what is stored was not stored before
new-stored : (s : Inputs) (log : BoardLog) (who : ℕ) (o : ItemOf) → board_reply s log who (call.Finish o) ≡ Some reply.Stored → is_stored log o.item ≡ false
new-stored s log who o is = by (is_out_to who log o.item) (is_stored log o.item) is
  where
    by : (a b : Bool) → (if a && not b then Some reply.Stored else Some reply.NotOut) ≡ Some reply.Stored → b ≡ false
    by true true e = absurd (let n : Some reply.NotOut ≡ Some reply.Stored = e in cc)
    by true false e = refl
    by false b e = absurd (let n : Some reply.NotOut ≡ Some reply.Stored = e in cc)

-- The state that a log leaves.

module _ (s : Inputs) (log : BoardLog) where
  abbrev state : BoardState
  state = state_of s log

  worker-is : (i : ℕ) → i < count s → worker_of state i ≡ taker log i
  worker-is i within = get_or-map-range_with_len (taker log) 0 (count s) i i None within (omega arith)

  pub outcome-is : (i : ℕ) → i < count s → outcome_at state i ≡ outcome_in log i
  outcome-is i within = get_or-map-range_with_len (outcome_in log) 0 (count s) i i None within (omega arith)

  pub stored-is : (i : ℕ) → i < count s → has_stored state i ≡ is_stored log i
  stored-is i within = ap (λ (o : Option ItemOf). is_some o) (outcome-is i within) ∙ sym (stored-some log i)

  out-is : (i : ℕ) → i < count s → is_out log i ≡ is_some (worker_of state i)
  out-is i within = out-taken log i ∙ ap (λ (o : Option ℕ). is_some o) (sym (worker-is i within))

  ended-is : is_at_end s log ≡ has_ended state
  ended-is =
      ap (λ (b : Bool). has_stopped log || b)
      (all-agree (is_out log) (λ i. is_some (worker_of state i)) (places s) (each-place (count s) (λ i. is_out log i ≡ is_some (worker_of state i)) out-is))

  ready-is : (i : ℕ) → i < count s → is_ready s log i ≡ can_go_out state i
  ready-is i within =
      ap (λ (b : Bool). not b && list_all (is_stored log) (parents_of s.tables.bills (count s) i)) (out-is i within)
      ∙ ap (λ (b : Bool). not (is_some (worker_of state i)) && b)
      (all-agree (is_stored log) (has_stored state) (parents_of s.tables.bills (count s) i)
      (All-filter (λ p. is_parent s.tables.bills p i) (λ p. is_stored log p ≡ has_stored state p) (places s) (each-place (count s) (λ p. is_stored log p ≡ has_stored state p) (λ p h. sym (stored-is p h)))))

  handed-is : (i : ℕ) → handed s log i ≡ handed_at state i
  handed-is i =
      ap (λ (l : List ItemOf). reply.Item i l)
      (gives-agree (outcome_in log) (outcome_at state) (parents_of s.tables.bills (count s) i)
      (All-filter (λ p. is_parent s.tables.bills p i) (λ p. outcome_in log p ≡ outcome_at state p) (places s) (each-place (count s) (λ p. outcome_in log p ≡ outcome_at state p) (λ p h. sym (outcome-is p h)))))

  handed-same : (o : Option ℕ) → option_map (handed s log) o ≡ option_map (handed_at state) o
  handed-same None = refl
  handed-same (Some i) = ap (λ (r : BoardReply). Some r) (handed-is i)

  take-is : (who : ℕ) → board_reply s log who call.Take ≡ board_reply_in state who call.Take
  take-is who =
      ap (λ (b : Bool). if b then Some reply.AllOut else option_map (handed s log) (find (is_ready s log) (places s))) ended-is
      ∙ ap (λ (o : Option BoardReply). if has_ended state then Some reply.AllOut else o)
      (handed-same (find (is_ready s log) (places s)) ∙ ap (option_map (handed_at state)) (find-agree (is_ready s log) (can_go_out state) (places s) (each-place (count s) (λ i. is_ready s log i ≡ can_go_out state i) ready-is)))

  finish-is : HasTakers s log → (who item : ℕ) → (item < count s) ⊎ (count s ≤ item)
      → (is_out_to who log item && not (is_stored log item)) ≡ (is_worker who (worker_of state item) && not (has_stored state item))
  finish-is k who item (inl within) =
      ap (λ (b : Bool). b && not (is_stored log item)) (k.one who item ∙ ap (is_worker who) (sym (worker-is item within)))
      ∙ ap (λ (b : Bool). is_worker who (worker_of state item) && not b) (sym (stored-is item within))
  finish-is k who item (inr past) =
      ap (λ (b : Bool). b && not (is_stored log item)) (k.one who item ∙ ap (is_worker who) nobody)
      ∙ sym (ap (λ (o : Option ℕ). is_worker who o && not (has_stored state item)) (get_or_past (map (taker log) (places s)) item None (omega (arith, past, length-map-range_with_len (taker log) 0 (count s)))))
    where
      not-there : is_out log item ≡ true → ⊥
      not-there is = absurd (omega (arith, past, k.within item is))

      nobody : taker log item ≡ None
      nobody = none-some (taker log item) (sym (out-taken log item) ∙ false_from_ne_true (is_out log item) not-there)

  -- a legal log is answered as its state
  pub reply-is : IsLegalBoard s log → (who : ℕ) (c : BoardCall) → board_reply s log who c ≡ board_reply_in state who c
  reply-is legal who call.Take = take-is who
  reply-is legal who (call.Finish o) = ap (λ (b : Bool). if b then Some reply.Stored else Some reply.NotOut) (finish-is (takers s log legal) who o.item (cases_lt o.item (count s)))
  reply-is legal who call.GiveUp = refl

  -- One more entry.

  module _ (who : ℕ) (c : BoardCall) (r : BoardReply) where
    abbrev more : BoardLog
    more = log ++ entry who c r ∷ []

    same-taker : (i : ℕ) → hands_out i r ≡ false → taker more i ≡ taker log i
    same-taker i none = taker-more log (entry who c r) i false none ∙ kept-by (is_out log i) refl
      where
        kept-by : (b : Bool) → is_out log i ≡ b → (if b then taker log i else None) ≡ taker log i
        kept-by true is = refl
        kept-by false is = sym (none-some (taker log i) (sym (out-taken log i) ∙ is))

    all-takers : ((i : ℕ) → hands_out i r ≡ false) → map (taker more) (places s) ≡ map (taker log) (places s)
    all-takers none = map-same (taker more) (taker log) (places s) (λ i. same-taker i (none i))

    same-outcome : (i : ℕ) → stores i c r ≡ false → outcome_in more i ≡ outcome_in log i
    same-outcome i none = outcome-more log (entry who c r) i ∙ ap (λ (b : Bool). if is_stored log i then outcome_in log i else (if b then outcome_by c else None)) none ∙ kept-by (is_stored log i) refl
      where
        kept-by : (b : Bool) → is_stored log i ≡ b → (if b then outcome_in log i else None) ≡ outcome_in log i
        kept-by true is = refl
        kept-by false is = sym (none-some (outcome_in log i) (sym (stored-some log i) ∙ is))

    all-outcomes : ((i : ℕ) → stores i c r ≡ false) → map (outcome_in more) (places s) ≡ map (outcome_in log) (places s)
    all-outcomes none = map-same (outcome_in more) (outcome_in log) (places s) (λ i. same-outcome i (none i))

  out-more-is : (who : ℕ) (c : BoardCall) (r : BoardReply) → board_reply s log who c ≡ Some r → map (taker (log ++ entry who c r ∷ [])) (places s) ≡ out_after (map (taker log) (places s)) who r
  out-more-is who c (reply.Item item parents) is =
      let hands : hands_out item (reply.Item item parents) ≡ true = same-number item item refl in
      one-set (taker log) (taker (log ++ entry who c (reply.Item item parents) ∷ [])) (count s) item (Some who) None
      (taker-more log (entry who c (reply.Item item parents)) item true hands ∙ ap (λ (b : Bool). if b then taker log item else Some who) (new-out s log who item c (reply.Item item parents) is hands).0)
      (λ j other. same-taker who c (reply.Item item parents) j (other-number item j (λ e. other (sym e))))
  out-more-is who c reply.AllOut is = all-takers who c reply.AllOut (λ i. refl)
  out-more-is who c reply.Stored is = all-takers who c reply.Stored (λ i. refl)
  out-more-is who c reply.NotOut is = all-takers who c reply.NotOut (λ i. refl)
  out-more-is who c reply.Stopped is = all-takers who c reply.Stopped (λ i. refl)

  outcomes-more-is : (who : ℕ) (c : BoardCall) (r : BoardReply) → board_reply s log who c ≡ Some r → map (outcome_in (log ++ entry who c r ∷ [])) (places s) ≡ outcomes_after (map (outcome_in log) (places s)) c r
  outcomes-more-is who (call.Finish o) reply.Stored is =
      one-set (outcome_in log) (outcome_in (log ++ entry who (call.Finish o) reply.Stored ∷ [])) (count s) o.item (Some o) None
      (outcome-more log (entry who (call.Finish o) reply.Stored) o.item
      ∙ ap (λ (b : Bool). if b then outcome_in log o.item else (if o.item == o.item then Some o else None)) (new-stored s log who o is)
      ∙ ap (λ (b : Bool). if b then Some o else None) (same-number o.item o.item refl))
      (λ j other. same-outcome who (call.Finish o) reply.Stored j (other-number o.item j (λ e. other (sym e))))
  outcomes-more-is who (call.Finish o) reply.AllOut is = all-outcomes who (call.Finish o) reply.AllOut (λ i. refl)
  outcomes-more-is who (call.Finish o) (reply.Item j parents) is = all-outcomes who (call.Finish o) (reply.Item j parents) (λ i. refl)
  outcomes-more-is who (call.Finish o) reply.NotOut is = all-outcomes who (call.Finish o) reply.NotOut (λ i. refl)
  outcomes-more-is who (call.Finish o) reply.Stopped is = all-outcomes who (call.Finish o) reply.Stopped (λ i. refl)
  outcomes-more-is who call.Take r is = all-outcomes who call.Take r (λ i. refl)
  outcomes-more-is who call.GiveUp r is = all-outcomes who call.GiveUp r (λ i. refl)

  -- one more entry changes the state that a log leaves as it changes any state
  pub state-more : (who : ℕ) (c : BoardCall) (r : BoardReply) → board_reply s log who c ≡ Some r → state_of s (log ++ entry who c r ∷ []) ≡ state_after state who c r
  state-more who c r is =
      ap (λ (l : List (Option ℕ)). record { inputs = s; out = l; outcomes = map (outcome_in (log ++ entry who c r ∷ [])) (places s); stopped = has_stopped (log ++ entry who c r ∷ []) }) (out-more-is who c r is)
      ∙ ap (λ (l : List (Option ItemOf)). record { inputs = s; out = out_after (map (taker log) (places s)) who r; outcomes = l; stopped = has_stopped (log ++ entry who c r ∷ []) }) (outcomes-more-is who c r is)
      ∙ ap (λ (b : Bool). record { inputs = s; out = out_after (map (taker log) (places s)) who r; outcomes = outcomes_after (map (outcome_in log) (places s)) c r; stopped = b }) (stopped-more log (entry who c r))

-- no entry leaves the state in which a board opens
none-of : {X : Type 0} (x : X) (a n : ℕ) → map (λ i. x) (range_with_len a n) ≡ replicate n x
none-of x a zero = refl
none-of x a (suc n) = ap (λ l. x ∷ l) (none-of x (a + 1) n)

pub state-none : (s : Inputs) → state_of s [] ≡ new_board s
state-none s =
    ap (λ (l : List (Option ℕ)). record { inputs = s; out = l; outcomes = map (outcome_in []) (places s); stopped = false }) (none-of None 0 (count s))
    ∙ ap (λ (l : List (Option ItemOf)). record { inputs = s; out = replicate (count s) None; outcomes = l; stopped = false }) (none-of None 0 (count s))
