-- What a worker's call adds to its own entries.
use Rattle.std.proofs.Common.{◌≡◌, ◌∙◌, ◌≤◌, ◌==◌, ◌⊎◌, ℕ, Bool, true, false, cond, List, [], ◌∷◌, ◌++◌, Option, Some, None, Result, Ok, Err, inl, inr, length, refl, sym, ap, subst, append-nil, append_assoc}
use Rattle.std.specs.Prelude.{IfOk, OnErr, OnOk, find, is_err, if◌then◌else◌, option_map}
use Rattle.std.proofs.lemmas.List.{append_cancel_right}
use Rattle.std.proofs.lemmas.List.Elements.{filter-append}
use Rattle.mrp_turn.specs.Calls.{HasCause, Tells}
use Rattle.mrp_turn.specs.Lists.{StartsWith}
use Rattle.mrp_turn.specs.Log.{LeadsTo, entries_by, entry}
use Rattle.mrp_turn.specs.declared.turn.CallFault.{CallFault}
use Rattle.mrp_turn.specs.declared.turn.CallFault.TheVariants as fault
use Rattle.mrp_turn.specs.declared.views.About.{About}
use Rattle.mrp_item.specs.Inputs.{Inputs, places}
use Rattle.mrp_item.specs.Places.{ItemOf}
use Rattle.mrp_board.specs.declared.call.BoardCall.{BoardCall}
use Rattle.mrp_board.specs.declared.call.BoardCall.TheVariants as call
use Rattle.mrp_board.specs.declared.reply.BoardReply.{BoardReply}
use Rattle.mrp_board.specs.declared.reply.BoardReply.TheVariants as reply
use Rattle.mrp_board.specs.declared.refused.BoardRefused.{BoardRefused}
use Rattle.mrp_board.specs.declared.refused.BoardRefused.TheVariants as refused
use Rattle.mrp_board.specs.Board.{BoardEntry, BoardLog, IsLegalBoard, board_reply, handed, is_at_end, is_ready}
use Rattle.mrp_board.specs.BoardState.{BoardState, board_reply_in}
use Rattle.mrp_board.specs.Object.{Answers, IsOutOfMemory, Opens, Refuses, TakesMemory}
use Rattle.mrp_board.specs.Orderly.{IsCourse, finish_of, finished_by}
use Rattle.mrp_board.proofs.BoardStates.{new-out, reply-is as legal-reply}
use Rattle.mrp_board.proofs.HandsOn.{hands-on}
use Rattle.mrp_board.proofs.LegalLogs.{logs-left, logs-legal}
use Rattle.mrp_board.proofs.Tests.{no, same-number}
use Rattle.mrp_explode.specs.Work.{Asks, GivesUp, HasGivenUp, Holds, HoldsNone, IsDone, IsRefused}
use Rattle.mrp_explode.proofs.HandedOnce.{finish-stored}

-- what holds of a refusal
on-err : {T E : Type 0} (r : Result T E) (P : Type 0) → is_err r ≡ true → OnErr r P → P
on-err (Ok x) P is p = no is
on-err (Err e) P is p = p

pub with-err : {T E : Type 0} (r : Result T E) (P : Type 0) → P → OnErr r P
with-err (Ok x) P p = tt
with-err (Err e) P p = p

-- an answered call is the last entry that the worker has seen, and its own last one
record IsAnswered (s : Inputs) (who : ℕ) (c : BoardCall) (r : BoardReply) (mine seen' mine' : BoardLog) : Type 0 where
  before : BoardLog
  saw : seen' ≡ before ++ entry who c r ∷ []
  legal : IsLegalBoard s seen'
  own : entries_by who before ≡ mine
  added : mine' ≡ mine ++ entry who c r ∷ []

own-before : (who : ℕ) (c : BoardCall) (r : BoardReply) (before mine seen' mine' : BoardLog) → seen' ≡ before ++ entry who c r ∷ [] → mine' ≡ entries_by who seen' → mine' ≡ mine ++ entry who c r ∷ []
    → entries_by who before ≡ mine
own-before who c r before mine seen' mine' saw exact added =
    let e : BoardEntry = entry who c r in
    let more : entries_by who (before ++ e ∷ []) ≡ entries_by who before ++ cond (who == who) (e ∷ []) [] = filter-append (λ (x : BoardEntry). x.who == who) before (e ∷ []) in
    let one : cond (who == who) (e ∷ []) [] ≡ e ∷ [] = ap (λ (b : Bool). cond b (e ∷ []) []) (same-number who who refl) in
    append_cancel_right (entries_by who before) mine (e ∷ [])
    (ap (λ (l : BoardLog). entries_by who before ++ l) (sym one) ∙ sym more ∙ ap (entries_by who) (sym saw) ∙ sym exact ∙ added)

module _ (s : Inputs) (who : ℕ) where
  -- what the lock says of a worker's call
  abbrev Told : ℕ → BoardCall → BoardLog → BoardLog → Result (ℕ × BoardReply) (CallFault BoardRefused) → BoardLog → BoardLog → Type 0
  Told room c seen mine result seen' mine' = Tells (Opens s) (Answers s) Refuses IsOutOfMemory room who c seen mine result seen' mine'

  answered : (room : ℕ) (c : BoardCall) (seen mine : BoardLog) (n : ℕ) (r : BoardReply) (seen' mine' : BoardLog) → Told room c seen mine (Ok (n, r)) seen' mine' → IsAnswered s who c r mine seen' mine'
  answered room c seen mine n r seen' mine' t = record {
    before = t.last.0;
    saw = t.last.1;
    legal = logs-legal s seen' t.legal;
    own = own-before who c r t.last.0 mine seen' mine' t.last.1 t.exact t.added;
    added = t.added;
  }

  reply-is : (c : BoardCall) (r : BoardReply) (mine seen' mine' : BoardLog) → (a : IsAnswered s who c r mine seen' mine') → board_reply s a.before who c ≡ Some r
  reply-is c r mine seen' mine' a = (a.legal a.before (entry who c r) [] a.saw).1

  -- It asks for an item.

  take-replies : (log : BoardLog) (b : Bool) (o : Option ℕ) (r : BoardReply) → (if b then Some reply.AllOut else option_map (handed s log) o) ≡ Some r → (r ≡ reply.AllOut) ⊎ ((i : ℕ) × (r ≡ handed s log i))
  take-replies log true o r e = inl (let n : Some reply.AllOut ≡ Some r = e in cc)
  take-replies log false None r e = absurd (let n : None ≡ Some r = e in cc)
  take-replies log false (Some i) r e = inr (i, let n : Some (handed s log i) ≡ Some r = e in cc)

  asked : (r : BoardReply) (mine seen' mine' : BoardLog) → IsAnswered s who call.Take r mine seen' mine' → Asks s who mine (Some r) seen' mine'
  asked r mine seen' mine' a = by r a (take-replies a.before (is_at_end s a.before) (find (is_ready s a.before) (places s)) r (reply-is call.Take r mine seen' mine' a))
    where
      by : (r : BoardReply) (a : IsAnswered s who call.Take r mine seen' mine') → (r ≡ reply.AllOut) ⊎ ((i : ℕ) × (r ≡ handed s a.before i)) → Asks s who mine (Some r) seen' mine'
      by reply.AllOut a is = a.added
      by (reply.Item item parents) a is = (
        a.added,
        (new-out s a.before who item call.Take (reply.Item item parents) (reply-is call.Take (reply.Item item parents) mine seen' mine' a) (same-number item item refl)).1,
        (hands-on s seen' a.legal).given a.before [] who item parents a.saw,
      )
      by reply.Stored a (inl e) = cc
      by reply.Stored a (inr (i, e)) = cc
      by reply.NotOut a (inl e) = cc
      by reply.NotOut a (inr (i, e)) = cc
      by reply.Stopped a (inl e) = cc
      by reply.Stopped a (inr (i, e)) = cc

  pub asks-told : (room : ℕ) (seen mine : BoardLog) (result : Result (ℕ × BoardReply) (CallFault BoardRefused)) (seen' mine' : BoardLog) → Told room call.Take seen mine result seen' mine'
      → IfOk result (λ r. Asks s who mine (Some r.1) seen' mine')
  asks-told room seen mine (Ok (n, r)) seen' mine' t = asked r mine seen' mine' (answered room call.Take seen mine n r seen' mine' t)
  asks-told room seen mine (Err f) seen' mine' t = tt

  -- why it is refused, after what it has seen
  abbrev pub IsRefusedItem : ℕ → BoardLog → CallFault BoardRefused → Type 0
  IsRefusedItem room seen' fault.NoMemory = room ≤ length seen'
  IsRefusedItem room seen' (fault.Refused refused.NotYet) = board_reply s seen' who call.Take ≡ None
  IsRefusedItem room seen' (fault.Refused refused.NoMemory) = TakesMemory (board_reply s seen' who call.Take)

  state-reply : (seen' : BoardLog) (b : BoardState) → IsLegalBoard s seen' → LeadsTo (Answers s) (Opens s) seen' b → board_reply s seen' who call.Take ≡ board_reply_in b who call.Take
  state-reply seen' b legal leads = legal-reply s seen' legal who call.Take ∙ ap (λ (x : BoardState). board_reply_in x who call.Take) (sym (logs-left s seen' b leads))

  cause-told : (room : ℕ) (seen' : BoardLog) (f : CallFault BoardRefused) → IsLegalBoard s seen' → HasCause (Opens s) (Answers s) Refuses IsOutOfMemory room who call.Take seen' f → IsRefusedItem room seen' f
  cause-told room seen' fault.NoMemory legal full = full
  cause-told room seen' (fault.Refused refused.NotYet) legal (b, leads, inl never) = absurd never
  cause-told room seen' (fault.Refused refused.NotYet) legal (b, leads, inr waits) = state-reply seen' b legal leads ∙ waits
  cause-told room seen' (fault.Refused refused.NoMemory) legal (b, leads, inl takes) = subst TakesMemory (sym (state-reply seen' b legal leads)) takes
  cause-told room seen' (fault.Refused refused.NoMemory) legal (b, leads, inr never) = absurd never

  pub unchanged-told : (room : ℕ) (seen mine : BoardLog) (result : Result (ℕ × BoardReply) (CallFault BoardRefused)) (f : CallFault BoardRefused) (seen' mine' : BoardLog) → result ≡ Err f
      → Told room call.Take seen mine result seen' mine' → mine' ≡ mine
  unchanged-told room seen mine result f seen' mine' is t = subst (λ (r : Result (ℕ × BoardReply) (CallFault BoardRefused)). OnErr r (mine' ≡ mine)) is t.unchanged

  pub refused-told : (room : ℕ) (seen mine : BoardLog) (result : Result (ℕ × BoardReply) (CallFault BoardRefused)) (f : CallFault BoardRefused) (seen' mine' : BoardLog) → result ≡ Err f
      → Told room call.Take seen mine result seen' mine' → IsRefusedItem room seen' f
  refused-told room seen mine result f seen' mine' is t =
      let told : Told room call.Take seen mine (Err f) seen' mine' = subst (λ (r : Result (ℕ × BoardReply) (CallFault BoardRefused)). Told room call.Take seen mine r seen' mine') is t in
      cause-told room seen' f (logs-legal s seen' told.legal) told.cause

  -- It finishes the item that it holds.

  finished-more : (items : List (ℕ × List ItemOf)) (item : ℕ) (parents : List ItemOf)
      → (finished_by s who items ++ entry who call.Take (reply.Item item parents) ∷ []) ++ entry who (finish_of s item) reply.Stored ∷ [] ≡ finished_by s who (items ++ (item, parents) ∷ [])
  finished-more [] item parents = refl
  finished-more (x ∷ items) item parents =
      ap (λ (l : BoardLog). entry who call.Take (reply.Item x.0 x.1) ∷ entry who (finish_of s x.0) reply.Stored ∷ l) (finished-more items item parents)

  finished : (o : ItemOf) (r : BoardReply) (mine seen' mine' : BoardLog) → o.inputs ≡ s → Holds s who o.item mine → IsAnswered s who (call.Finish o) r mine seen' mine' → HoldsNone s who mine'
  finished o r mine seen' mine' own (items, parents, is) a =
      let told : r ≡ reply.Stored = finish-stored s a.before who o items parents r (subst (IsLegalBoard s) a.saw a.legal) (a.own ∙ is) in
      let finish : call.Finish o ≡ finish_of s o.item = ap (λ (x : Inputs). call.Finish (record { inputs = x; item = o.item })) own in (
        items ++ (o.item, parents) ∷ [],
        a.added
            ∙ ap (λ (l : BoardLog). l ++ entry who (call.Finish o) r ∷ []) is
            ∙ (λ i. (finished_by s who items ++ entry who call.Take (reply.Item o.item parents) ∷ []) ++ entry who (finish i) (told i) ∷ [])
            ∙ finished-more items o.item parents,
      )

  pub finish-told : (room : ℕ) (o : ItemOf) (seen mine : BoardLog) (result : Result (ℕ × BoardReply) (CallFault BoardRefused)) (seen' mine' : BoardLog) → o.inputs ≡ s → Holds s who o.item mine
      → Told room (call.Finish o) seen mine result seen' mine' → OnOk result (HoldsNone s who mine')
  finish-told room o seen mine (Ok (n, r)) seen' mine' own holds t = finished o r mine seen' mine' own holds (answered room (call.Finish o) seen mine n r seen' mine' t)
  finish-told room o seen mine (Err f) seen' mine' own holds t = tt

  -- It gives up.

  -- the board never refuses that
  stops : (b : BoardState) (e : BoardRefused) → IsOutOfMemory b who call.GiveUp e ⊎ Refuses b who call.GiveUp e → ⊥
  stops b refused.NotYet (inl e) = e
  stops b refused.NotYet (inr e) = let n : Some reply.Stopped ≡ None = e in cc
  stops b refused.NoMemory (inl e) = e
  stops b refused.NoMemory (inr e) = e

  log-full : (room : ℕ) (seen' : BoardLog) (f : CallFault BoardRefused) → HasCause (Opens s) (Answers s) Refuses IsOutOfMemory room who call.GiveUp seen' f → room ≤ length seen'
  log-full room seen' fault.NoMemory full = full
  log-full room seen' (fault.Refused e) (b, leads, cause) = absurd (stops b e cause)

  given-up : (r : BoardReply) (mine seen' mine' : BoardLog) → IsAnswered s who call.GiveUp r mine seen' mine' → mine' ≡ mine ++ entry who call.GiveUp reply.Stopped ∷ []
  given-up r mine seen' mine' a =
      let is : Some reply.Stopped ≡ Some r = reply-is call.GiveUp r mine seen' mine' a in
      let told : reply.Stopped ≡ r = cc in
      a.added ∙ ap (λ (x : BoardReply). mine ++ entry who call.GiveUp x ∷ []) (sym told)

  pub gives-up-told : (room : ℕ) (seen mine : BoardLog) (result : Result (ℕ × BoardReply) (CallFault BoardRefused)) (seen' mine' : BoardLog) → Told room call.GiveUp seen mine result seen' mine'
      → (mine' ≡ mine ++ entry who call.GiveUp reply.Stopped ∷ []) ⊎ ((mine' ≡ mine) × (room ≤ length seen'))
  gives-up-told room seen mine (Ok (n, r)) seen' mine' t = inl (given-up r mine seen' mine' (answered room call.GiveUp seen mine n r seen' mine' t))
  gives-up-told room seen mine (Err f) seen' mine' t = inr (t.unchanged, log-full room seen' f t.cause)

  -- Each of these is a course.

  abbrev stop : BoardLog
  stop = entry who call.GiveUp reply.Stopped ∷ []

  -- it holds none, and gives up or leaves off
  course-none : (items : List (ℕ × List ItemOf)) (mine left : BoardLog) → finished_by s who items ++ stop ≡ mine ++ left → IsCourse s who mine
  course-none items mine left is = record { items = items; last = stop; left = left; ends = inr (inl refl); prefix = is }

  -- it holds an item, and gives up or leaves off
  course-held : (items : List (ℕ × List ItemOf)) (item : ℕ) (parents : List ItemOf) (mine left : BoardLog)
      → (finished_by s who items ++ entry who call.Take (reply.Item item parents) ∷ []) ++ stop ≡ mine ++ left → IsCourse s who mine
  course-held items item parents mine left is = record {
    items = items;
    last = entry who call.Take (reply.Item item parents) ∷ stop;
    left = left;
    ends = inr (inr (item, parents, refl));
    prefix = sym (append_assoc (finished_by s who items) (entry who call.Take (reply.Item item parents) ∷ []) stop) ∙ is;
  }

  -- what it did before it gave up, and what is left of that
  given-or-left : (did mine : BoardLog) → (mine ≡ did ++ stop) ⊎ (mine ≡ did) → (left : BoardLog) × (did ++ stop ≡ mine ++ left)
  given-or-left did mine (inl given) = ([], sym given ∙ sym (append-nil mine))
  given-or-left did mine (inr same) = (stop, ap (λ (l : BoardLog). l ++ stop) (sym same))

  pub course-done : (mine : BoardLog) → IsDone s who mine → IsCourse s who mine
  course-done mine (items, is) = record {
    items = items;
    last = entry who call.Take reply.AllOut ∷ [];
    left = [];
    ends = inl refl;
    prefix = sym is ∙ sym (append-nil mine);
  }

  gave-up : (about : About Inputs) (did seen mine : BoardLog) → GivesUp about who did seen mine → (mine ≡ did ++ stop) ⊎ (mine ≡ did)
  gave-up about did seen mine (inl given) = inl given
  gave-up about did seen mine (inr full) = inr full.0

  course-of : (about : About Inputs) (seen did mine : BoardLog) → IsRefused about s who seen did → (mine ≡ did ++ stop) ⊎ (mine ≡ did) → IsCourse s who mine
  course-of about seen did mine (inl ((items, is), lacks)) ends =
      let rest = given-or-left did mine ends in course-none items mine rest.0 (ap (λ (l : BoardLog). l ++ stop) (sym is) ∙ rest.1)
  course-of about seen did mine (inr (item, (items, parents, is))) ends =
      let rest = given-or-left did mine ends in course-held items item parents mine rest.0 (ap (λ (l : BoardLog). l ++ stop) (sym is) ∙ rest.1)

  -- a worker that was refused memory has given up since
  pub left-off : (about : About Inputs) {T E : Type 0} (r : Result T E) (saw did seen mine : BoardLog) → is_err r ≡ true → OnErr r (IsRefused about s who saw did) → StartsWith seen saw → GivesUp about who did seen mine
      → HasGivenUp about s who seen mine
  left-off about r saw did seen mine failed refused later ends = record {
    saw = saw;
    did = did;
    later = later;
    refused = on-err r (IsRefused about s who saw did) failed refused;
    ends = ends;
  }

  -- and left a course
  pub course-given_up : (about : About Inputs) (seen mine : BoardLog) → HasGivenUp about s who seen mine → IsCourse s who mine
  course-given_up about seen mine h = course-of about h.saw h.did mine h.refused (gave-up about h.did seen mine h.ends)
