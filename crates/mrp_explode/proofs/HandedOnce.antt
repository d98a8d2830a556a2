-- An item is handed out at most once, and stored by the worker that it was handed out to: a worker that finishes the item
-- that it holds is told that it is stored.
use Rattle.std.proofs.Common.{◌≡◌, ◌≢◌, ◌∙◌, ◌≤◌, ◌+◌, ◌==◌, ◌||◌, ◌&&◌, ℕ, Bool, true, false, cond, not, List, [], ◌∷◌, ◌++◌, Some, inl, inr, refl, sym, ap, subst, arith, append-nil}
use Rattle.std.specs.Prelude.{if◌then◌else◌}
use Rattle.std.proofs.lemmas.Bool.{cases_eq}
use Rattle.std.proofs.lemmas.List.Elements.{filter-append}
use Rattle.std.proofs.lemmas.List.Folds.{list_any-append}
use Rattle.mrp_turn.specs.Lists.{total}
use Rattle.mrp_turn.specs.Log.{entries_by, entry}
use Rattle.mrp_turn.proofs.Lists.{total-append}
use Rattle.mrp_turn.proofs.Logs.{EachFollows-front, InTurn, InTurn-from_Each, one_more}
use Rattle.mrp_item.specs.Inputs.{Inputs}
use Rattle.mrp_item.specs.Places.{ItemOf}
use Rattle.mrp_board.specs.declared.call.BoardCall.TheVariants as call
use Rattle.mrp_board.specs.declared.reply.BoardReply.TheVariants as reply
use Rattle.mrp_board.specs.declared.call.BoardCall.{BoardCall}
use Rattle.mrp_board.specs.declared.reply.BoardReply.{BoardReply}
use Rattle.mrp_board.specs.Board.{BoardEntry, BoardLog, IsLegalBoard, MayFollowOnBoard, board_reply, hands_out, is_out, is_out_to, is_stored, stores}
use Rattle.mrp_board.specs.Orderly.{finished_by}
use Rattle.mrp_board.proofs.BoardStates.{new-out}
use Rattle.mrp_board.proofs.Tests.{and-first, either, equal, no, or-second, same-number}

abbrev bit : Bool → ℕ
bit true = 1
bit false = 0

-- how many entries hand an item out
abbrev outs : ℕ → BoardLog → ℕ
outs i log = total (λ (e : BoardEntry). bit (hands_out i e.reply)) log

bit-one : (b : Bool) → b ≡ true → bit b ≡ 1
bit-one true e = refl
bit-one false e = no e

none-out : (i : ℕ) (log : BoardLog) → is_out log i ≡ false → outs i log ≡ 0
none-out i [] none = refl
none-out i (e ∷ log) none = by (hands_out i e.reply) none (none-out i log)
  where
    by : (b : Bool) → (b || is_out log i) ≡ false → (is_out log i ≡ false → outs i log ≡ 0) → bit b + outs i log ≡ 0
    by true f later = absurd (let n : true ≡ false = f in cc)
    by false f later = omega (arith, later f)

some-out : (i : ℕ) (log : BoardLog) → is_out log i ≡ true → 1 ≤ outs i log
some-out i [] some = no some
some-out i (e ∷ log) some = by (hands_out i e.reply) some (some-out i log)
  where
    by : (b : Bool) → (b || is_out log i) ≡ true → (is_out log i ≡ true → 1 ≤ outs i log) → 1 ≤ bit b + outs i log
    by true f later = omega arith
    by false f later = omega (arith, later f)

or-first : (a b : Bool) → a ≡ true → (a || b) ≡ true
or-first true b e = refl
or-first false b e = no e

-- of a worker's entries

by-more : (w : ℕ) (log : BoardLog) (e : BoardEntry) → entries_by w (log ++ e ∷ []) ≡ entries_by w log ++ cond (e.who == w) (e ∷ []) []
by-more w log e = filter-append (λ (x : BoardEntry). x.who == w) log (e ∷ [])

out-by : (w i : ℕ) (log : BoardLog) → is_out_to w log i ≡ is_out (entries_by w log) i
out-by w i [] = refl
out-by w i (e ∷ log) = by (e.who == w) (out-by w i log)
  where
    by : (b : Bool) → is_out_to w log i ≡ is_out (entries_by w log) i → ((b && hands_out i e.reply) || is_out_to w log i) ≡ is_out (cond b (e ∷ entries_by w log) (entries_by w log)) i
    by true later = ap (λ (t : Bool). hands_out i e.reply || t) later
    by false later = later

-- somebody stored what is stored
stored-by : (i : ℕ) (log : BoardLog) → is_stored log i ≡ true → (w : ℕ) × (is_stored (entries_by w log) i ≡ true)
stored-by i [] any = no any
stored-by i (e ∷ log) any = elim (either (stores i e.call e.reply) (is_stored log i) any) [
  | inl here ↦ (
    e.who,
    subst (λ (b : Bool). is_stored (cond b (e ∷ entries_by e.who log) (entries_by e.who log)) i ≡ true) (sym (same-number e.who e.who refl))
        (or-first (stores i e.call e.reply) (is_stored (entries_by e.who log) i) here),
  )
  | inr later ↦ let w = stored-by i log later in (w.0, by w.0 (e.who == w.0) w.1)
]
  where
    by : (w : ℕ) (b : Bool) → is_stored (entries_by w log) i ≡ true → is_stored (cond b (e ∷ entries_by w log) (entries_by w log)) i ≡ true
    by w true h = or-second (stores i e.call e.reply) (is_stored (entries_by w log) i) h
    by w false h = h

outs-by : (w i : ℕ) (log : BoardLog) → outs i (entries_by w log) ≤ outs i log
outs-by w i [] = omega arith
outs-by w i (e ∷ log) = by (e.who == w) (outs-by w i log)
  where
    by : (b : Bool) → outs i (entries_by w log) ≤ outs i log → outs i (cond b (e ∷ entries_by w log) (entries_by w log)) ≤ bit (hands_out i e.reply) + outs i log
    by true later = omega (arith, later)
    by false later = omega (arith, later)

outs-by-both : (v w i : ℕ) (log : BoardLog) → v ≢ w → outs i (entries_by v log) + outs i (entries_by w log) ≤ outs i log
outs-by-both v w i [] other = omega arith
outs-by-both v w i (e ∷ log) other = by (e.who == v) (e.who == w) refl refl (outs-by-both v w i log other)
  where
    by : (a b : Bool) → (e.who == v) ≡ a → (e.who == w) ≡ b → outs i (entries_by v log) + outs i (entries_by w log) ≤ outs i log
        → outs i (cond a (e ∷ entries_by v log) (entries_by v log)) + outs i (cond b (e ∷ entries_by w log) (entries_by w log)) ≤ bit (hands_out i e.reply) + outs i log
    by true true p q later = absurd (other (sym (equal e.who v p) ∙ equal e.who w q))
    by true false p q later = omega (arith, later)
    by false true p q later = omega (arith, later)
    by false false p q later = omega (arith, later)

module _ (s : Inputs) where
  one-more-out : (i : ℕ) (before : BoardLog) (e : BoardEntry) → MayFollowOnBoard s before e → outs i before ≤ 1 → outs i (before ++ e ∷ []) ≤ 1
  one-more-out i before e follows once = by (hands_out i e.reply) refl
    where
      by : (b : Bool) → hands_out i e.reply ≡ b → outs i (before ++ e ∷ []) ≤ 1
      by true is = omega (arith, total-append (λ (x : BoardEntry). bit (hands_out i x.reply)) before (e ∷ []), ap bit is, none-out i before (new-out s before e.who i e.call e.reply follows.1 is).0)
      by false is = omega (arith, total-append (λ (x : BoardEntry). bit (hands_out i x.reply)) before (e ∷ []), ap bit is, once)

  out-once : (i : ℕ) (before log : BoardLog) → InTurn (MayFollowOnBoard s) before log → outs i before ≤ 1 → outs i (before ++ log) ≤ 1
  out-once i before [] legal once = subst (λ (l : BoardLog). outs i l ≤ 1) (sym (append-nil before)) once
  out-once i before (e ∷ log) legal once =
      subst (λ (l : BoardLog). outs i l ≤ 1) (sym (one_more before e log)) (out-once i (before ++ e ∷ []) log legal.1 (one-more-out i before e legal.0 once))

  -- what is stored was handed out to the worker that stores it
  stored-out : (i : ℕ) (log : BoardLog) (w : ℕ) (c : BoardCall) (r : BoardReply) → board_reply s log w c ≡ Some r → stores i c r ≡ true → is_out_to w log i ≡ true
  stored-out i log w (call.Finish o) reply.Stored is stored =
      subst (λ (k : ℕ). is_out_to w log k ≡ true) (equal o.item i stored)
      (and-first (is_out_to w log o.item) (not (is_stored log o.item)) (by (is_out_to w log o.item && not (is_stored log o.item)) is))
    where
      by : (b : Bool) → (if b then Some reply.Stored else Some reply.NotOut) ≡ Some reply.Stored → b ≡ true
      by true e = refl
      by false e = absurd (let n : Some reply.NotOut ≡ Some reply.Stored = e in cc)
  stored-out i log w call.Take r is stored = no stored
  stored-out i log w call.GiveUp r is stored = no stored
  stored-out i log w (call.Finish o) reply.AllOut is stored = no stored
  stored-out i log w (call.Finish o) (reply.Item j parents) is stored = no stored
  stored-out i log w (call.Finish o) reply.NotOut is stored = no stored
  stored-out i log w (call.Finish o) reply.Stopped is stored = no stored

  -- each worker's stored items were handed out to it
  abbrev StoresOwn : ℕ → BoardLog → Type 0
  StoresOwn i log = (w : ℕ) → is_stored (entries_by w log) i ≡ true → is_out (entries_by w log) i ≡ true

  one-more-own : (i : ℕ) (before : BoardLog) (e : BoardEntry) → MayFollowOnBoard s before e → StoresOwn i before → StoresOwn i (before ++ e ∷ [])
  one-more-own i before e follows own w stored =
      subst (λ (l : BoardLog). is_out l i ≡ true) (sym (by-more w before e)) (by (e.who == w) refl (subst (λ (l : BoardLog). is_stored l i ≡ true) (by-more w before e) stored))
    where
      out : (more : BoardLog) → is_out (entries_by w before) i ≡ true → is_out (entries_by w before ++ more) i ≡ true
      out more is = list_any-append (λ (x : BoardEntry). hands_out i x.reply) (entries_by w before) more ∙ or-first (is_out (entries_by w before) i) (is_out more i) is

      last : (b : Bool) → (b || false) ≡ true → b ≡ true
      last true h = refl
      last false h = no h

      here : (b : Bool) → (e.who == w) ≡ b → is_stored (cond b (e ∷ []) []) i ≡ true → is_out (entries_by w before) i ≡ true
      here true same now =
          sym (out-by w i before)
          ∙ subst (λ (v : ℕ). is_out_to v before i ≡ true) (equal e.who w same) (stored-out i before e.who e.call e.reply follows.1 (last (stores i e.call e.reply) now))
      here false same now = no now

      by : (b : Bool) → (e.who == w) ≡ b → is_stored (entries_by w before ++ cond b (e ∷ []) []) i ≡ true → is_out (entries_by w before ++ cond b (e ∷ []) []) i ≡ true
      by b is h =
          elim (either (is_stored (entries_by w before) i) (is_stored (cond b (e ∷ []) []) i)
          (sym (list_any-append (λ (x : BoardEntry). stores i x.call x.reply) (entries_by w before) (cond b (e ∷ []) [])) ∙ h)) [
            | inl early ↦ out (cond b (e ∷ []) []) (own w early)
            | inr now ↦ out (cond b (e ∷ []) []) (here b is now)
          ]

  stores-own : (i : ℕ) (before log : BoardLog) → InTurn (MayFollowOnBoard s) before log → StoresOwn i before → StoresOwn i (before ++ log)
  stores-own i before [] legal own = subst (StoresOwn i) (sym (append-nil before)) own
  stores-own i before (e ∷ log) legal own = subst (StoresOwn i) (sym (one_more before e log)) (stores-own i (before ++ e ∷ []) log legal.1 (one-more-own i before e legal.0 own))

  -- A worker that holds an item.

  abbrev holding : ℕ → List (ℕ × List ItemOf) → ℕ → List ItemOf → BoardLog
  holding who items i parents = finished_by s who items ++ entry who call.Take (reply.Item i parents) ∷ []

  one-held : (who i : ℕ) (items : List (ℕ × List ItemOf)) (parents : List ItemOf) → 1 ≤ outs i (holding who items i parents)
  one-held who i [] parents = omega (arith, bit-one (i == i) (same-number i i refl))
  one-held who i (x ∷ items) parents = omega (arith, one-held who i items parents)

  two-held : (who i : ℕ) (items : List (ℕ × List ItemOf)) (parents : List ItemOf) → is_stored (holding who items i parents) i ≡ true → 2 ≤ outs i (holding who items i parents)
  two-held who i [] parents stored = no stored
  two-held who i (x ∷ items) parents stored = elim (either (x.0 == i) (is_stored (holding who items i parents) i) stored) [
    | inl here ↦ omega (arith, bit-one (x.0 == i) here, one-held who i items parents)
    | inr later ↦ omega (arith, two-held who i items parents later)
  ]

  held-out : (who i : ℕ) (items : List (ℕ × List ItemOf)) (parents : List ItemOf) → is_out (holding who items i parents) i ≡ true
  held-out who i [] parents = or-first (i == i) false (same-number i i refl)
  held-out who i (x ∷ items) parents = or-second (x.0 == i) (is_out (holding who items i parents) i) (held-out who i items parents)

  not-stored : (log : BoardLog) (who i : ℕ) (items : List (ℕ × List ItemOf)) (parents : List ItemOf) → IsLegalBoard s log → entries_by who log ≡ holding who items i parents → is_stored log i ≡ false
  not-stored log who i items parents legal mine = by (is_stored log i) refl
    where
      once : outs i log ≤ 1
      once = out-once i [] log (InTurn-from_Each (MayFollowOnBoard s) [] log legal) (omega arith)

      own : StoresOwn i log
      own = stores-own i [] log (InTurn-from_Each (MayFollowOnBoard s) [] log legal) (λ w h. h)

      by : (b : Bool) → is_stored log i ≡ b → is_stored log i ≡ false
      by false is = is
      by true is =
          let w = stored-by i log is in
          elim (cases_eq w.0 who) [
            | inl same ↦
                let stored = subst (λ (l : BoardLog). is_stored l i ≡ true) (ap (λ (v : ℕ). entries_by v log) same ∙ mine) w.1 in
                absurd (omega (arith, once, outs-by who i log, ap (outs i) mine, two-held who i items parents stored))
            | inr other ↦
                absurd (omega (
                  arith,
                  once,
                  outs-by-both w.0 who i log other,
                  some-out i (entries_by w.0 log) (own w.0 w.1),
                  ap (outs i) mine,
                  one-held who i items parents,
                ))
          ]

  -- A worker that finishes the item that it holds is answered Stored.
  pub finish-stored : (before : BoardLog) (who : ℕ) (o : ItemOf) (items : List (ℕ × List ItemOf)) (parents : List ItemOf) (r : BoardReply)
      → IsLegalBoard s (before ++ entry who (call.Finish o) r ∷ []) → entries_by who before ≡ finished_by s who items ++ entry who call.Take (reply.Item o.item parents) ∷ [] → r ≡ reply.Stored
  finish-stored before who o items parents r legal mine =
      by (is_out_to who before o.item) (is_stored before o.item) out none (legal before (entry who (call.Finish o) r) [] refl).1
    where
      out : is_out_to who before o.item ≡ true
      out = out-by who o.item before ∙ ap (λ (l : BoardLog). is_out l o.item) mine ∙ held-out who o.item items parents

      none : is_stored before o.item ≡ false
      none = not-stored before who o.item items parents (EachFollows-front (MayFollowOnBoard s) before (entry who (call.Finish o) r ∷ []) legal) mine

      by : (a b : Bool) → a ≡ true → b ≡ false → (if a && not b then Some reply.Stored else Some reply.NotOut) ≡ Some r → r ≡ reply.Stored
      by true false p q e = let n : Some reply.Stored ≡ Some r = e in cc
      by true true p q e = absurd (let n : true ≡ false = q in cc)
      by false b p q e = no p
