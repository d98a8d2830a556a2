-- Each run's log is a legal log of its board, whose workers finish what they hold.
use Rattle.std.proofs.Common.{◌≡◌, ◌≢◌, ◌∙◌, ◌==◌, ◌||◌, ◌&&◌, ℕ, ◌⊎◌, Bool, true, false, cond, not, if◌then◌else◌, [], ◌∷◌, ◌++◌, List, Option, Some, None, inl, inr, refl, sym, ap, subst}
use Rattle.std.proofs.Math.Bool.{or-true}
use Rattle.std.proofs.lemmas.List.{append-nil}
use Rattle.std.proofs.lemmas.Bool.{false_from_ne_true}
use Rattle.std.specs.Prelude.{find, option_map}
use Rattle.mrp_turn.specs.Log.{IsSeatNumber, entry}
use Rattle.mrp_turn.proofs.Logs.{EachFollows-more, EachFollows-nil}
use Rattle.mrp_item.specs.Inputs.{Inputs, places}
use Rattle.mrp_item.specs.Made.{item_from}
use Rattle.mrp_item.specs.Places.{ItemOf}
use Rattle.mrp_board.specs.declared.call.BoardCall.{BoardCall}
use Rattle.mrp_board.specs.declared.call.BoardCall.TheVariants as call
use Rattle.mrp_board.specs.declared.reply.BoardReply.{BoardReply}
use Rattle.mrp_board.specs.declared.reply.BoardReply.TheVariants as reply
use Rattle.mrp_board.specs.Board.{BoardEntry, BoardLog, MayFollowOnBoard, board_reply, handed, hands_out, held, is_at_end, is_out, is_out_to, is_ready, is_stored, item_in, settles, stores}
use Rattle.mrp_board.proofs.BoardLogs.{out-to-more, stored-more}
use Rattle.mrp_board.proofs.BoardStates.{found-ready, new-out}
use Rattle.mrp_board.proofs.Tests.{either, equal, same-number}
use Rattle.mrp_engine.specs.event_core.Board.{finish_entry, made, take_entry}
use Rattle.mrp_engine.specs.event_core.Kept.{KeepsBoard}
use Rattle.mrp_engine.proofs.lemmas.event_core.BoardLogs.{held-more, still-out}

-- Tests.

true-not : (b : Bool) → b ≡ true → b ≡ false → ⊥
true-not b is other = let n : true ≡ false = sym is ∙ other in cc

less-asked : (a b c d : Bool) → (c ≡ true → d ≡ true) → ((a && b) || c) ≡ true → (b || d) ≡ true
less-asked true true c d f e = refl
less-asked true false c d f e = f e
less-asked false true c d f e = refl
less-asked false false c d f e = f e

-- what is out to a worker is out
out-to-out : (who : ℕ) (log : BoardLog) (i : ℕ) → is_out_to who log i ≡ true → is_out log i ≡ true
out-to-out who [] i e = e
out-to-out who (x ∷ log) i e = less-asked (x.who == who) (hands_out i x.reply) (is_out_to who log i) (is_out log i) (out-to-out who log i) e

-- Replies.

-- an item that a worker is told comes with the stored outcomes of its parents
pub told-item : (s : Inputs) (log : BoardLog) (who item : ℕ) (parents : List ItemOf) → board_reply s log who call.Take ≡ Some (reply.Item item parents) → handed s log item ≡ reply.Item item parents
told-item s log who item parents is = (found-ready s log (is_at_end s log) (find (is_ready s log) (places s)) item parents is).1

handed-item : (r : BoardReply) (i : ℕ) → item_in r ≡ Some i → hands_out i r ≡ true
handed-item (reply.Item j parents) i e = same-number j i (let n : Some j ≡ Some i = e in cc)
handed-item reply.AllOut i e = absurd (let n : None ≡ Some i = e in cc)
handed-item reply.Stored i e = absurd (let n : None ≡ Some i = e in cc)
handed-item reply.NotOut i e = absurd (let n : None ≡ Some i = e in cc)
handed-item reply.Stopped i e = absurd (let n : None ≡ Some i = e in cc)

takes-alone : (c : BoardCall) (r : BoardReply) (i j : ℕ) → item_in r ≡ Some j → stores i c r ≡ true → ⊥
takes-alone call.Take r i j e s = let n : false ≡ true = s in cc
takes-alone call.GiveUp r i j e s = let n : false ≡ true = s in cc
takes-alone (call.Finish o) reply.Stored i j e s = let n : None ≡ Some j = e in cc
takes-alone (call.Finish o) reply.AllOut i j e s = let n : false ≡ true = s in cc
takes-alone (call.Finish o) (reply.Item m parents) i j e s = let n : false ≡ true = s in cc
takes-alone (call.Finish o) reply.NotOut i j e s = let n : false ≡ true = s in cc
takes-alone (call.Finish o) reply.Stopped i j e s = let n : false ≡ true = s in cc

-- who is told that an outcome is stored holds nothing more
stored-settles : (c : BoardCall) (r : BoardReply) (i : ℕ) → stores i c r ≡ true → settles r ≡ true
stored-settles call.Take r i s = absurd (let n : false ≡ true = s in cc)
stored-settles call.GiveUp r i s = absurd (let n : false ≡ true = s in cc)
stored-settles (call.Finish o) reply.Stored i s = refl
stored-settles (call.Finish o) reply.AllOut i s = absurd (let n : false ≡ true = s in cc)
stored-settles (call.Finish o) (reply.Item m parents) i s = absurd (let n : false ≡ true = s in cc)
stored-settles (call.Finish o) reply.NotOut i s = absurd (let n : false ≡ true = s in cc)
stored-settles (call.Finish o) reply.Stopped i s = absurd (let n : false ≡ true = s in cc)

pub keeps-none : (s : Inputs) → KeepsBoard s []
keeps-none s = record {
  legal = EachFollows-nil (MayFollowOnBoard s);
  held_out = λ who i e. absurd (let n : None ≡ Some i = e in cc);
  unstored = λ who i e. refl;
  one = λ who other i e f. absurd (let n : None ≡ Some i = e in cc);
  stored_out = λ i e. absurd (let n : false ≡ true = e in cc);
}

module _ (s : Inputs) (log : BoardLog) (k : KeepsBoard s log) where
  held-is-out : (who i : ℕ) → held who log ≡ Some i → is_out log i ≡ true
  held-is-out who i e = out-to-out who log i (k.held_out who i e)

  -- one more entry, which stores what its worker holds, or hands out what was never out
  module _ (e : BoardEntry) (follows : MayFollowOnBoard s log e) (finishes : (i : ℕ) → stores i e.call e.reply ≡ true → held e.who log ≡ Some i) (takes : (i : ℕ) → item_in e.reply ≡ Some i → is_out log i ≡ false) where
    abbrev more : BoardLog
    more = log ++ e ∷ []

    abbrev Took : ℕ → ℕ → Type 0
    Took who i = (e.who ≡ who) × (item_in e.reply ≡ Some i)

    -- it held the item before, and the entry is of another worker or does not decide what it holds
    abbrev Had : ℕ → ℕ → Type 0
    Had who i = ((e.who ≢ who) ⊎ (settles e.reply ≡ false)) × (held who log ≡ Some i)

    holds-by : (who i : ℕ) (same moved : Bool) → (e.who == who) ≡ same → settles e.reply ≡ moved → cond (same && moved) (item_in e.reply) (held who log) ≡ Some i → Took who i ⊎ Had who i
    holds-by who i true true at is has = inl (equal e.who who at, has)
    holds-by who i true false at is has = inr (inr is, has)
    holds-by who i false moved at is has = inr (inl (λ same. true-not (e.who == who) (same-number e.who who same) at), has)

    holds : (who i : ℕ) → held who more ≡ Some i → Took who i ⊎ Had who i
    holds who i is = holds-by who i (e.who == who) (settles e.reply) refl refl (sym (held-more who log e) ∙ is)

    out-by : (who i : ℕ) → Took who i ⊎ Had who i → is_out_to who more i ≡ true
    out-by who i (inl took) =
        out-to-more who log e i
        ∙ ap (λ (b : Bool). is_out_to who log i || (b && hands_out i e.reply)) (same-number e.who who took.0)
        ∙ ap (λ (b : Bool). is_out_to who log i || b) (handed-item e.reply i took.1)
        ∙ or-true (is_out_to who log i)
    out-by who i (inr had) = out-to-more who log e i ∙ ap (λ (b : Bool). b || ((e.who == who) && hands_out i e.reply)) (k.held_out who i had.1)

    -- what stores it would be its holder's
    stores-other : (who i : ℕ) → (e.who ≢ who) ⊎ (settles e.reply ≡ false) → held who log ≡ Some i → stores i e.call e.reply ≡ true → ⊥
    stores-other who i (inl other) had now = other (k.one e.who who i (finishes i now) had)
    stores-other who i (inr still) had now = true-not (settles e.reply) (stored-settles e.call e.reply i now) still

    kept-unstored : (who i : ℕ) → Took who i ⊎ Had who i → is_stored more i ≡ true → ⊥
    kept-unstored who i (inl took) is = elim (either (is_stored log i) (stores i e.call e.reply) (sym (stored-more log e i) ∙ is)) [
      | inl was ↦ true-not (is_out log i) (k.stored_out i was) (takes i took.1)
      | inr now ↦ takes-alone e.call e.reply i i took.1 now
    ]
    kept-unstored who i (inr had) is = elim (either (is_stored log i) (stores i e.call e.reply) (sym (stored-more log e i) ∙ is)) [
      | inl was ↦ true-not (is_stored log i) was (k.unstored who i had.1)
      | inr now ↦ stores-other who i had.0 had.1 now
    ]

    one-holder : (who other i : ℕ) → Took who i ⊎ Had who i → Took other i ⊎ Had other i → who ≡ other
    one-holder who other i (inl a) (inl b) = sym a.0 ∙ b.0
    one-holder who other i (inl a) (inr b) = absurd (true-not (is_out log i) (held-is-out other i b.1) (takes i a.1))
    one-holder who other i (inr a) (inl b) = absurd (true-not (is_out log i) (held-is-out who i a.1) (takes i b.1))
    one-holder who other i (inr a) (inr b) = k.one who other i a.1 b.1

    stored-is-out : (i : ℕ) → (is_stored log i ≡ true) ⊎ (stores i e.call e.reply ≡ true) → is_out more i ≡ true
    stored-is-out i (inl was) = still-out log e i (k.stored_out i was)
    stored-is-out i (inr now) = still-out log e i (held-is-out e.who i (finishes i now))

    pub keeps-more : KeepsBoard s (log ++ e ∷ [])
    keeps-more = record {
      legal = EachFollows-more (MayFollowOnBoard s) log e k.legal follows;
      held_out = λ who i is. out-by who i (holds who i is);
      unstored = λ who i is. false_from_ne_true (is_stored more i) (kept-unstored who i (holds who i is));
      one = λ who other i is also. one-holder who other i (holds who i is) (holds other i also);
      stored_out = λ i is. stored-is-out i (either (is_stored log i) (stores i e.call e.reply) (sym (stored-more log e i) ∙ is));
    }

  -- the reply to a worker that finishes what it holds
  pub stored-reply : (who item : ℕ) → held who log ≡ Some item → board_reply s log who (call.Finish (item_from s item)) ≡ Some reply.Stored
  stored-reply who item has =
      ap (λ (b : Bool). if b && not (is_stored log item) then Some reply.Stored else Some reply.NotOut) (k.held_out who item has)
      ∙ ap (λ (b : Bool). if not b then Some reply.Stored else Some reply.NotOut) (k.unstored who item has)

  -- a worker takes
  module _ (who : ℕ) (seat : IsSeatNumber who) where
    pub keeps-end : board_reply s log who call.Take ≡ Some reply.AllOut → KeepsBoard s (log ++ entry who call.Take reply.AllOut ∷ [])
    keeps-end is =
        keeps-more (entry who call.Take reply.AllOut) (seat, is, tt) (λ i e. absurd (let n : false ≡ true = e in cc)) (λ i e. absurd (let n : None ≡ Some i = e in cc))

    keeps-given : (item : ℕ) (parents : List ItemOf) → board_reply s log who call.Take ≡ Some (reply.Item item parents) → KeepsBoard s (log ++ entry who call.Take (reply.Item item parents) ∷ [])
    keeps-given item parents is =
        let new : is_out log item ≡ false = (new-out s log who item call.Take (reply.Item item parents) is (same-number item item refl)).0 in
        keeps-more (entry who call.Take (reply.Item item parents)) (seat, is, tt) (λ i e. absurd (let n : false ≡ true = e in cc))
        (λ i e. let same : item ≡ i = (let n : Some item ≡ Some i = e in cc) in subst (λ (j : ℕ). is_out log j ≡ false) same new)

    pub keeps-taken : (item : ℕ) (parents : List ItemOf) → board_reply s log who call.Take ≡ Some (reply.Item item parents) → KeepsBoard s (log ++ take_entry s log who item)
    keeps-taken item parents is =
        subst (λ (r : BoardReply). KeepsBoard s (log ++ entry who call.Take r ∷ [])) (sym (told-item s log who item parents is)) (keeps-given item parents is)

    -- finishes what it holds
    pub keeps-stored : (item : ℕ) → held who log ≡ Some item → KeepsBoard s (log ++ entry who (call.Finish (item_from s item)) reply.Stored ∷ [])
    keeps-stored item has =
        keeps-more (entry who (call.Finish (item_from s item)) reply.Stored) (seat, stored-reply who item has, refl)
        (λ i e. has ∙ ap (λ (n : ℕ). Some n) (equal item i e)) (λ i e. absurd (let n : None ≡ Some i = e in cc))

    -- or gives up
    pub keeps-stopped : KeepsBoard s (log ++ entry who call.GiveUp reply.Stopped ∷ [])
    keeps-stopped =
        keeps-more (entry who call.GiveUp reply.Stopped) (seat, refl, tt) (λ i e. absurd (let n : false ≡ true = e in cc)) (λ i e. absurd (let n : None ≡ Some i = e in cc))

    -- whatever the reply when it takes
    told-taken : (b : Bool) (o : Option ℕ) (r : Option BoardReply) → (if b then Some reply.AllOut else option_map (handed s log) o) ≡ r → board_reply s log who call.Take ≡ r → KeepsBoard s (log ++ made who call.Take r)
    told-taken b o None e is = subst (KeepsBoard s) (sym (append-nil log)) k
    told-taken b o (Some reply.AllOut) e is = keeps-end is
    told-taken b o (Some (reply.Item item parents)) e is = keeps-given item parents is
    told-taken true o (Some reply.Stored) e is = absurd (cc)
    told-taken false None (Some reply.Stored) e is = absurd (cc)
    told-taken false (Some i) (Some reply.Stored) e is = absurd (cc)
    told-taken true o (Some reply.NotOut) e is = absurd (cc)
    told-taken false None (Some reply.NotOut) e is = absurd (cc)
    told-taken false (Some i) (Some reply.NotOut) e is = absurd (cc)
    told-taken true o (Some reply.Stopped) e is = absurd (cc)
    told-taken false None (Some reply.Stopped) e is = absurd (cc)
    told-taken false (Some i) (Some reply.Stopped) e is = absurd (cc)

    pub keeps-told : KeepsBoard s (log ++ made who call.Take (board_reply s log who call.Take))
    keeps-told = told-taken (is_at_end s log) (find (is_ready s log) (places s)) (board_reply s log who call.Take) refl refl

    -- and of what it finishes, if it holds an item
    pub keeps-finish : (o : Option ℕ) → held who log ≡ o → KeepsBoard s (log ++ finish_entry s who o)
    keeps-finish None has = subst (KeepsBoard s) (sym (append-nil log)) k
    keeps-finish (Some item) has = keeps-stored item has
