-- The board of a run by its log and by the state that the log leaves.
use Rattle.std.proofs.Common.{Bor, IsTrue, ◌≡◌, ◌≢◌, ◌⊎◌, ◌↔◌, ◌∙◌, ◌<◌, ◌+◌, ◌==◌, ◌&&◌, ℕ, Bool, true, false, cond, if◌then◌else◌, not, List, [], ◌∷◌, ◌++◌, Option, Some, None, inl, inr, refl, sym, ap, subst, arith, append_assoc}
use Rattle.std.proofs.lemmas.Grind.{reverse_onto}
use Rattle.std.proofs.lemmas.List.{reverse-append, reverse-reverse}
use Rattle.std.proofs.lemmas.List.FromFn.{get_or-range_with_len, length-range_with_len}
use Rattle.std.proofs.lemmas.List.Sums.{AllPass-from_list_all}
use Rattle.std.specs.Option.{option_copied}
use Rattle.std.specs.Prelude.{find, is_some, option_map, reverse}
use Rattle.mrp_turn.specs.Log.{IsReached, IsSeatNumber, entry}
use Rattle.mrp_turn.proofs.Logs.{EachFollows-front, EachFollows-more, EachFollows-nil}
use Rattle.mrp_item.specs.Inputs.{Inputs, count, places}
use Rattle.mrp_item.specs.Made.{item_from, parents_from}
use Rattle.mrp_item.specs.Places.{ItemOf}
use Rattle.mrp_board.specs.declared.call.BoardCall.{BoardCall}
use Rattle.mrp_board.specs.declared.call.BoardCall.TheVariants as call
use Rattle.mrp_board.specs.declared.reply.BoardReply.{BoardReply}
use Rattle.mrp_board.specs.declared.reply.BoardReply.TheVariants as reply
use Rattle.mrp_board.specs.Board.{BoardEntry, BoardLog, FitsInputs, IsLegalBoard, MayFollowOnBoard, board_reply, is_finished, is_out_to, is_stored, settled_by, settles}
use Rattle.mrp_board.specs.BoardState.{BoardState, board_reply_in, has_stored, state_after}
use Rattle.mrp_board.specs.declared.refused.BoardRefused.{BoardRefused}
use Rattle.mrp_board.specs.declared.refused.BoardRefused.TheVariants.{NotYet}
use Rattle.mrp_board.specs.Object.{Answers, IsOutOfMemory, Opens, Refuses}
use Rattle.mrp_board.proofs.BoardStates.{reply-is, state-more, state-none, stored-is}
use Rattle.mrp_board.proofs.HandsOn.{handed-out}
use Rattle.mrp_board.proofs.LegalLogs.{logs-lead}
use Rattle.mrp_engine.specs.event_core.Board.{RunLog}
use Rattle.mrp_engine.specs.event_core.Kept.{IsBoardOf, KeepsLog, log_of}

-- a new board keeps its empty log
pub log-none : (s : Inputs) (state : BoardState) → Opens s state → KeepsLog s state []
log-none s state opens = record { legal = EachFollows-nil (MayFollowOnBoard s); left = opens ∙ sym (state-none s) }

-- a board's state is one that answered calls led to
pub log-reached : (s : Inputs) (state : BoardState) (log : BoardLog) → KeepsLog s state log → IsReached (Answers s) (Opens s) state
log-reached s state log k = subst (λ (b : BoardState). IsReached (Answers s) (Opens s) b) (sym k.left) (log, logs-lead s log k.legal)

-- the log and the state give one reply
pub log-reply : (s : Inputs) (state : BoardState) (log : BoardLog) (who : ℕ) (c : BoardCall) → KeepsLog s state log → board_reply s log who c ≡ board_reply_in state who c
log-reply s state log who c k = reply-is s log k.legal who c ∙ ap (λ (b : BoardState). board_reply_in b who c) (sym k.left)

-- a call that was answered, with its entry
pub log-more : (s : Inputs) (state new : BoardState) (log : BoardLog) (who : ℕ) (c : BoardCall) (r : BoardReply) → KeepsLog s state log → IsSeatNumber who → FitsInputs s c → board_reply_in state who c ≡ Some r
    → new ≡ state_after state who c r → KeepsLog s new (log ++ entry who c r ∷ [])
log-more s state new log who c r k seat fits is now =
    let said : board_reply s log who c ≡ Some r = log-reply s state log who c k ∙ is in
    record {
      legal = EachFollows-more (MayFollowOnBoard s) log (entry who c r) k.legal (seat, said, fits);
      left = now ∙ ap (λ (b : BoardState). state_after b who c r) k.left ∙ sym (state-more s log who c r said);
    }

-- a worker that need not come again has a reply
pub not-waiting : (b : Bool) (o : Option BoardReply) → b ≡ false → IsTrue b ↔ (o ≡ None) → o ≢ None
not-waiting b o is waits none = let n : false ≡ true = sym is ∙ waits.1 none in absurd (cc)

-- a worker that is told to come again has none
pub told-later : (state : BoardState) (who : ℕ) (c : BoardCall) (e : BoardRefused) → e ≡ NotYet → IsOutOfMemory state who c e ⊎ Refuses state who c e → board_reply_in state who c ≡ None
told-later state who c e is cause = by (subst (λ (x : BoardRefused). IsOutOfMemory state who c x ⊎ Refuses state who c x) is cause)
  where
    by : IsOutOfMemory state who c NotYet ⊎ Refuses state who c NotYet → board_reply_in state who c ≡ None
    by (inl memory) = absurd memory
    by (inr none) = none

-- What a worker was handed.

-- the first that passes a test splits a list
found-splits : {X : Type 0} (test : X → Bool) (xs : List X) (x : X) → find test xs ≡ Some x → (before : List X) × (after : List X) × (xs ≡ before ++ x ∷ after)
found-splits test [] x e = absurd (let n : None ≡ Some x = e in cc)
found-splits {X} test (y ∷ xs) x e = by (test y) (found-splits test xs x) e
  where
    by : (b : Bool) → (find test xs ≡ Some x → (before : List X) × (after : List X) × (xs ≡ before ++ x ∷ after)) → cond b (Some y) (find test xs) ≡ Some x
        → (before : List X) × (after : List X) × (y ∷ xs ≡ before ++ x ∷ after)
    by true later is = let same : y ≡ x = cc in ([], xs, ap (λ z. z ∷ xs) same)
    by false later is = let k = later is in (y ∷ k.0, k.1, ap (λ l. y ∷ l) k.2)

-- a worker's last entry that decides what it holds stands in the log
settled-in : (who : ℕ) (log : BoardLog) (e : BoardEntry) → settled_by who log ≡ Some e → (before : BoardLog) × (after : BoardLog) × (log ≡ before ++ e ∷ after)
settled-in who log e is =
    let k = found-splits (λ (x : BoardEntry). (x.who == who) && settles x.reply) (reverse log) e is in (
      reverse k.1,
      reverse k.0,
      sym (reverse-reverse log)
          ∙ ap (λ (l : BoardLog). reverse l) k.2
          ∙ reverse-append k.0 (e ∷ k.1)
          ∙ ap (λ (l : BoardLog). l ++ reverse k.0) (reverse_onto k.1 e [])
          ∙ append_assoc (reverse k.1) (e ∷ []) (reverse k.0),
    )

-- an item is handed out as the reply to a take
hands-by : (s : Inputs) (log : BoardLog) (who item : ℕ) (c : BoardCall) (parents : List ItemOf) → board_reply s log who c ≡ Some (reply.Item item parents) → c ≡ call.Take
hands-by s log who item call.Take parents is = refl
hands-by s log who item (call.Finish o) parents is = absurd (by (is_out_to who log o.item && not (is_stored log o.item)) is)
  where
    by : (b : Bool) → (if b then Some reply.Stored else Some reply.NotOut) ≡ Some (reply.Item item parents) → ⊥
    by true e = cc
    by false e = cc
hands-by s log who item call.GiveUp parents is = absurd (cc)

-- what a worker was handed is an item of the table, with its parents' outcomes
pub settled-given : (s : Inputs) (log : BoardLog) (who item : ℕ) (parents : List ItemOf) (e : BoardEntry) → IsLegalBoard s log → settled_by who log ≡ Some e → e.reply ≡ reply.Item item parents
    → (item < count s) × (parents ≡ parents_from s item)
settled-given s log who item parents e legal is gives =
    let (before, after, place) = settled-in who log e is in
    let follows = legal before e after place in
    let said : board_reply s before e.who e.call ≡ Some (reply.Item item parents) = follows.1 ∙ ap (λ (r : BoardReply). Some r) gives in
    let takes : e.call ≡ call.Take = hands-by s before e.who item e.call parents said in
    let front : IsLegalBoard s before = EachFollows-front (MayFollowOnBoard s) before (e ∷ after) (subst (IsLegalBoard s) place legal) in
    let handed = handed-out s before e.who item parents front (subst (λ (c : BoardCall). board_reply s before e.who c ≡ Some (reply.Item item parents)) takes said) in
    (handed.within, handed.given)

-- what a worker that holds an item plans is that item's outcome
pub held-outcome : (s : Inputs) (o : Option ℕ) (x : ItemOf) → Some x ≡ option_map (item_from s) o → (item : ℕ) × (o ≡ Some item) × (x ≡ item_from s item)
held-outcome s None x e = absurd (let n : Some x ≡ None = e in cc)
held-outcome s (Some item) x e = let same : x ≡ item_from s item = cc in (item, refl, same)

-- the board of a run is what the run shows
pub board-shown : (s : Inputs) (o : Option RunLog) (b now : RunLog) → o ≡ Some b → IsBoardOf s o → record { inputs = s; log = log_of o } ≡ now → b ≡ now
board-shown s o b now is own shown =
    ap (λ (x : Inputs). record { inputs = x; log = b.log }) (subst (IsBoardOf s) is own) ∙ ap (λ (x : Option RunLog). record { inputs = s; log = log_of x }) (sym is) ∙ shown

-- What is stored.

-- what a reference in an option points to is there if the reference is
pub copied-some : {T : Type 0} (o : Option (Bor T)) → is_some (option_copied o) ≡ is_some o
copied-some None = refl
copied-some (Some x) = refl

-- the state has an item's outcome exactly if it is stored
pub item-stored : (s : Inputs) (state : BoardState) (log : BoardLog) (item : ℕ) → KeepsLog s state log → item < count s → has_stored state item ≡ is_stored log item
item-stored s state log item k within = ap (λ (b : BoardState). has_stored b item) k.left ∙ stored-is s log item within

-- each item of a finished board is stored
pub all-stored : (s : Inputs) (log : BoardLog) → is_finished s log ≡ true → (item : ℕ) → item < count s → is_stored log item ≡ true
all-stored s log is item within =
    let here = AllPass-from_list_all (is_stored log) (places s) is item 0 (omega (arith, within, length-range_with_len 0 (count s))) in
    let first : 0 + item ≡ item = omega arith in
    subst (λ (n : ℕ). is_stored log n ≡ true) (get_or-range_with_len 0 (count s) item 0 within ∙ first) here

pub finished-some : (s : Inputs) (state : BoardState) (log : BoardLog) (item : ℕ) → KeepsLog s state log → is_finished s log ≡ true → item < count s → has_stored state item ≡ true
finished-some s state log item k done within = item-stored s state log item k within ∙ all-stored s log done item within
