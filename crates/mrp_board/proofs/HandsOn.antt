-- In a legal log each outcome that is stored is its item's, and each item that is handed out comes with its parents' outcomes.
use Rattle.std.proofs.Common.{◌≡◌, ◌∙◌, ◌||◌, ◌&&◌, ◌<◌, ℕ, Bool, true, false, not, if◌then◌else◌, List, [], ◌∷◌, ◌++◌, Option, Some, map, refl, sym, ap, subst, arith}
use Rattle.std.specs.Prelude.{filter_map, find}
use Rattle.std.specs.List.{cons_option, list_all}
use Rattle.mrp_turn.specs.Log.{entry}
use Rattle.mrp_turn.proofs.Logs.{EachFollows-front, InTurn, InTurn-from_Each}
use Rattle.mrp_bill.specs.Bill.{parents_of}
use Rattle.mrp_item.specs.Inputs.{Inputs, count, places}
use Rattle.mrp_item.specs.Made.{item_from, parents_from}
use Rattle.mrp_item.specs.Places.{ItemOf}
use Rattle.mrp_board.specs.declared.call.BoardCall.{BoardCall}
use Rattle.mrp_board.specs.declared.call.BoardCall.TheVariants as call
use Rattle.mrp_board.specs.declared.reply.BoardReply.{BoardReply}
use Rattle.mrp_board.specs.declared.reply.BoardReply.TheVariants as reply
use Rattle.mrp_board.specs.Board.{BoardLog, FitsInputs, HandsOn, IsLegalBoard, MayFollowOnBoard, board_reply, is_at_end, is_out, is_out_to, is_ready, is_stored, outcome_by, outcome_in, parents_in, stores}
use Rattle.mrp_board.proofs.BoardStates.{found-ready}
use Rattle.mrp_board.proofs.Tests.{and-first, and-second, equal, found-in, is-not, no}

module _ (s : Inputs) where
  own : (o : ItemOf) → o.inputs ≡ s → o ≡ item_from s o.item
  own o is = ap (λ (x : Inputs). record { inputs = x; item = o.item }) is

  -- every outcome of a log is for these inputs
  abbrev AreFor : BoardLog → Type 0
  AreFor [] = Unit {0}
  AreFor (e ∷ log) = FitsInputs s e.call × AreFor log

  are-for : (before log : BoardLog) → InTurn (MayFollowOnBoard s) before log → AreFor log
  are-for before [] legal = tt
  are-for before (e ∷ log) legal = (legal.0.2, are-for (before ++ e ∷ []) log legal.1)

  stores-own : (i : ℕ) (c : BoardCall) (r : BoardReply) → stores i c r ≡ true → FitsInputs s c → outcome_by c ≡ Some (item_from s i)
  stores-own i (call.Finish o) reply.Stored is fits = ap (λ (x : ItemOf). Some x) (own o fits ∙ ap (item_from s) (equal o.item i is))
  stores-own i c r is fits = no is

  stored-first : (i : ℕ) (b : Bool) (c : BoardCall) (r : BoardReply) (rest : Bool) (tail : Option ItemOf) → stores i c r ≡ b → FitsInputs s c → (b || rest) ≡ true → (rest ≡ true → tail ≡ Some (item_from s i))
      → (if b then outcome_by c else tail) ≡ Some (item_from s i)
  stored-first i true c r rest tail is fits any later = stores-own i c r is fits
  stored-first i false c r rest tail is fits any later = later any

  own-in : (log : BoardLog) (i : ℕ) → AreFor log → is_stored log i ≡ true → outcome_in log i ≡ Some (item_from s i)
  own-in [] i all is = no is
  own-in (e ∷ log) i all is = stored-first i (stores i e.call e.reply) e.call e.reply (is_stored log i) (outcome_in log i) refl all.0 is (own-in log i all.1)

  all-own : (log : BoardLog) (items : List ℕ) → AreFor log → list_all (is_stored log) items ≡ true → filter_map (outcome_in log) items ≡ map (item_from s) items
  all-own log [] all is = refl
  all-own log (i ∷ items) all is =
      ap (λ (o : Option ItemOf). cons_option o (filter_map (outcome_in log) items)) (own-in log i all (and-first (is_stored log i) (list_all (is_stored log) items) is))
      ∙ ap (λ (l : List ItemOf). item_from s i ∷ l) (all-own log items all (and-second (is_stored log i) (list_all (is_stored log) items) is))

  for-inputs : (log : BoardLog) → IsLegalBoard s log → AreFor log
  for-inputs log legal = are-for [] log (InTurn-from_Each (MayFollowOnBoard s) [] log legal)

  -- the stored outcome of an item is its own
  pub stored-own : (log : BoardLog) (i : ℕ) → IsLegalBoard s log → is_stored log i ≡ true → outcome_in log i ≡ Some (item_from s i)
  stored-own log i legal is = own-in log i (for-inputs log legal) is

  -- an item that a worker is told is within the table, was ready, and comes with its parents' outcomes
  pub record IsHanded (log : BoardLog) (item : ℕ) (parents : List ItemOf) : Type 0 where
    pub within : item < count s
    pub ready : is_ready s log item ≡ true
    pub given : parents ≡ parents_from s item

  pub handed-out : (log : BoardLog) (who item : ℕ) (parents : List ItemOf) → IsLegalBoard s log → board_reply s log who call.Take ≡ Some (reply.Item item parents) → IsHanded log item parents
  handed-out log who item parents legal is =
      let got = found-ready s log (is_at_end s log) (find (is_ready s log) (places s)) item parents is in
      let found = found-in (is_ready s log) 0 (count s) item got.0 in
      let same : reply.Item item (parents_in s log item) ≡ reply.Item item parents = got.1 in
      let list : parents_in s log item ≡ parents = cc in
      record {
        within = omega (arith, found.1);
        ready = found.0;
        given = sym list ∙ all-own log (parents_of s.tables.bills (count s) item) (for-inputs log legal)
            (and-second (not (is_out log item)) (list_all (is_stored log) (parents_of s.tables.bills (count s) item)) found.0);
      }

  -- an item that is handed out, as the log before it has it
  at-hand : (log before after : BoardLog) (who item : ℕ) (parents : List ItemOf) → IsLegalBoard s log → log ≡ before ++ entry who call.Take (reply.Item item parents) ∷ after → IsHanded before item parents
  at-hand log before after who item parents legal place =
      let e = entry who call.Take (reply.Item item parents) in
      handed-out before who item parents (EachFollows-front (MayFollowOnBoard s) before (e ∷ after) (subst (IsLegalBoard s) place legal)) (legal before e after place).1

  -- what is stored was handed out to the worker that stores it, and was not stored
  held-by : (log : BoardLog) (who : ℕ) (o : ItemOf) → board_reply s log who (call.Finish o) ≡ Some reply.Stored → (is_out_to who log o.item ≡ true) × (is_stored log o.item ≡ false)
  held-by log who o is = by (is_out_to who log o.item) (is_stored log o.item) is
    where
      by : (a b : Bool) → (if a && not b then Some reply.Stored else Some reply.NotOut) ≡ Some reply.Stored → (a ≡ true) × (b ≡ false)
      by true false e = (refl, refl)
      by true true e = absurd (let n : Some reply.NotOut ≡ Some reply.Stored = e in cc)
      by false b e = absurd (let n : Some reply.NotOut ≡ Some reply.Stored = e in cc)

  pub hands-on : (log : BoardLog) → IsLegalBoard s log → HandsOn s log
  hands-on log legal = record {
    once = λ before after who item parents place.
        let ready = (at-hand log before after who item parents legal place).ready in
        is-not (is_out before item) (and-first (not (is_out before item)) (list_all (is_stored before) (parents_of s.tables.bills (count s) item)) ready);
    fed = λ before after who item parents place.
        let ready = (at-hand log before after who item parents legal place).ready in
        and-second (not (is_out before item)) (list_all (is_stored before) (parents_of s.tables.bills (count s) item)) ready;
    given = λ before after who item parents place. (at-hand log before after who item parents legal place).given;
    new = λ before after who o place. (held-by before who o (legal before (entry who (call.Finish o) reply.Stored) after place).1).1;
    taken = λ before after who o place. (held-by before who o (legal before (entry who (call.Finish o) reply.Stored) after place).1).0;
    stored = λ before after who o place. own o (legal before (entry who (call.Finish o) reply.Stored) after place).2;
  }
