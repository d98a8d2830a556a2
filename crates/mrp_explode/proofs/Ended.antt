-- Workers that were all told that every item was handed out leave a finished board.
use Rattle.std.proofs.Common.{◌≡◌, ◌∙◌, ◌==◌, ◌+◌, ◌<◌, ◌≤◌, ℕ, Bool, true, false, cond, List, [], ◌∷◌, ◌++◌, All, Some, inr, ap, subst, arith, filter, length, slice_get}
use Rattle.std.proofs.lemmas.List.Elements.{All-contains}
use Rattle.std.proofs.lemmas.List.Sums.{AllPass-from_list_all}
use Rattle.std.proofs.lemmas.List.FromFn.{get_or-range_with_len, length-range_with_len}
use Rattle.mrp_turn.specs.Log.{LeadsTo, entries_by, entry}
use Rattle.mrp_turn.specs.Seen.{HasNumber, Seated, TurnId, newcomer}
use Rattle.mrp_turn.proofs.Lists.{Each-from_All}
use Rattle.mrp_item.specs.Inputs.{Inputs, count, places}
use Rattle.mrp_board.specs.declared.call.BoardCall.TheVariants as call
use Rattle.mrp_board.specs.declared.reply.BoardReply.TheVariants as reply
use Rattle.mrp_board.specs.declared.call.BoardCall.{BoardCall}
use Rattle.mrp_board.specs.declared.reply.BoardReply.{BoardReply}
use Rattle.mrp_board.specs.Board.{BoardEntry, BoardLog, is_stored}
use Rattle.mrp_board.specs.Orderly.{WorkedToEnd, finished_by}
use Rattle.mrp_board.specs.BoardState.{BoardState, has_stored}
use Rattle.mrp_explode.specs.Work.{IsDone, Worker}
use Rattle.mrp_explode.specs.Workers.{HaveFinished, HaveWorked, LeaveFinished}
use Rattle.mrp_explode.proofs.SideBySide.{all-numbers}
use Rattle.mrp_board.proofs.BoardStates.{stored-is}
use Rattle.mrp_board.specs.Object.{Answers, Opens}
use Rattle.mrp_board.proofs.Ends.{ends-finished}
use Rattle.mrp_board.proofs.LegalLogs.{logs-left, logs-legal}
use Rattle.mrp_board.proofs.SeatWorkers.{seats-complete}

-- the place of an entry that a test lets pass
among : (p : BoardEntry → Bool) (log xs ys : BoardLog) (e : BoardEntry) → filter p log ≡ xs ++ e ∷ ys → (before : BoardLog) × (after : BoardLog) × (log ≡ before ++ e ∷ after)
among p [] [] ys e is = absurd (let n : [] ≡ e ∷ ys = is in cc)
among p [] (x ∷ xs) ys e is = absurd (let n : [] ≡ x ∷ (xs ++ e ∷ ys) = is in cc)
among p (y ∷ log) xs ys e is = by (p y) xs is (λ zs. among p log zs ys e)
  where
    by : (b : Bool) (xs : BoardLog) → cond b (y ∷ filter p log) (filter p log) ≡ xs ++ e ∷ ys → ((zs : BoardLog) → filter p log ≡ zs ++ e ∷ ys → (before : BoardLog) × (after : BoardLog) × (log ≡ before ++ e ∷ after))
        → (before : BoardLog) × (after : BoardLog) × (y ∷ log ≡ before ++ e ∷ after)
    by true [] h later = let n : y ∷ filter p log ≡ e ∷ ys = h in ([], log, let same : y ≡ e = cc in ap (λ (x : BoardEntry). x ∷ log) same)
    by true (x ∷ xs) h later =
        let n : y ∷ filter p log ≡ x ∷ (xs ++ e ∷ ys) = h in
        let rest : filter p log ≡ xs ++ e ∷ ys = cc in
        let (before, after, at) = later xs rest in (y ∷ before, after, ap (λ (l : BoardLog). y ∷ l) at)
    by false xs h later = let (before, after, at) = later xs h in (y ∷ before, after, ap (λ (l : BoardLog). y ∷ l) at)

module _ (s : Inputs) {O : Type 0} where
  by-number : (workers : List (Seated O BoardCall BoardReply)) (log : BoardLog) (who : ℕ) → HasNumber workers who → All (λ w. IsDone s w.number w.mine) workers → All (λ w. w.mine ≡ entries_by w.number log) workers
      → IsDone s who (entries_by who log)
  by-number workers log who (w, here, is) done own =
      subst (λ (n : ℕ). IsDone s n (entries_by n log)) is
      (subst (IsDone s w.number) (All-contains (λ (x : Seated O BoardCall BoardReply). x.mine ≡ entries_by x.number log) workers w own here)
      (All-contains (λ (x : Seated O BoardCall BoardReply). IsDone s x.number x.mine) workers w done here))

  have-finished : (workers : List (Seated O BoardCall BoardReply)) (count : ℕ) (log : BoardLog) → ((n : ℕ) → 1 ≤ n → n ≤ count → HasNumber workers n)
      → All (λ w. IsDone s w.number w.mine) workers → All (λ w. w.mine ≡ entries_by w.number log) workers → All (λ e. (1 ≤ e.who) × (e.who ≤ count)) log → HaveFinished s count log
  have-finished workers count log numbers done own from = record {
    from = Each-from_All (λ (e : BoardEntry). (1 ≤ e.who) × (e.who ≤ count)) log from;
    each = λ who low high. by-number workers log who (numbers who low high) done own;
  }

came-to_end : (s : Inputs) (count : ℕ) (log : BoardLog) → 1 ≤ count → HaveFinished s count log → WorkedToEnd s log
came-to_end s count log some h =
    let first : IsDone s 1 (entries_by 1 log) = h.each 1 (omega arith) some in
    let at = among (λ (e : BoardEntry). e.who == 1) log (finished_by s 1 first.0) [] (entry 1 call.Take reply.AllOut) first.1 in
    record {
      before = at.0;
      who = 1;
      after = at.1;
      told_end = at.2;
      each = seats-complete s count log h.from (λ who low high. inr (h.each who low high));
    }

-- the state of a board that its workers left at the end has every outcome
pub all-stored : (s : Inputs) (seats : ℕ) (log : BoardLog) (b : BoardState) → LeaveFinished s seats b log → (i : ℕ) → i < count s → has_stored b i ≡ true
all-stored s seats log b left i within =
    let first : 0 + i ≡ i = omega arith in
    ap (λ (x : BoardState). has_stored x i) left.state
    ∙ stored-is s log i within
    ∙ subst (λ (k : ℕ). is_stored log k ≡ true) (get_or-range_with_len 0 (count s) i 0 within ∙ first)
    (AllPass-from_list_all (is_stored log) (places s) (ends-finished s log left.legal left.ended) i 0 (omega (arith, within, length-range_with_len 0 (count s))))

-- what the workers of a new board leave after their work
pub leave-finished : (s : Inputs) (board : TurnId Inputs) (old new : List Worker) (seats : ℕ) (log : BoardLog) (b : BoardState) → board.about.object ≡ s → board.about.seats ≡ seats → 1 ≤ seats → length old ≡ seats
    → ((k : ℕ) → k < seats → slice_get old k ≡ Some (newcomer board (k + 1))) → HaveWorked board old new → All (λ w. w.mine ≡ entries_by w.number log) new
    → All (λ e. (1 ≤ e.who) × (e.who ≤ board.about.seats)) log → LeadsTo (Answers board.about.object) (Opens board.about.object) log b → LeaveFinished s seats b log
leave-finished s board old new seats log b object are some size made worked own from leads =
    let at : LeadsTo (Answers s) (Opens s) log b = subst (λ (x : Inputs). LeadsTo (Answers x) (Opens x) log b) object leads in
    let done : All (λ (w : Worker). IsDone s w.number w.mine) new = subst (λ (x : Inputs). All (λ (w : Worker). IsDone x w.number w.mine) new) object worked.done in
    let within : All (λ (e : BoardEntry). (1 ≤ e.who) × (e.who ≤ seats)) log = subst (λ (n : ℕ). All (λ (e : BoardEntry). (1 ≤ e.who) × (e.who ≤ n)) log) are from in
    let finished : HaveFinished s seats log = have-finished s new seats log (all-numbers board old new seats size made worked) done own within in
    record {
      legal = logs-legal s log (b, at);
      state = logs-left s log b at;
      workers_are = finished;
      ended = came-to_end s seats log some finished;
    }
