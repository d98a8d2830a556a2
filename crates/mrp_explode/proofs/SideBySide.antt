-- Workers that work at the same time.
use Rattle.std.proofs.Common.{◌≡◌, ◌∙◌, ◌<◌, ◌+◌, ◌≤◌, ℕ, List, All, length, get_or, map, Some, Result, Ok, Err, sym, ap, subst, arith, slice_get}
use Rattle.std.specs.Prelude.{IfOk}
use Rattle.std.proofs.lemmas.List.{get_or-map, length-map}
use Rattle.mrp_turn.specs.Seen.{HasNumber, TurnId, newcomer}
use Rattle.mrp_turn.proofs.Callers.{in_order, read_at}
use Rattle.mrp_item.specs.Inputs.{Inputs}
use Rattle.mrp_board.specs.Orderly.{IsCourse}
use Rattle.mrp_explode.specs.declared.workers.Worked.{Worked}
use Rattle.mrp_explode.specs.Work.{IsDone, Worker}
use Rattle.mrp_explode.specs.Workers.{HasWorked, HaveWorked, IsNew, done_by}

module _ (board : TurnId Inputs) (old : List Worker) (all : List Worked) where
  -- what each worker leaves, if none was refused memory
  have-worked : (new : List Worker) → length all ≡ length old → ((k : ℕ) (w : Worker) (d : Worked) → k < length old → HasWorked board (get_or old k w) (get_or all k d)) → all ≡ map done_by new → HaveWorked board old new
  have-worked new size each is = record {
    count = count;
    numbers = λ k d h. (at k d h).number;
    boards = λ k d h. (at k d (low k h)).board_is;
    orderly = λ k d h.
        let w = at k d (low k h) in
        subst (λ (n : ℕ). IsCourse board.about.object n (get_or new k d).mine) (sym w.number) w.orderly;
    done = λ k d h.
        let w = at k d (low k h) in
        subst (λ (n : ℕ). IsDone board.about.object n (get_or new k d).mine) (sym w.number) w.done;
  }
    where
      count : length new ≡ length old
      count = sym (length-map new done_by) ∙ ap length (sym is) ∙ size

      low : (k : ℕ) → k < length new → k < length old
      low k h = omega (arith, h, count)

      at : (k : ℕ) (d : Worker) → k < length old → HasWorked board (get_or old k d) (done_by (get_or new k d))
      at k d h =
          subst (HasWorked board (get_or old k d)) (ap (λ (l : List Worked). get_or l k (done_by d)) is ∙ get_or-map done_by new k d (done_by d) (omega (arith, h, count))) (each k d (done_by d) h)

  pub worked-if : {V E : Type 0} (r : Result V E) (items : V → List Worker) → length all ≡ length old → ((k : ℕ) (w : Worker) (d : Worked) → k < length old → HasWorked board (get_or old k w) (get_or all k d))
      → IfOk r (λ v. all ≡ map done_by (items v)) → IfOk r (λ v. HaveWorked board old (items v))
  worked-if (Ok v) items size each is = have-worked (items v) size each is
  worked-if (Err e) items size each is = tt

-- the workers of a new board are new
pub made-new : (board : TurnId Inputs) (workers : List Worker) (count : ℕ) → length workers ≡ count → ((k : ℕ) → k < count → slice_get workers k ≡ Some (newcomer board (k + 1))) → All (IsNew board) workers
made-new board workers count size made k d h =
    let is = read_at workers k (newcomer board (k + 1)) d (made k (omega (arith, h, size))) in (ap (λ (w : Worker). w.turn) is, ap (λ (w : Worker). w.mine) is)

-- and after their work they have all numbers
pub all-numbers : (board : TurnId Inputs) (old new : List Worker) (count : ℕ) → length old ≡ count → ((k : ℕ) → k < count → slice_get old k ≡ Some (newcomer board (k + 1))) → HaveWorked board old new
    → (n : ℕ) → 1 ≤ n → n ≤ count → HasNumber new n
all-numbers board old new count size made worked =
    in_order new count (worked.count ∙ size) (λ k d h. worked.numbers k d (omega (arith, h, size)) ∙ ap (λ (w : Worker). w.number) (read_at old k (newcomer board (k + 1)) d (made k h)))
