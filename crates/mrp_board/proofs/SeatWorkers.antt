-- What holds of the entries of each seat holds of each worker's: a worker without a seat has no entry.
use Rattle.std.proofs.Common.{◌≡◌, ◌⊎◌, ◌<◌, ◌≤◌, ◌==◌, ℕ, Bool, false, cond, [], ◌∷◌, inl, inr, refl, sym, ap, subst, arith, ◌∙◌}
use Rattle.std.proofs.lemmas.Bool.{cases_lt}
use Rattle.std.proofs.lemmas.Bool.Decides.{nat_tests}
use Rattle.mrp_turn.specs.Log.{AreFrom, entries_by, entry}
use Rattle.mrp_item.specs.Inputs.{Inputs}
use Rattle.mrp_board.specs.declared.call.BoardCall.TheVariants as call
use Rattle.mrp_board.specs.declared.reply.BoardReply.TheVariants as reply
use Rattle.mrp_board.specs.Board.{BoardLog}
use Rattle.mrp_board.specs.Orderly.{IsComplete, IsCourse, IsOrderly}

outside : (i j n : ℕ) → 1 ≤ i → i ≤ n → (j < 1) ⊎ (n < j) → (i == j) ≡ false
outside i j n low high (inl below) = grind (arith, nat_tests)
outside i j n low high (inr above) = grind (arith, nat_tests)

none-by : (seats who : ℕ) (log : BoardLog) → AreFrom seats log → (who < 1) ⊎ (seats < who) → entries_by who log ≡ []
none-by seats who [] from out = refl
none-by seats who (e ∷ log) from out =
    ap (λ (b : Bool). cond b (e ∷ entries_by who log) (entries_by who log)) (outside e.who who seats from.0.0 from.0.1 out) ∙ none-by seats who log from.1 out

by-seats : (P : ℕ → BoardLog → Type 0) → ((who : ℕ) → P who []) → (seats : ℕ) (log : BoardLog) → AreFrom seats log → ((who : ℕ) → 1 ≤ who → who ≤ seats → P who (entries_by who log)) → (who : ℕ) → P who (entries_by who log)
by-seats P none seats log from each who = elim (cases_lt who 1) [
  | inl below ↦ subst (λ (l : BoardLog). P who l) (sym (none-by seats who log from (inl below))) (none who)
  | inr low ↦ elim (cases_lt seats who) [
    | inl above ↦ subst (λ (l : BoardLog). P who l) (sym (none-by seats who log from (inr above))) (none who)
    | inr high ↦ each who low high
  ]
]

course-none : (s : Inputs) (who : ℕ) → IsCourse s who []
course-none s who = record { items = []; last = entry who call.GiveUp reply.Stopped ∷ []; left = entry who call.GiveUp reply.Stopped ∷ []; ends = inr (inl refl); prefix = refl }

pub seats-orderly : (s : Inputs) (seats : ℕ) (log : BoardLog) → AreFrom seats log → ((who : ℕ) → 1 ≤ who → who ≤ seats → IsCourse s who (entries_by who log)) → IsOrderly s log
seats-orderly s seats log from each = by-seats (IsCourse s) (course-none s) seats log from each

pub seats-complete : (s : Inputs) (seats : ℕ) (log : BoardLog) → AreFrom seats log → ((who : ℕ) → 1 ≤ who → who ≤ seats → IsComplete s who (entries_by who log)) → (who : ℕ) → IsComplete s who (entries_by who log)
seats-complete s seats log from each = by-seats (IsComplete s) (λ who. inl refl) seats log from each
