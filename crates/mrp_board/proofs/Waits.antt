-- A worker has to come again exactly if items are left, none of them is ready, and nobody gave up.
use Rattle.std.proofs.Common.{◌≡◌, ◌∙◌, ◌↔◌, ◌<◌, ◌≤◌, ◌+◌, ℕ, zero, suc, Bool, true, false, cond, if◌then◌else◌, Option, Some, None, inl, inr, refl, ap, arith}
use Rattle.std.proofs.lemmas.Bool.{cases_eq}
use Rattle.std.specs.Prelude.{find, option_map}
use Rattle.std.specs.List.{range_with_len}
use Rattle.mrp_item.specs.Inputs.{Inputs, count, places}
use Rattle.mrp_board.specs.declared.call.BoardCall.TheVariants as call
use Rattle.mrp_board.specs.declared.reply.BoardReply.TheVariants as reply
use Rattle.mrp_board.specs.Board.{BoardLog, board_reply, handed, is_at_end, is_ready}

-- what is not found fails the test
not-found : (p : ℕ → Bool) (a n i : ℕ) → find p (range_with_len a n) ≡ None → a ≤ i → i < a + n → p i ≡ false
not-found p a zero i none low high = absurd (omega (arith, low, high))
not-found p a (suc n) i none low high = by (p a) refl none (not-found p (a + 1) n i)
  where
    by : (b : Bool) → p a ≡ b → cond b (Some a) (find p (range_with_len (a + 1) n)) ≡ None → (find p (range_with_len (a + 1) n) ≡ None → a + 1 ≤ i → i < a + 1 + n → p i ≡ false) → p i ≡ false
    by true is e later = absurd (let n : Some a ≡ None = e in cc)
    by false is e later = elim (cases_eq i a) [
      | inl same ↦ ap p same ∙ is
      | inr other ↦ later e (omega (arith, low, other)) (omega (arith, high))
    ]

-- and nothing is found where everything fails it
none-found : (p : ℕ → Bool) (a n : ℕ) → ((i : ℕ) → a ≤ i → i < a + n → p i ≡ false) → find p (range_with_len a n) ≡ None
none-found p a zero none = refl
none-found p a (suc n) none =
    ap (λ (b : Bool). cond b (Some a) (find p (range_with_len (a + 1) n))) (none a (omega arith) (omega arith))
    ∙ none-found p (a + 1) n (λ i low high. none i (omega (arith, low)) (omega (arith, high)))

module _ (s : Inputs) (log : BoardLog) where
  told-none : (b : Bool) (o : Option ℕ) → (if b then Some reply.AllOut else option_map (handed s log) o) ≡ None → (b ≡ false) × (o ≡ None)
  told-none true o e = absurd (let n : Some reply.AllOut ≡ None = e in cc)
  told-none false None e = (refl, refl)
  told-none false (Some i) e = absurd (let n : Some (handed s log i) ≡ None = e in cc)

  none-told : (b : Bool) (o : Option ℕ) → b ≡ false → o ≡ None → (if b then Some reply.AllOut else option_map (handed s log) o) ≡ None
  none-told true o left none = absurd (let n : true ≡ false = left in cc)
  none-told false None left none = refl
  none-told false (Some i) left none = absurd (let n : Some i ≡ None = none in cc)

  pub can-not-take : (who : ℕ) → (board_reply s log who call.Take ≡ None) ↔ ((is_at_end s log ≡ false) × ((item : ℕ) → item < count s → is_ready s log item ≡ false))
  can-not-take who = (
    λ waits.
        let told = told-none (is_at_end s log) (find (is_ready s log) (places s)) waits in
        (told.0, λ item within. not-found (is_ready s log) 0 (count s) item told.1 (omega arith) (omega (arith, within))),
    λ left. none-told (is_at_end s log) (find (is_ready s log) (places s)) left.0 (none-found (is_ready s log) 0 (count s) (λ item low high. left.1 item (omega (arith, high)))),
  )
