-- What a seat knows once it has taken the slot, and once it has given it back.
use Rattle.std.proofs.Common.{◌≡◌, ℕ, ◌≢◌, List, [], ◌∷◌, Option, Some, None, MatchOption, sym, ap, ◌∙◌, subst}
use Rattle.atomic_table.specs.Table.{Me, rest}
use Rattle.mrp_turn.specs.declared.views.View.{View}
use Rattle.mrp_turn.specs.declared.log.Held.{Held}
use Rattle.mrp_turn.specs.declared.views.About.{About}
use Rattle.mrp_turn.specs.declared.views.LiveSeat.{LiveSeat}
use Rattle.mrp_turn.specs.Rule.{live}
use Rattle.mrp_turn.specs.Steps.{Won, TookFrom, Opens, IsIdle, Taken, Lost}

module _ {O S C R : Type 0} (opens : O → S → Type 0) (answers : O → S → ℕ → C → R → S → Type 0) where
  abbrev Home : Type 0
  Home = Option (Held S C R)

  abbrev M : Type 0
  M = Me Home (View O C R)

  abbrev first_or : List (ℕ × Home) → Home
  first_or [] = None
  first_or (x ∷ xs) = x.1

  pub told : (m n : M) (found : ℕ) → TookFrom opens answers m.0 m.1 found n → (s : LiveSeat O C R) → m ≡ (live s, []) → TookFrom opens answers (live s) [] found n
  told m n found h s e = subst (λ (x : M). TookFrom opens answers x.0 x.1 found n) e h

  pub lost : (key : About O) (m n : M) (found : ℕ) → TookFrom opens answers m.0 m.1 found n → found ≢ 0 → IsIdle key m → Lost opens answers m n
  lost key m n found h ne idle = (((told m n found h idle.seat idle.is).1 ne).0 ∙ sym idle.is, λ s e. ((told m n found h s e).1 ne).1)

  pub won : (m n : M) (found : ℕ) → TookFrom opens answers m.0 m.1 found n → found ≡ 0 → (s : LiveSeat O C R) → m ≡ (live s, []) → Won opens answers s [] n
  won m n found h z s e = (told m n found h s e).0 z

  pub takes_out : (key : About O) (m n n' : M) (result : Home) → ((s : LiveSeat O C R) → m ≡ (live s, []) → Won opens answers s [] n) → IsIdle key m
      → n.1 ≡ (0, result) ∷ rest n.1 → n' ≡ (n.0, (0, None) ∷ rest n.1) → MatchOption result (Lost opens answers m n') (λ held. Taken opens answers m held n')
  takes_out key m n n' None w idle e e' = let h = w idle.seat idle.is in let f : Some h.0 ≡ None = sym (ap (λ (x : M). first_or x.1) h.2) ∙ ap first_or e in cc
  takes_out key m n n' (Some held) w idle e e' = λ s is. let h = w s is in
      let f : Some h.0 ≡ Some held = sym (ap (λ (x : M). first_or x.1) h.2) ∙ ap first_or e in
      let same : h.0 ≡ held = cc in
      (h.1, e' ∙ ap (λ (x : M). (x.0, (0, None) ∷ rest x.1)) h.2, subst (λ (x : Held S C R). Opens opens answers s x h.1) same h.3)

  pub holds_one : (s : LiveSeat O C R) (n : M) → Won opens answers s [] n → (x : Home) × (n.1 ≡ (0, x) ∷ rest n.1)
  holds_one s n w = (Some w.0, ap (λ (x : M). x.1) w.2 ∙ ap (λ (x : M). (0, Some w.0) ∷ rest x.1) (sym w.2))
