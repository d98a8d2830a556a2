-- Who has which number, and what a longer log leaves unchanged.
use Rattle.std.proofs.Common.{◌≡◌, ℕ, zero, suc, ◌+◌, ◌<◌, ◌≤◌, ◌≢◌, List, [], ◌∷◌, ◌++◌, sym, refl, ap, ◌∙◌, arith, cond, eqb, true, false, append-nil, eq-eqb, ne_eqb}
use mathlib.Core.Logic.{dite}
use native.Mathlib.Decide.{ℕ_discrete}
use Rattle.std.proofs.lemmas.List.Elements.{filter-append}
use Rattle.mrp_turn.specs.declared.log.Entry.{Entry}
use Rattle.mrp_turn.specs.declared.views.Account.{Account}
use Rattle.mrp_turn.specs.Lists.{Each, total}
use Rattle.mrp_turn.specs.Log.{entries_by, AreFrom}
use Rattle.mrp_turn.specs.Rule.{account, blanks, is_named, IsTrueOf}
use Rattle.mrp_turn.proofs.Lists.{starts_more}

module _ {C R : Type 0} where
  pub is_named-self : (p : Account C R) (n : ℕ) → p.number ≡ n → is_named n p ≡ 1
  is_named-self p n e = ap (λ b. cond b 1 0) (eq-eqb p.number n e)

  pub is_named-other : (p : Account C R) (n : ℕ) → p.number ≢ n → is_named n p ≡ 0
  is_named-other p n e = ap (λ b. cond b 1 0) (ne_eqb p.number n e)

  pub apart : (p : Account C R) (n : ℕ) → is_named n p ≡ 0 → p.number ≢ n
  apart p n z e = let o : is_named n p ≡ 1 = is_named-self p n e in absurd (omega arith)

  pub unnamed : (seen mine : List (Entry C R)) (n : ℕ) → 1 ≤ n → is_named n (account 0 seen mine) ≡ 0
  unnamed seen mine n h = is_named-other (account 0 seen mine) n (λ (e : 0 ≡ n). absurd (omega arith))

  -- no number of the list is n
  pub notes_unnamed : (ps : List (Account C R)) (n : ℕ) → 1 ≤ n → Each (λ p. p.number ≡ 0) ps → total (is_named n) ps ≡ 0
  notes_unnamed [] n h k = refl
  notes_unnamed (p ∷ ps) n h k = let z : p.number ≡ 0 = k.0 in let o : is_named n p ≡ 0 = is_named-other p n (λ e. absurd (omega arith)) in let t : total (is_named n) ps ≡ 0 = notes_unnamed ps n h k.1 in omega arith

  -- what was called under n leaves no entry under another number
  pub others_none : (new : List (Entry C R)) (n k : ℕ) → Each (λ e. e.who ≡ n) new → k ≢ n → entries_by k new ≡ []
  others_none [] n k h ne = refl
  others_none (e ∷ es) n k h ne = let no : eqb e.who k ≡ false = ne_eqb e.who k (λ is. ne (sym is ∙ h.0)) in rw no (others_none es n k h.1 ne)

  pub own_all : (new : List (Entry C R)) (n : ℕ) → Each (λ e. e.who ≡ n) new → entries_by n new ≡ new
  own_all [] n h = refl
  own_all (e ∷ es) n h = let so : eqb e.who n ≡ true = eq-eqb e.who n h.0 in rw so (ap (λ l. e ∷ l) (own_all es n h.1))

  pub note_none : (log : List (Entry C R)) (seats : ℕ) → AreFrom seats log → entries_by 0 log ≡ []
  note_none [] seats h = refl
  note_none (e ∷ es) seats h = let l : 1 ≤ e.who = h.0.0 in let no : eqb e.who 0 ≡ false = ne_eqb e.who 0 (λ is. absurd (omega arith)) in rw no (note_none es seats h.1)

  pub IsTrueOf-more : (log new : List (Entry C R)) (n : ℕ) (p : Account C R) → Each (λ e. e.who ≡ n) new → p.number ≢ n → IsTrueOf log p → IsTrueOf (log ++ new) p
  IsTrueOf-more log new n p h ne f = (starts_more log new p.seen f.0, f.1 ∙ (sym (append-nil (entries_by p.number log)) ∙ (ap (λ l. entries_by p.number log ++ l) (sym (others_none new n p.number h ne)) ∙ sym (filter-append (λ e. eqb e.who p.number) log new))))

  pub all_true_more : (log new : List (Entry C R)) (n : ℕ) (ps : List (Account C R)) → Each (λ e. e.who ≡ n) new → total (is_named n) ps ≡ 0 → Each (IsTrueOf log) ps → Each (IsTrueOf (log ++ new)) ps
  all_true_more log new n [] h z f = tt
  all_true_more log new n (p ∷ ps) h z f = (IsTrueOf-more log new n p h (apart p n (omega arith)) f.0, all_true_more log new n ps h (omega arith) f.1)

module _ (C R : Type 0) where
  blank_other : (k n : ℕ) → k ≢ n → is_named n (account {C = C} {R = R} k [] []) ≡ 0
  blank_other k n ne = let p : Account C R = account k [] [] in is_named-other p n ne

  blank_self : (k n : ℕ) → k ≡ n → is_named n (account {C = C} {R = R} k [] []) ≡ 1
  blank_self k n e = let p : Account C R = account k [] [] in is_named-self p n e

  pub blanks_below : (k m n : ℕ) → n < k → total (is_named n) (blanks {C = C} {R = R} k m) ≡ 0
  blanks_below k zero n h = refl
  blanks_below k (suc m) n h = omega (arith, blank_other k n (λ (e : k ≡ n). absurd (omega arith)), blanks_below (suc k) m n (omega arith))

  pub blanks_above : (k m n : ℕ) → k + m ≤ n → total (is_named n) (blanks {C = C} {R = R} k m) ≡ 0
  blanks_above k zero n h = refl
  blanks_above k (suc m) n h = omega (arith, blank_other k n (λ (e : k ≡ n). absurd (omega arith)), blanks_above (suc k) m n (omega arith))

  pub blanks_once : (k m n : ℕ) → k ≤ n → n < k + m → total (is_named n) (blanks {C = C} {R = R} k m) ≡ 1
  blanks_once k zero n h l = absurd (omega arith)
  blanks_once k (suc m) n h l = dite (ℕ_discrete k n)
      (λ e. omega (arith, blank_self k n e, blanks_below (suc k) m n (omega arith)))
      (λ ne. omega (arith, blank_other k n ne, blanks_once (suc k) m n (omega arith) (omega arith)))

  pub blanks_true : (k m : ℕ) → Each (IsTrueOf []) (blanks {C = C} {R = R} k m)
  blanks_true k zero = tt
  blanks_true k (suc m) = ((([], refl), refl), blanks_true (suc k) m)
