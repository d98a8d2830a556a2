-- A board without an entry hands out an item, if there is one: no item needs itself, so one has no parents.
use Rattle.std.proofs.Common.{◌≡◌, ◌≢◌, ◌⊎◌, ◌∙◌, ◌<◌, ◌≤◌, ◌+◌, ℕ, zero, suc, Bool, true, false, cond, if◌then◌else◌, List, [], ◌∷◌, Option, Some, None, inl, inr, refl, sym, ap, subst, arith}
use Rattle.std.proofs.lemmas.Bool.{cases_lt, cases_order}
use Rattle.std.specs.Prelude.{filter, find, option_map, slice_index}
use Rattle.std.specs.List.{list_all, range_with_len}
use Rattle.mrp_bill.specs.Bill.{IsParent, is_parent, parents_of}
use Rattle.mrp_bill.specs.Shop.{IsShop, Shop}
use Rattle.mrp_item.specs.Inputs.{Inputs, count, places}
use Rattle.mrp_board.specs.declared.call.BoardCall.TheVariants as call
use Rattle.mrp_board.specs.declared.reply.BoardReply.TheVariants as reply
use Rattle.mrp_board.specs.Board.{board_reply, handed, is_at_end, is_out, is_ready, is_stored}

-- the first of the numbers that pass a test passes it
first-passes : (test : ℕ → Bool) (a n p : ℕ) (rest : List ℕ) → filter test (range_with_len a n) ≡ p ∷ rest → (test p ≡ true) × (p < a + n)
first-passes test a zero p rest e = absurd (let k : [] ≡ p ∷ rest = e in cc)
first-passes test a (suc n) p rest e = by (test a) refl (first-passes test (a + 1) n p rest) e
  where
    by : (b : Bool) → test a ≡ b → (filter test (range_with_len (a + 1) n) ≡ p ∷ rest → (test p ≡ true) × (p < a + 1 + n))
        → cond b (a ∷ filter test (range_with_len (a + 1) n)) (filter test (range_with_len (a + 1) n)) ≡ p ∷ rest → (test p ≡ true) × (p < a + suc n)
    by true is later k = let same : a ≡ p = cc in (subst (λ (i : ℕ). test i ≡ true) same is, omega (arith, same))
    by false is later k = let found = later k in (found.0, omega (arith, found.1))

-- a test that a number passes finds one
finds : (test : ℕ → Bool) (a n i : ℕ) → a < i + 1 → i < a + n → test i ≡ true → find test (range_with_len a n) ≢ None
finds test a zero i low high is none = absurd (omega (arith, low, high))
finds test a (suc n) i low high is none = by (test a) refl (λ above. finds test (a + 1) n i above (omega (arith, high)) is) none
  where
    later : (i ≡ a) ⊎ ((i < a) ⊎ (a < i)) → test a ≡ false → a + 1 < i + 1
    later (inl same) e = absurd (let n : true ≡ false = sym is ∙ ap test same ∙ e in cc)
    later (inr (inl below)) e = absurd (omega (arith, low, below))
    later (inr (inr above)) e = omega (arith, above)

    by : (b : Bool) → test a ≡ b → (a + 1 < i + 1 → find test (range_with_len (a + 1) n) ≢ None) → cond b (Some a) (find test (range_with_len (a + 1) n)) ≡ None → ⊥
    by true e others k = let n : Some a ≡ None = k in cc
    by false e others k = others (later (cases_order i a) e) k

module _ (s : Inputs) (code : ℕ → ℕ) (rises : (p i : ℕ) → IsParent s.tables.bills p i → code p < code i) where
  abbrev parents : ℕ → List ℕ
  parents i = parents_of s.tables.bills (count s) i

  -- from each item a way leads up to one without parents
  top : (most i : ℕ) → i < count s → code i ≤ most → (j : ℕ) × (j < count s) × (parents j ≡ [])
  top zero i within low = by (parents i) refl
    where
      by : (l : List ℕ) → parents i ≡ l → (j : ℕ) × (j < count s) × (parents j ≡ [])
      by [] e = (i, within, e)
      by (p ∷ rest) e = absurd (omega (arith, low, rises p i (first-passes (λ q. is_parent s.tables.bills q i) 0 (count s) p rest e).0))
  top (suc most) i within low = by (parents i) refl (top most)
    where
      by : (l : List ℕ) → parents i ≡ l → ((p : ℕ) → p < count s → code p ≤ most → (j : ℕ) × (j < count s) × (parents j ≡ [])) → (j : ℕ) × (j < count s) × (parents j ≡ [])
      by [] e above = (i, within, e)
      by (p ∷ rest) e above =
          let k = first-passes (λ q. is_parent s.tables.bills q i) 0 (count s) p rest e in
          above p (omega (arith, k.1)) (omega (arith, low, rises p i k.0))

  is-ready : (j : ℕ) → parents j ≡ [] → is_ready s [] j ≡ true
  is-ready j none = ap (λ (l : List ℕ). list_all (is_stored []) l) none

  some-item : 0 < count s → find (is_ready s []) (places s) ≢ None
  some-item any =
      let t = top (code 0) 0 any (omega arith) in
      finds (is_ready s []) 0 (count s) t.0 (omega arith) (omega (arith, t.1)) (is-ready t.0 t.2)

  no-items : (n : ℕ) → n ≡ 0 → list_all (is_out []) (range_with_len 0 n) ≡ true
  no-items zero e = refl
  no-items (suc n) e = absurd (omega (arith, e))

  -- a worker that takes first never has to come again
  told-now : (who : ℕ) → board_reply s [] who call.Take ≢ None
  told-now who none = by (is_at_end s []) (find (is_ready s []) (places s)) refl refl none
    where
      by : (b : Bool) (o : Option ℕ) → is_at_end s [] ≡ b → find (is_ready s []) (places s) ≡ o → (if b then Some reply.AllOut else option_map (handed s []) o) ≡ None → ⊥
      by true o e f k = let n : Some reply.AllOut ≡ None = k in cc
      by false (Some i) e f k = let n : Some (handed s [] i) ≡ None = k in cc
      by false None e f k = elim (cases_lt 0 (count s)) [
        | inl any ↦ some-item any f
        | inr few ↦ let n : true ≡ false = sym (no-items (count s) (omega (arith, few))) ∙ e in cc
      ]

pub first-told : (s : Inputs) (shop : Shop) → s.tables ≡ shop.tables → IsShop shop → (who : ℕ) → board_reply s [] who call.Take ≢ None
first-told s shop same kept who = told-now s (slice_index shop.codes) (λ p i h. kept.codes.rises p i (rw (sym same) h)) who
