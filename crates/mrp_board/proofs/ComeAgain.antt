-- A worker that has to come again waits for an item that is out, and not stored.
use Rattle.std.proofs.Common.{◌≡◌, ◌∙◌, ◌<◌, ◌||◌, ◌&&◌, ℕ, zero, suc, Bool, true, false, not, List, [], ◌∷◌, None, length, get_or, refl, sym, ap, arith}
use Rattle.std.proofs.lemmas.List.Elements.{filter_passes}
use Rattle.std.proofs.lemmas.List.FromFn.{get_or-range_with_len, length-range_with_len}
use Rattle.std.specs.List.{list_all, range_with_len}
use Rattle.mrp_bill.specs.Bill.{is_parent, parents_of}
use Rattle.mrp_bill.proofs.Listed.{filter-range-below}
use Rattle.mrp_item.specs.Inputs.{Inputs, count, places}
use Rattle.mrp_item.specs.Plan.{IsRanked}
use Rattle.mrp_board.specs.declared.call.BoardCall.TheVariants as call
use Rattle.mrp_board.specs.Board.{BoardLog, IsUnderWay, board_reply, has_stopped, is_out, is_ready, is_stored}
use Rattle.mrp_board.proofs.Waits.{can-not-take}

-- where a test fails
failing : (p : ℕ → Bool) (items : List ℕ) → list_all p items ≡ false → (k : ℕ) × (k < length items) × (p (get_or items k 0) ≡ false)
failing p [] fails = absurd (let n : true ≡ false = fails in cc)
failing p (i ∷ items) fails = by (p i) refl fails (failing p items)
  where
    by : (b : Bool) → p i ≡ b → (b && list_all p items) ≡ false → (list_all p items ≡ false → (k : ℕ) × (k < length items) × (p (get_or items k 0) ≡ false)) → (k : ℕ) × (k < length (i ∷ items)) × (p (get_or (i ∷ items) k 0) ≡ false)
    by true is rest later = let f = later rest in (suc f.0, omega (arith, f.1), f.2)
    by false is rest later = (0, omega arith, is)

neither : (a b : Bool) → (a || b) ≡ false → b ≡ false
neither true b e = absurd (let n : true ≡ false = e in cc)
neither false b e = e

module _ (s : Inputs) (code : ℕ → ℕ) (log : BoardLog) (ranked : IsRanked s code) (unready : (item : ℕ) → item < count s → is_ready s log item ≡ false) where
  -- from an item that is left up to one that is under way
  climb : (n i : ℕ) → code i < n → i < count s → is_out log i ≡ false → (item : ℕ) × (item < count s) × IsUnderWay log item
  climb zero i low within left = absurd (omega (arith, low))
  climb (suc n) i low within left =
      let parents = parents_of s.tables.bills (count s) i in
      let waits : list_all (is_stored log) parents ≡ false = ap (λ (b : Bool). not b && list_all (is_stored log) parents) (sym left) ∙ unready i within in
      let f = failing (is_stored log) parents waits in
      let p = get_or parents f.0 0 in
      let below : p < count s = filter-range-below (λ q. is_parent s.tables.bills q i) (count s) f.0 0 f.1 in
      let link : is_parent s.tables.bills p i ≡ true = filter_passes (λ q. is_parent s.tables.bills q i) (range_with_len 0 (count s)) f.0 0 f.1 in
      let lower : code p < n = omega (arith, low, ranked.rises p i link) in
      by p below f.2 (climb n p lower below) (is_out log p) refl
    where
      by : (p : ℕ) → p < count s → is_stored log p ≡ false → (is_out log p ≡ false → (item : ℕ) × (item < count s) × IsUnderWay log item) → (b : Bool) → is_out log p ≡ b → (item : ℕ) × (item < count s) × IsUnderWay log item
      by p below unstored higher true out = (p, below, (out, unstored))
      by p below unstored higher false out = higher out

pub come-again : (s : Inputs) (code : ℕ → ℕ) (log : BoardLog) (who : ℕ) → IsRanked s code → board_reply s log who call.Take ≡ None → (item : ℕ) × (item < count s) × IsUnderWay log item
come-again s code log who ranked waits =
    let told = (can-not-take s log who).0 waits in
    let f = failing (is_out log) (places s) (neither (has_stopped log) (list_all (is_out log) (places s)) told.0) in
    let within : f.0 < count s = omega (arith, f.1, length-range_with_len 0 (count s)) in
    let place : get_or (places s) f.0 0 ≡ f.0 = get_or-range_with_len 0 (count s) f.0 0 within ∙ omega arith in
    climb s code log ranked told.1 (suc (code f.0)) f.0 (omega arith) within (ap (is_out log) (sym place) ∙ f.2)
