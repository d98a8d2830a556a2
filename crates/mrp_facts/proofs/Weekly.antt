-- The dates of weeks, one week at a time.
use Rattle.std.proofs.Common.{◌≡◌, ◌∙◌, ◌⊎◌, ◌+◌, ◌-◌, ◌≤◌, ◌<◌, ℕ, List, [], ◌∷◌, ◌++◌, get_or, length, ap, refl, subst, sym, arith, inl, inr}
use Rattle.std.specs.Int.{IsInRange}
use Rattle.std.proofs.lemmas.Bool.{cases_lt, ne_eqb}
use Rattle.std.proofs.Math.ListN.{get_or-append}
use Rattle.std.proofs.Math.Seq.{get_or-append_seam}
use Rattle.mrp_cal.specs.Calendar.{ShopCalendar}
use Rattle.mrp_facts.specs.Dates.{IsDateOf, in_week}

-- the text of a week
pub in_week-is : (texts : List (List ℕ)) (week : ℕ) → 1 ≤ week → in_week texts week ≡ get_or texts (week - 1) []
in_week-is texts week some = rw (ne_eqb week 0 (λ e. omega (arith, some, e))) refl

-- the texts of the weeks so far, and that of the next
pub dated-more : (c : ShopCalendar) (texts : List (List ℕ)) (text : List ℕ) (weeks : ℕ) → length texts ≡ weeks
    → ((week : ℕ) → IsInRange 1 weeks week → IsDateOf c week (in_week texts week)) → IsDateOf c (weeks + 1) text
    → (week : ℕ) → IsInRange 1 (weeks + 1) week → IsDateOf c week (in_week (texts ++ text ∷ []) week)
dated-more c texts text weeks size before here week range = by (cases_lt weeks week)
  where
    by : (weeks < week) ⊎ (week ≤ weeks) → IsDateOf c week (in_week (texts ++ text ∷ []) week)
    by (inl last) =
        let next : week ≡ weeks + 1 = omega (arith, last, range.1) in
        let place : week - 1 ≡ length texts = omega (arith, next, size) in
        let seam : in_week (texts ++ text ∷ []) week ≡ text = in_week-is (texts ++ text ∷ []) week range.0 ∙ ap (λ (k : ℕ). get_or (texts ++ text ∷ []) k []) place ∙ get_or-append_seam texts text [] [] in
        subst (IsDateOf c week) (sym seam) (subst (λ (w : ℕ). IsDateOf c w text) (sym next) here)
    by (inr earlier) =
        subst (IsDateOf c week) (in_week-is texts week range.0 ∙ sym (get_or-append texts (text ∷ []) [] (week - 1) (omega (arith, earlier, range.0, size))) ∙ sym (in_week-is (texts ++ text ∷ []) week range.0)) (before week (range.0, earlier))
