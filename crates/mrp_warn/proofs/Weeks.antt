-- Weeks without a shop day, week by week.
use Rattle.std.proofs.Common.{◌≡◌, ◌∙◌, ℕ, ◌+◌, false, List, [], ◌∷◌, ◌++◌, append-nil, ap, arith, refl, subst, sym}
use Rattle.std.specs.Prelude.{◌==◌, filter}
use Rattle.std.specs.List.{range_with_len}
use Rattle.std.proofs.lemmas.List.{map-id}
use Rattle.std.proofs.lemmas.List.Elements.{filter-append}
use Rattle.std.proofs.lemmas.List.FromFn.{map-range_with_len_more}
use Rattle.mrp_cal.specs.Calendar.{ShopCalendar}
use Rattle.mrp_cal.specs.ShopDays.{shop_days_in}
use Rattle.mrp_script.proofs.Zipped.{zip-push}
use Rattle.mrp_warn.specs.Calendar.{AreOfWeeks, IsOfWeek, closed_weeks}
use Rattle.mrp_warn.specs.declared.oddity.Warning.{Warning}

range-more : (n : ℕ) → range_with_len 1 (n + 1) ≡ range_with_len 1 n ++ (n + 1) ∷ []
range-more n = sym (map-id (range_with_len 1 (n + 1))) ∙ map-range_with_len_more (λ (x : ℕ). x) 1 n (n + 1) (omega arith) ∙ ap (λ (xs : List ℕ). xs ++ (n + 1) ∷ []) (map-id (range_with_len 1 n))

closed-more : (c : ShopCalendar) (n : ℕ) → closed_weeks c (n + 1) ≡ closed_weeks c n ++ filter (λ week. shop_days_in c week == 0) ((n + 1) ∷ [])
closed-more c n = ap (filter (λ week. shop_days_in c week == 0)) (range-more n) ∙ filter-append (λ week. shop_days_in c week == 0) (range_with_len 1 n) ((n + 1) ∷ [])

-- one more week, without a shop day
pub weeks-closed : (c : ShopCalendar) (place n : ℕ) (ws : List Warning) (w : Warning) → AreOfWeeks c place (closed_weeks c n) ws → shop_days_in c (n + 1) ≡ 0 → IsOfWeek c place (n + 1) w
    → AreOfWeeks c place (closed_weeks c (n + 1)) (ws ++ w ∷ [])
weeks-closed c place n ws w are none is =
    subst (λ (weeks : List ℕ). AreOfWeeks c place weeks (ws ++ w ∷ [])) (sym (closed-more c n ∙ rw none refl))
    (zip-push (IsOfWeek c place) (closed_weeks c n) ws (n + 1) w are is)

-- and one with shop days
pub weeks-open : (c : ShopCalendar) (place n : ℕ) (ws : List Warning) → AreOfWeeks c place (closed_weeks c n) ws → (shop_days_in c (n + 1) == 0) ≡ false → AreOfWeeks c place (closed_weeks c (n + 1)) ws
weeks-open c place n ws are some =
    subst (λ (weeks : List ℕ). AreOfWeeks c place weeks ws) (sym (closed-more c n ∙ rw some (append-nil (closed_weeks c n)))) are
