-- The work centres that are over their capacity, each once, the most first.
use Rattle.std.proofs.Common.{◌≡◌, ◌∙◌, ◌+◌, ◌-◌, ◌*◌, ◌^◌, ◌<◌, ◌≤◌, ◌⊎◌, ℕ, Option, List, [], ◌∷◌, ◌++◌, decimal, get_or, length, map, min, refl, sym, ap, take, arith, inl, inr}
use Rattle.std.specs.Prelude.{IsPermutation, count_by, sum_by}
use Rattle.std.specs.List.{filter, flat_map, fold}
use Rattle.std.specs.List.Sorted.{IsNonDecreasingBy}
use Rattle.std.proofs.lemmas.Bool.{cases_lt, eq-eqb, ne_eqb}
use Rattle.std.proofs.lemmas.List.Sums.{length-filter, sum_by-cons}
use Rattle.std.proofs.Math.Nat.{div-le_self, div-mul-le_self, lt-mul-div-succ}
use Rattle.mrp_page.specs.Amounts.{amount}
use Rattle.mrp_page.specs.layout.Glance.{overloaded_line, overloaded_open}
use Rattle.mrp_page.specs.layout.Lists.{section_end}
use Rattle.mrp_page.specs.Overloaded.{falling_rate, first_share, most_overloaded, name_of, overloaded, overloaded_first, overloaded_html, overloaded_row, rate, rate_of, total, with_time, worst_week}
use Rattle.mrp_page.specs.Pictured.{centre_frame, picture_html}
use Rattle.mrp_page.specs.Row.{RowView, cell_at}
use Rattle.mrp_page.specs.Shares.{falling_share, share_row}
use Rattle.mrp_page.specs.Sorted.{sorted_by}
use Rattle.mrp_page.specs.Summary.{is_over, overloads}
use Rattle.mrp_page.specs.Template.{dated_html}
use Rattle.mrp_facts.specs.Facts.{Facts}
use Rattle.mrp_page.specs.declared.limits.TheConstants.{MOST_AMOUNT, RATE_UNIT}
use Rattle.mrp_page.proofs.ByKey.{sorted-non-decreasing, sorted-permutes}

pub once : (loads : List RowView) → IsPermutation (overloaded loads) (overloaded_first loads)
once loads = sorted-permutes falling_rate (overloaded loads)

pub falls : (loads : List RowView) → IsNonDecreasingBy falling_rate (overloaded_first loads)
falls loads = sorted-non-decreasing falling_rate (overloaded loads)

-- a sum that is capped at each step is the sum, capped
capped : (column : ℕ) (rows : List RowView) (n : ℕ) → n ≤ MOST_AMOUNT → fold (with_time column) n rows ≡ min (n + sum_by (λ r. amount (cell_at r column)) rows) MOST_AMOUNT
capped column [] n small = omega (arith, small)
capped column (row ∷ rows) n small =
    capped column rows (with_time column n row) (omega arith) ∙ omega (arith, sum_by-cons (λ (r : RowView). amount (cell_at r column)) row rows)

pub total-is : (column : ℕ) (rows : List RowView) → total column rows ≡ min (sum_by (λ r. amount (cell_at r column)) rows) MOST_AMOUNT
total-is column rows = capped column rows 0 (omega arith) ∙ ap (λ (n : ℕ). min n MOST_AMOUNT) (omega arith)

total-small : (column : ℕ) (rows : List RowView) → total column rows ≤ MOST_AMOUNT
total-small column rows = omega (arith, total-is column rows)

-- the rate is the whole part of the quotient
pub rate-exact : (over capacity : ℕ) → 0 < capacity → (rate over capacity * capacity ≤ over * RATE_UNIT) × (over * RATE_UNIT < capacity * (rate over capacity + 1))
rate-exact over capacity some = rw (ne_eqb capacity 0 (λ e. omega (arith, some, e))) (div-mul-le_self (over * RATE_UNIT) capacity, lt-mul-div-succ (over * RATE_UNIT) some)

pub rate-most : (over other capacity : ℕ) → other ≤ MOST_AMOUNT → rate other capacity ≤ rate over 0
rate-most over other capacity small = by (cases_lt 0 capacity)
  where
    by : (0 < capacity) ⊎ (capacity ≤ 0) → rate other capacity ≤ rate over 0
    by (inl some) = rw (ne_eqb capacity 0 (λ e. omega (arith, some, e))) (omega (arith, small, div-le_self (other * RATE_UNIT) capacity))
    by (inr none) =
        let nought : capacity ≡ 0 = omega (arith, none) in
        rw (eq-eqb capacity 0 nought) (omega arith)

rate-of-small : (rows : List RowView) → rate_of rows ≤ 2 ^ 128 - 1
rate-of-small rows = rate-most 0 (total 4 rows) (total 3 rows) (total-small 4 rows)

-- of two work centres the one that stands before has no less over
pub rates-fall : (loads : List RowView) (i j : ℕ) (d : List RowView) → i ≤ j → j < length (overloaded_first loads) → rate_of (get_or (overloaded_first loads) j d) ≤ rate_of (get_or (overloaded_first loads) i d)
rates-fall loads i j d less within =
    omega (arith, falls loads i j d less within, rate-of-small (get_or (overloaded_first loads) i d), rate-of-small (get_or (overloaded_first loads) j d))

pub first-stand : (tables : Option Facts) (rows : List RowView) (centres : List (List RowView)) → most_overloaded tables (rows ∷ centres) ≡ overloaded_open ++ (flat_map (overloaded_html tables) (take 3 (rows ∷ centres)) ++ section_end)
unfolding most_overloaded
first-stand tables rows centres = rw (ne_eqb (length (rows ∷ centres)) 0 (λ e. omega arith)) refl

pub counted-is : (rows : List RowView) → count_by is_over rows ≡ length (overloads rows)
counted-is rows = sym (length-filter is_over rows)

-- the worst week is one with the greatest share
pub worst-is : (rows : List RowView) (load : RowView) (loads : List RowView) → sorted_by falling_share (overloads rows) ≡ load ∷ loads → worst_week rows ≡ share_row load
worst-is rows load loads is = ap first_share is

pub worst-falls : (rows : List RowView) → IsNonDecreasingBy falling_share (sorted_by falling_share (overloads rows))
worst-falls rows = sorted-non-decreasing falling_share (overloads rows)

pub weeks-counted : (rows : List RowView) → cell_at (overloaded_row rows) 1 ≡ decimal (length (filter is_over rows))
weeks-counted rows = ap decimal (counted-is rows)

pub drawn-are : (tables : Option Facts) (rows : List RowView) → overloaded_html tables rows ≡ dated_html tables overloaded_line (overloaded_row rows) ++ picture_html (centre_frame (name_of rows) rows) (map share_row rows)
unfolding overloaded_html
drawn-are tables rows = refl
