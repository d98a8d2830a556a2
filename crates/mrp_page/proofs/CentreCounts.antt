-- How many work centres rows belong to, row by row.
use Rattle.std.proofs.Common.{◌≡◌, ◌∙◌, ◌+◌, ◌<◌, ℕ, List, [], ◌++◌, Bor, arith, get_or, length, length-append, map, refl, sym, ap, take}
use Rattle.std.proofs.lemmas.List.{get_or-map, length-map}
use Rattle.mrp_page.specs.Row.{RowView}
use Rattle.mrp_page.specs.Rows.{last_name, leader_rows, leaders}
use Rattle.mrp_page.specs.Summary.{centre_count}
use Rattle.mrp_page.proofs.RowLists.{leaders_next}

pub count-next : (rows : List RowView) (k : ℕ) (r d : RowView) (previous : List ℕ) → k < length rows → r ≡ get_or rows k d → previous ≡ last_name [] (take k rows)
    → centre_count (take (k + 1) rows) ≡ centre_count (take k rows) + length (leader_rows previous r)
count-next rows k r d previous within is before =
    let found : List RowView = leaders [] (take k rows) in
    ap length (sym (leaders_next rows k r d previous found (found ++ leader_rows previous r) within is before refl refl)) ∙ length-append found (leader_rows previous r)

-- a row as it is seen
pub seen-at : (rows : List (Bor RowView)) (k : ℕ) (r : Bor RowView) → k < length rows → r ≡ get_or rows k r → r.now ≡ get_or (map (λ r. r.now) rows) k r.now
seen-at rows k r within is = ap (λ (b : Bor RowView). b.now) is ∙ sym (get_or-map (λ (b : Bor RowView). b.now) rows k r r.now within)

pub seen-within : (rows : List (Bor RowView)) (k : ℕ) → k < length rows → k < length (map (λ r. r.now) rows)
seen-within rows k within = omega (arith, within, length-map rows (λ (b : Bor RowView). b.now))
