-- Where the rows of a section stand among the records of a day.
use Rattle.std.proofs.Common.{◌≡◌, ◌∙◌, ◌⊎◌, ◌+◌, ◌*◌, ◌<◌, ◌≤◌, ℕ, zero, suc, Bool, true, false, not, List, [], ◌∷◌, ◌++◌, Option, Some, None, length, take, drop, refl, sym, ap, subst, arith, inl, inr, append_assoc}
use Rattle.std.specs.Prelude.{◌&&◌, ◌||◌, ◌==◌, if◌then◌else◌}
use Rattle.std.specs.List.{All, before_first, list_any, position_or_len}
use Rattle.std.proofs.lemmas.Bool.{and_right, both_ways, cases_lt, eqb-true, false_from_ne_true, ne_eqb}
use Rattle.std.proofs.lemmas.List.{append-nil, get_or_append_left, length-append}
use Rattle.std.proofs.lemmas.List.Elements.{All-cons, All-head, All-nil, All-tail}
use Rattle.mrp_lines.specs.Lines.{is_line}
use Rattle.mrp_page.specs.Notes.{counts_at, counts_if, is_shown, rows_taken}
use Rattle.mrp_page.specs.Row.{Cells, RowView, is_in}
use Rattle.mrp_page.specs.Rows.{stretch}
use Rattle.mrp_day.specs.Sections.{columns_of, line_of}
use Rattle.mrp_page.specs.Section.{is_history, next_of, place_of}
use Rattle.mrp_page.specs.Shown.{StandTogether, is_row_of, row_if, rows_from, runs_from, runs_with}
use Rattle.mrp_page.specs.Spot.{begins_run, begun, inside, is_run, is_wrong, place_after, place_from, same_cells, section_if}
use Rattle.mrp_page.proofs.KeptItems.{IsItemSection}
use Rattle.mrp_page.specs.declared.counts.Counts.{Counts}
use Rattle.mrp_day.specs.declared.section.Section.{Section}
use Rattle.mrp_day.specs.declared.section.Section.TheVariants as s
use Rattle.mrp_page.specs.declared.spot.Place.{Place}
use Rattle.mrp_page.specs.declared.spot.Place.TheVariants as place
use Rattle.mrp_page.specs.declared.spot.Spot.{Spot}

-- records after others
pub place-append : (here : Place) (xs ys : List Cells) → place_from here (xs ++ ys) ≡ place_from (place_from here xs) ys
unfolding place_from
place-append here [] ys = refl
place-append here (x ∷ xs) ys = place-append (place_after here x) xs ys

pub runs-append : (runs : ℕ) (here : Place) (xs ys : List Cells) → runs_from runs here (xs ++ ys) ≡ runs_from (runs_from runs here xs) (place_from here xs) ys
unfolding runs_from place_from
runs-append runs here [] ys = refl
runs-append runs here (x ∷ xs) ys = runs-append (runs_with runs (place_after here x)) (place_after here x) xs ys

pub rows-append : (S : Section) (run runs : ℕ) (here : Place) (xs ys : List Cells) → rows_from S run runs here (xs ++ ys) ≡ rows_from S run runs here xs ++ rows_from S run (runs_from runs here xs) (place_from here xs) ys
unfolding rows_from runs_from place_from
rows-append S run runs here [] ys = refl
rows-append S run runs here (x ∷ xs) ys =
    let first : List Cells = row_if (is_row_of S (place_after here x) && (runs_with runs (place_after here x) == run)) x in
    ap (λ (t : List Cells). first ++ t) (rows-append S run (runs_with runs (place_after here x)) (place_after here x) xs ys) ∙ sym (append_assoc first _ _)

-- with one more record
pub place-more : (here : Place) (xs : List Cells) (x : Cells) → place_from here (xs ++ (x ∷ [])) ≡ place_after (place_from here xs) x
unfolding place_from
place-more here xs x = place-append here xs (x ∷ [])

pub runs-more : (runs : ℕ) (here : Place) (xs : List Cells) (x : Cells) → runs_from runs here (xs ++ (x ∷ [])) ≡ runs_with (runs_from runs here xs) (place_after (place_from here xs) x)
unfolding runs_from
runs-more runs here xs x = runs-append runs here xs (x ∷ [])

pub rows-more : (S : Section) (run runs : ℕ) (here : Place) (xs : List Cells) (x : Cells) → rows_from S run runs here (xs ++ (x ∷ []))
    ≡ rows_from S run runs here xs ++ row_if (is_row_of S (place_after (place_from here xs) x) && (runs_with (runs_from runs here xs) (place_after (place_from here xs) x) == run)) x
unfolding rows_from
rows-more S run runs here xs x = rows-append S run runs here xs (x ∷ []) ∙ ap (λ (t : List Cells). rows_from S run runs here xs ++ t) (append-nil _)

with-least : (runs : ℕ) (here : Place) → runs ≤ runs_with runs here
with-least runs here = by (begins_run here)
  where
    by : (b : Bool) → runs ≤ (if b then runs + 1 else runs)
    by true = omega arith
    by false = omega arith

with-most : (runs : ℕ) (here : Place) → runs_with runs here ≤ runs + 1
with-most runs here = by (begins_run here)
  where
    by : (b : Bool) → (if b then runs + 1 else runs) ≤ runs + 1
    by true = omega arith
    by false = omega arith

runs-least : (runs : ℕ) (here : Place) (xs : List Cells) → runs ≤ runs_from runs here xs
unfolding runs_from
runs-least runs here [] = omega arith
runs-least runs here (x ∷ xs) = omega (arith, with-least runs (place_after here x), runs-least (runs_with runs (place_after here x)) (place_after here x) xs)

pub runs-most : (runs : ℕ) (here : Place) (xs : List Cells) → runs_from runs here xs ≤ runs + length xs
unfolding runs_from
runs-most runs here [] = omega arith
runs-most runs here (x ∷ xs) = omega (arith, with-most runs (place_after here x), runs-most (runs_with runs (place_after here x)) (place_after here x) xs)

-- a run that has not begun has no rows
pub rows-later : (S : Section) (run runs : ℕ) (here : Place) (xs : List Cells) → runs_from runs here xs < run → rows_from S run runs here xs ≡ []
unfolding rows_from runs_from
rows-later S run runs here [] later = refl
rows-later S run runs here (x ∷ xs) later =
    let next : ℕ = runs_with runs (place_after here x) in
    let other : (next == run) ≡ false = ne_eqb next run (λ e. omega (arith, runs-least next (place_after here x) xs)) in
    ap (λ (b : Bool). row_if b x ++ rows_from S run next (place_after here x) xs) (and_right (is_row_of S (place_after here x)) (next == run) other) ∙ rows-later S run next (place_after here x) xs later

-- the first of rows that stand together do
pub stand-front : (names more : List (List ℕ)) → StandTogether (names ++ more) → StandTogether names
stand-front names more stand =
    let long = length-append names more in
    record {
      together = λ i j k first next within same. sym (get_or_append_left names more [] j (omega arith))
          ∙ stand.together i j k first next (omega arith) (get_or_append_left names more [] i (omega arith) ∙ same ∙ sym (get_or_append_left names more [] k within)) ∙ get_or_append_left names more [] k within;
      named = λ k d within. subst (λ (t : List ℕ). t ≡ [] → ⊥) (get_or_append_left names more d k within) (stand.named k d (omega arith));
    }

-- how far into a report a place is
abbrev pub stage : Place → ℕ
stage place.Front = 0
stage (place.Line section) = 3 * place_of section + 1
stage (place.Header section) = 3 * place_of section + 2
stage (place.Row section) = 3 * place_of section + 3
stage place.Wrong = 100

section_at : ℕ → Section
section_at zero = s.History
section_at (suc zero) = s.Run
section_at (suc (suc zero)) = s.Promises
section_at (suc (suc (suc zero))) = s.Plan
section_at (suc (suc (suc (suc zero)))) = s.Orders
section_at (suc (suc (suc (suc (suc zero))))) = s.Pegs
section_at (suc (suc (suc (suc (suc (suc zero)))))) = s.Messages
section_at (suc (suc (suc (suc (suc (suc (suc n))))))) = s.Loads

at-place : (x : Section) → section_at (place_of x) ≡ x
unfolding section_at
at-place s.History = refl
at-place s.Run = refl
at-place s.Promises = refl
at-place s.Plan = refl
at-place s.Orders = refl
at-place s.Pegs = refl
at-place s.Messages = refl
at-place s.Loads = refl

pub place-most : (x : Section) → place_of x ≤ 7
place-most s.History = omega arith
place-most s.Run = omega arith
place-most s.Promises = omega arith
place-most s.Plan = omega arith
place-most s.Orders = omega arith
place-most s.Pegs = omega arith
place-most s.Messages = omega arith
place-most s.Loads = omega arith

-- two sections at the same place are the same
pub same-place : (x y : Section) → place_of x ≡ place_of y → x ≡ y
same-place x y e = sym (at-place x) ∙ ap section_at e ∙ at-place y

-- the section after another begins a run, or is the next of the report
pub next-section : (x : Section) → (is_run (next_of x) ≡ true) ⊎ ((place_of (next_of x) ≡ place_of x + 1) × (is_run (next_of x) ≡ false))
next-section s.History = inl refl
next-section s.Run = inr (refl, refl)
next-section s.Promises = inr (refl, refl)
next-section s.Plan = inr (refl, refl)
next-section s.Orders = inr (refl, refl)
next-section s.Pegs = inr (refl, refl)
next-section s.Messages = inr (refl, refl)
next-section s.Loads = inl refl

run-place : (x : Section) → is_run x ≡ true → place_of x ≡ 1
run-place s.History e = absurd cc
run-place s.Run e = refl
run-place s.Promises e = absurd cc
run-place s.Plan e = absurd cc
run-place s.Orders e = absurd cc
run-place s.Pegs e = absurd cc
run-place s.Messages e = absurd cc
run-place s.Loads e = absurd cc

history-or-loads : (x : Section) → is_run (next_of x) ≡ true → (place_of x ≡ 0) ⊎ (place_of x ≡ 7)
history-or-loads s.History e = inl refl
history-or-loads s.Run e = absurd cc
history-or-loads s.Promises e = absurd cc
history-or-loads s.Plan e = absurd cc
history-or-loads s.Orders e = absurd cc
history-or-loads s.Pegs e = absurd cc
history-or-loads s.Messages e = absurd cc
history-or-loads s.Loads e = inr refl

pub run-stage : (here : Place) → begins_run here ≡ true → stage here ≡ 4
run-stage place.Front e = absurd cc
run-stage (place.Line x) e = omega (arith, run-place x e)
run-stage (place.Header x) e = absurd cc
run-stage (place.Row x) e = absurd cc
run-stage place.Wrong e = absurd cc

-- what a record may be after another
pub after-line : (x : Section) (c : Cells) → (place_after (place.Line x) c ≡ place.Header x) ⊎ (place_after (place.Line x) c ≡ place.Wrong)
after-line x c = by (same_cells c (columns_of x))
  where
    by : (b : Bool) → ((if b then place.Header x else place.Wrong) ≡ place.Header x) ⊎ ((if b then place.Header x else place.Wrong) ≡ place.Wrong)
    by true = inl refl
    by false = inr refl

pub after-begun : (x : Section) (c : Cells) → (begun x c ≡ place.Line x) ⊎ (begun x c ≡ place.Wrong)
after-begun x c = by (same_cells c (line_of x ∷ []))
  where
    by : (b : Bool) → ((if b then place.Line x else place.Wrong) ≡ place.Line x) ⊎ ((if b then place.Line x else place.Wrong) ≡ place.Wrong)
    by true = inl refl
    by false = inr refl

pub after-rows : (x : Section) (c : Cells) → (inside x c ≡ place.Row x) ⊎ ((inside x c ≡ place.Line (next_of x)) ⊎ (inside x c ≡ place.Wrong))
after-rows x c = by ((length c == length (columns_of x)) && is_line c)
  where
    by : (b : Bool) → ((if b then place.Row x else begun (next_of x) c) ≡ place.Row x) ⊎ (((if b then place.Row x else begun (next_of x) c) ≡ place.Line (next_of x)) ⊎ ((if b then place.Row x else begun (next_of x) c) ≡ place.Wrong))
    by true = inl refl
    by false = inr (after-begun (next_of x) c)

-- after a place before a section's header
abbrev pub Nears : Section → Place → Type 0
Nears S next = (next ≡ place.Header S) ⊎ ((stage next ≤ 3 * place_of S + 1) ⊎ (next ≡ place.Wrong))

near-rows : (S : Section) → 2 ≤ place_of S → (x : Section) → place_of x < place_of S → (c : Cells) → Nears S (inside x c)
near-rows S low x before c = by (after-rows x c)
  where
    next : inside x c ≡ place.Line (next_of x) → (is_run (next_of x) ≡ true) ⊎ ((place_of (next_of x) ≡ place_of x + 1) × (is_run (next_of x) ≡ false)) → Nears S (inside x c)
    next e (inl runs) = inr (inl (rw e (omega (arith, run-place (next_of x) runs, low))))
    next e (inr more) = inr (inl (rw e (omega (arith, more.0))))

    by : (inside x c ≡ place.Row x) ⊎ ((inside x c ≡ place.Line (next_of x)) ⊎ (inside x c ≡ place.Wrong)) → Nears S (inside x c)
    by (inl e) = inr (inl (rw e (omega arith)))
    by (inr (inl e)) = next e (next-section x)
    by (inr (inr e)) = inr (inr e)

near-line : (S x : Section) → place_of x ≤ place_of S → (c : Cells) → Nears S (place_after (place.Line x) c)
near-line S x before c = by (after-line x c)
  where
    header : place_after (place.Line x) c ≡ place.Header x → (place_of x < place_of S) ⊎ (place_of S ≤ place_of x) → Nears S (place_after (place.Line x) c)
    header e (inl less) = inr (inl (rw e (omega arith)))
    header e (inr most) = inl (e ∙ ap place.Header (same-place x S (omega arith)))

    by : (place_after (place.Line x) c ≡ place.Header x) ⊎ (place_after (place.Line x) c ≡ place.Wrong) → Nears S (place_after (place.Line x) c)
    by (inl e) = header e (cases_lt (place_of x) (place_of S))
    by (inr e) = inr (inr e)

near-front : (S : Section) (c : Cells) → Nears S (begun s.History c)
near-front S c = by (after-begun s.History c)
  where
    by : (begun s.History c ≡ place.Line s.History) ⊎ (begun s.History c ≡ place.Wrong) → Nears S (begun s.History c)
    by (inl e) = inr (inl (rw e (omega arith)))
    by (inr e) = inr (inr e)

pub near : (S : Section) → 2 ≤ place_of S → (here : Place) → stage here ≤ 3 * place_of S + 1 → (c : Cells) → Nears S (place_after here c)
near S low place.Front before c = near-front S c
near S low (place.Line x) before c = near-line S x (omega arith) c
near S low (place.Header x) before c = near-rows S low x (omega arith) c
near S low (place.Row x) before c = near-rows S low x (omega arith) c
near S low place.Wrong before c = absurd (omega (arith, place-most S))

-- in a report no run begins before such a section
abbrev pub IsInReport : Place → Type 0
IsInReport next = (begins_run next ≡ false) × (4 ≤ stage next)

report-rows : (x : Section) → 1 ≤ place_of x → place_of x < 7 → (c : Cells) → IsInReport (inside x c)
report-rows x low high c = by (after-rows x c)
  where
    next : inside x c ≡ place.Line (next_of x) → (is_run (next_of x) ≡ true) ⊎ ((place_of (next_of x) ≡ place_of x + 1) × (is_run (next_of x) ≡ false)) → IsInReport (inside x c)
    next e (inl runs) = absurd (ends (history-or-loads x runs))
      where
        ends : (place_of x ≡ 0) ⊎ (place_of x ≡ 7) → ⊥
        ends (inl e) = omega arith
        ends (inr e) = omega arith
    next e (inr more) = rw e (more.1, omega (arith, more.0))

    by : (inside x c ≡ place.Row x) ⊎ ((inside x c ≡ place.Line (next_of x)) ⊎ (inside x c ≡ place.Wrong)) → IsInReport (inside x c)
    by (inl e) = rw e (refl, omega arith)
    by (inr (inl e)) = next e (next-section x)
    by (inr (inr e)) = rw e (refl, omega arith)

report-line : (x : Section) → 1 ≤ place_of x → (c : Cells) → IsInReport (place_after (place.Line x) c)
report-line x low c = by (after-line x c)
  where
    by : (place_after (place.Line x) c ≡ place.Header x) ⊎ (place_after (place.Line x) c ≡ place.Wrong) → IsInReport (place_after (place.Line x) c)
    by (inl e) = rw e (refl, omega arith)
    by (inr e) = rw e (refl, omega arith)

pub in-report : (S : Section) → (here : Place) → 4 ≤ stage here → stage here ≤ 3 * place_of S + 1 → (c : Cells) → IsInReport (place_after here c)
in-report S place.Front low high c = absurd (omega arith)
in-report S (place.Line x) low high c = report-line x (omega arith) c
in-report S (place.Header x) low high c = report-rows x (omega arith) (omega (arith, place-most S)) c
in-report S (place.Row x) low high c = report-rows x (omega arith) (omega (arith, place-most S)) c
in-report S place.Wrong low high c = absurd (omega (arith, place-most S))

rows-stay : (x : Section) → 1 ≤ place_of x → (c : Cells) → 4 ≤ stage (inside x c)
rows-stay x low c = by (after-rows x c)
  where
    next : (is_run (next_of x) ≡ true) ⊎ ((place_of (next_of x) ≡ place_of x + 1) × (is_run (next_of x) ≡ false)) → 4 ≤ stage (place.Line (next_of x))
    next (inl runs) = omega (arith, run-place (next_of x) runs)
    next (inr more) = omega (arith, more.0)

    by : (inside x c ≡ place.Row x) ⊎ ((inside x c ≡ place.Line (next_of x)) ⊎ (inside x c ≡ place.Wrong)) → 4 ≤ stage (inside x c)
    by (inl e) = rw e (omega arith)
    by (inr (inl e)) = rw e (next (next-section x))
    by (inr (inr e)) = rw e (omega arith)

-- after the history reports follow
pub stays-in-report : (here : Place) → 4 ≤ stage here → (c : Cells) → 4 ≤ stage (place_after here c)
stays-in-report place.Front high c = absurd (omega arith)
stays-in-report (place.Line x) high c = (report-line x (omega arith) c).1
stays-in-report (place.Header x) high c = rows-stay x (omega arith) c
stays-in-report (place.Row x) high c = rows-stay x (omega arith) c
stays-in-report place.Wrong high c = omega arith

-- after such a section the next run begins, or the report goes on
abbrev pub GoesOn : Section → Place → Type 0
GoesOn S next = (begins_run next ≡ true) ⊎ ((begins_run next ≡ false) × (3 * place_of S + 3 < stage next))

-- after a row the section goes on, or the report, or the next run begins
after-row : (S x : Section) → place_of S ≤ place_of x → (c : Cells) → (inside x c ≡ place.Row x) ⊎ GoesOn S (inside x c)
after-row S x least c = by (after-rows x c)
  where
    next : inside x c ≡ place.Line (next_of x) → (is_run (next_of x) ≡ true) ⊎ ((place_of (next_of x) ≡ place_of x + 1) × (is_run (next_of x) ≡ false)) → GoesOn S (inside x c)
    next e (inl runs) = inl (rw e runs)
    next e (inr more) = inr (rw e (more.1, omega (arith, more.0)))

    by : (inside x c ≡ place.Row x) ⊎ ((inside x c ≡ place.Line (next_of x)) ⊎ (inside x c ≡ place.Wrong)) → (inside x c ≡ place.Row x) ⊎ GoesOn S (inside x c)
    by (inl e) = inl e
    by (inr (inl e)) = inr (next e (next-section x))
    by (inr (inr e)) = inr (inr (rw e (refl, omega (arith, place-most S))))

pub rows-leave : (S : Section) (c : Cells) → (inside S c ≡ place.Row S) ⊎ GoesOn S (inside S c)
rows-leave S c = after-row S S (omega arith) c

on-rows : (S x : Section) → place_of S < place_of x → (c : Cells) → GoesOn S (inside x c)
on-rows S x behind c = by (after-row S x (omega arith) c)
  where
    by : (inside x c ≡ place.Row x) ⊎ GoesOn S (inside x c) → GoesOn S (inside x c)
    by (inl e) = inr (rw e (refl, omega arith))
    by (inr on) = on

on-line : (S x : Section) → place_of S < place_of x → (c : Cells) → GoesOn S (place_after (place.Line x) c)
on-line S x behind c = by (after-line x c)
  where
    by : (place_after (place.Line x) c ≡ place.Header x) ⊎ (place_after (place.Line x) c ≡ place.Wrong) → GoesOn S (place_after (place.Line x) c)
    by (inl e) = inr (rw e (refl, omega arith))
    by (inr e) = inr (rw e (refl, omega (arith, place-most S)))

pub goes-on : (S : Section) → (here : Place) → 3 * place_of S + 3 < stage here → (c : Cells) → GoesOn S (place_after here c)
goes-on S place.Front high c = absurd (omega arith)
goes-on S (place.Line x) high c = on-line S x (omega arith) c
goes-on S (place.Header x) high c = on-rows S x (omega arith) c
goes-on S (place.Row x) high c = on-rows S x (omega arith) c
goes-on S place.Wrong high c = inr (refl, omega (arith, place-most S))

-- among the rows of a section before the last no run begins
pub rows-go-on : (S : Section) → IsItemSection S → (c : Cells) → (inside S c ≡ place.Row S) ⊎ ((begins_run (inside S c) ≡ false) × (3 * place_of S + 3 < stage (inside S c)))
rows-go-on S is c = by (rows-leave S c)
  where
    by : (inside S c ≡ place.Row S) ⊎ GoesOn S (inside S c) → (inside S c ≡ place.Row S) ⊎ ((begins_run (inside S c) ≡ false) × (3 * place_of S + 3 < stage (inside S c)))
    by (inl e) = inl e
    by (inr (inl begun)) = absurd (both_ways (begins_run (inside S c)) (report-rows S (omega (arith, is.first)) is.last c).0 begun)
    by (inr (inr on)) = inr on

-- a row of a section stands at its stage
row-stage : (S : Section) (here : Place) → is_row_of S here ≡ true → stage here ≡ 3 * place_of S + 3
row-stage S place.Front e = absurd cc
row-stage S (place.Line x) e = absurd cc
row-stage S (place.Header x) e = absurd cc
row-stage S (place.Row x) e = omega (arith, eqb-true (place_of x) (place_of S) e)
row-stage S place.Wrong e = absurd cc

pub no-row : (S : Section) (here : Place) → (stage here ≡ 3 * place_of S + 3 → ⊥) → is_row_of S here ≡ false
no-row S here other = false_from_ne_true (is_row_of S here) (λ e. other (row-stage S here e))

pub wrong-stays : (here : Place) (c : Cells) → is_wrong here ≡ true → is_wrong (place_after here c) ≡ true
wrong-stays place.Front c e = absurd cc
wrong-stays (place.Line x) c e = absurd cc
wrong-stays (place.Header x) c e = absurd cc
wrong-stays (place.Row x) c e = absurd cc
wrong-stays place.Wrong c e = refl

-- what is added of a record that is no row of a section is none of its rows
pub others-added : (S : Section) (shown takes : Bool) (here : Place) (c : Cells) → is_row_of S here ≡ false → All (λ (q : RowView). is_in S q ≡ false) (rows_taken shown (section_if takes here) c)
others-added S shown false here c e = All-nil (λ (q : RowView). is_in S q ≡ false)
others-added S shown true place.Front c e = All-nil (λ (q : RowView). is_in S q ≡ false)
others-added S shown true (place.Line x) c e = All-nil (λ (q : RowView). is_in S q ≡ false)
others-added S shown true (place.Header x) c e = All-nil (λ (q : RowView). is_in S q ≡ false)
others-added S shown true (place.Row x) c e = by (not (is_history x) && shown)
  where
    by : (b : Bool) → All (λ (q : RowView). is_in S q ≡ false) (if b then record { section = x; cells = c } ∷ [] else [])
    by true = All-cons (λ (q : RowView). is_in S q ≡ false) (record { section = x; cells = c }) [] e (All-nil (λ (q : RowView). is_in S q ≡ false))
    by false = All-nil (λ (q : RowView). is_in S q ≡ false)
others-added S shown true place.Wrong c e = All-nil (λ (q : RowView). is_in S q ≡ false)

-- nothing is added of a run that is not shown
pub none-added : (takes : Option Section) (c : Cells) → rows_taken false takes c ≡ []
none-added None c = refl
none-added (Some x) c = by (not (is_history x)) (record { section = x; cells = c } ∷ [])
  where
    by : (b : Bool) (rows : List RowView) → (if b && false then rows else []) ≡ []
    by true rows = refl
    by false rows = refl

pub row-added : (S : Section) → is_history S ≡ false → (takes : Bool) (c : Cells) → rows_taken true (section_if takes (place.Row S)) c ≡ (if takes then record { section = S; cells = c } ∷ [] else [])
row-added S report true c = rw report refl
row-added S report false c = refl

-- the count of items changes in the plan of the run that is shown
items-if : (b : Bool) (x : Section) (spot : Spot) (counts : Counts) → (place_of x ≡ 3 → ⊥) → (counts_if b x spot counts).items ≡ counts.items
items-if false x spot counts other = refl
items-if true s.History spot counts other = refl
items-if true s.Run spot counts other = refl
items-if true s.Promises spot counts other = refl
items-if true s.Plan spot counts other = absurd (other refl)
items-if true s.Orders spot counts other = refl
items-if true s.Pegs spot counts other = refl
items-if true s.Messages spot counts other = refl
items-if true s.Loads spot counts other = refl

pub items-kept : (asked : Option ℕ) (spot : Spot) (here : Place) (counts : Counts) → (stage here ≡ 11 → ⊥) → (stage here ≡ 12 → ⊥) → (counts_at asked spot here counts).items ≡ counts.items
items-kept asked spot place.Front counts header row = refl
items-kept asked spot (place.Line x) counts header row = refl
items-kept asked spot (place.Header x) counts header row = items-if (is_history x || is_shown asked spot.run) x spot counts (λ e. header (omega arith))
items-kept asked spot (place.Row x) counts header row = items-if (is_history x || is_shown asked spot.run) x spot counts (λ e. row (omega arith))
items-kept asked spot place.Wrong counts header row = refl

items-other : (x : Section) (spot : Spot) (counts : Counts) → (counts_if (is_history x || false) x spot counts).items ≡ counts.items
items-other s.History spot counts = refl
items-other s.Run spot counts = refl
items-other s.Promises spot counts = refl
items-other s.Plan spot counts = refl
items-other s.Orders spot counts = refl
items-other s.Pegs spot counts = refl
items-other s.Messages spot counts = refl
items-other s.Loads spot counts = refl

pub items-unshown : (asked : Option ℕ) (spot : Spot) (here : Place) (counts : Counts) → is_shown asked spot.run ≡ false → (counts_at asked spot here counts).items ≡ counts.items
items-unshown asked spot place.Front counts e = refl
items-unshown asked spot (place.Line x) counts e = refl
items-unshown asked spot (place.Header x) counts e = ap (λ (b : Bool). (counts_if (is_history x || b) x spot counts).items) e ∙ items-other x spot counts
items-unshown asked spot (place.Row x) counts e = ap (λ (b : Bool). (counts_if (is_history x || b) x spot counts).items) e ∙ items-other x spot counts
items-unshown asked spot place.Wrong counts e = refl

-- the first stretch of elements that pass, between others
module _ {A : Type 0} (p : A → Bool) where
  pub skip : (x : A) (xs : List A) → p x ≡ false → stretch p (x ∷ xs) ≡ stretch p xs
  skip x xs e =
      let next : position_or_len p (x ∷ xs) ≡ suc (position_or_len p xs) = rw e (omega arith) in
      ap (λ (k : ℕ). before_first (λ y. not (p y)) (drop k (x ∷ xs))) next

  pub begins : (x : A) (xs : List A) → p x ≡ true → before_first (λ y. not (p y)) (x ∷ xs) ≡ x ∷ before_first (λ y. not (p y)) xs
  begins x xs e =
      let next : position_or_len (λ y. not (p y)) (x ∷ xs) ≡ suc (position_or_len (λ y. not (p y)) xs) = rw e (omega arith) in
      ap (λ (k : ℕ). take k (x ∷ xs)) next

  pub here : (x : A) (xs : List A) → p x ≡ true → stretch p (x ∷ xs) ≡ x ∷ before_first (λ y. not (p y)) xs
  here x xs e =
      let none : position_or_len p (x ∷ xs) ≡ 0 = rw e refl in
      ap (λ (k : ℕ). before_first (λ y. not (p y)) (drop k (x ∷ xs))) none ∙ begins x xs e

  pub ends : (back : List A) → All (λ x. p x ≡ false) back → before_first (λ y. not (p y)) back ≡ []
  ends [] all = refl
  ends (x ∷ back) all =
      let none : position_or_len (λ y. not (p y)) (x ∷ back) ≡ 0 = rw (All-head (λ y. p y ≡ false) x back all) refl in
      ap (λ (k : ℕ). take k (x ∷ back)) none

  passed : (kept back : List A) → All (λ x. p x ≡ true) kept → All (λ x. p x ≡ false) back → before_first (λ y. not (p y)) (kept ++ back) ≡ kept
  passed [] back in' out = ends back out
  passed (x ∷ kept) back in' out = begins x (kept ++ back) (All-head (λ y. p y ≡ true) x kept in') ∙ ap (λ (t : List A). x ∷ t) (passed kept back (All-tail (λ y. p y ≡ true) x kept in') out)

  none-passes : (back : List A) → All (λ x. p x ≡ false) back → stretch p back ≡ []
  none-passes [] out = refl
  none-passes (x ∷ back) out = skip x back (All-head (λ y. p y ≡ false) x back out) ∙ none-passes back (All-tail (λ y. p y ≡ false) x back out)

  pub stretch-between : (front kept back : List A) → All (λ x. p x ≡ false) front → All (λ x. p x ≡ true) kept → All (λ x. p x ≡ false) back → stretch p (front ++ (kept ++ back)) ≡ kept
  stretch-between [] [] back before in' out = none-passes back out
  stretch-between [] (x ∷ kept) back before in' out = here x (kept ++ back) (All-head (λ y. p y ≡ true) x kept in') ∙ ap (λ (t : List A). x ∷ t) (passed kept back (All-tail (λ y. p y ≡ true) x kept in') out)
  stretch-between (x ∷ front) kept back before in' out =
      skip x (front ++ (kept ++ back)) (All-head (λ y. p y ≡ false) x front before) ∙ stretch-between front kept back (All-tail (λ y. p y ≡ false) x front before) in' out

  pub stretch-some : (xs : List A) → not (length (stretch p xs) == 0) ≡ list_any p xs
  stretch-some [] = refl
  stretch-some (x ∷ xs) = by (p x) refl (stretch-some xs)
    where
      by : (b : Bool) → p x ≡ b → not (length (stretch p xs) == 0) ≡ list_any p xs → not (length (stretch p (x ∷ xs)) == 0) ≡ (p x || list_any p xs)
      by true e rest = ap (λ (t : List A). not (length t == 0)) (here x xs e) ∙ ap not (ne_eqb (length (x ∷ before_first (λ y. not (p y)) xs)) 0 (λ none. omega arith)) ∙ sym (ap (λ (b : Bool). b || list_any p xs) e)
      by false e rest = ap (λ (t : List A). not (length t == 0)) (skip x xs e) ∙ rest ∙ sym (ap (λ (b : Bool). b || list_any p xs) e)

-- at a row of the plan of that run the count is that of its items so far
pub items-header : (S : Section) (asked : Option ℕ) (spot : Spot) (counts : Counts) → place_of S ≡ 3 → is_shown asked spot.run ≡ true → (counts_at asked spot (place.Header S) counts).items ≡ spot.items
items-header s.History asked spot counts e shown = absurd (omega arith)
items-header s.Run asked spot counts e shown = absurd (omega arith)
items-header s.Promises asked spot counts e shown = absurd (omega arith)
items-header s.Plan asked spot counts e shown = rw shown refl
items-header s.Orders asked spot counts e shown = absurd (omega arith)
items-header s.Pegs asked spot counts e shown = absurd (omega arith)
items-header s.Messages asked spot counts e shown = absurd (omega arith)
items-header s.Loads asked spot counts e shown = absurd (omega arith)

pub items-row : (S : Section) (asked : Option ℕ) (spot : Spot) (counts : Counts) → place_of S ≡ 3 → is_shown asked spot.run ≡ true → (counts_at asked spot (place.Row S) counts).items ≡ spot.items
items-row S asked spot counts e shown = items-header S asked spot counts e shown
