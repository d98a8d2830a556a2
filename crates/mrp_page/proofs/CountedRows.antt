-- The rows of a section that are kept, and those that are counted as left out, are together all that a page
-- should show.
use Rattle.std.proofs.Common.{◌≡◌, ◌∙◌, ◌⊎◌, ◌+◌, ◌*◌, ◌-◌, ◌^◌, ◌<◌, ◌≤◌, ℕ, Bool, true, false, not, List, [], ◌∷◌, ◌++◌, Option, Some, None, length, refl, sym, ap, subst, arith, inl, inr, append_assoc}
use Rattle.std.specs.Prelude.{◌&&◌, ◌||◌, if◌then◌else◌, is_some, min}
use Rattle.std.specs.List.{All, filter}
use Rattle.std.proofs.lemmas.Bool.{both_ways, cases_lt, eq-eqb, false_from_ne_true}
use Rattle.std.proofs.lemmas.List.{append-nil, length-map, length_push, length-append, map-append}
use Rattle.std.proofs.lemmas.List.Elements.{All-head, All-tail, filter-append}
use Rattle.mrp_page.specs.Counted.{AreSomeOf, missed_of, records_of, wanted_rows}
use Rattle.mrp_page.specs.Notes.{Noted, counts_at, counts_if, has_run, is_shown, none_noted, noted, noted_from, notes_of, rows_left, rows_taken}
use Rattle.mrp_page.specs.Reading.{IsDayOf}
use Rattle.mrp_page.specs.Row.{Cells, RowView, is_in}
use Rattle.mrp_page.specs.Section.{is_history, place_of}
use Rattle.mrp_page.specs.Shown.{is_row_of, rows_from, rows_of, run_shown, runs_from, runs_of}
use Rattle.mrp_page.specs.Spot.{Names, begins_run, inside, is_end, is_wanted, is_wrong, leads, place_after, place_from, room_at, section_if, spot_at, starts_at, wants}
use Rattle.mrp_page.specs.Spot.{place_of as place_in}
use Rattle.mrp_page.specs.declared.counts.Counts.{Counts}
use Rattle.mrp_day.specs.declared.section.Section.{Section}
use Rattle.mrp_day.specs.declared.section.Section.TheVariants as s
use Rattle.mrp_page.specs.declared.spot.Place.{Place}
use Rattle.mrp_page.specs.declared.spot.Place.TheVariants as place
use Rattle.mrp_page.specs.declared.spot.Spot.{Spot}
use Rattle.mrp_page.proofs.SectionRows.{goes-on, in-report, near, no-row, others-added, place-most, row-added, rows-later, rows-leave, run-stage, stage, stays-in-report, wrong-stays}
use Rattle.mrp_page.proofs.ShownItems.{asked-from, end-stage, has-begun}
use Rattle.mrp_page.proofs.Steps.{FreshRun, SameRun, Step, step-of}

-- the count of a section changes in that section alone
other-count : (S x : Section) (spot : Spot) (counts : Counts) → (place_of x ≡ place_of S → ⊥) → missed_of S (counts_if true x spot counts) ≡ missed_of S counts
other-count s.History s.History spot counts other = absurd (other refl)
other-count s.Promises s.Promises spot counts other = absurd (other refl)
other-count s.Plan s.Plan spot counts other = absurd (other refl)
other-count s.Orders s.Orders spot counts other = absurd (other refl)
other-count s.Pegs s.Pegs spot counts other = absurd (other refl)
other-count s.Messages s.Messages spot counts other = absurd (other refl)
other-count s.Loads s.Loads spot counts other = absurd (other refl)
other-count S x spot counts other = refl

other-if : (b : Bool) (S x : Section) (spot : Spot) (counts : Counts) → (place_of x ≡ place_of S → ⊥) → missed_of S (counts_if b x spot counts) ≡ missed_of S counts
other-if true S x spot counts other = other-count S x spot counts other
other-if false S x spot counts other = refl

pub count-kept : (S : Section) (asked : Option ℕ) (spot : Spot) (here : Place) (counts : Counts) → (stage here ≡ 3 * place_of S + 2 → ⊥) → (stage here ≡ 3 * place_of S + 3 → ⊥)
    → missed_of S (counts_at asked spot here counts) ≡ missed_of S counts
count-kept S asked spot place.Front counts header row = refl
count-kept S asked spot (place.Line x) counts header row = refl
count-kept S asked spot (place.Header x) counts header row = other-if (is_history x || is_shown asked spot.run) S x spot counts (λ e. header (omega arith))
count-kept S asked spot (place.Row x) counts header row = other-if (is_history x || is_shown asked spot.run) S x spot counts (λ e. row (omega arith))
count-kept S asked spot place.Wrong counts header row = refl

-- of a run that is not shown nothing is counted but the history
history-alone : (S x : Section) (spot : Spot) (counts : Counts) → 2 ≤ place_of S → missed_of S (counts_if (is_history x || false) x spot counts) ≡ missed_of S counts
history-alone S s.History spot counts low = other-count S s.History spot counts (λ e. omega arith)
history-alone S x spot counts low = refl

count-unshown : (S : Section) → 2 ≤ place_of S → (asked : Option ℕ) (spot : Spot) (here : Place) (counts : Counts) → is_shown asked spot.run ≡ false → missed_of S (counts_at asked spot here counts) ≡ missed_of S counts
count-unshown S low asked spot place.Front counts e = refl
count-unshown S low asked spot (place.Line x) counts e = refl
count-unshown S low asked spot (place.Header x) counts e = ap (λ (b : Bool). missed_of S (counts_if (is_history x || b) x spot counts)) e ∙ history-alone S x spot counts low
count-unshown S low asked spot (place.Row x) counts e = ap (λ (b : Bool). missed_of S (counts_if (is_history x || b) x spot counts)) e ∙ history-alone S x spot counts low
count-unshown S low asked spot place.Wrong counts e = refl

own-count : (S : Section) (spot : Spot) (counts : Counts) → 2 ≤ place_of S → missed_of S (counts_if (is_history S || true) S spot counts) ≡ spot.missed
own-count s.History spot counts low = absurd (omega arith)
own-count s.Run spot counts low = absurd (omega arith)
own-count s.Promises spot counts low = refl
own-count s.Plan spot counts low = refl
own-count s.Orders spot counts low = refl
own-count s.Pegs spot counts low = refl
own-count s.Messages spot counts low = refl
own-count s.Loads spot counts low = refl

own-header : (S : Section) (asked : Option ℕ) (spot : Spot) (counts : Counts) → 2 ≤ place_of S → is_shown asked spot.run ≡ true → missed_of S (counts_at asked spot (place.Header S) counts) ≡ spot.missed
own-header S asked spot counts low shown = ap (λ (b : Bool). missed_of S (counts_if (is_history S || b) S spot counts)) shown ∙ own-count S spot counts low

-- what passes of what does not, and of one element
pub none-passes : {X : Type 0} (p : X → Bool) (xs : List X) → All (λ x. p x ≡ false) xs → filter p xs ≡ []
none-passes p [] all = refl
none-passes p (x ∷ xs) all = rw (All-head (λ y. p y ≡ false) x xs all) (none-passes p xs (All-tail (λ y. p y ≡ false) x xs all))

one-if : {X : Type 0} (p : X → Bool) (x : X) → filter p (x ∷ []) ≡ (if p x then x ∷ [] else [])
one-if p x = refl

length-if : {X : Type 0} (b : Bool) (x : X) → length (if b then x ∷ [] else []) ≡ (if b then 1 else 0)
length-if true x = refl
length-if false x = refl

not-history : (S : Section) → 2 ≤ place_of S → is_history S ≡ false
not-history s.History low = absurd (omega arith)
not-history s.Run low = refl
not-history s.Promises low = refl
not-history s.Plan low = refl
not-history s.Orders low = refl
not-history s.Pegs low = refl
not-history s.Messages low = refl
not-history s.Loads low = refl

-- rows of which some are kept, and one more
some-later : (xs ys : List Cells) (c : Cells) → AreSomeOf xs ys → AreSomeOf xs (ys ++ (c ∷ []))
unfolding AreSomeOf
some-later [] ys c some = tt
some-later (x ∷ xs) [] c some = absurd some
some-later (x ∷ xs) (y ∷ ys) c (inl first) = inl (first.0, some-later xs ys c first.1)
some-later (x ∷ xs) (y ∷ ys) c (inr later) = inr (some-later (x ∷ xs) ys c later)

some-both : (xs ys : List Cells) (c : Cells) → AreSomeOf xs ys → AreSomeOf (xs ++ (c ∷ [])) (ys ++ (c ∷ []))
unfolding AreSomeOf
some-both [] [] c some = inl (refl, tt)
some-both [] (y ∷ ys) c some = inr (some-both [] ys c tt)
some-both (x ∷ xs) [] c some = absurd some
some-both (x ∷ xs) (y ∷ ys) c (inl first) = inl (first.0, some-both xs ys c first.1)
some-both (x ∷ xs) (y ∷ ys) c (inr later) = inr (some-both (x ∷ xs) ys c later)

some-more : (w room : Bool) (xs ys : List Cells) (c : Cells) → AreSomeOf xs ys → AreSomeOf (xs ++ (if w && room then c ∷ [] else [])) (ys ++ (if w then c ∷ [] else []))
some-more true true xs ys c some = some-both xs ys c some
some-more true false xs ys c some = rw (append-nil xs) (some-later xs ys c some)
some-more false room xs ys c some = rw (append-nil xs, append-nil ys) some

none-of : (ys : List Cells) → AreSomeOf [] ys
unfolding AreSomeOf
none-of ys = tt

some-few : (xs ys : List Cells) → AreSomeOf xs ys → length xs ≤ length ys
unfolding AreSomeOf
some-few [] ys some = omega arith
some-few (x ∷ xs) [] some = absurd some
some-few (x ∷ xs) (y ∷ ys) (inl first) = omega (arith, some-few xs ys first.1)
some-few (x ∷ xs) (y ∷ ys) (inr later) = omega (arith, some-few (x ∷ xs) ys later)

-- none is left out
some-all : (xs ys : List Cells) → AreSomeOf xs ys → length xs ≡ length ys → xs ≡ ys
unfolding AreSomeOf
some-all [] [] some long = refl
some-all [] (y ∷ ys) some long = absurd (omega (arith, long))
some-all (x ∷ xs) [] some long = absurd some
some-all (x ∷ xs) (y ∷ ys) (inl first) long = ap (λ (c : Cells). c ∷ xs) first.0 ∙ ap (λ (t : List Cells). y ∷ t) (some-all xs ys first.1 (omega (arith, long)))
some-all (x ∷ xs) (y ∷ ys) (inr later) long = absurd (omega (arith, long, some-few (x ∷ xs) ys later))

-- one more row is kept, or counted, or not one that the page should show
sums : (w room : Bool) (kept missed all records : ℕ) → kept + missed ≡ all → all ≤ records → records + 1 < 2 ^ 64
    → (kept + (if w && room then 1 else 0)) + min (missed + (if w && not (w && room) then 1 else 0)) (2 ^ 64 - 1) ≡ all + (if w then 1 else 0)
sums true true kept missed all records is few small = omega arith
sums true false kept missed all records is few small = omega arith
sums false room kept missed all records is few small = omega arith

more-few : (w : Bool) (all records : ℕ) → all ≤ records → all + (if w then 1 else 0) ≤ records + 1
more-few true all records few = omega arith
more-few false all records few = omega arith

-- a section of a report, while the records of a day are read
module _ (items : Names) (asked : Option ℕ) (S : Section) (low : 2 ≤ place_of S) where
  abbrev shown_in : List Cells → ℕ
  shown_in done = run_shown asked done

  abbrev kept : Noted → List RowView
  kept n = filter (is_in S) n.report

  abbrev wanted : List Cells → List Cells
  wanted done = wanted_rows items S (shown_in done) done

  -- the run that is shown has not begun, or the section has not in it
  record Before (done : List Cells) (n : Noted) : Type 0 where
    early : (runs_of done < shown_in done) ⊎ ((runs_of done ≡ shown_in done) × (stage n.spot.place ≤ 3 * place_of S + 1))
    none : kept n ≡ []
    no_rows : rows_of S (shown_in done) done ≡ []

  -- its rows are read
  record Amid (done : List Cells) (n : Noted) : Type 0 where
    now : runs_of done ≡ shown_in done
    at : (n.spot.place ≡ place.Header S) ⊎ (n.spot.place ≡ place.Row S)
    sum : length (kept n) + n.spot.missed ≡ length (wanted done)
    some : AreSomeOf (records_of (kept n)) (wanted done)
    counted : missed_of S n.counts ≡ n.spot.missed
    few : length (wanted done) ≤ length done

  -- they were read
  record Behind (done : List Cells) (n : Noted) : Type 0 where
    late : (shown_in done < runs_of done) ⊎ ((runs_of done ≡ shown_in done) × (3 * place_of S + 3 < stage n.spot.place))
    sum : length (kept n) + missed_of S n.counts ≡ length (wanted done)
    some : AreSomeOf (records_of (kept n)) (wanted done)

  -- no day has such records, or one of these is so
  abbrev Phase : List Cells → Noted → Type 0
  Phase done n = (is_wrong n.spot.place ≡ true) ⊎ (Before done n ⊎ (Amid done n ⊎ Behind done n))

  record Inv (done : List Cells) (n : Noted) : Type 0 where
    place : n.spot.place ≡ place_in done
    runs : n.spot.run ≡ runs_of done
    begun : 1 ≤ runs_of done → 4 ≤ stage n.spot.place
    phase : Phase done n

  -- one more record, of a day
  module _ (done : List Cells) (n : Noted) (c : Cells) (inv : Inv done n) (from_one : (number : ℕ) → asked ≡ Some number → 1 ≤ number) (countable : length done + 1 < 2 ^ 64) where
    abbrev more : List Cells
    more = done ++ (c ∷ [])

    abbrev here : Place
    here = place_after n.spot.place c

    abbrev next : Noted
    next = noted items asked n c

    abbrev takes_at : Place → Bool
    takes_at q = is_wanted items q c && room_at q n.spot (is_wanted items q c && leads n.spot n.last c) ((is_wanted items q c && leads n.spot n.last c) && starts_at q c)

    abbrev added : List RowView
    added = rows_taken (is_shown asked next.spot.run) (section_if (takes_at here) here) c

    abbrev row : RowView
    row = record { section = S; cells = c }

    abbrev Same : Type 0
    Same = SameRun items asked S done n c

    step : Step items asked S done n c
    step = step-of items asked S done n c inv.place inv.runs countable

    kept-other : Same → is_row_of S here ≡ false → kept next ≡ kept n
    kept-other same other =
        filter-append (is_in S) (rows_left asked next.spot n.report) added
        ∙ ap (λ (t : List RowView). filter (is_in S) (rows_left asked next.spot n.report) ++ t) (none-passes (is_in S) added (others-added S (is_shown asked next.spot.run) (takes_at here) here c other))
        ∙ append-nil (filter (is_in S) (rows_left asked next.spot n.report)) ∙ ap (filter (is_in S)) same.left

    kept-unshown : Same → (runs_of more ≡ shown_in more → ⊥) → kept next ≡ kept n
    kept-unshown same other = ap (λ (t : List RowView). filter (is_in S) (rows_left asked next.spot n.report ++ t)) (step.none-more other) ∙ ap (filter (is_in S)) (append-nil (rows_left asked next.spot n.report) ∙ same.left)

    rows-same : Same → rows_of S (shown_in more) done ≡ rows_of S (shown_in done) done
    rows-same same = ap (λ (k : ℕ). rows_of S k done) same.run

    -- before the section
    before-more : Same → Before done n → is_wrong here ≡ false → Phase more next
    before-more same before right = by before.early
      where
        still : (runs_of more < shown_in more) ⊎ ((runs_of more ≡ shown_in more) × (stage here ≤ 3 * place_of S + 1)) → is_row_of S here ≡ false → Phase more next
        still early other = inr (inl (record { early = early; none = kept-other same other ∙ before.none; no_rows = step.rows-other other ∙ rows-same same ∙ before.no_rows }))

        later : runs_of done < shown_in done → (b : Bool) → begins_run here ≡ b → (runs_of more < shown_in more) ⊎ (shown_in more ≤ runs_of more) → Phase more next
        later less true begun (inl under) = still (inl under) (no-row S here (λ e. omega (arith, run-stage here begun, low)))
        later less true begun (inr most) = still (inr (omega (arith, step.begun-run begun, same.run), omega (arith, run-stage here begun, low))) (no-row S here (λ e. omega (arith, run-stage here begun, low)))
        later less false begun (inl under) =
            inr (inl (record { early = inl under; none = kept-unshown same (λ e. omega arith) ∙ before.none; no_rows = step.rows-unshown (λ e. omega arith) ∙ rows-same same ∙ before.no_rows }))
        later less false begun (inr most) = absurd (omega (arith, step.same-run begun, same.run))

        one-shown : (a : Option ℕ) → asked ≡ a → is_some a ≡ true → 1 ≤ run_shown a done
        one-shown (Some number) e some = from_one number e
        one-shown None e some = absurd cc

        shown : runs_of done ≡ shown_in done → stage n.spot.place ≤ 3 * place_of S + 1 → Phase more next
        shown now high = by (near S low n.spot.place high c)
          where
            no-run : begins_run here ≡ false
            no-run = false_from_ne_true (begins_run here) (λ begun.
                both_ways (begins_run here) (in-report S n.spot.place (inv.begun (omega (arith, now, one-shown asked refl (same.begun begun)))) high c).0 begun)

            enters : here ≡ place.Header S → Phase more next
            enters at =
                let now' : runs_of more ≡ shown_in more = step.same-run no-run ∙ now ∙ sym same.run in
                let other : is_row_of S here ≡ false = rw at refl in
                let rows : rows_of S (shown_in more) more ≡ [] = step.rows-other other ∙ rows-same same ∙ before.no_rows in
                let missed : next.spot.missed ≡ 0 = ap (λ (q : Place). (spot_at items n.spot q n.last c).missed) at in
                let none : length (wanted more) ≡ 0 = ap (λ (rs : List Cells). length (filter (wants items S) rs)) rows in
                inr (inr (inl (record {
                  now = now';
                  at = inl at;
                  sum = omega (arith, missed, none, ap length (kept-other same other ∙ before.none));
                  some = rw (kept-other same other ∙ before.none) (none-of (wanted more));
                  counted = ap (λ (q : Place). missed_of S (counts_at asked next.spot q n.counts)) at ∙ own-header S asked next.spot n.counts low (step.is-shown now');
                  few = omega (arith, none);
                })))

            by : (here ≡ place.Header S) ⊎ ((stage here ≤ 3 * place_of S + 1) ⊎ (here ≡ place.Wrong)) → Phase more next
            by (inl at) = enters at
            by (inr (inl under)) = still (inr (step.same-run no-run ∙ now ∙ sym same.run, under)) (no-row S here (λ e. omega arith))
            by (inr (inr at)) = inl (rw at refl)

        by : (runs_of done < shown_in done) ⊎ ((runs_of done ≡ shown_in done) × (stage n.spot.place ≤ 3 * place_of S + 1)) → Phase more next
        by (inl less) = later less (begins_run here) refl (cases_lt (runs_of more) (shown_in more))
        by (inr now) = shown now.0 now.1

    -- among its rows
    amid-more : Same → Amid done n → Phase more next
    amid-more same amid = by (rows-leave S c)
      where
        at-rows : (n.spot.place ≡ place.Header S) ⊎ (n.spot.place ≡ place.Row S) → here ≡ inside S c
        at-rows (inl e) = ap (λ (q : Place). place_after q c) e
        at-rows (inr e) = ap (λ (q : Place). place_after q c) e

        goes : here ≡ place.Row S → Phase more next
        goes at =
            let now : runs_of more ≡ shown_in more = step.same-run (ap begins_run at) ∙ amid.now ∙ sym same.run in
            let w : Bool = wants items S c in
            let takes : Bool = takes_at (place.Row S) in
            let rows : rows_of S (shown_in more) more ≡ rows_of S (shown_in done) done ++ (c ∷ []) = step.rows-added at now ∙ ap (λ (rs : List Cells). rs ++ (c ∷ [])) (rows-same same) in
            let all : length (wanted more) ≡ length (wanted done) + (if w then 1 else 0) =
            ap (λ (rs : List Cells). length (filter (wants items S) rs)) rows ∙ ap length (filter-append (wants items S) (rows_of S (shown_in done) done) (c ∷ []))
            ∙ length-append (wanted done) (if w then c ∷ [] else []) ∙ ap (λ (k : ℕ). length (wanted done) + k) (length-if w c) in
            let kept-is : length (kept next) ≡ length (kept n) + (if takes then 1 else 0) =
            ap (λ (t : List RowView). length (filter (is_in S) t)) (report-is at now)
            ∙ ap length (filter-append (is_in S) n.report (if takes then row ∷ [] else [])) ∙ length-append (kept n) (filter (is_in S) (if takes then row ∷ [] else [])) ∙ ap (λ (k : ℕ). length (kept n) + k) (own takes) in
            let missed : next.spot.missed ≡ min (n.spot.missed + (if w && not takes then 1 else 0)) (2 ^ 64 - 1) = ap (λ (q : Place). (spot_at items n.spot q n.last c).missed) at in
            let total = sums w (room_at (place.Row S) n.spot (w && leads n.spot n.last c) ((w && leads n.spot n.last c) && starts_at (place.Row S) c)) (length (kept n)) n.spot.missed (length (wanted done)) (length done) amid.sum amid.few countable in
            inr (inr (inl (record {
              now = now;
              at = inr at;
              sum = rw (kept-is, missed, all) total;
              some = rw (kept-rows at now, all-rows rows)
                  (some-more w (room_at (place.Row S) n.spot (w && leads n.spot n.last c) ((w && leads n.spot n.last c) && starts_at (place.Row S) c)) (records_of (kept n)) (wanted done) c amid.some);
              counted = ap (λ (q : Place). missed_of S (counts_at asked next.spot q n.counts)) at ∙ own-header S asked next.spot n.counts low (step.is-shown now);
              few = rw (all, length_push done c) (more-few w (length (wanted done)) (length done) amid.few);
            })))
          where
            all-rows : rows_of S (shown_in more) more ≡ rows_of S (shown_in done) done ++ (c ∷ []) → wanted more ≡ wanted done ++ (if wants items S c then c ∷ [] else [])
            all-rows rows = ap (λ (rs : List Cells). filter (wants items S) rs) rows ∙ filter-append (wants items S) (rows_of S (shown_in done) done) (c ∷ [])

            own-rows : (takes : Bool) → records_of (filter (is_in S) (if takes then row ∷ [] else [])) ≡ (if takes then c ∷ [] else [])
            own-rows true = rw (eq-eqb (place_of S) (place_of S) refl) refl
            own-rows false = refl

            own : (takes : Bool) → length (filter (is_in S) (if takes then row ∷ [] else [])) ≡ (if takes then 1 else 0)
            own true = rw (eq-eqb (place_of S) (place_of S) refl) refl
            own false = refl

            report-is : here ≡ place.Row S → runs_of more ≡ shown_in more → next.report ≡ n.report ++ (if takes_at (place.Row S) then row ∷ [] else [])
            report-is at now =
                ap (λ (t : List RowView). t ++ added) same.left
                ∙ ap (λ (t : List RowView). n.report ++ t)
                (ap (λ (q : Place). rows_taken (is_shown asked next.spot.run) (section_if (takes_at q) q) c) at ∙ ap (λ (b : Bool). rows_taken b (section_if (takes_at (place.Row S)) (place.Row S)) c) (step.is-shown now)
                ∙ row-added S (not-history S low) (takes_at (place.Row S)) c)

            kept-rows : here ≡ place.Row S → runs_of more ≡ shown_in more → records_of (kept next) ≡ records_of (kept n) ++ (if takes_at (place.Row S) then c ∷ [] else [])
            kept-rows at now =
                ap (λ (t : List RowView). records_of (filter (is_in S) t)) (report-is at now)
                ∙ ap records_of (filter-append (is_in S) n.report (if takes_at (place.Row S) then row ∷ [] else []))
                ∙ map-append (λ (r : RowView). r.cells) (kept n) (filter (is_in S) (if takes_at (place.Row S) then row ∷ [] else []))
                ∙ ap (λ (t : List Cells). records_of (kept n) ++ t) (own-rows (takes_at (place.Row S)))

        leaves : (shown_in more < runs_of more) ⊎ ((runs_of more ≡ shown_in more) × (3 * place_of S + 3 < stage here)) → (stage here ≡ 3 * place_of S + 2 → ⊥) → (stage here ≡ 3 * place_of S + 3 → ⊥) → Phase more next
        leaves late no-header no-own =
            let other : is_row_of S here ≡ false = no-row S here no-own in
            let rows = step.rows-other other ∙ rows-same same in
            inr (inr (inr (record {
              late = late;
              sum = rw (kept-other same other, count-kept S asked next.spot here n.counts no-header no-own, amid.counted, ap (filter (wants items S)) rows) amid.sum;
              some = rw (kept-other same other, ap (filter (wants items S)) rows) amid.some;
            })))

        by : (inside S c ≡ place.Row S) ⊎ ((begins_run (inside S c) ≡ true) ⊎ ((begins_run (inside S c) ≡ false) × (3 * place_of S + 3 < stage (inside S c)))) → Phase more next
        by (inl e) = goes (at-rows amid.at ∙ e)
        by (inr (inl begun)) =
            let begins : begins_run here ≡ true = ap begins_run (at-rows amid.at) ∙ begun in
            leaves (inl (omega (arith, step.begun-run begins, amid.now, same.run))) (λ e. omega (arith, run-stage here begins, low)) (λ e. omega (arith, run-stage here begins, low))
        by (inr (inr out)) =
            let past : 3 * place_of S + 3 < stage here = subst (λ (q : Place). 3 * place_of S + 3 < stage q) (sym (at-rows amid.at)) out.1 in
            leaves (inr (step.same-run (ap begins_run (at-rows amid.at) ∙ out.0) ∙ amid.now ∙ sym same.run, past)) (λ e. omega arith) (λ e. omega arith)

    -- after the section
    behind-more : Same → Behind done n → Phase more next
    behind-more same behind = by behind.late
      where
        gone : shown_in more < runs_of more → Phase more next
        gone past =
            let rows = step.rows-unshown (λ e. omega arith) ∙ rows-same same in
            inr (inr (inr (record {
              late = inl past;
              sum = rw (kept-unshown same (λ e. omega arith), count-unshown S low asked next.spot here n.counts (step.not-shown (λ e. omega arith)), ap (filter (wants items S)) rows) behind.sum;
              some = rw (kept-unshown same (λ e. omega arith), ap (filter (wants items S)) rows) behind.some;
            })))

        on : runs_of done ≡ shown_in done → (begins_run here ≡ true) ⊎ ((begins_run here ≡ false) × (3 * place_of S + 3 < stage here)) → Phase more next
        on now (inl begun) = gone (omega (arith, step.begun-run begun, same.run))
        on now (inr past) =
            let other : is_row_of S here ≡ false = no-row S here (λ e. omega (arith, past.1)) in
            let rows = step.rows-other other ∙ rows-same same in
            inr (inr (inr (record {
              late = inr (step.same-run past.0 ∙ now ∙ sym same.run, past.1);
              sum = rw (kept-other same other, count-kept S asked next.spot here n.counts (λ e. omega (arith, past.1)) (λ e. omega (arith, past.1)), ap (filter (wants items S)) rows) behind.sum;
              some = rw (kept-other same other, ap (filter (wants items S)) rows) behind.some;
            })))

        least : (b : Bool) → begins_run here ≡ b → runs_of done ≤ runs_of more
        least true e = omega (arith, step.begun-run e)
        least false e = omega (arith, step.same-run e)

        by : (shown_in done < runs_of done) ⊎ ((runs_of done ≡ shown_in done) × (3 * place_of S + 3 < stage n.spot.place)) → Phase more next
        by (inl past) = gone (omega (arith, least (begins_run here) refl, same.run))
        by (inr now) = on now.0 (goes-on S n.spot.place now.1 c)

    -- if the next run begins, and the last one is shown
    fresh-more : FreshRun items asked S done n c → Phase more next
    fresh-more fresh =
        let other : is_row_of S here ≡ false = no-row S here (λ e. omega (arith, run-stage here fresh.begun, low)) in
        inr (inl (record {
          early = inr (fresh.run, omega (arith, run-stage here fresh.begun, low));
          none = ap (λ (t : List RowView). filter (is_in S) (t ++ added)) fresh.left ∙ none-passes (is_in S) added (others-added S (is_shown asked next.spot.run) (takes_at here) here c other);
          no_rows = step.rows-other other ∙ rows-later S (shown_in more) 0 place.Front done (omega (arith, fresh.run, step.begun-run fresh.begun));
        }))

    inv-more : Inv more next
    inv-more = record { place = step.here-is; runs = step.run-is; begun = begun (begins_run here) refl; phase = by step.same-or-fresh inv.phase (is_wrong here) refl }
      where
        begun : (b : Bool) → begins_run here ≡ b → 1 ≤ runs_of more → 4 ≤ stage here
        begun true e some = omega (arith, run-stage here e)
        begun false e some = stays-in-report n.spot.place (inv.begun (omega (arith, step.same-run e, some))) c

        by : SameRun items asked S done n c ⊎ FreshRun items asked S done n c → Phase done n → (wrong : Bool) → is_wrong here ≡ wrong → Phase more next
        by which phase true e = inl e
        by (inr fresh) phase false e = fresh-more fresh
        by (inl same) (inl wrong) false e = absurd (both_ways (is_wrong here) e (wrong-stays n.spot.place c wrong))
        by (inl same) (inr (inl before)) false e = before-more same before e
        by (inl same) (inr (inr (inl amid))) false e = amid-more same amid
        by (inl same) (inr (inr (inr behind))) false e = behind-more same behind

  all-more : (done rest : List Cells) (n : Noted) → Inv done n → ((number : ℕ) → asked ≡ Some number → 1 ≤ number) → length (done ++ rest) < 2 ^ 64 → Inv (done ++ rest) (noted_from items asked n rest)
  unfolding noted_from
  all-more done [] n inv from_one countable = subst (λ (ds : List Cells). Inv ds n) (sym (append-nil done)) inv
  all-more done (c ∷ rest) n inv from_one countable =
      let assoc : (done ++ (c ∷ [])) ++ rest ≡ done ++ (c ∷ rest) = append_assoc done (c ∷ []) rest in
      let few : length done + 1 < 2 ^ 64 = omega (arith, length-append done (c ∷ rest)) in
      subst (λ (ds : List Cells). Inv ds (noted_from items asked (noted items asked n c) rest)) assoc
      (all-more (done ++ (c ∷ [])) rest (noted items asked n c) (inv-more done n c inv from_one few) from_one (subst (λ (ds : List Cells). length ds < 2 ^ 64) (sym assoc) countable))

  first : ((number : ℕ) → asked ≡ Some number → 1 ≤ number) → Inv [] none_noted
  unfolding place_from runs_from rows_from
  first from_one = record { place = refl; runs = refl; begun = λ some. absurd (omega arith); phase = inr (inl (record { early = by asked refl; none = refl; no_rows = refl })) }
    where
      by : (a : Option ℕ) → asked ≡ a → (0 < shown_in []) ⊎ ((0 ≡ shown_in []) × (0 ≤ 3 * place_of S + 1))
      by (Some number) e = inl (rw e (from_one number e))
      by None e = inr (rw e refl, omega arith)

  record IsRead (records : List Cells) (n : Noted) : Type 0 where
    sum : length (kept n) + missed_of S n.counts ≡ length (wanted records)
    some : AreSomeOf (records_of (kept n)) (wanted records)

  sum-of : (records : List Cells) (n : Noted) → Phase records n → is_end n.spot.place ≡ true → shown_in records ≤ runs_of records → IsRead records n
  sum-of records n phase end begun = by phase (end-stage n.spot.place end)
    where
      early : Before records n → 23 ≤ stage n.spot.place → ⊥
      early before late = of before.early
        where
          of : (runs_of records < shown_in records) ⊎ ((runs_of records ≡ shown_in records) × (stage n.spot.place ≤ 3 * place_of S + 1)) → ⊥
          of (inl less) = omega arith
          of (inr now) = omega (arith, now.1, place-most S)

      by : Phase records n → (23 ≤ stage n.spot.place) × (is_wrong n.spot.place ≡ false) → IsRead records n
      by (inl wrong) ends = absurd (both_ways (is_wrong n.spot.place) ends.1 wrong)
      by (inr (inl before)) ends = absurd (early before ends.0)
      by (inr (inr (inl amid))) ends = record { sum = rw amid.counted amid.sum; some = amid.some }
      by (inr (inr (inr behind))) ends = record { sum = behind.sum; some = behind.some }

module _ (items : Names) (asked : Option ℕ) (records : List Cells) (notes : Noted) (day : IsDayOf items asked records notes) (countable : length records < 2 ^ 64) (S : Section) (low : 2 ≤ place_of S) where
  all-read : IsRead items asked S low records (notes_of items asked records)
  all-read =
      let from_one = asked-from asked notes.spot.run day.run in
      let inv : Inv items asked S low records (notes_of items asked records) = all-more items asked S low [] records none_noted (first items asked S low from_one) from_one countable in
      let has : has_run asked (runs_of records) ≡ true = ap (has_run asked) (sym inv.runs ∙ ap (λ (n : Noted). n.spot.run) (sym day.kept)) ∙ day.run in
      sum-of items asked S low records (notes_of items asked records) inv.phase (ap is_end inv.place ∙ day.day) (has-begun asked records has)

  pub kept-or-counted : length (filter (is_in S) notes.report) + missed_of S notes.counts ≡ length (wanted_rows items S (run_shown asked records) records)
  kept-or-counted = ap (λ (n : Noted). length (filter (is_in S) n.report) + missed_of S n.counts) day.kept ∙ all-read.sum

  pub kept-in-order : AreSomeOf (records_of (filter (is_in S) notes.report)) (wanted_rows items S (run_shown asked records) records)
  kept-in-order = subst (λ (n : Noted). AreSomeOf (records_of (filter (is_in S) n.report)) (wanted_rows items S (run_shown asked records) records)) (sym day.kept) all-read.some

  pub all-kept : missed_of S notes.counts ≡ 0 → records_of (filter (is_in S) notes.report) ≡ wanted_rows items S (run_shown asked records) records
  all-kept none =
      some-all (records_of (filter (is_in S) notes.report)) (wanted_rows items S (run_shown asked records) records) kept-in-order
      (omega (arith, kept-or-counted, none, length-map (filter (is_in S) notes.report) (λ (r : RowView). r.cells)))
