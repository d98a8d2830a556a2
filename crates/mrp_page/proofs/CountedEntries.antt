-- The entries of the history that are kept, and those that are counted as left out, are all of them.
use Rattle.std.proofs.Common.{◌≡◌, ◌∙◌, ◌⊎◌, ◌+◌, ◌-◌, ◌^◌, ◌<◌, ◌≤◌, ℕ, Bool, true, false, not, List, [], ◌∷◌, ◌++◌, Option, length, refl, sym, ap, subst, arith, inl, inr, append_assoc}
use Rattle.std.specs.Prelude.{◌&&◌, ◌||◌, ◌==◌, if◌then◌else◌, min, slice_index_or}
use Rattle.std.proofs.lemmas.Bool.{eq-eqb}
use Rattle.std.proofs.lemmas.List.{append-nil, length_push, length-append}
use Rattle.mrp_page.specs.Notes.{Noted, counts_at, history_rows, none_noted, noted, noted_from, notes_of}
use Rattle.mrp_page.specs.Reading.{IsDayOf}
use Rattle.mrp_page.specs.Row.{Cells, RowView}
use Rattle.mrp_page.specs.Section.{next_of}
use Rattle.mrp_page.specs.Shown.{is_row_of, row_if, rows_from, rows_of, runs_from, runs_of, runs_with}
use Rattle.mrp_page.specs.Spot.{Names, begins_run, inside, is_among, is_end, is_wanted, leads, place_after, place_from, room_at, section_if, spot_at, starts_at, wants}
use Rattle.mrp_page.specs.Spot.{place_of as place_in}
use Rattle.mrp_day.specs.declared.section.Section.TheVariants as s
use Rattle.mrp_page.specs.declared.spot.Place.{Place}
use Rattle.mrp_page.specs.declared.spot.Place.TheVariants as place
use Rattle.mrp_page.proofs.CountedRows.{count-kept}
use Rattle.mrp_page.proofs.SectionRows.{after-begun, after-line, after-rows, no-row, place-more, rows-more, runs-more, same-place, stage, stays-in-report}
use Rattle.mrp_page.proofs.ShownItems.{end-stage}

-- no entry is left out of what a page should show
wants-all : (items : Names) (c : Cells) → wants items s.History c ≡ true
wants-all items c = by (length items == 0)
  where
    by : (b : Bool) → (if b || true then true else is_among items (slice_index_or c 0 [])) ≡ true
    by true = refl
    by false = refl

no-history : (takes : Bool) (here : Place) (c : Cells) → is_row_of s.History here ≡ false → history_rows (section_if takes here) c ≡ []
no-history false here c other = refl
no-history true place.Front c other = refl
no-history true (place.Line x) c other = refl
no-history true (place.Header x) c other = refl
no-history true (place.Row s.History) c other = absurd cc
no-history true (place.Row x) c other = refl
no-history true place.Wrong c other = refl

its-history : (takes : Bool) (c : Cells) → length (history_rows (section_if takes (place.Row s.History)) c) ≡ (if takes then 1 else 0)
its-history true c = refl
its-history false c = refl

one-more : (w takes : Bool) (kept missed all records : ℕ) → w ≡ true → kept + missed ≡ all → all ≤ records → records + 1 < 2 ^ 64
    → (kept + (if takes then 1 else 0)) + min (missed + (if w && not takes then 1 else 0)) (2 ^ 64 - 1) ≡ all + 1
one-more true true kept missed all records whole is few small = omega arith
one-more true false kept missed all records whole is few small = omega arith
one-more false takes kept missed all records whole is few small = absurd cc

module _ (items : Names) (asked : Option ℕ) where
  abbrev entries : List Cells → List Cells
  entries done = rows_of s.History 0 done

  -- its line was read at most
  record Unread (done : List Cells) (n : Noted) : Type 0 where
    early : stage n.spot.place ≤ 1
    none_begun : runs_of done ≡ 0
    none_kept : n.history ≡ []
    none_counted : n.counts.history ≡ 0
    none : entries done ≡ []

  -- its rows are read
  record Reading (done : List Cells) (n : Noted) : Type 0 where
    at : (n.spot.place ≡ place.Header s.History) ⊎ (n.spot.place ≡ place.Row s.History)
    none_begun : runs_of done ≡ 0
    sum : length n.history + n.spot.missed ≡ length (entries done)
    counted : n.counts.history ≡ n.spot.missed
    few : length (entries done) ≤ length done

  -- they were read, or no day has such records
  record Read (done : List Cells) (n : Noted) : Type 0 where
    late : 4 ≤ stage n.spot.place
    sum : length n.history + n.counts.history ≡ length (entries done)

  abbrev Phase : List Cells → Noted → Type 0
  Phase done n = Unread done n ⊎ (Reading done n ⊎ Read done n)

  record Inv (done : List Cells) (n : Noted) : Type 0 where
    place : n.spot.place ≡ place_in done
    phase : Phase done n

  module _ (done : List Cells) (n : Noted) (c : Cells) (inv : Inv done n) (countable : length done + 1 < 2 ^ 64) where
    abbrev more : List Cells
    more = done ++ (c ∷ [])

    abbrev here : Place
    here = place_after n.spot.place c

    abbrev next : Noted
    next = noted items asked n c

    abbrev takes_at : Place → Bool
    takes_at q = is_wanted items q c && room_at q n.spot (is_wanted items q c && leads n.spot n.last c) ((is_wanted items q c && leads n.spot n.last c) && starts_at q c)

    entries-are : entries more ≡ entries done ++ row_if (is_row_of s.History here && (runs_with (runs_of done) here == 0)) c
    entries-are = rows-more s.History 0 0 place.Front done c ∙ ap (λ (q : Place). entries done ++ row_if (is_row_of s.History (place_after q c) && (runs_with (runs_of done) (place_after q c) == 0)) c) (sym inv.place)

    entries-other : is_row_of s.History here ≡ false → entries more ≡ entries done
    entries-other e = entries-are ∙ ap (λ (b : Bool). entries done ++ row_if (b && (runs_with (runs_of done) here == 0)) c) e ∙ append-nil (entries done)

    entries-own : here ≡ place.Row s.History → runs_of done ≡ 0 → entries more ≡ entries done ++ (c ∷ [])
    entries-own at none = entries-are ∙ ap (λ (q : Place). entries done ++ row_if (is_row_of s.History q && (runs_with (runs_of done) q == 0)) c) at ∙ ap (λ (b : Bool). entries done ++ row_if b c) (eq-eqb (runs_of done) 0 none)

    runs-same : begins_run here ≡ false → runs_of more ≡ runs_of done
    runs-same e = runs-more 0 place.Front done c ∙ ap (λ (q : Place). runs_with (runs_of done) (place_after q c)) (sym inv.place) ∙ ap (λ (b : Bool). if b then runs_of done + 1 else runs_of done) e

    kept-same : is_row_of s.History here ≡ false → next.history ≡ n.history
    kept-same other = ap (λ (t : List RowView). n.history ++ t) (no-history (takes_at here) here c other) ∙ append-nil n.history

    later : 4 ≤ stage here → length n.history + n.counts.history ≡ length (entries done) → Read more next
    later late sum =
        let other : is_row_of s.History here ≡ false = no-row s.History here (λ e. omega arith) in
        record { late = late; sum = rw (kept-same other, count-kept s.History asked next.spot here n.counts (λ e. omega arith) (λ e. omega arith), entries-other other) sum }

    reads : Reading done n → Phase more next
    reads amid = by (after-rows s.History c)
      where
        here-is : (n.spot.place ≡ place.Header s.History) ⊎ (n.spot.place ≡ place.Row s.History) → here ≡ inside s.History c
        here-is (inl e) = ap (λ (q : Place). place_after q c) e
        here-is (inr e) = ap (λ (q : Place). place_after q c) e

        sum : length n.history + n.counts.history ≡ length (entries done)
        sum = rw amid.counted amid.sum

        goes : here ≡ place.Row s.History → Reading more next
        goes at =
            let all : length (entries more) ≡ length (entries done) + 1 = ap length (entries-own at amid.none_begun) ∙ length_push (entries done) c in
            let kept-is : length next.history ≡ length n.history + (if takes_at (place.Row s.History) then 1 else 0) =
            length-append n.history (history_rows next.spot.takes c) ∙ ap (λ (q : Place). length n.history + length (history_rows (section_if (takes_at q) q) c)) at
            ∙ ap (λ (k : ℕ). length n.history + k) (its-history (takes_at (place.Row s.History)) c) in
            let missed : next.spot.missed ≡ min (n.spot.missed + (if wants items s.History c && not (takes_at (place.Row s.History)) then 1 else 0)) (2 ^ 64 - 1) =
            ap (λ (q : Place). (spot_at items n.spot q n.last c).missed) at in
            record {
              at = inr at;
              none_begun = runs-same (ap begins_run at) ∙ amid.none_begun;
              sum = rw (kept-is, missed, all) (one-more (wants items s.History c) (takes_at (place.Row s.History)) (length n.history) n.spot.missed (length (entries done)) (length done) (wants-all items c) amid.sum amid.few countable);
              counted = ap (λ (q : Place). (counts_at asked next.spot q n.counts).history) at;
              few = omega (arith, all, length_push done c, amid.few);
            }

        by : (inside s.History c ≡ place.Row s.History) ⊎ ((inside s.History c ≡ place.Line (next_of s.History)) ⊎ (inside s.History c ≡ place.Wrong)) → Phase more next
        by (inl e) = inr (inl (goes (here-is amid.at ∙ e)))
        by (inr (inl e)) = inr (inr (later (rw (here-is amid.at ∙ e) (omega arith)) sum))
        by (inr (inr e)) = inr (inr (later (rw (here-is amid.at ∙ e) (omega arith)) sum))

    -- before its first row
    not-yet : Unread done n → here ≡ place.Line s.History → Unread more next
    not-yet unread at =
        let other : is_row_of s.History here ≡ false = rw at refl in
        record {
          early = rw at (omega arith);
          none_begun = runs-same (ap begins_run at) ∙ unread.none_begun;
          none_kept = kept-same other ∙ unread.none_kept;
          none_counted = count-kept s.History asked next.spot here n.counts (λ e. omega (arith, ap stage at)) (λ e. omega (arith, ap stage at)) ∙ unread.none_counted;
          none = entries-other other ∙ unread.none;
        }

    opens : Unread done n → here ≡ place.Header s.History → Reading more next
    opens unread at =
        let other : is_row_of s.History here ≡ false = rw at refl in
        let missed : next.spot.missed ≡ 0 = ap (λ (q : Place). (spot_at items n.spot q n.last c).missed) at in
        let none : length (entries more) ≡ 0 = ap length (entries-other other ∙ unread.none) in
        record {
          at = inl at;
          none_begun = runs-same (ap begins_run at) ∙ unread.none_begun;
          sum = omega (arith, missed, none, ap length (kept-same other ∙ unread.none_kept));
          counted = ap (λ (q : Place). (counts_at asked next.spot q n.counts).history) at;
          few = omega (arith, none);
        }

    breaks : Unread done n → here ≡ place.Wrong → Read more next
    breaks unread at = later (rw at (omega arith)) (omega (arith, ap length unread.none_kept, unread.none_counted, ap length unread.none))

    begins : Unread done n → Phase more next
    begins unread = by n.spot.place refl unread.early
      where
        from-front : (here ≡ place.Line s.History) ⊎ (here ≡ place.Wrong) → Phase more next
        from-front (inl at) = inl (not-yet unread at)
        from-front (inr at) = inr (inr (breaks unread at))

        from-line : (here ≡ place.Header s.History) ⊎ (here ≡ place.Wrong) → Phase more next
        from-line (inl at) = inr (inl (opens unread at))
        from-line (inr at) = inr (inr (breaks unread at))

        by : (q : Place) → n.spot.place ≡ q → stage q ≤ 1 → Phase more next
        by place.Front e early = from-front (subst (λ (q : Place). (place_after q c ≡ place.Line s.History) ⊎ (place_after q c ≡ place.Wrong)) (sym e) (after-begun s.History c))
        by (place.Line x) e early =
            from-line (subst (λ (q : Place). (place_after q c ≡ place.Header s.History) ⊎ (place_after q c ≡ place.Wrong)) (sym (e ∙ ap place.Line (same-place x s.History (omega arith)))) (after-line s.History c))
        by (place.Header x) e early = absurd (omega arith)
        by (place.Row x) e early = absurd (omega arith)
        by place.Wrong e early = absurd (omega arith)

    inv-more : Inv more next
    inv-more = record { place = ap (λ (q : Place). place_after q c) inv.place ∙ sym (place-more place.Front done c); phase = by inv.phase }
      where
        by : Phase done n → Phase more next
        by (inl unread) = begins unread
        by (inr (inl reading)) = reads reading
        by (inr (inr read)) = inr (inr (later (stays-in-report n.spot.place read.late c) read.sum))

  all-more : (done rest : List Cells) (n : Noted) → Inv done n → length (done ++ rest) < 2 ^ 64 → Inv (done ++ rest) (noted_from items asked n rest)
  unfolding noted_from
  all-more done [] n inv countable = subst (λ (ds : List Cells). Inv ds n) (sym (append-nil done)) inv
  all-more done (c ∷ rest) n inv countable =
      let assoc : (done ++ (c ∷ [])) ++ rest ≡ done ++ (c ∷ rest) = append_assoc done (c ∷ []) rest in
      let few : length done + 1 < 2 ^ 64 = omega (arith, length-append done (c ∷ rest)) in
      subst (λ (ds : List Cells). Inv ds (noted_from items asked (noted items asked n c) rest)) assoc
      (all-more (done ++ (c ∷ [])) rest (noted items asked n c) (inv-more done n c inv few) (subst (λ (ds : List Cells). length ds < 2 ^ 64) (sym assoc) countable))

  first : Inv [] none_noted
  unfolding place_from runs_from rows_from
  first = record { place = refl; phase = inl (record { early = omega arith; none_begun = refl; none_kept = refl; none_counted = refl; none = refl }) }

  sum-of : (records : List Cells) (n : Noted) → Phase records n → is_end n.spot.place ≡ true → length n.history + n.counts.history ≡ length (entries records)
  sum-of records n phase end = by phase (end-stage n.spot.place end).0
    where
      by : Phase records n → 23 ≤ stage n.spot.place → length n.history + n.counts.history ≡ length (entries records)
      by (inl unread) late = absurd (omega (arith, unread.early))
      by (inr (inl reading)) late = rw reading.counted reading.sum
      by (inr (inr read)) late = read.sum

pub entries-kept-or-counted : (items : Names) (asked : Option ℕ) (records : List Cells) (notes : Noted) → IsDayOf items asked records notes → length records < 2 ^ 64
    → length notes.history + notes.counts.history ≡ length (rows_of s.History 0 records)
entries-kept-or-counted items asked records notes day countable =
    let inv : Inv items asked records (notes_of items asked records) = all-more items asked [] records none_noted (first items asked) countable in
    ap (λ (n : Noted). length n.history + n.counts.history) day.kept ∙ sum-of items asked records (notes_of items asked records) inv.phase (ap is_end inv.place ∙ day.day)
