-- What one more record of a day adds, of a section and the run that is shown.
use Rattle.std.proofs.Common.{◌≡◌, ◌∙◌, ◌⊎◌, ◌+◌, ◌-◌, ◌^◌, ◌<◌, ℕ, Bool, true, false, List, [], ◌∷◌, ◌++◌, Option, Some, None, length, refl, sym, ap, arith, inl, inr}
use Rattle.std.specs.Prelude.{◌&&◌, ◌==◌, if◌then◌else◌, is_some, min}
use Rattle.std.proofs.lemmas.Bool.{and_left, and_right, both_ways, eq-eqb, ne_eqb}
use Rattle.std.proofs.lemmas.List.{append-nil}
use Rattle.mrp_page.specs.Notes.{Noted, is_shown, noted, rows_left, rows_taken}
use Rattle.mrp_page.specs.Row.{Cells, RowView}
use Rattle.mrp_page.specs.Section.{place_of}
use Rattle.mrp_page.specs.Shown.{is_row_of, row_if, rows_of, run_shown, runs_of, runs_with}
use Rattle.mrp_page.specs.Spot.{Names, after, begins_run, is_wanted, leads, place_after, room_at, run_at, section_if, starts_at}
use Rattle.mrp_page.specs.Spot.{place_of as place_in}
use Rattle.mrp_day.specs.declared.section.Section.{Section}
use Rattle.mrp_page.specs.declared.spot.Place.{Place}
use Rattle.mrp_page.specs.declared.spot.Place.TheVariants as place
use Rattle.mrp_page.specs.declared.spot.Spot.{Spot}
use Rattle.mrp_page.proofs.SectionRows.{none-added, place-more, rows-more, runs-more, runs-most}

module _ (items : Names) (asked : Option ℕ) (S : Section) (done : List Cells) (n : Noted) (c : Cells) where
  -- the run that is shown, and its rows of the section
  abbrev pub shown_in : List Cells → ℕ
  shown_in before = run_shown asked before

  abbrev pub section_rows : List Cells → List Cells
  section_rows before = rows_of S (shown_in before) before

  abbrev pub more : List Cells
  more = done ++ (c ∷ [])

  abbrev pub here : Place
  here = place_after n.spot.place c

  abbrev pub next_spot : Spot
  next_spot = after items n.spot n.last c

  abbrev pub next : Noted
  next = noted items asked n c

  -- whether the record is taken, by its place
  abbrev pub takes_at : Place → Bool
  takes_at q = is_wanted items q c && room_at q n.spot (is_wanted items q c && leads n.spot n.last c) ((is_wanted items q c && leads n.spot n.last c) && starts_at q c)

  abbrev pub added : List RowView
  added = rows_taken (is_shown asked next_spot.run) (section_if (takes_at here) here) c

  -- the same run is shown as before, or the last one, which begins here
  pub record SameRun : Type 0 where
    pub run : shown_in more ≡ shown_in done
    pub left : rows_left asked next_spot n.report ≡ n.report
    pub begun : begins_run here ≡ true → is_some asked ≡ true

  pub record FreshRun : Type 0 where
    pub begun : begins_run here ≡ true
    pub run : runs_of more ≡ shown_in more
    pub left : rows_left asked next_spot n.report ≡ []

  -- what holds of this record
  pub record Step : Type 0 where
    pub here-is : here ≡ place_in more
    pub run-is : next_spot.run ≡ runs_of more
    pub begun-run : begins_run here ≡ true → runs_of more ≡ runs_of done + 1
    pub same-run : begins_run here ≡ false → runs_of more ≡ runs_of done
    pub is-shown : runs_of more ≡ shown_in more → is_shown asked next_spot.run ≡ true
    pub not-shown : (runs_of more ≡ shown_in more → ⊥) → is_shown asked next_spot.run ≡ false
    pub rows-other : is_row_of S here ≡ false → section_rows more ≡ rows_of S (shown_in more) done
    pub rows-unshown : (runs_of more ≡ shown_in more → ⊥) → section_rows more ≡ rows_of S (shown_in more) done
    pub rows-added : here ≡ place.Row S → runs_of more ≡ shown_in more → section_rows more ≡ rows_of S (shown_in more) done ++ (c ∷ [])
    pub same-or-fresh : SameRun ⊎ FreshRun
    pub none-more : (runs_of more ≡ shown_in more → ⊥) → added ≡ []

  module _ (placed : n.spot.place ≡ place_in done) (numbered : n.spot.run ≡ runs_of done) (countable : length done + 1 < 2 ^ 64) where
    here-is : here ≡ place_in more
    here-is = ap (λ (q : Place). place_after q c) placed ∙ sym (place-more place.Front done c)

    runs-is : runs_of more ≡ runs_with (runs_of done) here
    runs-is = runs-more 0 place.Front done c ∙ ap (λ (q : Place). runs_with (runs_of done) (place_after q c)) (sym placed)

    run-is : next_spot.run ≡ runs_of more
    run-is = ap (λ (m : ℕ). run_at m here) numbered ∙ by (begins_run here) ∙ sym runs-is
      where
        by : (b : Bool) → (if b then min (runs_of done + 1) (2 ^ 64 - 1) else runs_of done) ≡ (if b then runs_of done + 1 else runs_of done)
        by true = omega (arith, runs-most 0 place.Front done)
        by false = refl

    begun-run : begins_run here ≡ true → runs_of more ≡ runs_of done + 1
    begun-run e = runs-is ∙ ap (λ (b : Bool). if b then runs_of done + 1 else runs_of done) e

    same-run : begins_run here ≡ false → runs_of more ≡ runs_of done
    same-run e = runs-is ∙ ap (λ (b : Bool). if b then runs_of done + 1 else runs_of done) e

    is-shown : runs_of more ≡ shown_in more → is_shown asked next_spot.run ≡ true
    is-shown e = ap (is_shown asked) run-is ∙ by asked e
      where
        by : (a : Option ℕ) → runs_of more ≡ run_shown a more → is_shown a (runs_of more) ≡ true
        by None same = refl
        by (Some number) same = eq-eqb number (runs_of more) (sym same)

    not-shown : (runs_of more ≡ shown_in more → ⊥) → is_shown asked next_spot.run ≡ false
    not-shown e = ap (is_shown asked) run-is ∙ by asked e
      where
        by : (a : Option ℕ) → (runs_of more ≡ run_shown a more → ⊥) → is_shown a (runs_of more) ≡ false
        by None other = absurd (other refl)
        by (Some number) other = ne_eqb number (runs_of more) (λ same. other (sym same))

    rows-are : section_rows more ≡ rows_of S (shown_in more) done ++ row_if (is_row_of S here && (runs_of more == shown_in more)) c
    rows-are =
        rows-more S (shown_in more) 0 place.Front done c
        ∙ ap (λ (q : Place). rows_of S (shown_in more) done ++ row_if (is_row_of S (place_after q c) && (runs_with (runs_of done) (place_after q c) == shown_in more)) c) (sym placed)
        ∙ ap (λ (m : ℕ). rows_of S (shown_in more) done ++ row_if (is_row_of S here && (m == shown_in more)) c) (sym runs-is)

    rows-other : is_row_of S here ≡ false → section_rows more ≡ rows_of S (shown_in more) done
    rows-other e = rows-are ∙ ap (λ (b : Bool). rows_of S (shown_in more) done ++ row_if b c) (and_left (is_row_of S here) (runs_of more == shown_in more) e) ∙ append-nil (rows_of S (shown_in more) done)

    rows-unshown : (runs_of more ≡ shown_in more → ⊥) → section_rows more ≡ rows_of S (shown_in more) done
    rows-unshown e =
        rows-are ∙ ap (λ (b : Bool). rows_of S (shown_in more) done ++ row_if b c) (and_right (is_row_of S here) (runs_of more == shown_in more) (ne_eqb (runs_of more) (shown_in more) e)) ∙ append-nil (rows_of S (shown_in more) done)

    rows-added : here ≡ place.Row S → runs_of more ≡ shown_in more → section_rows more ≡ rows_of S (shown_in more) done ++ (c ∷ [])
    rows-added at e =
        rows-are ∙ ap (λ (q : Place). rows_of S (shown_in more) done ++ row_if (is_row_of S q && (runs_of more == shown_in more)) c) at
        ∙ ap (λ (b : Bool). rows_of S (shown_in more) done ++ row_if b c) (ap (λ (b : Bool). b && (runs_of more == shown_in more)) (eq-eqb (place_of S) (place_of S) refl) ∙ eq-eqb (runs_of more) (shown_in more) e)

    same-or-fresh : SameRun ⊎ FreshRun
    same-or-fresh = by asked refl (begins_run here) refl
      where
        by : (a : Option ℕ) → asked ≡ a → (b : Bool) → begins_run here ≡ b → SameRun ⊎ FreshRun
        by (Some number) e b begun = inl (record { run = rw e refl; left = rw e refl; begun = λ _. rw e refl })
        by None e true begun = inr (record { begun = begun; run = rw e refl; left = rw (e, begun) refl })
        by None e false begun = inl (record { run = rw e (same-run begun); left = rw (e, begun) refl; begun = λ yes. absurd (both_ways (begins_run here) begun yes) })

    none-more : (runs_of more ≡ shown_in more → ⊥) → added ≡ []
    none-more e = ap (λ (b : Bool). rows_taken b (section_if (takes_at here) here) c) (not-shown e) ∙ none-added (section_if (takes_at here) here) c

    -- before the section

    pub step-of : Step
    step-of = record {
      here-is = here-is;
      run-is = run-is;
      begun-run = begun-run;
      same-run = same-run;
      is-shown = is-shown;
      not-shown = not-shown;
      rows-other = rows-other;
      rows-unshown = rows-unshown;
      rows-added = rows-added;
      same-or-fresh = same-or-fresh;
      none-more = none-more;
    }
