-- The rows of a section stand together among those that are kept of a report.
use Rattle.std.proofs.Common.{◌≡◌, ◌∙◌, ◌⊎◌, ◌+◌, ◌*◌, ◌^◌, ◌<◌, ◌≤◌, ℕ, Bool, true, false, not, List, [], ◌∷◌, ◌++◌, Option, None, length, refl, sym, ap, subst, arith, inl, inr, append_assoc}
use Rattle.std.specs.Prelude.{◌&&◌, ◌==◌, if◌then◌else◌}
use Rattle.std.specs.List.{All, before_first, filter}
use Rattle.std.proofs.lemmas.Bool.{both_ways, eqb-false, eqb-true, ne_eqb}
use Rattle.std.proofs.lemmas.List.{append-nil, length-append}
use Rattle.std.proofs.lemmas.List.Elements.{All-append, All-cons, All-head, All-nil, All-tail}
use Rattle.mrp_page.specs.Counted.{kept_of}
use Rattle.mrp_page.specs.Notes.{Noted, none_noted, noted, noted_from, notes_of, rows_taken, is_shown}
use Rattle.mrp_page.specs.Row.{Cells, RowView, is_in}
use Rattle.mrp_page.specs.Rows.{rows_in, stretch}
use Rattle.mrp_page.specs.Section.{is_history, next_of, place_of}
use Rattle.mrp_page.specs.Shown.{run_shown, runs_from, runs_of}
use Rattle.mrp_page.specs.Spot.{Names, begins_run, inside, is_run, is_wanted, leads, place_after, place_from, room_at, section_if, starts_at}
use Rattle.mrp_page.specs.Spot.{place_of as place_in}
use Rattle.mrp_day.specs.declared.section.Section.{Section}
use Rattle.mrp_day.specs.declared.section.Section.TheVariants as s
use Rattle.mrp_page.specs.declared.spot.Place.{Place}
use Rattle.mrp_page.specs.declared.spot.Place.TheVariants as place
use Rattle.mrp_page.proofs.CountedRows.{none-passes}
use Rattle.mrp_page.proofs.SectionRows.{after-line, after-rows, begins, ends, here, next-section, place-most, skip, stage}
use Rattle.mrp_page.proofs.Steps.{FreshRun, SameRun, Step, step-of}

-- the sections of rows do not fall in their order
abbrev From : ℕ → List RowView → Type 0
From least rows = All (λ q. least ≤ place_of q.section) rows

abbrev Ordered : List RowView → Type 0
Ordered [] = Unit {0}
Ordered (row ∷ rows) = From (place_of row.section) rows × Ordered rows

ordered-push : (rows : List RowView) (row : RowView) → Ordered rows → All (λ q. place_of q.section ≤ place_of row.section) rows → Ordered (rows ++ (row ∷ []))
ordered-push [] row is below = (All-nil (λ (q : RowView). place_of row.section ≤ place_of q.section), tt)
ordered-push (x ∷ rows) row is below = (
  All-append (λ (q : RowView). place_of x.section ≤ place_of q.section) rows (row ∷ []) is.0
      (All-cons (λ (q : RowView). place_of x.section ≤ place_of q.section) row [] (All-head (λ (q : RowView). place_of q.section ≤ place_of row.section) x rows below) (All-nil (λ (q : RowView). place_of x.section ≤ place_of q.section))),
  ordered-push rows row is.1 (All-tail (λ (q : RowView). place_of q.section ≤ place_of row.section) x rows below),
)

-- rows of later sections are none of a section
later : (S : Section) (rows : List RowView) → From (place_of S + 1) rows → All (λ q. is_in S q ≡ false) rows
later S rows from = λ k d within. ne_eqb _ (place_of S) (λ e. omega (arith, from k d within))

-- after a row of a section those of the section come first
rest-is : (S : Section) (rows : List RowView) → From (place_of S) rows → Ordered rows → before_first (λ q. not (is_in S q)) rows ≡ filter (is_in S) rows
rest-is S [] from is = refl
rest-is S (row ∷ rows) from is = by (is_in S row) refl (rest-is S rows (All-tail (λ (q : RowView). place_of S ≤ place_of q.section) row rows from) is.1)
  where
    by : (b : Bool) → is_in S row ≡ b → before_first (λ q. not (is_in S q)) rows ≡ filter (is_in S) rows → before_first (λ q. not (is_in S q)) (row ∷ rows) ≡ filter (is_in S) (row ∷ rows)
    by true e rest = begins (is_in S) row rows e ∙ ap (λ (t : List RowView). row ∷ t) rest ∙ sym (rw e refl)
    by false e rest =
        let above : place_of S + 1 ≤ place_of row.section = omega (arith, eqb-false (place_of row.section) (place_of S) e, All-head (λ (q : RowView). place_of S ≤ place_of q.section) row rows from) in
        let none : All (λ (q : RowView). is_in S q ≡ false) (row ∷ rows) =
        All-cons (λ (q : RowView). is_in S q ≡ false) row rows e (later S rows (λ k d within. omega (arith, above, is.0 k d within))) in
        ends (is_in S) (row ∷ rows) none ∙ sym (none-passes (is_in S) (row ∷ rows) none)

together : (S : Section) (rows : List RowView) → Ordered rows → stretch (is_in S) rows ≡ filter (is_in S) rows
together S [] is = refl
together S (row ∷ rows) is = by (is_in S row) refl (together S rows is.1)
  where
    by : (b : Bool) → is_in S row ≡ b → stretch (is_in S) rows ≡ filter (is_in S) rows → stretch (is_in S) (row ∷ rows) ≡ filter (is_in S) (row ∷ rows)
    by true e rest =
        let at : place_of row.section ≡ place_of S = eqb-true (place_of row.section) (place_of S) e in
        here (is_in S) row rows e ∙ ap (λ (t : List RowView). row ∷ t) (rest-is S rows (subst (λ (k : ℕ). From k rows) at is.0) is.1) ∙ sym (rw e refl)
    by false e rest = skip (is_in S) row rows e ∙ rest ∙ sym (rw e refl)

-- within a run places do not fall
rows-rise : (x : Section) (c : Cells) → begins_run (inside x c) ≡ false → 3 * place_of x + 3 ≤ stage (inside x c)
rows-rise x c on = by (after-rows x c)
  where
    next : inside x c ≡ place.Line (next_of x) → (is_run (next_of x) ≡ true) ⊎ ((place_of (next_of x) ≡ place_of x + 1) × (is_run (next_of x) ≡ false)) → 3 * place_of x + 3 ≤ stage (inside x c)
    next e (inl runs) = absurd (both_ways (begins_run (inside x c)) on (rw e runs))
    next e (inr more) = rw e (omega (arith, more.0))

    by : (inside x c ≡ place.Row x) ⊎ ((inside x c ≡ place.Line (next_of x)) ⊎ (inside x c ≡ place.Wrong)) → 3 * place_of x + 3 ≤ stage (inside x c)
    by (inl e) = rw e (omega arith)
    by (inr (inl e)) = next e (next-section x)
    by (inr (inr e)) = rw e (omega (arith, place-most x))

rises : (q : Place) (c : Cells) → begins_run (place_after q c) ≡ false → stage q ≤ stage (place_after q c)
rises place.Front c on = omega arith
rises (place.Line x) c on = by (after-line x c)
  where
    by : (place_after (place.Line x) c ≡ place.Header x) ⊎ (place_after (place.Line x) c ≡ place.Wrong) → stage (place.Line x) ≤ stage (place_after (place.Line x) c)
    by (inl e) = rw e (omega arith)
    by (inr e) = rw e (omega (arith, place-most x))
rises (place.Header x) c on = omega (arith, rows-rise x c on)
rises (place.Row x) c on = rows-rise x c on
rises place.Wrong c on = omega arith

nothing-begun : (takes : Bool) (q : Place) → begins_run q ≡ true → section_if takes q ≡ None
nothing-begun true place.Front begun = refl
nothing-begun true (place.Line x) begun = refl
nothing-begun true (place.Header x) begun = absurd cc
nothing-begun true (place.Row x) begun = absurd cc
nothing-begun true place.Wrong begun = absurd cc
nothing-begun false q begun = refl

-- what is added stands at its place
added-at : (shown takes : Bool) (q : Place) (c : Cells) → (rows_taken shown (section_if takes q) c ≡ []) ⊎ ((row : RowView) × (rows_taken shown (section_if takes q) c ≡ row ∷ []) × (3 * place_of row.section + 3 ≡ stage q))
added-at shown false q c = inl refl
added-at shown true place.Front c = inl refl
added-at shown true (place.Line x) c = inl refl
added-at shown true (place.Header x) c = inl refl
added-at shown true (place.Row x) c = by (record { section = x; cells = c }) refl (not (is_history x) && shown)
  where
    by : (row : RowView) → place_of row.section ≡ place_of x → (b : Bool) → ((if b then row ∷ [] else []) ≡ []) ⊎ ((given : RowView) × ((if b then row ∷ [] else []) ≡ given ∷ []) × (3 * place_of given.section + 3 ≡ 3 * place_of x + 3))
    by row at true = inr (row, refl, omega (arith, at))
    by row at false = inl refl
added-at shown true place.Wrong c = inl refl

module _ (items : Names) (asked : Option ℕ) where
  record Inv (done : List Cells) (n : Noted) : Type 0 where
    place : n.spot.place ≡ place_in done
    runs : n.spot.run ≡ runs_of done
    ordered : Ordered n.report
    below : runs_of done ≡ run_shown asked done → All (λ q. 3 * place_of q.section + 3 ≤ stage n.spot.place) n.report
    before : runs_of done < run_shown asked done → n.report ≡ []

  module _ (done : List Cells) (n : Noted) (c : Cells) (inv : Inv done n) (countable : length done + 1 < 2 ^ 64) where
    abbrev more : List Cells
    more = done ++ (c ∷ [])

    abbrev at_next : Place
    at_next = place_after n.spot.place c

    abbrev next : Noted
    next = noted items asked n c

    abbrev takes : Bool
    takes = is_wanted items at_next c && room_at at_next n.spot (is_wanted items at_next c && leads n.spot n.last c) ((is_wanted items at_next c && leads n.spot n.last c) && starts_at at_next c)

    abbrev added : List RowView
    added = rows_taken (is_shown asked next.spot.run) (section_if takes at_next) c

    abbrev InSpot : RowView → Type 0
    InSpot q = 3 * place_of q.section + 3 ≤ stage at_next

    step : Step items asked s.Plan done n c
    step = step-of items asked s.Plan done n c inv.place inv.runs countable

    none-begun : begins_run at_next ≡ true → added ≡ []
    none-begun begun = ap (λ (o : Option Section). rows_taken (is_shown asked next.spot.run) o c) (nothing-begun takes at_next begun)

    -- the report stays
    stays : next.report ≡ n.report → (runs_of more ≡ run_shown asked more → All InSpot n.report) → (runs_of more < run_shown asked more → n.report ≡ []) → Inv more next
    stays same below before = record {
      place = step.here-is;
      runs = step.run-is;
      ordered = subst Ordered (sym same) inv.ordered;
      below = λ now. subst (All InSpot) (sym same) (below now);
      before = λ early. same ∙ before early;
    }

    fresh-more : FreshRun items asked s.Plan done n c → Inv more next
    fresh-more fresh =
        let none : next.report ≡ [] = ap (λ (t : List RowView). t ++ added) fresh.left ∙ none-begun fresh.begun in
        record {
          place = step.here-is;
          runs = step.run-is;
          ordered = subst Ordered (sym none) tt;
          below = λ now. subst (All InSpot) (sym none) (All-nil InSpot);
          before = λ early. none;
        }

    same-more : SameRun items asked s.Plan done n c → Inv more next
    same-more same = by (begins_run at_next) refl
      where
        left : added ≡ [] → next.report ≡ n.report
        left none = ap (λ (t : List RowView). t ++ added) same.left ∙ ap (λ (t : List RowView). n.report ++ t) none ∙ append-nil n.report

        empty : n.report ≡ [] → All InSpot n.report
        empty none = subst (All InSpot) (sym none) (All-nil InSpot)

        raised : begins_run at_next ≡ false → runs_of done ≡ run_shown asked done → All InSpot n.report
        raised on now = λ k d within. omega (arith, inv.below now k d within, rises n.spot.place c on)

        one-more : begins_run at_next ≡ false → runs_of more ≡ run_shown asked more → (row : RowView) → added ≡ row ∷ [] → 3 * place_of row.section + 3 ≡ stage at_next → Inv more next
        one-more on now row is at =
            let report : next.report ≡ n.report ++ (row ∷ []) = ap (λ (t : List RowView). t ++ added) same.left ∙ ap (λ (t : List RowView). n.report ++ t) is in
            let under : All InSpot n.report = raised on (sym (step.same-run on) ∙ now ∙ same.run) in
            record {
              place = step.here-is;
              runs = step.run-is;
              ordered = subst Ordered (sym report) (ordered-push n.report row inv.ordered (λ k d within. omega (arith, under k d within, at)));
              below = λ _. subst (All InSpot) (sym report) (All-append InSpot n.report (row ∷ []) under (All-cons InSpot row [] (omega (arith, at)) (All-nil InSpot)));
              before = λ early. absurd (omega (arith, now));
            }

        shown : begins_run at_next ≡ false → runs_of more ≡ run_shown asked more → Inv more next
        shown on now = of (added-at (is_shown asked next.spot.run) takes at_next c)
          where
            of : (added ≡ []) ⊎ ((row : RowView) × (added ≡ row ∷ []) × (3 * place_of row.section + 3 ≡ stage at_next)) → Inv more next
            of (inl none) = stays (left none) (λ _. raised on (sym (step.same-run on) ∙ now ∙ same.run)) (λ early. absurd (omega (arith, now)))
            of (inr (row, is, at)) = one-more on now row is at

        unshown : begins_run at_next ≡ false → (runs_of more ≡ run_shown asked more → ⊥) → Inv more next
        unshown on other = stays (left (step.none-more other)) (λ now. absurd (other now)) (λ early. inv.before (omega (arith, early, step.same-run on, same.run)))

        which : begins_run at_next ≡ false → (b : Bool) → (runs_of more == run_shown asked more) ≡ b → Inv more next
        which on true e = shown on (eqb-true (runs_of more) (run_shown asked more) e)
        which on false e = unshown on (eqb-false (runs_of more) (run_shown asked more) e)

        by : (b : Bool) → begins_run at_next ≡ b → Inv more next
        by true begun =
            stays (left (none-begun begun)) (λ now. empty (inv.before (omega (arith, now, step.begun-run begun, same.run)))) (λ early. inv.before (omega (arith, early, step.begun-run begun, same.run)))
        by false on = which on (runs_of more == run_shown asked more) refl

    inv-more : Inv more next
    inv-more = by step.same-or-fresh
      where
        by : SameRun items asked s.Plan done n c ⊎ FreshRun items asked s.Plan done n c → Inv more next
        by (inl same) = same-more same
        by (inr fresh) = fresh-more fresh

  all-more : (done rest : List Cells) (n : Noted) → Inv done n → length (done ++ rest) < 2 ^ 64 → Inv (done ++ rest) (noted_from items asked n rest)
  unfolding noted_from
  all-more done [] n inv countable = subst (λ (ds : List Cells). Inv ds n) (sym (append-nil done)) inv
  all-more done (c ∷ rest) n inv countable =
      let assoc : (done ++ (c ∷ [])) ++ rest ≡ done ++ (c ∷ rest) = append_assoc done (c ∷ []) rest in
      let few : length done + 1 < 2 ^ 64 = omega (arith, length-append done (c ∷ rest)) in
      subst (λ (ds : List Cells). Inv ds (noted_from items asked (noted items asked n c) rest)) assoc
      (all-more (done ++ (c ∷ [])) rest (noted items asked n c) (inv-more done n c inv few) (subst (λ (ds : List Cells). length ds < 2 ^ 64) (sym assoc) countable))

  first : Inv [] none_noted
  unfolding place_from runs_from
  first = record { place = refl; runs = refl; ordered = tt; below = λ now. All-nil (λ (q : RowView). 3 * place_of q.section + 3 ≤ 0); before = λ early. refl }

pub stand-together : (items : Names) (asked : Option ℕ) (records : List Cells) → length records < 2 ^ 64 → (S : Section) → rows_in S (notes_of items asked records).report ≡ kept_of S (notes_of items asked records)
unfolding rows_in
stand-together items asked records countable S = together S (notes_of items asked records).report (all-more items asked [] records none_noted (first items asked) countable).ordered
