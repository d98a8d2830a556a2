-- The items that a page shows are the first of all that it should show.
use Rattle.std.proofs.Common.{◌≡◌, ◌≢◌, ◌∙◌, ◌⊎◌, ◌+◌, ◌*◌, ◌^◌, ◌<◌, ◌≤◌, ℕ, Bool, true, false, not, List, [], ◌∷◌, ◌++◌, Option, Some, None, length, map, take, refl, sym, ap, subst, arith, inl, inr, append_assoc}
use Rattle.std.specs.Prelude.{◌&&◌, ◌||◌, if◌then◌else◌, is_some}
use Rattle.std.specs.List.{All, flat_map, list_any}
use Rattle.std.proofs.lemmas.Bool.{and_parts, both_ways, cases_lt, eq-eqb, false_from_ne_true, leb-true}
use Rattle.std.proofs.lemmas.Cmp.{nat_list_eq_equiv}
use Rattle.std.proofs.lemmas.List.{append-nil, length_push, length-append, map-append, map_push, take-map}
use Rattle.std.proofs.lemmas.List.Elements.{All-append, All-head, All-nil, All-push, All-tail}
use Rattle.mrp_page.specs.Known.{names_shown}
use Rattle.mrp_page.specs.Notes.{Noted, counts_at, has_run, is_shown, none_noted, noted, noted_from, notes_of, rows_taken}
use Rattle.mrp_page.specs.Page.{is_told, shown_items, told_first, untold_rows}
use Rattle.mrp_page.specs.Reading.{IsDayOf}
use Rattle.mrp_page.specs.Row.{Cells, RowView, cell_at, is_in, is_of, same_text}
use Rattle.mrp_page.specs.Rows.{leader_rows, leaders, rows_in, rows_named, stretch}
use Rattle.mrp_page.specs.Section.{place_of}
use Rattle.mrp_page.specs.Shown.{IsByItems, StandTogether, each_once, has_name, is_row_of, items_in, items_of_plan, items_to_show, others, row_names, rows_from, rows_of, run_shown, runs_from, runs_of}
use Rattle.mrp_page.specs.Spot.{Names, after, begins_run, inside, is_end, is_loads, is_wanted, is_wrong, leads, place_after, place_from, room_at, section_if, spot_at, starts_at, wants}
use Rattle.mrp_page.specs.Spot.{place_of as place_in}
use Rattle.mrp_page.specs.declared.limits.TheConstants.{MOST_ITEMS}
use Rattle.mrp_day.specs.declared.section.Section.{Section}
use Rattle.mrp_day.specs.declared.section.Section.TheVariants as s
use Rattle.mrp_page.specs.declared.spot.Place.{Place}
use Rattle.mrp_page.specs.declared.spot.Place.TheVariants as place
use Rattle.mrp_page.specs.declared.spot.Spot.{Spot}
use Rattle.mrp_page.proofs.KeptItems.{Inside, IsItemSection, inside-more, inside-none, leader_names, name_of, of-messages, of-plan, wants-asked, with_row}
use Rattle.mrp_page.proofs.made.Rows.{all-leaders}
use Rattle.mrp_page.proofs.NamesOnce.{Keeps, first-shown, items-distinct, keeps-none, text-same}
use Rattle.mrp_page.proofs.Steps.{FreshRun, SameRun, Step, step-of}
use Rattle.mrp_page.proofs.SectionRows.{goes-on, in-report, items-header, items-kept, items-row, items-unshown, near, no-row, others-added, row-added, rows-append, rows-go-on, rows-later, run-stage, stage, stand-front, stretch-between, stretch-some, wrong-stays}

-- what is kept of all rows of a section
record KeptOf (items : Names) (rows : List Cells) (kept : List RowView) : Type 0 where
  keeps : Keeps (items_in items rows) (leader_names kept)
  named : All (λ r. cell_at r 0 ≢ []) kept

loads-place : (x : Section) → is_loads x ≡ true → place_of x ≡ 7
loads-place s.History e = absurd cc
loads-place s.Run e = absurd cc
loads-place s.Promises e = absurd cc
loads-place s.Plan e = absurd cc
loads-place s.Orders e = absurd cc
loads-place s.Pegs e = absurd cc
loads-place s.Messages e = absurd cc
loads-place s.Loads e = refl

-- a day may end in the loads of a run
pub end-stage : (here : Place) → is_end here ≡ true → (23 ≤ stage here) × (is_wrong here ≡ false)
end-stage place.Front e = absurd cc
end-stage (place.Line x) e = absurd cc
end-stage (place.Header x) e = (omega (arith, loads-place x e), refl)
end-stage (place.Row x) e = (omega (arith, loads-place x e), refl)
end-stage place.Wrong e = absurd cc

no-items : (items : Names) → length (items_in items []) ≡ 0
unfolding items_in each_once
no-items items = refl

nothing-kept : (items : Names) → Keeps (items_in items []) (leader_names [])
unfolding items_in each_once leaders
nothing-kept items = keeps-none

abbrev IsNot : Section → RowView → Type 0
IsNot S q = is_in S q ≡ false

-- a section and what is kept of it, while the records of a day are read
module _ (items : Names) (asked : Option ℕ) (S : Section) (is : IsItemSection S) where
  abbrev shown_in : List Cells → ℕ
  shown_in done = run_shown asked done

  abbrev section_rows : List Cells → List Cells
  section_rows done = rows_of S (shown_in done) done

  -- the run that is shown has not begun, or the section has not in it
  record Before (done : List Cells) (n : Noted) : Type 0 where
    early : (runs_of done < shown_in done) ⊎ ((runs_of done ≡ shown_in done) × (stage n.spot.place ≤ 3 * place_of S + 1) × (is_some asked ≡ true → 4 ≤ stage n.spot.place))
    none : section_rows done ≡ []
    no_rows : All (IsNot S) n.report

  -- its rows are read
  record Amid (done : List Cells) (n : Noted) : Type 0 where
    now : runs_of done ≡ shown_in done
    at : (n.spot.place ≡ place.Header S) ⊎ (n.spot.place ≡ place.Row S)
    front : List RowView
    kept : List RowView
    split : n.report ≡ front ++ kept
    others_before : All (IsNot S) front
    its_rows : All (λ q. is_in S q ≡ true) kept
    state : Inside items S (length done) (section_rows done) kept n.spot n.last
    counted : place_of S ≡ 3 → n.counts.items ≡ length (items_in items (section_rows done))

  -- they were read, or no day has such records
  record Behind (done : List Cells) (n : Noted) : Type 0 where
    late : (shown_in done < runs_of done) ⊎ ((runs_of done ≡ shown_in done) × (3 * place_of S + 3 < stage n.spot.place))
    front : List RowView
    kept : List RowView
    back : List RowView
    split : n.report ≡ front ++ (kept ++ back)
    others_before : All (IsNot S) front
    its_rows : All (λ q. is_in S q ≡ true) kept
    others_behind : All (IsNot S) back
    state : KeptOf items (section_rows done) kept
    counted : is_wrong n.spot.place ≡ false → place_of S ≡ 3 → n.counts.items ≡ length (items_in items (section_rows done))

  abbrev Phase : List Cells → Noted → Type 0
  Phase done n = Before done n ⊎ (Amid done n ⊎ Behind done n)

  record Inv (done : List Cells) (n : Noted) : Type 0 where
    place : n.spot.place ≡ place_in done
    runs : n.spot.run ≡ runs_of done
    phase : Phase done n

  -- one more record
  module _ (done : List Cells) (n : Noted) (c : Cells) (inv : Inv done n) (stand : (run : ℕ) → StandTogether (row_names (rows_of S run (done ++ (c ∷ []))))) (countable : length done + 1 < 2 ^ 64) where
    abbrev more : List Cells
    more = done ++ (c ∷ [])

    abbrev here : Place
    here = place_after n.spot.place c

    abbrev next_spot : Spot
    next_spot = after items n.spot n.last c

    abbrev next : Noted
    next = noted items asked n c

    -- whether the record is taken, by its place
    abbrev takes_at : Place → Bool
    takes_at q = is_wanted items q c && room_at q n.spot (is_wanted items q c && leads n.spot n.last c) ((is_wanted items q c && leads n.spot n.last c) && starts_at q c)

    abbrev added : List RowView
    added = rows_taken (is_shown asked next_spot.run) (section_if (takes_at here) here) c

    abbrev Same : Type 0
    Same = SameRun items asked S done n c

    abbrev Fresh : Type 0
    Fresh = FreshRun items asked S done n c

    step : Step items asked S done n c
    step = step-of items asked S done n c inv.place inv.runs countable

    report-other : (report : List RowView) → is_row_of S here ≡ false → All (IsNot S) report → All (IsNot S) (report ++ added)
    report-other report e all = All-append (IsNot S) report added all (others-added S (is_shown asked next_spot.run) (takes_at here) here c e)

    report-same : Same → next.report ≡ n.report ++ added
    report-same same = ap (λ (t : List RowView). t ++ added) same.left

    -- before the section
    before-more : Same → Before done n → Phase more next
    before-more same before = by before.early
      where
        stays : is_row_of S here ≡ false → section_rows more ≡ []
        stays e = step.rows-other e ∙ ap (λ (k : ℕ). rows_of S k done) same.run ∙ before.none

        still : (runs_of more < shown_in more) ⊎ ((runs_of more ≡ shown_in more) × (stage here ≤ 3 * place_of S + 1) × (is_some asked ≡ true → 4 ≤ stage here)) → is_row_of S here ≡ false → Phase more next
        still early e = inl (record {
          early = early;
          none = stays e;
          no_rows = subst (All (IsNot S)) (sym (report-same same)) (report-other n.report e before.no_rows);
        })

        later : runs_of done < shown_in done → (b : Bool) → begins_run here ≡ b → (runs_of more < shown_in more) ⊎ (shown_in more ≤ runs_of more) → Phase more next
        later low true begun (inl less) = still (inl less) (no-row S here (λ e. omega (arith, run-stage here begun, is.first)))
        later low true begun (inr most) =
            still (inr (omega (arith, step.begun-run begun, same.run), omega (arith, run-stage here begun, is.first), λ _. omega (arith, run-stage here begun))) (no-row S here (λ e. omega (arith, run-stage here begun, is.first)))
        later low false begun (inl less) = inl (record {
          early = inl less;
          none = step.rows-unshown (λ e. omega arith) ∙ ap (λ (k : ℕ). rows_of S k done) same.run ∙ before.none;
          no_rows = subst (All (IsNot S)) (sym (report-same same ∙ ap (λ (t : List RowView). n.report ++ t) (step.none-more (λ e. omega arith)) ∙ append-nil n.report)) before.no_rows;
        })
        later low false begun (inr most) = absurd (omega (arith, step.same-run begun, same.run))

        enters : begins_run here ≡ false → runs_of done ≡ shown_in done → here ≡ place.Header S → Phase more next
        enters begun now at =
            let now' : runs_of more ≡ shown_in more = step.same-run begun ∙ now ∙ sym same.run in
            let other : is_row_of S here ≡ false = rw at refl in
            let none : section_rows more ≡ [] = stays other in
            inr (inl (record {
              now = now';
              at = inl at;
              front = n.report ++ added;
              kept = [];
              split = report-same same ∙ sym (append-nil (n.report ++ added));
              others_before = report-other n.report other before.no_rows;
              its_rows = All-nil (λ (q : RowView). is_in S q ≡ true);
              state = subst (λ (rows : List Cells). Inside items S (length more) rows [] next_spot (name_of c)) (sym none)
                  (subst (λ (q : Place). Inside items S (length more) [] [] (spot_at items n.spot q n.last c) (name_of c)) (sym at) (inside-none items S (length more) (spot_at items n.spot (place.Header S) n.last c) (name_of c) refl refl));
              counted = λ plan. counts plan now' at ∙ sym (ap (λ (rows : List Cells). length (items_in items rows)) none ∙ no-items items);
            }))
          where
            counts : place_of S ≡ 3 → runs_of more ≡ shown_in more → here ≡ place.Header S → next.counts.items ≡ 0
            counts plan now' at' =
                ap (λ (q : Place). (counts_at asked next_spot q n.counts).items) at' ∙ items-header S asked next_spot n.counts plan (step.is-shown now') ∙ ap (λ (q : Place). (spot_at items n.spot q n.last c).items) at'

        wrong : begins_run here ≡ false → runs_of done ≡ shown_in done → here ≡ place.Wrong → Phase more next
        wrong begun now at =
            let other : is_row_of S here ≡ false = rw at refl in
            let none : section_rows more ≡ [] = stays other in
            inr (inr (record {
              late = inr (step.same-run begun ∙ now ∙ sym same.run, rw at (omega (arith, is.last)));
              front = n.report ++ added;
              kept = [];
              back = [];
              split = report-same same ∙ sym (append-nil (n.report ++ added));
              others_before = report-other n.report other before.no_rows;
              its_rows = All-nil (λ (q : RowView). is_in S q ≡ true);
              others_behind = All-nil (IsNot S);
              state = subst (λ (rows : List Cells). KeptOf items rows []) (sym none) (record { keeps = nothing-kept items; named = All-nil (λ (r : RowView). cell_at r 0 ≢ []) });
              counted = λ right. absurd (both_ways (is_wrong here) right (rw at refl));
            }))

        shown : runs_of done ≡ shown_in done → stage n.spot.place ≤ 3 * place_of S + 1 → (is_some asked ≡ true → 4 ≤ stage n.spot.place) → Phase more next
        shown now high low = nears (near S is.first n.spot.place high c)
          where
            no-run : begins_run here ≡ false
            no-run = false_from_ne_true (begins_run here) (λ begun. both_ways (begins_run here) (in-report S n.spot.place (low (same.begun begun)) high c).0 begun)

            nears : (here ≡ place.Header S) ⊎ ((stage here ≤ 3 * place_of S + 1) ⊎ (here ≡ place.Wrong)) → Phase more next
            nears (inl at) = enters no-run now at
            nears (inr (inl under)) =
                still (inr (step.same-run no-run ∙ now ∙ sym same.run, under, λ some. (in-report S n.spot.place (low some) high c).1)) (no-row S here (λ e. omega arith))
            nears (inr (inr at)) = wrong no-run now at

        by : (runs_of done < shown_in done) ⊎ ((runs_of done ≡ shown_in done) × (stage n.spot.place ≤ 3 * place_of S + 1) × (is_some asked ≡ true → 4 ≤ stage n.spot.place)) → Phase more next
        by (inl low) = later low (begins_run here) refl (cases_lt (runs_of more) (shown_in more))
        by (inr now) = shown now.0 now.1 now.2

    -- among its rows
    amid-more : Same → Amid done n → Phase more next
    amid-more same amid = by (rows-go-on S is c)
      where
        at-rows : (n.spot.place ≡ place.Header S) ⊎ (n.spot.place ≡ place.Row S) → here ≡ inside S c
        at-rows (inl e) = ap (λ (q : Place). place_after q c) e
        at-rows (inr e) = ap (λ (q : Place). place_after q c) e

        of-section : (takes : Bool) → All (λ q. is_in S q ≡ true) (if takes then record { section = S; cells = c } ∷ [] else [])
        of-section true = All-push (λ (q : RowView). is_in S q ≡ true) [] (record { section = S; cells = c }) (All-nil (λ (q : RowView). is_in S q ≡ true)) (eq-eqb (place_of S) (place_of S) refl)
        of-section false = All-nil (λ (q : RowView). is_in S q ≡ true)

        goes : here ≡ place.Row S → Phase more next
        goes at =
            let now : runs_of more ≡ shown_in more = step.same-run (ap begins_run at) ∙ amid.now ∙ sym same.run in
            let rows : section_rows more ≡ section_rows done ++ (c ∷ []) = step.rows-added at now ∙ ap (λ (k : ℕ). rows_of S k done ++ (c ∷ [])) same.run in
            let together : StandTogether (row_names (section_rows done) ++ (name_of c ∷ [])) =
            subst StandTogether (ap row_names rows ∙ map_push (λ (cells : Cells). name_of cells) (section_rows done) c) (stand (shown_in more)) in
            let kept : List RowView = with_row S amid.kept c (takes_at (place.Row S)) in
            let inside : Inside items S (length done + 1) (section_rows done ++ (c ∷ [])) kept (spot_at items n.spot (place.Row S) n.last c) (name_of c) =
            inside-more items S is (length done) (section_rows done) amid.kept n.spot n.last c amid.state together countable (wants items S c) (leads n.spot n.last c)
            ((wants items S c && leads n.spot n.last c) && starts_at (place.Row S) c) (takes_at (place.Row S)) (sym (wants-asked items S c is.items)) refl refl in
            let state : Inside items S (length more) (section_rows more) kept next_spot (name_of c) =
            subst (λ (m : ℕ). Inside items S m (section_rows more) kept next_spot (name_of c)) (sym (length_push done c))
            (subst (λ (rs : List Cells). Inside items S (length done + 1) rs kept next_spot (name_of c)) (sym rows)
            (subst (λ (q : Place). Inside items S (length done + 1) (section_rows done ++ (c ∷ [])) kept (spot_at items n.spot q n.last c) (name_of c)) (sym at) inside)) in
            let new : added ≡ (if takes_at (place.Row S) then record { section = S; cells = c } ∷ [] else []) =
            ap (λ (q : Place). rows_taken (is_shown asked next_spot.run) (section_if (takes_at q) q) c) at
            ∙ ap (λ (b : Bool). rows_taken b (section_if (takes_at (place.Row S)) (place.Row S)) c) (step.is-shown now) ∙ row-added S is.report (takes_at (place.Row S)) c in
            inr (inl (record {
              now = now;
              at = inr at;
              front = amid.front;
              kept = kept;
              split = report-same same ∙ ap (λ (t : List RowView). t ++ added) amid.split ∙ append_assoc amid.front amid.kept added ∙ ap (λ (t : List RowView). amid.front ++ (amid.kept ++ t)) new;
              others_before = amid.others_before;
              its_rows = All-append (λ (q : RowView). is_in S q ≡ true) amid.kept _ amid.its_rows (of-section (takes_at (place.Row S)));
              state = state;
              counted = λ plan. ap (λ (q : Place). (counts_at asked next_spot q n.counts).items) at ∙ items-row S asked next_spot n.counts plan (step.is-shown now) ∙ state.counts;
            }))

        leaves : begins_run here ≡ false → 3 * place_of S + 3 < stage here → Phase more next
        leaves begun past =
            let other : is_row_of S here ≡ false = no-row S here (λ e. omega arith) in
            let rows : section_rows more ≡ section_rows done = step.rows-other other ∙ ap (λ (k : ℕ). rows_of S k done) same.run in
            inr (inr (record {
              late = inr (step.same-run begun ∙ amid.now ∙ sym same.run, past);
              front = amid.front;
              kept = amid.kept;
              back = added;
              split = report-same same ∙ ap (λ (t : List RowView). t ++ added) amid.split ∙ append_assoc amid.front amid.kept added;
              others_before = amid.others_before;
              its_rows = amid.its_rows;
              others_behind = others-added S (is_shown asked next_spot.run) (takes_at here) here c other;
              state = subst (λ (rs : List Cells). KeptOf items rs amid.kept) (sym rows) (record { keeps = amid.state.keeps; named = amid.state.named });
              counted = λ right plan. items-kept asked next_spot here n.counts (λ e. omega arith) (λ e. omega arith) ∙ amid.counted plan ∙ sym (ap (λ (rs : List Cells). length (items_in items rs)) rows);
            }))

        by : (inside S c ≡ place.Row S) ⊎ ((begins_run (inside S c) ≡ false) × (3 * place_of S + 3 < stage (inside S c))) → Phase more next
        by (inl e) = goes (at-rows amid.at ∙ e)
        by (inr out) = leaves (ap begins_run (at-rows amid.at) ∙ out.0) (subst (λ (q : Place). 3 * place_of S + 3 < stage q) (sym (at-rows amid.at)) out.1)

    -- after the section
    behind-more : Same → Behind done n → Phase more next
    behind-more same behind = by behind.late
      where
        right-before : is_wrong here ≡ false → is_wrong n.spot.place ≡ false
        right-before right = false_from_ne_true (is_wrong n.spot.place) (λ w. both_ways (is_wrong here) right (wrong-stays n.spot.place c w))

        gone : shown_in more < runs_of more → Phase more next
        gone past =
            let rows : section_rows more ≡ section_rows done = step.rows-unshown (λ e. omega arith) ∙ ap (λ (k : ℕ). rows_of S k done) same.run in
            inr (inr (record {
              late = inl past;
              front = behind.front;
              kept = behind.kept;
              back = behind.back;
              split = report-same same ∙ ap (λ (t : List RowView). n.report ++ t) (step.none-more (λ e. omega arith)) ∙ append-nil n.report ∙ behind.split;
              others_before = behind.others_before;
              its_rows = behind.its_rows;
              others_behind = behind.others_behind;
              state = subst (λ (rs : List Cells). KeptOf items rs behind.kept) (sym rows) behind.state;
              counted = λ right plan. items-unshown asked next_spot here n.counts (step.not-shown (λ e. omega arith)) ∙ behind.counted (right-before right) plan ∙ sym (ap (λ (rs : List Cells). length (items_in items rs)) rows);
            }))

        on : runs_of done ≡ shown_in done → (begins_run here ≡ true) ⊎ ((begins_run here ≡ false) × (3 * place_of S + 3 < stage here)) → Phase more next
        on now (inl begun) = gone (omega (arith, step.begun-run begun, same.run))
        on now (inr past) =
            let other : is_row_of S here ≡ false = no-row S here (λ e. omega (arith, past.1)) in
            let rows : section_rows more ≡ section_rows done = step.rows-other other ∙ ap (λ (k : ℕ). rows_of S k done) same.run in
            inr (inr (record {
              late = inr (step.same-run past.0 ∙ now ∙ sym same.run, past.1);
              front = behind.front;
              kept = behind.kept;
              back = behind.back ++ added;
              split = report-same same ∙ ap (λ (t : List RowView). t ++ added) behind.split ∙ append_assoc behind.front (behind.kept ++ behind.back) added
                  ∙ ap (λ (t : List RowView). behind.front ++ t) (append_assoc behind.kept behind.back added);
              others_before = behind.others_before;
              its_rows = behind.its_rows;
              others_behind = report-other behind.back other behind.others_behind;
              state = subst (λ (rs : List Cells). KeptOf items rs behind.kept) (sym rows) behind.state;
              counted = λ right plan. items-kept asked next_spot here n.counts (λ e. omega (arith, past.1)) (λ e. omega (arith, past.1)) ∙ behind.counted (right-before right) plan
                  ∙ sym (ap (λ (rs : List Cells). length (items_in items rs)) rows);
            }))

        least : (b : Bool) → begins_run here ≡ b → runs_of done ≤ runs_of more
        least true e = omega (arith, step.begun-run e)
        least false e = omega (arith, step.same-run e)

        by : (shown_in done < runs_of done) ⊎ ((runs_of done ≡ shown_in done) × (3 * place_of S + 3 < stage n.spot.place)) → Phase more next
        by (inl past) = gone (omega (arith, least (begins_run here) refl, same.run))
        by (inr now) = on now.0 (goes-on S n.spot.place now.1 c)

    -- if the next run begins, and the last one is shown
    fresh-more : Fresh → Phase more next
    fresh-more fresh =
        let other : is_row_of S here ≡ false = no-row S here (λ e. omega (arith, run-stage here fresh.begun, is.first)) in
        inl (record {
          early = inr (fresh.run, omega (arith, run-stage here fresh.begun, is.first), λ _. omega (arith, run-stage here fresh.begun));
          none = step.rows-other other ∙ rows-later S (shown_in more) 0 place.Front done (omega (arith, fresh.run, step.begun-run fresh.begun));
          no_rows = subst (λ (t : List RowView). All (IsNot S) (t ++ added)) (sym fresh.left) (others-added S (is_shown asked next_spot.run) (takes_at here) here c other);
        })

    inv-more : Inv more next
    inv-more = record { place = step.here-is; runs = step.run-is; phase = by step.same-or-fresh inv.phase }
      where
        by : Same ⊎ Fresh → Phase done n → Phase more next
        by (inr fresh) phase = fresh-more fresh
        by (inl same) (inl before) = before-more same before
        by (inl same) (inr (inl amid)) = amid-more same amid
        by (inl same) (inr (inr behind)) = behind-more same behind

  all-more : (done rest : List Cells) (n : Noted) → Inv done n → ((run : ℕ) → StandTogether (row_names (rows_of S run (done ++ rest)))) → length (done ++ rest) < 2 ^ 64 → Inv (done ++ rest) (noted_from items asked n rest)
  unfolding noted_from
  all-more done [] n inv stand countable = subst (λ (ds : List Cells). Inv ds n) (sym (append-nil done)) inv
  all-more done (c ∷ rest) n inv stand countable =
      let assoc : (done ++ (c ∷ [])) ++ rest ≡ done ++ (c ∷ rest) = append_assoc done (c ∷ []) rest in
      let stand' : (run : ℕ) → StandTogether (row_names (rows_of S run ((done ++ (c ∷ [])) ++ rest))) = λ run. subst (λ (ds : List Cells). StandTogether (row_names (rows_of S run ds))) (sym assoc) (stand run) in
      let front : (run : ℕ) → StandTogether (row_names (rows_of S run (done ++ (c ∷ [])))) = λ run. stand-front (row_names (rows_of S run (done ++ (c ∷ [])))) _
      (subst StandTogether (ap row_names (rows-append S run 0 place.Front (done ++ (c ∷ [])) rest) ∙ map-append (λ (cells : Cells). name_of cells) (rows_of S run (done ++ (c ∷ []))) _) (stand' run)) in
      let few : length done + 1 < 2 ^ 64 = omega (arith, length-append done (c ∷ rest)) in
      subst (λ (ds : List Cells). Inv ds (noted_from items asked (noted items asked n c) rest)) assoc
      (all-more (done ++ (c ∷ [])) rest (noted items asked n c) (inv-more done n c inv front few) stand' (subst (λ (ds : List Cells). length ds < 2 ^ 64) (sym assoc) countable))

  begun : ((number : ℕ) → asked ≡ Some number → 1 ≤ number) → Inv [] none_noted
  unfolding place_from runs_from rows_from
  begun wanted = record { place = refl; runs = refl; phase = inl (record { early = by asked refl; none = refl; no_rows = All-nil (IsNot S) }) }
    where
      by : (a : Option ℕ) → asked ≡ a → (0 < shown_in []) ⊎ ((0 ≡ shown_in []) × (0 ≤ 3 * place_of S + 1) × (is_some asked ≡ true → 4 ≤ 0))
      by (Some number) e = inl (rw e (wanted number e))
      by None e = inr (rw e refl, omega arith, λ some. absurd (both_ways (is_some asked) (ap is_some e) some))

  inv-of : (records : List Cells) → ((number : ℕ) → asked ≡ Some number → 1 ≤ number) → ((run : ℕ) → StandTogether (row_names (rows_of S run records))) → length records < 2 ^ 64 → Inv records (notes_of items asked records)
  inv-of records wanted stand countable = all-more [] records none_noted (begun wanted) stand countable

  -- what is kept of the section
  kept-of : (records : List Cells) (n : Noted) → Phase records n → KeptOf items (section_rows records) (rows_in S n.report)
  unfolding rows_in
  kept-of records n (inl before) =
      subst (λ (rs : List Cells). KeptOf items rs (stretch (is_in S) n.report)) (sym before.none)
      (subst (KeptOf items []) (sym (ap (stretch (is_in S)) (sym (append-nil n.report)) ∙ stretch-between (is_in S) n.report [] [] before.no_rows (All-nil (λ (q : RowView). is_in S q ≡ true)) (All-nil (IsNot S))))
      (record { keeps = nothing-kept items; named = All-nil (λ (r : RowView). cell_at r 0 ≢ []) }))
  kept-of records n (inr (inl amid)) =
      subst (KeptOf items (section_rows records))
      (sym (ap (stretch (is_in S)) (amid.split ∙ ap (λ (t : List RowView). amid.front ++ t) (sym (append-nil amid.kept))) ∙ stretch-between (is_in S) amid.front amid.kept [] amid.others_before amid.its_rows (All-nil (IsNot S))))
      (record { keeps = amid.state.keeps; named = amid.state.named })
  kept-of records n (inr (inr behind)) =
      subst (KeptOf items (section_rows records))
      (sym (ap (stretch (is_in S)) behind.split ∙ stretch-between (is_in S) behind.front behind.kept behind.back behind.others_before behind.its_rows behind.others_behind)) behind.state

  counted-of : (records : List Cells) (n : Noted) → Phase records n → is_end n.spot.place ≡ true → shown_in records ≤ runs_of records → place_of S ≡ 3 → n.counts.items ≡ length (items_in items (section_rows records))
  counted-of records n (inl before) ends begun' plan = absurd (by before.early)
    where
      by : (runs_of records < shown_in records) ⊎ ((runs_of records ≡ shown_in records) × (stage n.spot.place ≤ 3 * place_of S + 1) × (is_some asked ≡ true → 4 ≤ stage n.spot.place)) → ⊥
      by (inl low) = omega arith
      by (inr now) = omega (arith, now.1, is.last, (end-stage n.spot.place ends).0)
  counted-of records n (inr (inl amid)) ends begun' plan = amid.counted plan
  counted-of records n (inr (inr behind)) ends begun' plan = behind.counted (end-stage n.spot.place ends).1 plan

flip : (a b : List ℕ) → same_text a b ≡ same_text b a
flip a b = nat_list_eq_equiv.symm a b

or-one : (s x y : Bool) → (x || s) ≡ (y || s) → ((s || x) || s) ≡ (y || s)
or-one true x true e = refl
or-one true x false e = refl
or-one false x y e = e

or-two : (s x y q : Bool) → (x || s) ≡ (y || s) → ((s || x) || q) ≡ ((s || y) || q)
or-two true x y q e = refl
or-two false true true q e = refl
or-two false false false q e = refl
or-two false true false q e = absurd cc
or-two false false true q e = absurd cc

pub lead-any : (name previous : List ℕ) (rows : List RowView) → (list_any (is_of name) rows || same_text name previous) ≡ (has_name (map (λ r. cell_at r 0) (leaders previous rows)) name || same_text name previous)
unfolding leaders
lead-any name previous [] = refl
lead-any name previous (r ∷ rows) = by (is_of previous r) refl (lead-any name (cell_at r 0) rows)
  where
    same : Bool
    same = same_text name (cell_at r 0)

    by : (b : Bool) → is_of previous r ≡ b → (list_any (is_of name) rows || same_text name (cell_at r 0)) ≡ (has_name (map (λ r. cell_at r 0) (leaders (cell_at r 0) rows)) name || same_text name (cell_at r 0))
        → (list_any (is_of name) (r ∷ rows) || same_text name previous) ≡ (has_name (map (λ r. cell_at r 0) (leader_rows previous r ++ leaders (cell_at r 0) rows)) name || same_text name previous)
    by true e rest =
        let is : cell_at r 0 ≡ previous = text-same (cell_at r 0) previous e in
        ap (λ (b : Bool). (b || list_any (is_of name) rows) || same_text name previous) (flip (cell_at r 0) name)
        ∙ ap (λ (t : List ℕ). (same_text name (cell_at r 0) || list_any (is_of name) rows) || same_text name t) (sym is)
        ∙ or-one (same_text name (cell_at r 0)) (list_any (is_of name) rows) (has_name (map (λ r. cell_at r 0) (leaders (cell_at r 0) rows)) name) rest
        ∙ ap (λ (t : List ℕ). has_name (map (λ r. cell_at r 0) (leaders (cell_at r 0) rows)) name || same_text name t) is
        ∙ ap (λ (b : Bool). has_name (map (λ r. cell_at r 0) ((if b then [] else r ∷ []) ++ leaders (cell_at r 0) rows)) name || same_text name previous) (sym e)
    by false e rest =
        ap (λ (b : Bool). (b || list_any (is_of name) rows) || same_text name previous) (flip (cell_at r 0) name)
        ∙ or-two (same_text name (cell_at r 0)) (list_any (is_of name) rows) (has_name (map (λ r. cell_at r 0) (leaders (cell_at r 0) rows)) name) (same_text name previous) rest
        ∙ ap (λ (b : Bool). has_name (map (λ r. cell_at r 0) ((if b then [] else r ∷ []) ++ leaders (cell_at r 0) rows)) name || same_text name previous) (sym e)

or-none : (x y : Bool) → (x || false) ≡ (y || false) → x ≡ y
or-none true true e = refl
or-none false false e = refl
or-none true false e = absurd cc
or-none false true e = absurd cc

-- an item has messages if it is among the items of messages
told-is : (messages : List RowView) (r : RowView) → cell_at r 0 ≢ [] → is_told messages r ≡ has_name (leader_names messages) (cell_at r 0)
unfolding rows_named
told-is messages r named =
    let other : same_text (cell_at r 0) [] ≡ false = false_from_ne_true (same_text (cell_at r 0) []) (λ e. named (text-same (cell_at r 0) [] e)) in
    let or : Bool → Bool → Bool = λ (x : Bool) (b : Bool). x || b in
    stretch-some (is_of (cell_at r 0)) messages
    ∙ or-none (list_any (is_of (cell_at r 0)) messages) (has_name (leader_names messages) (cell_at r 0))
    (ap (λ (b : Bool). list_any (is_of (cell_at r 0)) messages || b) (sym other) ∙ lead-any (cell_at r 0) [] messages ∙ ap (λ (b : Bool). has_name (leader_names messages) (cell_at r 0) || b) other)

untold-names : (messages rows : List RowView) → All (λ r. cell_at r 0 ≢ []) rows → map (λ r. cell_at r 0) (flat_map (untold_rows messages) rows) ≡ others (leader_names messages) (map (λ r. cell_at r 0) rows)
untold-names messages [] named = refl
untold-names messages (r ∷ rows) named = by (is_told messages r) refl (untold-names messages rows (All-tail (λ (q : RowView). cell_at q 0 ≢ []) r rows named))
  where
    told : is_told messages r ≡ has_name (leader_names messages) (cell_at r 0)
    told = told-is messages r (All-head (λ (q : RowView). cell_at q 0 ≢ []) r rows named)

    by : (b : Bool) → is_told messages r ≡ b → map (λ r. cell_at r 0) (flat_map (untold_rows messages) rows) ≡ others (leader_names messages) (map (λ r. cell_at r 0) rows)
        → map (λ r. cell_at r 0) (flat_map (untold_rows messages) (r ∷ rows)) ≡ others (leader_names messages) (cell_at r 0 ∷ map (λ r. cell_at r 0) rows)
    by true e rest =
        ap (λ (b : Bool). map (λ (q : RowView). cell_at q 0) ((if b then [] else r ∷ []) ++ flat_map (untold_rows messages) rows)) e ∙ rest
        ∙ sym (ap (λ (b : Bool). if not b then cell_at r 0 ∷ others (leader_names messages) (map (λ q. cell_at q 0) rows) else others (leader_names messages) (map (λ q. cell_at q 0) rows)) (sym told ∙ e))
    by false e rest =
        ap (λ (b : Bool). map (λ (q : RowView). cell_at q 0) ((if b then [] else r ∷ []) ++ flat_map (untold_rows messages) rows)) e ∙ ap (λ (t : List (List ℕ)). cell_at r 0 ∷ t) rest
        ∙ sym (ap (λ (b : Bool). if not b then cell_at r 0 ∷ others (leader_names messages) (map (λ q. cell_at q 0) rows) else others (leader_names messages) (map (λ q. cell_at q 0) rows)) (sym told ∙ e))

-- the items that are shown, of what is kept of the messages and of the plan
shown-names : (messages plan : List RowView) → All (λ r. cell_at r 0 ≢ []) plan → map (λ r. cell_at r 0) (take MOST_ITEMS (told_first messages plan)) ≡ take MOST_ITEMS (leader_names messages ++ others (leader_names messages) (leader_names plan))
unfolding told_first
shown-names messages plan named =
    sym (take-map (λ (r : RowView). cell_at r 0) MOST_ITEMS (leaders [] messages ++ flat_map (untold_rows messages) (leaders [] plan)))
    ∙ ap (take MOST_ITEMS) (map-append (λ (r : RowView). cell_at r 0) (leaders [] messages) (flat_map (untold_rows messages) (leaders [] plan)))
    ∙ ap (λ (t : List (List ℕ)). take MOST_ITEMS (leader_names messages ++ t)) (untold-names messages (leaders [] plan) (all-leaders (λ (r : RowView). cell_at r 0 ≢ []) [] plan named))

-- the run asked for has a number, and has begun
pub asked-from : (asked : Option ℕ) (runs : ℕ) → has_run asked runs ≡ true → (number : ℕ) → asked ≡ Some number → 1 ≤ number
asked-from asked runs has number e = leb-true 1 number (and_parts _ _ (subst (λ (a : Option ℕ). has_run a runs ≡ true) e has)).0

pub has-begun : (asked : Option ℕ) (records : List Cells) → has_run asked (runs_of records) ≡ true → run_shown asked records ≤ runs_of records
has-begun None records has = omega arith
has-begun (Some number) records has = leb-true number (runs_of records) (and_parts _ _ has).1

module _ (items : Names) (asked : Option ℕ) (records : List Cells) (by-items : IsByItems records) (wanted : (number : ℕ) → asked ≡ Some number → 1 ≤ number) where
  plan-inv : Inv items asked s.Plan of-plan records (notes_of items asked records)
  plan-inv = inv-of items asked s.Plan of-plan records wanted by-items.plan by-items.countable

  messages-inv : Inv items asked s.Messages of-messages records (notes_of items asked records)
  messages-inv = inv-of items asked s.Messages of-messages records wanted by-items.messages by-items.countable

  first-items : names_shown (notes_of items asked records) ≡ items_to_show items (run_shown asked records) records
  unfolding shown_items items_to_show
  first-items =
      let notes : Noted = notes_of items asked records in
      let told = kept-of items asked s.Messages of-messages records notes messages-inv.phase in
      let planned = kept-of items asked s.Plan of-plan records notes plan-inv.phase in
      shown-names (rows_in s.Messages notes.report) (rows_in s.Plan notes.report) planned.named
      ∙ first-shown (items_in items (rows_of s.Messages (run_shown asked records) records)) (items_in items (rows_of s.Plan (run_shown asked records) records)) (leader_names (rows_in s.Messages notes.report)) (leader_names (rows_in s.Plan notes.report))
      told.keeps planned.keeps (items-distinct items (rows_of s.Plan (run_shown asked records) records))

pub shows-first : (items : Names) (asked : Option ℕ) (records : List Cells) (notes : Noted) → IsDayOf items asked records notes → IsByItems records → names_shown notes ≡ items_to_show items (run_shown asked records) records
shows-first items asked records notes day by-items = ap names_shown day.kept ∙ first-items items asked records by-items (asked-from asked notes.spot.run day.run)

pub counts-all : (items : Names) (asked : Option ℕ) (records : List Cells) (notes : Noted) → IsDayOf items asked records notes → IsByItems records → notes.counts.items ≡ length (items_of_plan items (run_shown asked records) records)
counts-all items asked records notes day by-items =
    let wanted = asked-from asked notes.spot.run day.run in
    let inv = plan-inv items asked records by-items wanted in
    let has : has_run asked (runs_of records) ≡ true = ap (has_run asked) (sym inv.runs ∙ ap (λ (n : Noted). n.spot.run) (sym day.kept)) ∙ day.run in
    ap (λ (n : Noted). n.counts.items) day.kept
    ∙ counted-of items asked s.Plan of-plan records (notes_of items asked records) inv.phase (ap is_end inv.place ∙ day.day) (has-begun asked records has) refl
