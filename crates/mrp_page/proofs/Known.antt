-- What a page shows is known.
use Rattle.std.specs.Prelude.{◌==◌, if◌then◌else◌}
use Rattle.mrp_facts.specs.Dates.{in_week}
use Rattle.mrp_facts.specs.Facts.{Facts}
use Rattle.mrp_tables.specs.Versions.{lead_unit}
use Rattle.mrp_page.specs.Centres.{work_in}
use Rattle.mrp_page.specs.Explained.{explained_texts}
use Rattle.mrp_page.specs.ItemFacts.{facts_cells}
use Rattle.mrp_page.specs.Receipts.{receipt_cells}
use Rattle.std.proofs.Common.{◌⊎◌, ◌<◌, ◌≤◌, ℕ, List, [], Option, get_or, length, map, refl, sym, subst, arith, inl, inr, None, Some, Bool, true, false, ◌-◌}
use Rattle.std.proofs.lemmas.Bool.{cases_lt}
use Rattle.std.proofs.lemmas.List.{get_or-map, get_or_past, length-map}
use Rattle.std.proofs.lemmas.List.Elements.{All-contains, All-contains_itself, Contains-get_or}
use Rattle.std.specs.List.{All, Contains}
use Rattle.mrp_page.specs.Known.{IsKnown, IsMadeOf, IsOrderShown, count_texts, entries_kept, names_shown, risk_texts, small_words}
use Rattle.mrp_page.specs.AtRisk.{RisksView}
use Rattle.mrp_page.specs.ItemRows.{item_lists}
use Rattle.mrp_page.specs.Notes.{Noted, notes_of}
use Rattle.mrp_page.specs.Page.{page_html, scene_in, shown_items}
use Rattle.mrp_page.specs.Row.{Cells, RowView, cell_at}
use Rattle.mrp_page.specs.Rows.{rows_in, rows_named}
use Rattle.mrp_page.specs.Spot.{Names}
use Rattle.mrp_day.specs.declared.section.Section.TheVariants as s
use Rattle.mrp_page.proofs.KeptRows.{history-stands, report-stands}
use Rattle.mrp_page.proofs.made.Facts.{TablesKnown, WorksKnown}
use Rattle.mrp_page.proofs.made.Page.{page}
use Rattle.mrp_page.proofs.made.Rows.{named-item}

nothing : Contains small_words []
unfolding small_words
nothing = (0, omega arith, refl)

known-cell : (title : List ℕ) (tables : Option Facts) (records : List Cells) (notes : Noted) (risks : RisksView) (r : RowView) → Contains records r.cells → (column : ℕ) → IsKnown title tables records notes risks (cell_at r column)
known-cell title tables records notes risks r has column = by (cases_lt column (length r.cells))
  where
    by : (column < length r.cells) ⊎ (length r.cells ≤ column) → IsKnown title tables records notes risks (cell_at r column)
    by (inl within) = inr (inl (r.cells, has, Contains-get_or r.cells column [] within))
    by (inr past) = subst (λ (t : List ℕ). IsKnown title tables records notes risks t) (sym (get_or_past r.cells column [] past)) (inr (inr (inr (inr (inl nothing)))))

shown-names : (rows : List RowView) → All (λ r. Contains (map (λ r. cell_at r 0) rows) (cell_at r 0)) rows
shown-names rows = λ k d within.
    let long : k < length (map (λ (r : RowView). cell_at r 0) rows) = rw (length-map rows (λ (r : RowView). cell_at r 0)) within in
    subst (λ (t : List ℕ). Contains (map (λ (r : RowView). cell_at r 0) rows) t) (get_or-map (λ (r : RowView). cell_at r 0) rows k d [] within) (Contains-get_or (map (λ (r : RowView). cell_at r 0) rows) k [] long)

-- what the tables say is known
dated-known : (title : List ℕ) (facts : Facts) (records : List Cells) (notes : Noted) (risks : RisksView) (week : ℕ) → IsKnown title (Some facts) records notes risks (in_week facts.dates week)
dated-known title facts records notes risks week = by (week == 0) (cases_lt (week - 1) (length facts.dates))
  where
    by : (b : Bool) → ((week - 1) < length facts.dates) ⊎ (length facts.dates ≤ (week - 1)) → IsKnown title (Some facts) records notes risks (if b then [] else get_or facts.dates (week - 1) [])
    by true which = inr (inr (inr (inr (inl nothing))))
    by false (inl within) = inr (inr (inr (inr (inr (inl (Contains-get_or facts.dates (week - 1) [] within))))))
    by false (inr past) = subst (λ (t : List ℕ). IsKnown title (Some facts) records notes risks t) (sym (get_or_past facts.dates (week - 1) [] past)) (inr (inr (inr (inr (inl nothing)))))

known-tables : (title : List ℕ) (tables : Option Facts) (records : List Cells) (notes : Noted) (risks : RisksView) → TablesKnown (λ (t : List ℕ). IsKnown title tables records notes risks t) tables
known-tables title None records notes risks = tt
known-tables title (Some facts) records notes risks = record {
  dated = dated-known title facts records notes risks;
  of-items = λ name own is k d within. inr (inr (inr (inr (inr (inr (inl (record { name = name; own = own; is = is; among = All-contains_itself (facts_cells (lead_unit facts.tables.version) own) k d within })))))));
  of-orders = λ name order own is k d within. inr (inr (inr (inr (inr (inr (inr (inl (record { name = name; order = order; own = own; is = is; among = All-contains_itself (receipt_cells own) k d within }))))))));
}

-- so are the texts of the operations that load overloads
known-works : (title : List ℕ) (tables : Option Facts) (records : List Cells) (notes : Noted) (risks : RisksView) → WorksKnown (λ (t : List ℕ). IsKnown title tables records notes risks t) (work_in (scene_in tables notes) (rows_in s.Loads notes.report)) (rows_in s.Loads notes.report)
known-works title None records notes risks = tt
known-works title (Some facts) records notes risks = λ load kept works is k d within.
    inr (inr (inr (inr (inr (inr (inr (inr (record { load = load; works = works; kept = kept; is = is; among = All-contains_itself (explained_texts load works) k d within }))))))))

pub shows-known : (title : List ℕ) (tables : Option Facts) (items : Names) (asked : Option ℕ) (records : List Cells) (risks : RisksView) → IsMadeOf (IsKnown title tables records (notes_of items asked records) risks) (Contains (names_shown (notes_of items asked records))) (Contains (entries_kept (notes_of items asked records))) (IsOrderShown (notes_of items asked records)) (page_html title tables (notes_of items asked records) risks)
shows-known title tables items asked records risks =
    let notes : Noted = notes_of items asked records in
    page (record { Known = λ (t : List ℕ). IsKnown title tables records notes risks t; Shown = Contains (names_shown notes); Kept = Contains (entries_kept notes); Ordered = IsOrderShown notes; words = λ w is. inr (inr (inr (inr (inl is)))) }) title tables notes risks (known-tables title tables records notes risks) (known-works title tables records notes risks) (inl refl)
    (λ k d within. known-cell title tables records notes risks (get_or notes.history k d) (history-stands items asked records k d within))
    (λ k d within. known-cell title tables records notes risks (get_or notes.report k d) (report-stands items asked records k d within))
    (λ k d within. inr (inr (inl (All-contains_itself (count_texts notes) k d within))))
    (λ k d within. inr (inr (inr (inl (All-contains_itself (risk_texts risks) k d within)))))
    (shown-names (shown_items (item_lists notes.report)))
    (shown-names notes.history)
    (λ name has k d within.
    let orders : List RowView = rows_named name (rows_in s.Orders notes.report) in
    let (r, at, is) = named-item (shown_items (item_lists notes.report)) name has in
    let names : Contains (names_shown notes) (cell_at r 0) = All-contains (λ (r : RowView). Contains (names_shown notes) (cell_at r 0)) (shown_items (item_lists notes.report)) r (shown-names (shown_items (item_lists notes.report))) at in
    let long : k < length (map (λ (r : RowView). cell_at r 1) orders) = rw (length-map orders (λ (r : RowView). cell_at r 1)) within in (
      subst (λ (t : List ℕ). Contains (names_shown notes) t) is names,
      subst (λ (t : List ℕ). Contains (map (λ (r : RowView). cell_at r 1) orders) t) (get_or-map (λ (r : RowView). cell_at r 1) orders k d [] within) (Contains-get_or (map (λ (r : RowView). cell_at r 1) orders) k [] long),
    ))
