-- Each row that is kept is a record of the day.
use Rattle.std.proofs.Common.{◌≡◌, ℕ, Bool, true, false, not, List, [], ◌∷◌, Option, Some, None, get_or, length, ◌<◌, suc, arith, refl}
use Rattle.std.specs.Prelude.{is_some, ◌&&◌}
use Rattle.std.proofs.lemmas.List.Elements.{All-append, All-cons, All-nil, Contains-get_or}
use Rattle.std.specs.List.{All, Contains}
use Rattle.mrp_page.specs.Notes.{Noted, history_rows, is_shown, none_noted, noted, noted_from, notes_of, report_rows, rows_left, rows_taken}
use Rattle.mrp_page.specs.Row.{Cells, RowView}
use Rattle.mrp_page.specs.Section.{is_history}
use Rattle.mrp_page.specs.Spot.{Names, after, begins_run}
use Rattle.mrp_day.specs.declared.section.Section.{Section}
use Rattle.mrp_page.specs.declared.spot.Spot.{Spot}

-- a row whose cells are one of these records
abbrev Stands : List Cells → RowView → Type 0
Stands records r = Contains records r.cells

-- the rows that are kept are
record AllStand (records : List Cells) (n : Noted) : Type 0 where
  history : All (Stands records) n.history
  report : All (Stands records) n.report

of-history : (records : List Cells) (takes : Option Section) (cells : Cells) → Contains records cells → All (Stands records) (history_rows takes cells)
of-history records None cells is = All-nil (Stands records)
of-history records (Some section) cells is = by (is_history section) refl
  where
    by : (b : Bool) → is_history section ≡ b → All (Stands records) (history_rows (Some section) cells)
    by true e = rw e (All-cons (Stands records) (record { section = section; cells = cells }) [] is (All-nil (Stands records)))
    by false e = rw e (All-nil (Stands records))

of-report : (records : List Cells) (shown : Bool) (takes : Option Section) (cells : Cells) → Contains records cells → All (Stands records) (rows_taken shown takes cells)
of-report records shown None cells is = All-nil (Stands records)
of-report records shown (Some section) cells is = by (not (is_history section) && shown) refl
  where
    by : (b : Bool) → (not (is_history section) && shown) ≡ b → All (Stands records) (rows_taken shown (Some section) cells)
    by true e = rw e (All-cons (Stands records) (record { section = section; cells = cells }) [] is (All-nil (Stands records)))
    by false e = rw e (All-nil (Stands records))

of-left : (records : List Cells) (asked : Option ℕ) (spot : Spot) (rows : List RowView) → All (Stands records) rows → All (Stands records) (rows_left asked spot rows)
of-left records asked spot rows stand = by (not (is_some asked) && begins_run spot.place) refl
  where
    by : (b : Bool) → (not (is_some asked) && begins_run spot.place) ≡ b → All (Stands records) (rows_left asked spot rows)
    by true e = rw e (All-nil (Stands records))
    by false e = rw e stand

next : (items : Names) (asked : Option ℕ) (records : List Cells) (before : Noted) (cells : Cells) → AllStand records before → Contains records cells → AllStand records (noted items asked before cells)
next items asked records before cells stand is =
    let spot = after items before.spot before.last cells in
    record {
      history = All-append (Stands records) before.history (history_rows spot.takes cells) stand.history (of-history records spot.takes cells is);
      report = All-append (Stands records) (rows_left asked spot before.report) (report_rows asked spot cells) (of-left records asked spot before.report stand.report) (of-report records (is_shown asked spot.run) spot.takes cells is);
    }

kept : (items : Names) (asked : Option ℕ) (records rest : List Cells) (before : Noted) → AllStand records before → ((k : ℕ) (d : Cells) → k < length rest → Contains records (get_or rest k d)) → AllStand records (noted_from items asked before rest)
unfolding noted_from
kept items asked records [] before stand are = stand
kept items asked records (cells ∷ rest) before stand are =
    kept items asked records rest (noted items asked before cells) (next items asked records before cells stand (are 0 cells (omega arith))) (λ k d within. are (suc k) d (omega arith))

all-stand : (items : Names) (asked : Option ℕ) (records : List Cells) → AllStand records (notes_of items asked records)
all-stand items asked records =
    kept items asked records records none_noted (record { history = All-nil (Stands records); report = All-nil (Stands records) }) (λ k d within. Contains-get_or records k d within)

pub history-stands : (items : Names) (asked : Option ℕ) (records : List Cells) → All (λ r. Contains records r.cells) (notes_of items asked records).history
history-stands items asked records = (all-stand items asked records).history

pub report-stands : (items : Names) (asked : Option ℕ) (records : List Cells) → All (λ r. Contains records r.cells) (notes_of items asked records).report
report-stands items asked records = (all-stand items asked records).report
