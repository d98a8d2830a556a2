use Rattle.std.proofs.Common.{◌≡◌, ◌∙◌, ◌∷◌, [], ◌++◌, List, ap}
use Rattle.std.specs.Prelude.{decimal, ℕ}
use Rattle.jiff.specs.Words.{date_text}
use Rattle.csv.specs.Records.{fields_of}
use Rattle.mrp_cal.specs.Calendar.{ShopCalendar}
use Rattle.mrp_cal.specs.ShopDays.{first_day_of}
use Rattle.mrp_tables.specs.Tables.{Tables}
use Rattle.mrp_report.specs.section.Cells.{name_at}
use Rattle.mrp_carry.specs.Rows.{IsFirstDay}
use Rattle.std.proofs.lemmas.Result.{on_ok_weaker}
use Rattle.mrp_carry.proofs.RowsWritten.{three-more}
use Rattle.mrp_carry.proofs.rows.push_line.Goals as goal

pub returns-clause-cells : goal.returns-clause-cells
returns-clause-cells c =
    let tables = c.args.shop.now.tables in
    let line = c.args.line.now in
    let (day, first, text) = c.in_ok-day.ensures in
    let calendar : c.calendar.result.now ≡ tables.calendar = c.calendar.ensures ∙ ap (λ (x : Tables). x.calendar) c.tables.ensures.value in
    let own : IsFirstDay tables.calendar line.week day = first ∙ ap (λ (x : ShopCalendar). first_day_of x c.week.result) calendar ∙ ap (first_day_of tables.calendar) c.week.ensures in
    let old = fields_of c.args.cells.now in
    let name = ap (λ (x : List ℕ). old ++ x ∷ []) (c.as_bytes.ensures.text ∙ c.item_name.ensures) in
    let date = ap (λ (x : List ℕ). fields_of c.push_cell.new.cells ++ x ∷ []) (c.as_bytes-2.ensures.value ∙ text) in
    let quantity = ap (λ (n : ℕ). fields_of c.push_cell-2.new.cells ++ decimal n ∷ []) (c.value.ensures.pieces ∙ c.quantity.ensures) in
    on_ok_weaker c.push_number.result (λ last. (
      day,
      own,
      three-more old (fields_of c.push_cell.new.cells) (fields_of c.push_cell-2.new.cells) (fields_of c.push_number.new.cells) (name_at tables line.item) (date_text day) (decimal line.quantity)
          (c.in_ok-push_cell.ensures.cells ∙ name) (c.in_ok-push_cell-2.ensures.cells ∙ date) (last ∙ quantity),
    )) c.push_number.ensures.cells
