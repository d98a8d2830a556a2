use Rattle.std.proofs.Common.{◌≡◌, ◌∙◌, ◌++◌, List, ℕ, ap, subst, arith}
use Rattle.std.specs.Prelude.{OnOk}
use Rattle.mrp_tables.specs.Tables.{Tables}
use Rattle.mrp_tables.specs.declared.item.Item.{Item}
use Rattle.mrp_net.specs.declared.stock.Stock.{Stock}
use Rattle.mrp_tables.specs.Items.{is_master}
use Rattle.mrp_item.specs.Inputs.{Inputs, item_at, horizon}
use Rattle.mrp_report.specs.section.Cells.{name_at}
use Rattle.mrp_report.specs.declared.section.sheet.Sheet.{Sheet}
use Rattle.mrp_report.proofs.lemmas.section.PlanSheets.{IsSheetOf, is-sheet, sheet-text}
use Rattle.mrp_report.proofs.section.item.item_rows.Goals as goal

pub write-requires : goal.write-requires
write-requires c =
    let s = c.args.planned.now.inputs in
    let tables : c.tables.result.now ≡ s.tables = c.tables.ensures.value ∙ c.shop.ensures.tables ∙ ap (λ (x : Inputs). x.tables) (c.deref.ensures ∙ c.inputs.ensures.inputs) in
    let weeks : c.weeks.result ≡ horizon s = c.weeks.ensures.value ∙ ap (λ k. k.weeks) c.calendar.ensures ∙ ap (λ (t : Tables). t.calendar.weeks) tables in
    let entry : c.entry_of-entry.result ≡ item_at s c.args.planned.now.item = c.entry_of-entry.ensures in
    let of : IsSheetOf _ s c.args.planned.now.item c.args.planned.now.plan = record {
      weeks_are = weeks;
      master_is = c.is_master.ensures ∙ ap (λ (e : Item). is_master e.class) entry;
      on_hand_is = ap (λ (k : Stock). k.on_hand) c.in_ok-stock.ensures;
      gross_is = c.as_slice.ensures ∙ c.gross.ensures.gross;
      scheduled_is = c.as_slice-2.ensures ∙ ap (λ (k : Stock). k.scheduled) c.in_ok-stock.ensures;
      received_is = c.as_slice-3.ensures ∙ c.receipts.ensures.receipts;
      started_is = c.as_slice-4.ensures ∙ c.started.ensures.started;
    } in
    is-sheet _ s c.args.planned.now.item c.args.planned.now.plan of c.gross.ensures.outcome (omega (arith, weeks, c.weeks.ensures.bound))

pub returns : goal.returns
returns c =
    let s = c.args.planned.now.inputs in
    let tables : c.tables.result.now ≡ s.tables = c.tables.ensures.value ∙ c.shop.ensures.tables ∙ ap (λ (x : Inputs). x.tables) (c.deref.ensures ∙ c.inputs.ensures.inputs) in
    let weeks : c.weeks.result ≡ horizon s = c.weeks.ensures.value ∙ ap (λ k. k.weeks) c.calendar.ensures ∙ ap (λ (t : Tables). t.calendar.weeks) tables in
    let entry : c.entry_of-entry.result ≡ item_at s c.args.planned.now.item = c.entry_of-entry.ensures in
    let sheet : Sheet = record {
      weeks = c.weeks.result;
      is_master = c.is_master.result;
      on_hand = c.in_ok-stock.stock.on_hand;
      gross = c.as_slice.result;
      scheduled = c.as_slice-2.result;
      received = c.as_slice-3.result;
      started = c.as_slice-4.result;
    } in
    let of : IsSheetOf sheet s c.args.planned.now.item c.args.planned.now.plan = record {
      weeks_are = weeks;
      master_is = c.is_master.ensures ∙ ap (λ (e : Item). is_master e.class) entry;
      on_hand_is = ap (λ (k : Stock). k.on_hand) c.in_ok-stock.ensures;
      gross_is = c.as_slice.ensures ∙ c.gross.ensures.gross;
      scheduled_is = c.as_slice-2.ensures ∙ ap (λ (k : Stock). k.scheduled) c.in_ok-stock.ensures;
      received_is = c.as_slice-3.ensures ∙ c.receipts.ensures.receipts;
      started_is = c.as_slice-4.ensures ∙ c.started.ensures.started;
    } in
    let name : c.item-2.result.now ≡ (item_at s c.args.planned.now.item).name =
    c.item-2.ensures ∙ ap (λ (t : Tables). name_at t c.item.result) c.requires ∙ ap (name_at s.tables) c.item.ensures.item in
    let Writes : List ℕ → Type 0 = λ text. OnOk c.write.result (c.write.new.page ≡ c.args.page.now ++ text) in
    subst Writes (sheet-text sheet s c.args.planned.now.item c.args.planned.now.plan c.item-2.result.now of name) c.write.ensures
