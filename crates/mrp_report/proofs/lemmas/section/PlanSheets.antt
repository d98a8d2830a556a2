-- The rows of a planned item are those of its sheet.
use Rattle.std.proofs.Common.{◌≡◌, ◌∙◌, ℕ, ◌+◌, ◌-◌, ◌<◌, ◌≤◌, List, length, get_or, sym, ap, arith}
use Rattle.std.proofs.lemmas.List.{get_or_default}
use Rattle.std.specs.Prelude.{if◌then◌else◌}
use Rattle.std.specs.List.{flat_map}
use Rattle.mrp_phase.specs.Weeks.{row, in_week, sum_to}
use Rattle.mrp_phase.proofs.WeekRows.{row_same, in_week_row, length-row}
use Rattle.mrp_item.specs.Inputs.{Inputs, count, horizon, is_master, item_at}
use Rattle.mrp_item.specs.Rows.{on_hand, scheduled_in}
use Rattle.mrp_item.specs.Orders.{started_in}
use Rattle.mrp_item.specs.Plan.{ItemPlan, Planned, outcome_of}
use Rattle.mrp_item.proofs.PlannedRows.{planned_rows, step_of}
use Rattle.mrp_tables.specs.declared.item.Item.{Item}
use Rattle.mrp_report.specs.declared.section.plan.PlanRow.{PlanRow}
use Rattle.mrp_report.specs.declared.section.sheet.Sheet.{Sheet}
use Rattle.mrp_report.specs.section.PlanRows.{plan_row}
use Rattle.mrp_report.specs.section.PlanText.{week_text}
use Rattle.mrp_report.specs.ReportText.{item_text}
use Rattle.mrp_report.specs.section.Sheet.{IsSheet, sheet_row}

planned-receipts : (s : Inputs) (i : ℕ) (plan : ItemPlan) → outcome_of s i ≡ Planned plan → length plan.receipts ≡ horizon s
planned-receipts s i plan e = ap (λ (p : ItemPlan). length p.receipts) (sym (step_of s i plan e).same) ∙ length-row _ (horizon s)

-- a sheet that has what the plan has
pub record IsSheetOf (sheet : Sheet) (s : Inputs) (i : ℕ) (plan : ItemPlan) : Type 0 where
  pub weeks_are : sheet.weeks ≡ horizon s
  pub master_is : sheet.is_master ≡ is_master s i
  pub on_hand_is : sheet.on_hand ≡ on_hand s i
  pub gross_is : sheet.gross.now ≡ plan.gross
  pub scheduled_is : sheet.scheduled.now ≡ row (horizon s) (scheduled_in s i)
  pub received_is : sheet.received.now ≡ plan.receipts
  pub started_is : sheet.started.now ≡ row (horizon s) (started_in plan.orders)

pub is-sheet : (sheet : Sheet) (s : Inputs) (i : ℕ) (plan : ItemPlan) → IsSheetOf sheet s i plan → outcome_of s i ≡ Planned plan → horizon s ≤ 104 → IsSheet sheet
is-sheet sheet s i plan same e few = record {
  few = omega (arith, same.weeks_are, few);
  gross = ap (length {A = ℕ}) same.gross_is ∙ (planned_rows s i plan e).weeks ∙ sym same.weeks_are;
  scheduled = ap (length {A = ℕ}) same.scheduled_is ∙ length-row (scheduled_in s i) (horizon s) ∙ sym same.weeks_are;
  received = ap (length {A = ℕ}) same.received_is ∙ planned-receipts s i plan e ∙ sym same.weeks_are;
  started = ap (length {A = ℕ}) same.started_is ∙ length-row (started_in plan.orders) (horizon s) ∙ sym same.weeks_are;
}

sheet-week : (sheet : Sheet) (s : Inputs) (i : ℕ) (plan : ItemPlan) → IsSheetOf sheet s i plan → (t : ℕ) → 0 < t → t ≤ horizon s → sheet_row sheet t ≡ plan_row s i plan t
sheet-week sheet s i plan same t a b =
    let scheduled : in_week sheet.scheduled.now t ≡ scheduled_in s i t = ap (λ (xs : List ℕ). in_week xs t) same.scheduled_is ∙ in_week_row (scheduled_in s i) (horizon s) t a b in
    let started : in_week sheet.started.now t ≡ started_in plan.orders t = ap (λ (xs : List ℕ). in_week xs t) same.started_is ∙ in_week_row (started_in plan.orders) (horizon s) t a b in
    λ j. record {
      week = t;
      gross = in_week (same.gross_is j) t;
      receipts = if same.master_is j then 0 else scheduled j;
      firm = if same.master_is j then scheduled j else 0;
      planned = in_week (same.received_is j) t - in_week (same.received_is j) (t - 1);
      start = started j;
      balance = (same.on_hand_is j + sum_to (same.scheduled_is j) t + in_week (same.received_is j) t) - sum_to (same.gross_is j) t;
    }

-- the text of a sheet is its item's
pub sheet-text : (sheet : Sheet) (s : Inputs) (i : ℕ) (plan : ItemPlan) (name : List ℕ) → IsSheetOf sheet s i plan → name ≡ (item_at s i).name
    → flat_map (week_text name) (row sheet.weeks (sheet_row sheet)) ≡ item_text s i plan
sheet-text sheet s i plan name same e =
    ap (λ (n : List ℕ). flat_map (week_text n) (row sheet.weeks (sheet_row sheet))) e
    ∙ ap (λ (n : ℕ). flat_map (week_text (item_at s i).name) (row n (sheet_row sheet))) same.weeks_are
    ∙ ap (λ (rows : List PlanRow). flat_map (week_text (item_at s i).name) rows) (row_same (sheet_row sheet) (plan_row s i plan) (horizon s) (sheet-week sheet s i plan same))

-- the entry of an item in the table
pub entry-is : (s : Inputs) (items : List Item) (i j : ℕ) (entry d : Item) → items ≡ s.tables.items → j ≡ i → j < count s → entry ≡ get_or items j d → entry ≡ item_at s i
entry-is s items i j entry d same place within read =
    read ∙ ap (λ (xs : List Item). get_or xs j d) same ∙ get_or_default s.tables.items j d _ within ∙ ap (item_at s) place
