-- The supplies of a planned item cover its requirements.
use Rattle.std.proofs.Common.{◌≡◌, ◌∙◌, ℕ, suc, ◌+◌, ◌<◌, ◌≤◌, ◌⊎◌, inl, inr, Bool, true, false, cond, List, sym, ap, arith}
use Rattle.std.specs.Prelude.{◌==◌, filter, map, sum, sum_by}
use Rattle.std.specs.List.{enumerate_from}
use Rattle.std.proofs.lemmas.Bool.{cases_lt}
use Rattle.std.proofs.lemmas.List.Sums.{sum_by-cons, sum_by-append, sum_by-le-sum_by}
use Rattle.mrp_tables.specs.declared.rows.Receipt.{Receipt}
use Rattle.mrp_phase.specs.Weeks.{in_week, row, sum_to, weeks}
use Rattle.mrp_phase.proofs.WeekRows.{greatest_above, in_week_row, length-row, sum_to_whole}
use Rattle.mrp_net.specs.Need.{IsNeed, need, shortage}
use Rattle.mrp_net.proofs.NetLaws.{need_rises, row_rises}
use Rattle.mrp_lots.specs.Lots.{receipts}
use Rattle.mrp_lots.specs.LotLaws.{covers, rises}
use Rattle.mrp_item.specs.declared.order.Order.{Order}
use Rattle.mrp_item.specs.Inputs.{Inputs, horizon, is_master, item_at}
use Rattle.mrp_item.specs.Limits.{IsSized}
use Rattle.mrp_item.specs.Lot.{rule_of}
use Rattle.mrp_item.specs.Orders.{orders_of}
use Rattle.mrp_item.specs.Plan.{gross_in, needs_of, outcome_of, plan_in, receipts_of}
use Rattle.mrp_item.specs.Rows.{firm_rows, on_hand, open_receipts, scheduled_in, stock_of}
use Rattle.mrp_item.proofs.OrderLaws.{orders_add}
use Rattle.mrp_item.proofs.Rules.{rule_of-kept}
use Rattle.mrp_item.specs.declared.supplies.Supply.{Supply}
use Rattle.mrp_item.specs.Dues.{receipt_due}
use Rattle.mrp_item.specs.Supplies.{due_supply, order_supply, stock_supply, supplies_in, supplies_of, supplies_to_come}
use Rattle.mrp_peg.specs.Matching.{amount_offered}
use Rattle.mrp_peg.specs.Pegging.{requirements, supplies}
use Rattle.mrp_peg.specs.Units.{Amount, total}
use Rattle.mrp_item.specs.Own.{own_gross}
use Rattle.mrp_peg.specs.Own.{IsOwn}
use Rattle.mrp_peg.proofs.Lists.{sum_by-flat_map, sum_by_weeks}
use Rattle.mrp_peg.proofs.Own.{all_due, orders-own}
use Rattle.mrp_peg.proofs.Sums.{sum_by-add, sum_by-agree, sum_by-map}
use Rattle.mrp_peg.proofs.Totals.{numbered_kept, requirements_total}

abbrev units : {A : Type 0} → Amount A → ℕ
units a = a.quantity

abbrev pieces : Order → ℕ
pieces o = o.quantity

abbrev offered : Supply → ℕ
offered x = x.quantity

-- the receipts of an item do not fall
rising : (s : Inputs) (i : ℕ) (gross : List ℕ) → IsSized (item_at s i) → IsNeed (horizon s) (in_week (receipts_of s i gross))
rising s i gross sized =
    let item = item_at s i in
    let needs = in_week (needs_of s i gross) in
    row_rises (receipts (rule_of item) (horizon s) needs) (horizon s)
    (rises (rule_of item) (rule_of-kept item sized) (horizon s) needs (row_rises (need (stock_of s i) gross) (horizon s) (need_rises (stock_of s i) gross (horizon s))))

-- no requirement is unserved at the end of the horizon
served : (s : Inputs) (i : ℕ) (gross : List ℕ) → IsSized (item_at s i) → 0 < horizon s
    → sum_to gross (horizon s) + (stock_of s i).safety ≤ (stock_of s i).on_hand + sum_to (stock_of s i).scheduled (horizon s) + in_week (receipts_of s i gross) (horizon s)
served s i gross sized a =
    let h = horizon s in
    let within : h ≤ h = omega arith in
    let needs = in_week (needs_of s i gross) in
    let up = row_rises (need (stock_of s i) gross) h (need_rises (stock_of s i) gross h) in
    omega (
      arith,
      greatest_above (shortage (stock_of s i) gross) h a,
      in_week_row (need (stock_of s i) gross) h h a within,
      in_week_row (receipts (rule_of (item_at s i)) h needs) h h a within,
      covers (rule_of (item_at s i)) (rule_of-kept (item_at s i) sized) h needs up h a within,
    )

abbrev received_in : Inputs → ℕ → ℕ → ℕ
received_in s i w = sum_by (λ r. r.quantity) (open_receipts s i w)

abbrev firm_in : Inputs → ℕ → ℕ → ℕ
firm_in s i w = sum_by (λ r. r.quantity) (firm_rows s i w)

abbrev ordered_in : Inputs → ℕ → ℕ → ℕ
ordered_in s i w = sum_by pieces (filter (λ o. o.due == w) (plan_in (outcome_of s i)).orders)

week_supplies : (s : Inputs) (i w : ℕ) → sum_by offered (supplies_in s i (plan_in (outcome_of s i)).orders w) ≡ received_in s i w + ordered_in s i w
week_supplies s i w =
    let orders = (plan_in (outcome_of s i)).orders in
    let received = map (λ r. due_supply (receipt_due r)) (open_receipts s i w) in
    let ordered = map (λ n. order_supply n.0 n.1) (filter (λ n. n.1.due == w) (enumerate_from 1 orders)) in
    let one = sum_by-map offered (λ (r : Receipt). due_supply (receipt_due r)) (open_receipts s i w) in
    let two = sum_by-map offered (λ (n : ℕ × Order). order_supply n.0 n.1) (filter (λ n. n.1.due == w) (enumerate_from 1 orders)) ∙ numbered_kept pieces (λ o. o.due == w) 1 orders in
    sum_by-append offered received ordered ∙ ap (λ n. n + sum_by offered ordered) one ∙ ap (λ n. received_in s i w + n) two

supplies_total : (s : Inputs) (i : ℕ) → IsOwn s i → total (supplies s i) ≡ on_hand s i + (sum_by (received_in s i) (weeks (horizon s)) + sum_by pieces (orders_of s i (receipts_of s i (own_gross s i))))
unfolding supplies
supplies_total s i is =
    let orders = (plan_in (outcome_of s i)).orders in
    let ordered : sum_by (ordered_in s i) (weeks (horizon s)) ≡ sum_by pieces (orders_of s i (receipts_of s i (own_gross s i))) =
    sym (sum_by-flat_map pieces (λ w. filter (λ o. o.due == w) orders) (weeks (horizon s)))
    ∙ sum_by_weeks pieces (λ (o : Order). o.due) 1 (horizon s) orders (λ k d h. let due = all_due s i is k d h in (due.0, omega (arith, due.1)))
    ∙ ap (sum_by pieces) (orders-own s i is) in
    sum_by-map units amount_offered (supplies_of s i orders)
    ∙ sum_by-cons offered (stock_supply (on_hand s i)) (supplies_to_come s i orders)
    ∙ ap (λ n. on_hand s i + n) (sum_by-flat_map offered (supplies_in s i orders) (weeks (horizon s))
    ∙ sum_by-agree (λ w. sum_by offered (supplies_in s i orders w)) (λ w. received_in s i w + ordered_in s i w) (week_supplies s i) (weeks (horizon s))
    ∙ sum_by-add (received_in s i) (ordered_in s i) (weeks (horizon s)) ∙ ap (λ n. sum_by (received_in s i) (weeks (horizon s)) + n) ordered)

scheduled_most : (s : Inputs) (i w : ℕ) → scheduled_in s i w ≤ received_in s i w + firm_in s i w
scheduled_most s i w = by (is_master s i)
  where
    by : (b : Bool) → cond b (firm_in s i w) (received_in s i w) ≤ received_in s i w + firm_in s i w
    by true = omega arith
    by false = omega arith

scheduled_sum : (s : Inputs) (i : ℕ) → sum_to (stock_of s i).scheduled (horizon s) ≤ sum_by (received_in s i) (weeks (horizon s)) + sum_by (firm_in s i) (weeks (horizon s))
unfolding row
scheduled_sum s i =
    let whole : sum_to (row (horizon s) (scheduled_in s i)) (horizon s) ≡ sum (row (horizon s) (scheduled_in s i)) =
    ap (sum_to (row (horizon s) (scheduled_in s i))) (sym (length-row (scheduled_in s i) (horizon s))) ∙ sum_to_whole (row (horizon s) (scheduled_in s i)) in
    omega (
      arith,
      whole,
      sum_by-map (λ n. n) (scheduled_in s i) (weeks (horizon s)),
      sum_by-le-sum_by (scheduled_in s i) (λ w. received_in s i w + firm_in s i w) (weeks (horizon s)) (scheduled_most s i),
      sum_by-add (received_in s i) (firm_in s i) (weeks (horizon s)),
    )

-- what is required of a planned item is supplied; without weeks nothing is required
pub covered_item : (s : Inputs) (i : ℕ) → IsOwn s i → IsSized (item_at s i) → total (requirements s i) ≤ total (supplies s i)
covered_item s i is sized = by (cases_lt 0 (horizon s))
  where
    gross : List ℕ
    gross = own_gross s i

    whole : sum_to gross (horizon s) ≡ sum gross
    whole = ap (sum_to gross) (sym (length-row (gross_in s i (outcome_of s)) (horizon s))) ∙ sum_to_whole gross

    by : (0 < horizon s) ⊎ (horizon s ≤ 0) → total (requirements s i) ≤ total (supplies s i)
    by (inl some) =
        let up = rising s i gross sized in
        omega (
          arith,
          requirements_total s i,
          whole,
          served s i gross sized some,
          scheduled_sum s i,
          supplies_total s i is,
          orders_add s i (receipts_of s i gross) (horizon s) (λ t h. up t (suc t) (omega arith) h),
        )
    by (inr none) =
        let no_weeks : horizon s ≡ 0 = omega arith in
        omega (arith, requirements_total s i, whole, ap (sum_to gross) no_weeks)
