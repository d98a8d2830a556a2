-- What an item's orders add up to.
use Rattle.std.proofs.Common.{◌≡◌, ◌∙◌, ℕ, zero, suc, ◌+◌, ◌-◌, ◌≤◌, List, [], ◌∷◌, ◌++◌, refl, ap, sym, arith, Bool, true, false, cond, map, append-nil}
use Rattle.std.specs.Prelude.{sum_by, flat_map, nat_lt}
use Rattle.std.proofs.lemmas.Bool.{ltb-false}
use Rattle.std.proofs.lemmas.List.Sums.{sum_by-cons, sum_by-append, sum_by_push}
use Rattle.std.proofs.lemmas.List.Concat.{flat_map-append}
use Rattle.mrp_item.specs.declared.order.Order.{Order}
use Rattle.mrp_item.specs.declared.order.OrderKind.TheVariants.{Firm, Planned}
use Rattle.mrp_tables.specs.declared.rows.MasterRow.{MasterRow}
use Rattle.mrp_phase.specs.Weeks.{weeks, in_week}
use Rattle.mrp_item.specs.Inputs.{Inputs, item_at}
use Rattle.mrp_item.specs.Rows.{firm_rows}
use Rattle.mrp_item.specs.Orders.{order_of, orders_due}
use Rattle.mrp_phase.proofs.WeekRows.{weeks_more}

one_more_week : (f : ℕ → List Order) (ws : List ℕ) (w : ℕ) → flat_map f (ws ++ w ∷ []) ≡ flat_map f ws ++ f w
one_more_week f ws w = flat_map-append f ws (w ∷ []) ∙ ap (λ (os : List Order). flat_map f ws ++ os) (append-nil (f w))

abbrev pub quantity : Order → ℕ
quantity o = o.quantity

firm_orders : (s : Inputs) (i week : ℕ) (rows : List MasterRow) → sum_by quantity (map (λ r. order_of s.tables (item_at s i) Firm week r.quantity) rows) ≡ sum_by (λ r. r.quantity) rows
firm_orders s i week [] = refl
firm_orders s i week (r ∷ rows) =
    sum_by-cons quantity (order_of s.tables (item_at s i) Firm week r.quantity) (map (λ r. order_of s.tables (item_at s i) Firm week r.quantity) rows)
    ∙ ap (λ n. r.quantity + n) (firm_orders s i week rows)
    ∙ sym (sum_by-cons (λ (x : MasterRow). x.quantity) r rows)

planned_adds : (s : Inputs) (i week a b : ℕ) → a ≤ b → sum_by quantity (cond (nat_lt a b) (order_of s.tables (item_at s i) Planned week (b - a) ∷ []) []) + a ≡ b
planned_adds s i week a b h = by (nat_lt a b) refl
  where
    by : (c : Bool) → nat_lt a b ≡ c → sum_by quantity (cond c (order_of s.tables (item_at s i) Planned week (b - a) ∷ []) []) + a ≡ b
    by true e = omega (arith, sum_by-cons quantity (order_of s.tables (item_at s i) Planned week (b - a)) [])
    by false e = omega (arith, ltb-false a b e)

due_adds : (s : Inputs) (i : ℕ) (receipts : List ℕ) (t : ℕ) → in_week receipts t ≤ in_week receipts (suc t)
    → sum_by quantity (orders_due s i receipts (suc t)) + in_week receipts t ≡ sum_by (λ r. r.quantity) (firm_rows s i (suc t)) + in_week receipts (suc t)
due_adds s i receipts t h =
    let back : suc t - 1 ≡ t = omega arith in
    let firm : List Order = map (λ r. order_of s.tables (item_at s i) Firm (suc t) r.quantity) (firm_rows s i (suc t)) in
    let planned = λ (a : ℕ). cond (nat_lt a (in_week receipts (suc t))) (order_of s.tables (item_at s i) Planned (suc t) (in_week receipts (suc t) - a) ∷ []) [] in
    ap (λ k. sum_by quantity (firm ++ planned (in_week receipts k)) + in_week receipts t) back
    ∙ ap (λ n. n + in_week receipts t) (sum_by-append quantity firm (planned (in_week receipts t)))
    ∙ omega (arith, firm_orders s i (suc t) (firm_rows s i (suc t)), planned_adds s i (suc t) (in_week receipts t) (in_week receipts (suc t)) h)

pub orders_add : (s : Inputs) (i : ℕ) (receipts : List ℕ) (h : ℕ) → ((t : ℕ) → suc t ≤ h → in_week receipts t ≤ in_week receipts (suc t))
    → sum_by quantity (flat_map (orders_due s i receipts) (weeks h)) ≡ sum_by (λ week. sum_by (λ r. r.quantity) (firm_rows s i week)) (weeks h) + in_week receipts h
unfolding in_week
orders_add s i receipts zero rises = refl
orders_add s i receipts (suc h) rises =
    let firm = λ (week : ℕ). sum_by (λ (r : MasterRow). r.quantity) (firm_rows s i week) in
    let more : weeks (suc h) ≡ weeks h ++ suc h ∷ [] = weeks_more h in
    let orders = ap (λ ws. sum_by quantity (flat_map (orders_due s i receipts) ws)) more
    ∙ ap (sum_by quantity) (one_more_week (orders_due s i receipts) (weeks h) (suc h))
    ∙ sum_by-append quantity (flat_map (orders_due s i receipts) (weeks h)) (orders_due s i receipts (suc h)) in
    let rows = ap (sum_by firm) more ∙ sum_by_push firm (weeks h) (suc h) in
    let before = orders_add s i receipts h (λ t within. rises t (omega arith)) in
    let due = due_adds s i receipts h (rises h (omega arith)) in
    sums (sum_by quantity (flat_map (orders_due s i receipts) (weeks h))) (sum_by quantity (orders_due s i receipts (suc h))) (sum_by firm (weeks h)) (firm (suc h)) (in_week receipts h) (in_week receipts (suc h)) orders rows before due
  where
    sums : {x y : ℕ} (a b c d e f : ℕ) → x ≡ a + b → y ≡ c + d → a ≡ c + e → b + e ≡ d + f → x ≡ y + f
    sums a b c d e f p q r u = omega arith
