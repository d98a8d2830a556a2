-- Laws of messages.
use Rattle.std.proofs.Common.{◌≡◌, ℕ, suc, ◌≤◌, Bool, true, false, cond, List, [], ◌∷◌, map, get_or, refl, arith}
use Rattle.std.specs.Prelude.{filter, flat_map, All, Contains, ◌==◌, nat_lt, count_by, Option, Some, None}
use Rattle.std.specs.List.{enumerate_from, cons_option}
use Rattle.std.proofs.lemmas.List.{length-map, get_or-map}
use Rattle.std.proofs.lemmas.List.Elements.{All-nil, All-append, All-map, All-contains}
use Rattle.mrp_phase.specs.Weeks.{weeks}
use Rattle.mrp_net.specs.declared.stock.Stock.{Stock}
use Rattle.mrp_item.specs.declared.order.Order.{Order}
use Rattle.mrp_item.specs.Inputs.{Inputs, horizon}
use Rattle.mrp_item.specs.Plan.{ItemPlan}
use Rattle.mrp_item.specs.Rows.{stock_of}
use Rattle.mrp_item.specs.Supplies.{supplies_to_come}
use Rattle.mrp_notes.specs.declared.message.Advice.{Advice}
use Rattle.mrp_notes.specs.declared.message.Advice.TheVariants.{Release, PastDue}
use Rattle.mrp_item.specs.declared.supplies.Supply.{Supply}
use Rattle.mrp_notes.specs.Messages.{messages_of}
use Rattle.mrp_notes.specs.Needs.{is_rescheduling, rescheduling}
use Rattle.mrp_notes.specs.Release.{action_on, action_on_order}
use Rattle.mrp_notes.specs.Told.{advice_on, message, supplied_before, told_of}
use Rattle.mrp_item.proofs.SupplyOrder.{numbered}

all_pieces : {X Y : Type 0} (P : Y → Type 0) (f : X → List Y) (xs : List X) → All (λ x. All P (f x)) xs → All P (flat_map f xs)
all_pieces P f [] all = All-nil P
all_pieces P f (x ∷ xs) all = All-append P (f x) (flat_map f xs) (all 0 x (omega arith)) (all_pieces P f xs (λ k d h. all (suc k) d (omega arith)))

pub of_item : (s : Inputs) (i : ℕ) (plan : ItemPlan) → All (λ m. m.item ≡ i) (messages_of s i plan)
of_item s i plan =
    all_pieces (λ m. m.item ≡ i) (λ (x : ℕ × Supply). told_of i plan.gross (stock_of s i) (supplies_to_come s i plan.orders) x.0 x.1) (enumerate_from 0 (supplies_to_come s i plan.orders))
    (λ k d h. All-map (λ m. m.item ≡ i) (message i (get_or (enumerate_from 0 (supplies_to_come s i plan.orders)) k d).1.source)
    (advice_on plan.gross (stock_of s i) (supplies_to_come s i plan.orders) (get_or (enumerate_from 0 (supplies_to_come s i plan.orders)) k d).0 (get_or (enumerate_from 0 (supplies_to_come s i plan.orders)) k d).1)
    (λ j e l. refl))

among : (xs : List Supply) → All (λ x. Contains (map (λ y. y.source) xs) x.source) xs
among xs k d h = (k, omega (arith, length-map xs (λ (y : Supply). y.source)), get_or-map (λ (y : Supply). y.source) xs k d (get_or xs k d).source h)

pub of_supply : (s : Inputs) (i : ℕ) (plan : ItemPlan) → All (λ m. Contains (map (λ x. x.source) (supplies_to_come s i plan.orders)) m.supply) (messages_of s i plan)
of_supply s i plan =
    all_pieces (λ m. Contains (map (λ x. x.source) supplies) m.supply) (λ (x : ℕ × Supply). told_of i plan.gross (stock_of s i) supplies x.0 x.1) (enumerate_from 0 supplies)
    (λ k d h. All-map (λ m. Contains (map (λ x. x.source) supplies) m.supply) (message i (get_or (enumerate_from 0 supplies) k d).1.source)
    (advice_on plan.gross (stock_of s i) supplies (get_or (enumerate_from 0 supplies) k d).0 (get_or (enumerate_from 0 supplies) k d).1)
    (λ j e l. numbered (λ x. Contains (map (λ y. y.source) supplies) x.source) 0 supplies (among supplies) k d h))
  where
    supplies : List Supply
    supplies = supplies_to_come s i plan.orders

-- what is said of a release moves nothing
plain : (o : Option Order) → count_by is_rescheduling (cons_option (action_on_order o) []) ≡ 0
plain None = refl
plain (Some order) = by (nat_lt 0 order.late) (order.release == 1)
  where
    by : (b c : Bool) → count_by is_rescheduling (cons_option (cond b (Some (PastDue order.late)) (cond c (Some Release) None)) []) ≡ 0
    by true c = refl
    by false true = refl
    by false false = refl

one_at_most : (b : Bool) → cond b 1 0 ≤ 1
one_at_most true = omega arith
one_at_most false = omega arith

count_two : (a r : Option Advice) → count_by is_rescheduling (cons_option a []) ≡ 0 → count_by is_rescheduling (cons_option a (cons_option r [])) ≤ 1
count_two None None h = omega arith
count_two None (Some r) h = omega (arith, one_at_most (is_rescheduling r))
count_two (Some a) None h = omega (arith, h)
count_two (Some a) (Some r) h = omega (arith, h, one_at_most (is_rescheduling r))

pub moved_once : (supplies : List Supply) (gross : List ℕ) (stock : Stock) (place : ℕ) (x : Supply) → count_by is_rescheduling (advice_on gross stock supplies place x) ≤ 1
moved_once supplies gross stock place x = count_two (action_on x) (rescheduling gross stock.safety (supplied_before stock supplies place) x) (plain x.order)
