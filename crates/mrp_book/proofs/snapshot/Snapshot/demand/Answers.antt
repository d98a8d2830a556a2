use Rattle.std.specs.Prelude.{MatchResult, IfOk, OnSome}
use Rattle.std.proofs.Common.{◌≡◌, ◌≤◌, ◌<◌, ◌+◌, ◌∙◌, ℕ, List, [], ◌∷◌, ◌++◌, Option, Some, None, Result, Ok, Err, false, true, length, get_or, take, ap, arith, refl, subst, sym}
use Rattle.std.proofs.lemmas.Iterator.{YieldsList}
use Rattle.std.proofs.lemmas.Iterator.Consumers.{YieldsList-end, YieldsList-from_first, YieldsList-turn}
use Rattle.std.proofs.lemmas.List.{length_push, take_all}
use Rattle.std.specs.Iterator.{YieldsFirst}
use Rattle.mrp_phase.specs.Weeks.{in_week, row, with_week}
use Rattle.mrp_phase.proofs.WeekRows.{length-row}
use Rattle.mrp_qty.specs.Quantity.{greatest_quantity}
use Rattle.mrp_book.specs.declared.booking.Booking.{Booking}
use Rattle.mrp_book.specs.Bookings.{AreLittle}
use Rattle.mrp_book.proofs.Demands.{demand_counted, demand_fits, demand_none, demand_of, demand_uncounted}
use Rattle.mrp_book.proofs.snapshot.Snapshot.demand.Goals as goal
use Rattle.mrp_book.proofs.snapshot.Snapshot.demand.Goals.{In-Some}

zero_is : {E F : Type 0} (r : Result (List ℕ) E) (answer : Result (List ℕ) F) (demand nothing : List ℕ) → answer ≡ Ok demand → MatchResult r (λ x. answer ≡ Ok x) (λ e. ⊥) → IfOk r (λ w. w ≡ nothing) → demand ≡ nothing
zero_is (Ok x) answer demand nothing is same value = let e : demand ≡ x = cc in e ∙ value
zero_is (Err e) answer demand nothing is bad value = absurd bad

on_some : {T : Type 0} (o : Option T) (x : T) (P : Type 0) → o ≡ Some x → OnSome o P → P
on_some None x P e p = cc
on_some (Some y) x P e p = p

-- the iterator gives the standing bookings
gives : (all : List Booking) → YieldsList (YieldsFirst (λ (s : List Booking). s)) (λ (b : Booking). b) all all
gives all = YieldsList-from_first (λ (b : Booking). b) (λ (s : List Booking). s) all refl

all_is : (c : In-Some) → c.into_iter-booking-iterator.result ≡ c.args.self.now.standing
all_is c = c.into_iter-booking-iterator.ensures.into_iter_gives ∙ c.standing-booking-items.ensures

-- this turn's booking is the next
turn : (c : In-Some)
    → (length c.loop-booking.yielded < length c.args.self.now.standing) × (c.in-Some.booking ≡ get_or c.args.self.now.standing (length c.loop-booking.yielded) c.in-Some.booking)
turn c =
    subst (λ (all : List Booking). (length c.loop-booking.yielded < length all) × (c.in-Some.booking ≡ get_or all (length c.loop-booking.yielded) c.in-Some.booking)) (all_is c)
    (YieldsList-turn (gives c.into_iter-booking-iterator.result) c.loop-booking.yielded c.loop-booking.booking-iterator c.loop-booking.yielded_by c.next.result c.next.new.self c.in-Some.booking c.in-Some.is c.next.ensures.steps)

-- what they book is within the greatest quantity
little : (c : In-Some) → AreLittle c.self.inside.weeks c.args.self.now.standing
little c = subst (λ (bs : List Booking). AreLittle c.self.inside.weeks bs) (ap (λ s. s.standing) c.self.view_is) c.self.invariant

pub loop-booking-init : goal.loop-booking-init
loop-booking-init c = zero_is _ (Ok c.in_ok-demand.demand) _ _ refl c.in_ok-demand.ensures.cases c.zero.ensures.value ∙ demand_none _ c.args.item [] refl

pub add_at-requires-clause-last : goal.add_at-requires-clause-last
add_at-requires-clause-last c =
    let counted = c.if-is_in.ensures.0 refl in
    omega (arith, counted.2, c.week.ensures, ap length c.loop-booking.invariant, length-row (demand_of (take (length c.loop-booking.yielded) c.args.self.now.standing) c.args.item) c.self.inside.weeks)

pub unwrap-requires : goal.unwrap-requires
unwrap-requires c =
    let counted = c.if-is_in.ensures.0 refl in
    let here = (goal.at.unwrap-requires c).In-Some in
    let b : Booking = c.in-Some.booking in
    let fits : in_week c.loop-booking.demand b.line.week + b.line.quantity ≤ greatest_quantity =
    subst (λ (x : List ℕ). in_week x b.line.week + b.line.quantity ≤ greatest_quantity) (sym c.loop-booking.invariant)
    (demand_fits c.self.inside.weeks c.args.item (length c.loop-booking.yielded) c.args.self.now.standing b (turn here).0 (turn here).1 (little here) counted.0 counted.1 counted.2) in
    c.add_at.ensures.fits.1 (subst (λ (week : ℕ). in_week c.loop-booking.demand week + c.quantity.result ≤ greatest_quantity) (sym c.week.ensures)
    (subst (λ (quantity : ℕ). in_week c.loop-booking.demand b.line.week + quantity ≤ greatest_quantity) (sym c.quantity.ensures) fits))

-- the demand after this turn
one_more : (c : In-Some) (demand : List ℕ) → demand ≡ row c.self.inside.weeks (demand_of (take (length c.loop-booking.yielded + 1) c.args.self.now.standing) c.args.item)
    → demand ≡ row c.self.inside.weeks (demand_of (take (length (c.loop-booking.yielded ++ c.in-Some.booking ∷ [])) c.args.self.now.standing) c.args.item)
one_more c demand is = is ∙ ap (λ (k : ℕ). row c.self.inside.weeks (demand_of (take k c.args.self.now.standing) c.args.item)) (sym (length_push c.loop-booking.yielded c.in-Some.booking))

pub loop-booking-preserved-then-is_in : goal.loop-booking-preserved-then-is_in
loop-booking-preserved-then-is_in c =
    let counted = c.if-is_in.ensures.0 refl in
    let here = (goal.at.loop-booking-preserved-then-is_in c).In-Some in
    let b : Booking = c.in-Some.booking in
    let told : c.add_at.new.self ≡ with_week c.loop-booking.demand c.week.result (in_week c.loop-booking.demand c.week.result + c.quantity.result) = on_some c.add_at.result _ _ c.unwrap.ensures c.add_at.ensures.added in
    let added : c.add_at.new.self ≡ with_week c.loop-booking.demand b.line.week (in_week c.loop-booking.demand b.line.week + b.line.quantity) =
    subst (λ (week : ℕ). c.add_at.new.self ≡ with_week c.loop-booking.demand week (in_week c.loop-booking.demand week + b.line.quantity)) c.week.ensures
    (subst (λ (quantity : ℕ). c.add_at.new.self ≡ with_week c.loop-booking.demand c.week.result (in_week c.loop-booking.demand c.week.result + quantity)) c.quantity.ensures told) in
    one_more here c.add_at.new.self (added ∙ ap (λ (x : List ℕ). with_week x b.line.week (in_week x b.line.week + b.line.quantity)) c.loop-booking.invariant
    ∙ demand_counted c.self.inside.weeks c.args.item (length c.loop-booking.yielded) c.args.self.now.standing b (turn here).0 (turn here).1 counted.0 counted.1 counted.2)

pub loop-booking-preserved : goal.loop-booking-preserved
loop-booking-preserved c =
    let here = (goal.at.loop-booking-preserved c).In-Some in
    let b : Booking = c.in-Some.booking in
    let out : ¬ ((b.line.item ≡ c.args.item) × (1 ≤ b.line.week) × (b.line.week ≤ c.self.inside.weeks)) = λ (h : (b.line.item ≡ c.args.item) × (1 ≤ b.line.week) × (b.line.week ≤ c.self.inside.weeks)). let bad : false ≡ true = c.if-is_in.ensures.1 h in cc in
    one_more here c.loop-booking.demand (c.loop-booking.invariant
    ∙ demand_uncounted c.self.inside.weeks c.args.item (length c.loop-booking.yielded) c.args.self.now.standing b (turn here).0 (turn here).1 out)

pub returns : goal.returns
returns c =
    let all : List Booking = c.args.self.now.standing in
    let e : c.into_iter-booking-iterator.result ≡ all = c.into_iter-booking-iterator.ensures.into_iter_gives ∙ c.standing-booking-items.ensures in
    let ended = YieldsList-end (gives c.into_iter-booking-iterator.result) c.loop-booking.yielded c.loop-booking.booking-iterator c.loop-booking.yielded_by c.next.result c.next.new.self c.in-None.is c.next.ensures.steps in
    let whole : take (length c.loop-booking.yielded) all ≡ all = take_all (length c.loop-booking.yielded) all (omega (arith, ended.1, ap length e)) in
    c.loop-booking.invariant ∙ ap (λ (bs : List Booking). row c.self.inside.weeks (demand_of bs c.args.item)) whole ∙ ap (λ s. row s.weeks (demand_of all c.args.item)) c.self.view_is
