-- Laws of lots.
use Rattle.std.proofs.Common.{◌≡◌, ℕ, zero, suc, ◌+◌, ◌-◌, ◌*◌, ◌<◌, ◌≤◌, ◌∙◌, refl, ap, sym, arith, Bool, true, false, cond}
use Rattle.std.specs.Prelude.{max, nat_le, Some, None}
use Rattle.std.specs.Int.{div_ceil}
use Rattle.std.proofs.Math.Nat.{lt_of_mul-lt-mul_right}
use Rattle.std.proofs.lemmas.Nat.{mul-le}
use Rattle.std.proofs.lemmas.Bool.{leb-true, leb-false, le-leb}
use Rattle.std.proofs.lemmas.Grind.{div_ceil_times}
use Rattle.mrp_qty.specs.Quantity.{greatest_quantity, multiple_of, quantity_of}
use Rattle.mrp_net.specs.Need.{IsNeed}
use Rattle.mrp_lots.specs.Lots.{IsLotRule, Rule, fixed, last_of, lot_for_lot, order_of, period, receipts, stepped}

pub ceil_covers : (n size : ℕ) → 0 < size → n ≤ size * div_ceil n size
ceil_covers n size p = grind (arith, div_ceil_times n size p)

-- the least multiple that covers
pub ceil_least : (n size k : ℕ) → 0 < size → n ≤ size * k → size * div_ceil n size ≤ size * k
ceil_least n size k p h =
    let below : div_ceil n size * size < (k + 1) * size = grind (arith, div_ceil_times n size p) in
    let fewer : div_ceil n size < k + 1 = lt_of_mul-lt-mul_right size below in
    mul-le size (div_ceil n size) size k (omega arith) (omega arith)

last_is_later : (horizon n week : ℕ) → 0 < n → week ≤ horizon → week ≤ last_of horizon n week
last_is_later horizon n week p h = omega arith

period_covers : (k horizon : ℕ) (need : ℕ → ℕ) (week before : ℕ) → 0 < k → IsNeed horizon need → week ≤ horizon → need week ≤ period k horizon need week before
period_covers k horizon need week before p n h = by (nat_le (need week) before) refl
  where
    by : (b : Bool) → nat_le (need week) before ≡ b → need week ≤ cond b before (need (last_of horizon k week))
    by true e = leb-true (need week) before e
    by false e = n week (last_of horizon k week) (last_is_later horizon k week p h) (omega arith)

lot_for_lot_covers : (horizon : ℕ) (need : ℕ → ℕ) → IsNeed horizon need → (t : ℕ) → t < horizon → need (suc t) ≤ receipts lot_for_lot horizon need (suc t)
unfolding receipts
lot_for_lot_covers horizon need n t h = omega arith

lot_for_lot_idle : (horizon : ℕ) (need : ℕ → ℕ) → IsNeed horizon need → (t : ℕ) → t < horizon
    → need (suc t) ≤ receipts lot_for_lot horizon need t → receipts lot_for_lot horizon need (suc t) ≡ receipts lot_for_lot horizon need t
unfolding receipts
lot_for_lot_idle horizon need n zero h c = omega arith
lot_for_lot_idle horizon need n (suc t) h c = omega (arith, n (suc t) (suc (suc t)) (omega arith) h)

pub lot_for_lot_rule : IsLotRule lot_for_lot
lot_for_lot_rule = record { covers = lot_for_lot_covers; idle = lot_for_lot_idle }

fixed_covers : (size horizon : ℕ) (need : ℕ → ℕ) (t : ℕ) → 0 < size → need (suc t) ≤ receipts (fixed size) horizon need (suc t)
unfolding receipts
fixed_covers size horizon need t p = ceil_covers (need (suc t)) size p

fixed_idle : (size : ℕ) → 0 < size → (horizon : ℕ) (need : ℕ → ℕ) → IsNeed horizon need → (t : ℕ) → t < horizon
    → need (suc t) ≤ receipts (fixed size) horizon need t → receipts (fixed size) horizon need (suc t) ≡ receipts (fixed size) horizon need t
unfolding receipts
fixed_idle size p horizon need n zero h c = omega (arith, ceil_least (need 1) size 0 p (omega arith))
fixed_idle size p horizon need n (suc t) h c =
    let more : need (suc t) ≤ size * div_ceil (need (suc (suc t))) size = omega (arith, n (suc t) (suc (suc t)) (omega arith) h, ceil_covers (need (suc (suc t))) size p) in
    omega (arith, ceil_least (need (suc (suc t))) size (div_ceil (need (suc t)) size) p c, ceil_least (need (suc t)) size (div_ceil (need (suc (suc t))) size) p more)

pub fixed_rule : (size : ℕ) → 0 < size → IsLotRule (fixed size)
fixed_rule size p = record { covers = λ horizon need n t h. fixed_covers size horizon need t p; idle = fixed_idle size p }

pub fixed-covers : (size horizon : ℕ) (need : ℕ → ℕ) (t : ℕ) → 0 < size → 0 < t → need t ≤ receipts (fixed size) horizon need t
fixed-covers size horizon need zero p a = absurd (omega arith)
fixed-covers size horizon need (suc t) p a = fixed_covers size horizon need t p

pub fixed-least : (size horizon : ℕ) (need : ℕ → ℕ) (t k : ℕ) → 0 < size → 0 < t → need t ≤ size * k → receipts (fixed size) horizon need t ≤ size * k
unfolding receipts
fixed-least size horizon need zero k p a h = absurd (omega arith)
fixed-least size horizon need (suc t) k p a h = ceil_least (need (suc t)) size k p h

period_rule_covers : (k : ℕ) → 0 < k → (horizon : ℕ) (need : ℕ → ℕ) → IsNeed horizon need → (t : ℕ) → t < horizon → need (suc t) ≤ receipts (period k) horizon need (suc t)
unfolding receipts
period_rule_covers k p horizon need n t h = period_covers k horizon need (suc t) (receipts (period k) horizon need t) p n (omega arith)

period_idle : (k : ℕ) → 0 < k → (horizon : ℕ) (need : ℕ → ℕ) → IsNeed horizon need → (t : ℕ) → t < horizon
    → need (suc t) ≤ receipts (period k) horizon need t → receipts (period k) horizon need (suc t) ≡ receipts (period k) horizon need t
unfolding receipts
period_idle k p horizon need n t h c = rw (le-leb (need (suc t)) (receipts (period k) horizon need t) c) refl

pub period_rule : (k : ℕ) → 0 < k → IsLotRule (period k)
period_rule k p = record { covers = period_rule_covers k p; idle = period_idle k p }

-- an order covers what is lacking, and the minimum
order_covers : (least step lacking : ℕ) → 0 < step → max lacking least ≤ order_of least step lacking
order_covers least step lacking p = ceil_covers (max lacking least) step p

order_covers-lacking : (least step lacking : ℕ) → 0 < step → lacking ≤ order_of least step lacking
order_covers-lacking least step lacking p =
    by (max lacking least) (order_of least step lacking) (omega arith) (order_covers least step lacking p)
  where
    by : (most order : ℕ) → lacking ≤ most → most ≤ order → lacking ≤ order
    by most order a b = omega arith

order_covers-least : (least step lacking : ℕ) → 0 < step → least ≤ order_of least step lacking
order_covers-least least step lacking p =
    by (max lacking least) (order_of least step lacking) (omega arith) (order_covers least step lacking p)
  where
    by : (most order : ℕ) → least ≤ most → most ≤ order → least ≤ order
    by most order a b = omega arith

-- an order that covers what is lacking comes to all, with what was received before
on_top : (before all order : ℕ) → all - before ≤ order → all ≤ before + order
on_top before all order h = omega arith

stepped_covers : (k least step horizon : ℕ) (need : ℕ → ℕ) (week before : ℕ) → 0 < k → 0 < step → IsNeed horizon need → week ≤ horizon
    → need week ≤ stepped k least step horizon need week before
stepped_covers k least step horizon need week before p q n h =
    by (nat_le (need week) before) refl (order_of least step (need (last_of horizon k week) - before)) (order_covers-lacking least step (need (last_of horizon k week) - before) q)
  where
    by : (b : Bool) → nat_le (need week) before ≡ b → (order : ℕ) → need (last_of horizon k week) - before ≤ order → need week ≤ cond b before (before + order)
    by true e order covered = leb-true (need week) before e
    by false e order covered =
        let later : need week ≤ need (last_of horizon k week) = n week (last_of horizon k week) (last_is_later horizon k week p h) (omega arith) in
        let all : need (last_of horizon k week) ≤ before + order = on_top before (need (last_of horizon k week)) order covered in
        omega (arith, later, all)

stepped_rule_covers : (k least step : ℕ) → 0 < k → 0 < step → (horizon : ℕ) (need : ℕ → ℕ) → IsNeed horizon need → (t : ℕ) → t < horizon
    → need (suc t) ≤ receipts (stepped k least step) horizon need (suc t)
unfolding receipts
stepped_rule_covers k least step p q horizon need n t h =
    stepped_covers k least step horizon need (suc t) (receipts (stepped k least step) horizon need t) p q n (omega arith)

stepped_idle : (k least step horizon : ℕ) (need : ℕ → ℕ) → IsNeed horizon need → (t : ℕ) → t < horizon
    → need (suc t) ≤ receipts (stepped k least step) horizon need t
    → receipts (stepped k least step) horizon need (suc t) ≡ receipts (stepped k least step) horizon need t
unfolding receipts
stepped_idle k least step horizon need n t h c = rw (le-leb (need (suc t)) (receipts (stepped k least step) horizon need t) c) refl

pub stepped_rule : (k least step : ℕ) → 0 < k → 0 < step → IsLotRule (stepped k least step)
stepped_rule k least step p q = record { covers = stepped_rule_covers k least step p q; idle = stepped_idle k least step }

-- receipts cover the net requirements
pub covers : (rule : Rule) → IsLotRule rule → (horizon : ℕ) (need : ℕ → ℕ) → IsNeed horizon need → (t : ℕ) → 0 < t → t ≤ horizon → need t ≤ receipts rule horizon need t
covers rule r horizon need n zero a h = absurd (omega arith)
covers rule r horizon need n (suc t) a h = r.covers horizon need n t (omega arith)

suc_is : (t : ℕ) → t + 1 ≡ suc t
suc_is t = omega arith

-- where the net requirements are covered, nothing is ordered
pub idle : (rule : Rule) → IsLotRule rule → (horizon : ℕ) (need : ℕ → ℕ) → IsNeed horizon need → (t : ℕ) → t + 1 ≤ horizon
    → need (t + 1) ≤ receipts rule horizon need t → receipts rule horizon need (t + 1) ≡ receipts rule horizon need t
idle rule r horizon need n t h = rw (suc_is t) (r.idle horizon need n t (omega arith))

-- receipts do not fall
rises_once : (rule : Rule) → IsLotRule rule → (horizon : ℕ) (need : ℕ → ℕ) → IsNeed horizon need → (t : ℕ) → t < horizon
    → receipts rule horizon need t ≤ receipts rule horizon need (suc t)
rises_once rule r horizon need n t h = by (nat_le (need (suc t)) (receipts rule horizon need t)) refl (r.covers horizon need n t h) (r.idle horizon need n t h)
  where
    by : (b : Bool) → nat_le (need (suc t)) (receipts rule horizon need t) ≡ b → need (suc t) ≤ receipts rule horizon need (suc t)
        → (need (suc t) ≤ receipts rule horizon need t → receipts rule horizon need (suc t) ≡ receipts rule horizon need t)
        → receipts rule horizon need t ≤ receipts rule horizon need (suc t)
    by true e covered same = omega (arith, same (leb-true (need (suc t)) (receipts rule horizon need t) e))
    by false e covered same = omega (arith, leb-false (need (suc t)) (receipts rule horizon need t) e)

rises_by : (rule : Rule) → IsLotRule rule → (horizon : ℕ) (need : ℕ → ℕ) → IsNeed horizon need → (s k : ℕ) → k + s ≤ horizon
    → receipts rule horizon need s ≤ receipts rule horizon need (k + s)
rises_by rule r horizon need n s zero h =
    let e : 0 + s ≡ s = omega arith in
    rw e (omega arith)
rises_by rule r horizon need n s (suc k) h =
    let e : suc k + s ≡ suc (k + s) = omega arith in
    rw e (omega (arith, rises_once rule r horizon need n (k + s) (omega arith), rises_by rule r horizon need n s k (omega arith)))

pub rises : (rule : Rule) → IsLotRule rule → (horizon : ℕ) (need : ℕ → ℕ) → IsNeed horizon need → (s t : ℕ) → s ≤ t → t ≤ horizon
    → receipts rule horizon need s ≤ receipts rule horizon need t
rises rule r horizon need n s t h within =
    let e : t ≡ (t - s) + s = omega arith in
    rw e (rises_by rule r horizon need n s (t - s) (omega arith))

-- lots for a period of one week are lot for lot
pub period_is_lot_for_lot : (horizon : ℕ) (need : ℕ → ℕ) (t : ℕ) → IsNeed horizon need → t ≤ horizon → receipts (period 1) horizon need t ≡ receipts lot_for_lot horizon need t
unfolding receipts
period_is_lot_for_lot horizon need zero r h = refl
period_is_lot_for_lot horizon need (suc t) r h =
    by (nat_le (need (suc t)) (receipts (period 1) horizon need t)) refl (period_is_lot_for_lot horizon need t r (omega arith)) (falls t h) (ap need (omega arith))
  where
    falls : (t : ℕ) → suc t ≤ horizon → receipts lot_for_lot horizon need t ≤ need (suc t)
    falls zero within = omega arith
    falls (suc t) within = r (suc t) (suc (suc t)) (omega arith) within

    by : (b : Bool) → nat_le (need (suc t)) (receipts (period 1) horizon need t) ≡ b → receipts (period 1) horizon need t ≡ receipts lot_for_lot horizon need t
        → receipts lot_for_lot horizon need t ≤ need (suc t) → need (last_of horizon 1 (suc t)) ≡ need (suc t)
        → cond b (receipts (period 1) horizon need t) (need (last_of horizon 1 (suc t))) ≡ need (suc t)
    by true e same f last = omega (arith, leb-true (need (suc t)) (receipts (period 1) horizon need t) e)
    by false e same f last = last

-- each quantity is a multiple of 1
multiple_of-one : (x : ℕ) → multiple_of 1 x ≡ x
multiple_of-one x =
    by (multiple_of 1 x) (ceil_covers x 1 (omega arith)) (ceil_least x 1 x (omega arith) (omega arith))
  where
    by : (m : ℕ) → x ≤ m → m ≤ 1 * x → m ≡ x
    by m a b = omega arith

-- with a minimum of 0 and a multiple of 1, an order is what is lacking
order_of-plain : (lacking : ℕ) → order_of 0 1 lacking ≡ lacking
order_of-plain lacking =
    let same : max lacking 0 ≡ lacking = omega arith in
    multiple_of-one (max lacking 0) ∙ same

stepped-plain : (k horizon : ℕ) (need : ℕ → ℕ) (week before : ℕ) → 0 < k → IsNeed horizon need → week ≤ horizon
    → stepped k 0 1 horizon need week before ≡ period k horizon need week before
stepped-plain k horizon need week before p n h =
    by (nat_le (need week) before) refl (order_of 0 1 (need (last_of horizon k week) - before)) (order_of-plain (need (last_of horizon k week) - before))
  where
    by : (b : Bool) → nat_le (need week) before ≡ b → (order : ℕ) → order ≡ need (last_of horizon k week) - before
        → cond b before (before + order) ≡ cond b before (need (last_of horizon k week))
    by true e order is = refl
    by false e order is =
        let more : before < need week = leb-false (need week) before e in
        let later : need week ≤ need (last_of horizon k week) = n week (last_of horizon k week) (last_is_later horizon k week p h) (omega arith) in
        omega (arith, more, later, is)

-- with a minimum of 0 and a multiple of 1, lots are fixed period requirements
pub stepped_is_period : (k horizon : ℕ) (need : ℕ → ℕ) (t : ℕ) → 0 < k → IsNeed horizon need → t ≤ horizon
    → receipts (stepped k 0 1) horizon need t ≡ receipts (period k) horizon need t
unfolding receipts
stepped_is_period k horizon need zero p n h = refl
stepped_is_period k horizon need (suc t) p n h =
    stepped-plain k horizon need (suc t) (receipts (stepped k 0 1) horizon need t) p n h
    ∙ ap (period k horizon need (suc t)) (stepped_is_period k horizon need t p n (omega arith))

-- and those for a period of one week are lot for lot
pub stepped_is_lot_for_lot : (horizon : ℕ) (need : ℕ → ℕ) (t : ℕ) → IsNeed horizon need → t ≤ horizon
    → receipts (stepped 1 0 1) horizon need t ≡ receipts lot_for_lot horizon need t
stepped_is_lot_for_lot horizon need t n h = stepped_is_period 1 horizon need t (omega arith) n h ∙ period_is_lot_for_lot horizon need t n h

-- one more week of receipts, as a loop takes it
pub receipts_none : (rule : Rule) (horizon : ℕ) (need : ℕ → ℕ) → receipts rule horizon need 0 ≡ 0
unfolding receipts
receipts_none rule horizon need = refl

pub receipts_more : (rule : Rule) (horizon : ℕ) (need : ℕ → ℕ) (t : ℕ) → receipts rule horizon need (t + 1) ≡ rule horizon need (t + 1) (receipts rule horizon need t)
unfolding receipts
receipts_more rule horizon need t = rw (suc_is t) refl

-- a number that is not a quantity is above the greatest
pub quantity_of-none : (n : ℕ) → quantity_of n ≡ None → greatest_quantity < n
quantity_of-none n h = by (nat_le n greatest_quantity) refl h
  where
    by : (b : Bool) → nat_le n greatest_quantity ≡ b → cond b (Some n) None ≡ None → greatest_quantity < n
    by true e k = absurd (cc)
    by false e k = leb-false n greatest_quantity e

-- receipts past the greatest quantity stay past it
pub receipts-past : (rule : Rule) → IsLotRule rule → (horizon : ℕ) (need : ℕ → ℕ) → IsNeed horizon need → (t before : ℕ) → t < horizon
    → before ≡ receipts rule horizon need t → quantity_of (rule horizon need (t + 1) before) ≡ None → greatest_quantity < receipts rule horizon need horizon
receipts-past rule r horizon need n t before h same none =
    let next = receipts_more rule horizon need t ∙ ap (rule horizon need (t + 1)) (sym same) in
    omega (arith, quantity_of-none (rule horizon need (t + 1) before) none, next, rises rule r horizon need n (t + 1) horizon (omega arith) (omega arith))

-- each order is a whole multiple
stepped-multiple : (n least step horizon : ℕ) (need : ℕ → ℕ) (week before : ℕ)
    → (k : ℕ) × (stepped n least step horizon need week before ≡ before + step * k)
stepped-multiple n least step horizon need week before = by (nat_le (need week) before)
  where
    by : (b : Bool) → (k : ℕ) × (cond b before (before + order_of least step (need (last_of horizon n week) - before)) ≡ before + step * k)
    by true = (0, omega arith)
    by false = (div_ceil (max (need (last_of horizon n week) - before) least) step, refl)

pub orders-multiple : (n least step horizon : ℕ) (need : ℕ → ℕ) (t : ℕ)
    → (k : ℕ) × (receipts (stepped n least step) horizon need (t + 1) ≡ receipts (stepped n least step) horizon need t + step * k)
orders-multiple n least step horizon need t =
    rw (receipts_more (stepped n least step) horizon need t) (stepped-multiple n least step horizon need (t + 1) (receipts (stepped n least step) horizon need t))

-- each order is at least the minimum
stepped-minimum : (n least step horizon : ℕ) (need : ℕ → ℕ) (week before : ℕ) → 0 < step → before < stepped n least step horizon need week before
    → before + least ≤ stepped n least step horizon need week before
stepped-minimum n least step horizon need week before p =
    by (nat_le (need week) before) (order_of least step (need (last_of horizon n week) - before)) (order_covers-least least step (need (last_of horizon n week) - before) p)
  where
    by : (b : Bool) (order : ℕ) → least ≤ order → before < cond b before (before + order) → before + least ≤ cond b before (before + order)
    by true order a more = absurd (omega arith)
    by false order a more = omega arith

pub orders-minimum : (n least step horizon : ℕ) (need : ℕ → ℕ) (t : ℕ) → 0 < step
    → receipts (stepped n least step) horizon need t < receipts (stepped n least step) horizon need (t + 1)
    → receipts (stepped n least step) horizon need t + least ≤ receipts (stepped n least step) horizon need (t + 1)
orders-minimum n least step horizon need t p =
    rw (receipts_more (stepped n least step) horizon need t) (stepped-minimum n least step horizon need (t + 1) (receipts (stepped n least step) horizon need t) p)

-- no smaller multiple covers the minimum and the net requirements of the period
stepped-smallest : (n least step horizon : ℕ) (need : ℕ → ℕ) (week before k : ℕ) → 0 < step → need (last_of horizon n week) ≤ before + step * k → least ≤ step * k
    → stepped n least step horizon need week before ≤ before + step * k
stepped-smallest n least step horizon need week before k p covered enough =
    let most : max (need (last_of horizon n week) - before) least ≤ step * k = omega (arith, covered, enough) in
    by (nat_le (need week) before) (order_of least step (need (last_of horizon n week) - before)) (step * k) (ceil_least (max (need (last_of horizon n week) - before) least) step k p most)
  where
    by : (b : Bool) (order steps : ℕ) → order ≤ steps → cond b before (before + order) ≤ before + steps
    by true order steps a = omega arith
    by false order steps a = omega arith

pub orders-smallest : (n least step horizon : ℕ) (need : ℕ → ℕ) (t k : ℕ) → 0 < step
    → need (last_of horizon n (t + 1)) ≤ receipts (stepped n least step) horizon need t + step * k → least ≤ step * k
    → receipts (stepped n least step) horizon need (t + 1) ≤ receipts (stepped n least step) horizon need t + step * k
orders-smallest n least step horizon need t k p covered enough =
    rw (receipts_more (stepped n least step) horizon need t) (stepped-smallest n least step horizon need (t + 1) (receipts (stepped n least step) horizon need t) k p covered enough)
