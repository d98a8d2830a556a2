-- The messages about a list of supplies, one supply at a time.
use Rattle.std.proofs.Common.{◌≡◌, ◌∙◌, ℕ, zero, suc, ◌+◌, ◌-◌, ◌^◌, ◌<◌, ◌≤◌, Bool, true, false, cond, min, List, [], ◌∷◌, ◌++◌, length, take, take_all, map, get_or, refl, sym, ap, arith, append_assoc}
use Rattle.std.specs.Prelude.{nat_lt, find, filter, flat_map, sum, sum_by, Option, Some, None}
use Rattle.std.specs.List.{range_with_len, enumerate_from, cons_option}
use Rattle.std.proofs.lemmas.Bool.{ltb-true, ltb-false, lt-ltb, le-ltb}
use Rattle.std.proofs.lemmas.List.{flat_map_more, take_more}
use Rattle.std.proofs.lemmas.List.Elements.{filter_more}
use Rattle.std.proofs.lemmas.List.Sums.{sum_by-append, sum_by-cons}
use Rattle.std.proofs.lemmas.List.FromFn.{length-enumerate_from, get_or-enumerate_from}
use Rattle.mrp_qty.specs.Quantity.{greatest_quantity}
use Rattle.mrp_phase.specs.Weeks.{sum_to}
use Rattle.mrp_phase.proofs.WeekRows.{sum_to_rises, sum_to_whole}
use Rattle.mrp_net.specs.declared.stock.Stock.{Stock}
use Rattle.mrp_notes.specs.declared.message.Advice.{Advice}
use Rattle.mrp_notes.specs.declared.message.Message.{Message}
use Rattle.mrp_item.specs.declared.supplies.Supply.{Supply}
use Rattle.mrp_notes.specs.Needs.{need_week, rescheduled, rescheduling}
use Rattle.mrp_notes.specs.Release.{action_on, is_fixed}
use Rattle.mrp_notes.specs.Told.{fixed_sum, supplied_before, message, told_of, told}
use Rattle.mrp_notes.specs.Walk.{with_supply}

-- the greatest number of the program
abbrev pub most : ℕ
most = 2 ^ 64 - 1

find_same : (p q : ℕ → Bool) (a n : ℕ) → ((k : ℕ) → a ≤ k → k < a + n → p k ≡ q k) → find p (range_with_len a n) ≡ find q (range_with_len a n)
find_same p q a zero same = refl
find_same p q a (suc n) same =
    ap (λ b. cond b (Some a) (find p (range_with_len (a + 1) n))) (same a (omega arith) (omega arith))
    ∙ ap (λ (o : Option ℕ). cond (q a) (Some a) o) (find_same p q (a + 1) n (λ k low high. same k (omega arith) (omega arith)))

-- if neither number is exceeded or both are
tests_same : (a b n : ℕ) → n ≤ most → b ≡ min a most → nat_lt b n ≡ nat_lt a n
tests_same a b n h e = by (nat_lt a n) refl
  where
    by : (c : Bool) → nat_lt a n ≡ c → nat_lt b n ≡ c
    by true f =
        let less : a < n = ltb-true a n f in
        lt-ltb b n (omega arith)
    by false f =
        let least : n ≤ a = ltb-false a n f in
        le-ltb b n (omega arith)

-- supplies that are too large for the program need no other week
pub need_week_same : (gross : List ℕ) (safety a b : ℕ) → sum gross + safety ≤ most → b ≡ min a most → need_week gross safety b ≡ need_week gross safety a
need_week_same gross safety a b h e =
    find_same (λ week. nat_lt b (sum_to gross week + safety)) (λ week. nat_lt a (sum_to gross week + safety)) 1 (length gross)
    (λ k low high. tests_same a b (sum_to gross k + safety) (omega (arith, sum_to_rises gross k (length gross) (omega arith), sum_to_whole gross)) e)

pub rescheduling_same : (gross : List ℕ) (safety a b : ℕ) (x : Supply) → sum gross + safety ≤ most → b ≡ min a most → rescheduling gross safety b x ≡ rescheduling gross safety a x
rescheduling_same gross safety a b x h e = ap (λ o. cond (is_fixed x) (rescheduled x.week o) None) (need_week_same gross safety a b h e)

-- one more supply
fixed_sum_more : (xs : List Supply) (k : ℕ) (d : Supply) → k < length xs → fixed_sum (take (k + 1) xs) ≡ fixed_sum (take k xs) + cond (is_fixed (get_or xs k d)) (get_or xs k d).quantity 0
fixed_sum_more xs k d h =
    ap (sum_by (λ (x : Supply). x.quantity)) (filter_more is_fixed xs k d h)
    ∙ sum_by-append (λ (x : Supply). x.quantity) (filter is_fixed (take k xs)) (cond (is_fixed (get_or xs k d)) (get_or xs k d ∷ []) [])
    ∙ ap (λ n. fixed_sum (take k xs) + n) (by (get_or xs k d) (is_fixed (get_or xs k d)))
  where
    by : (x : Supply) (b : Bool) → sum_by (λ (y : Supply). y.quantity) (cond b (x ∷ []) []) ≡ cond b x.quantity 0
    by x true = omega (arith, sum_by-cons (λ (y : Supply). y.quantity) x [])
    by x false = refl

pub supplied_more : (stock : Stock) (xs : List Supply) (k : ℕ) (x : Supply) (supplied : ℕ) → k < length xs → x ≡ get_or xs k x → supplied ≡ min (supplied_before stock xs k) most
    → with_supply supplied x ≡ min (supplied_before stock xs (k + 1)) most
supplied_more stock xs k x supplied h is before =
    by (is_fixed x) refl
  where
    more : fixed_sum (take (k + 1) xs) ≡ fixed_sum (take k xs) + cond (is_fixed x) x.quantity 0
    more = fixed_sum_more xs k x h ∙ ap (λ (y : Supply). fixed_sum (take k xs) + cond (is_fixed y) y.quantity 0) (sym is)

    by : (b : Bool) → is_fixed x ≡ b → cond b (min (supplied + x.quantity) most) supplied ≡ min (supplied_before stock xs (k + 1)) most
    by true e =
        let here : cond (is_fixed x) x.quantity 0 ≡ x.quantity = rw e refl in
        omega (arith, more, here, before)
    by false e =
        let here : cond (is_fixed x) x.quantity 0 ≡ 0 = rw e refl in
        omega (arith, more, here, before)

told_more : (item : ℕ) (gross : List ℕ) (stock : Stock) (xs : List Supply) (k : ℕ) (x : Supply) → k < length xs → x ≡ get_or xs k x
    → flat_map (λ y. told_of item gross stock xs y.0 y.1) (take (k + 1) (enumerate_from 0 xs))
    ≡ flat_map (λ y. told_of item gross stock xs y.0 y.1) (take k (enumerate_from 0 xs)) ++ told_of item gross stock xs k x
told_more item gross stock xs k x h is =
    let each : ℕ × Supply → List Message = λ y. told_of item gross stock xs y.0 y.1 in
    let there : k < length (enumerate_from 0 xs) = omega (arith, length-enumerate_from 0 xs) in
    let start : 0 + k ≡ k = omega arith in
    let here : get_or (enumerate_from 0 xs) k (k, x) ≡ (k, x) = get_or-enumerate_from 0 xs k (k, x) h ∙ ap (λ n. (n, get_or xs k x)) start ∙ ap (λ (y : Supply). (k, y)) (sym is) in
    ap (flat_map each) (take_more (enumerate_from 0 xs) k (k, x) there ∙ ap (λ (y : ℕ × Supply). take k (enumerate_from 0 xs) ++ y ∷ []) here)
    ∙ sym (flat_map_more each [] (take k (enumerate_from 0 xs)) (k, x))

split : (item : ℕ) (x : Supply) (one other : Option Advice)
    → map (message item x.source) (cons_option one []) ++ map (message item x.source) (cons_option other []) ≡ map (message item x.source) (cons_option one (cons_option other []))
split item x None other = refl
split item x (Some advice) other = refl

-- the messages of a loop over supplies, and of the next
pub told_next : (item : ℕ) (gross : List ℕ) (stock : Stock) (xs : List Supply) (k : ℕ) (x : Supply) (supplied : ℕ) (messages : List Message) (advice : Option Advice)
    → sum gross + stock.safety ≤ greatest_quantity → k < length xs → x ≡ get_or xs k x → supplied ≡ min (supplied_before stock xs k) most
    → advice ≡ rescheduling gross stock.safety supplied x
    → messages ≡ flat_map (λ y. told_of item gross stock xs y.0 y.1) (take k (enumerate_from 0 xs))
    → (messages ++ map (message item x.source) (cons_option (action_on x) [])) ++ map (message item x.source) (cons_option advice [])
    ≡ flat_map (λ y. told_of item gross stock xs y.0 y.1) (take (k + 1) (enumerate_from 0 xs))
told_next item gross stock xs k x supplied messages advice within h is before said so_far =
    let same : advice ≡ rescheduling gross stock.safety (supplied_before stock xs k) x =
    said ∙ rescheduling_same gross stock.safety (supplied_before stock xs k) supplied x (omega arith) before in
    append_assoc messages (map (message item x.source) (cons_option (action_on x) [])) (map (message item x.source) (cons_option advice []))
    ∙ ap (λ (ys : List Message). messages ++ ys) (split item x (action_on x) advice)
    ∙ ap (λ o. messages ++ map (message item x.source) (cons_option (action_on x) (cons_option o []))) same
    ∙ ap (λ (ys : List Message). ys ++ told_of item gross stock xs k x) so_far
    ∙ sym (told_more item gross stock xs k x h is)

pub told_all : (item : ℕ) (gross : List ℕ) (stock : Stock) (xs : List Supply)
    → flat_map (λ y. told_of item gross stock xs y.0 y.1) (take (length xs) (enumerate_from 0 xs)) ≡ told item gross stock xs
told_all item gross stock xs =
    ap (flat_map (λ (y : ℕ × Supply). told_of item gross stock xs y.0 y.1)) (take_all (length xs) (enumerate_from 0 xs) (omega (arith, length-enumerate_from 0 xs)))
