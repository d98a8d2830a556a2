-- The messages about the supplies of an item.
use Rattle.std.specs.Prelude.{ℕ, ◌+◌, List, [], map, take, filter, flat_map, sum_by}
use Rattle.std.specs.List.{enumerate_from, cons_option}
use Rattle.mrp_net.specs.declared.stock.Stock.{Stock}
use Rattle.mrp_notes.specs.declared.message.Advice.{Advice}
use Rattle.mrp_notes.specs.declared.message.Message.{Message}
use Rattle.mrp_item.specs.declared.supplies.Supplied.{Supplied}
use Rattle.mrp_item.specs.declared.supplies.Supply.{Supply}
use Rattle.mrp_notes.specs.Needs.{rescheduling}
use Rattle.mrp_notes.specs.Release.{action_on, is_fixed}

-- the sum of the fixed ones of some supplies
abbrev pub fixed_sum : List Supply → ℕ
fixed_sum supplies = sum_by (λ x. x.quantity) (filter is_fixed supplies)

-- what is supplied before the supply at a place: what is on hand, and the fixed supplies that come before it
abbrev pub supplied_before : Stock → List Supply → ℕ → ℕ
supplied_before stock supplies place = stock.on_hand + fixed_sum (take place supplies)

-- what is said of the supply at a place; its release comes first
abbrev pub advice_on : List ℕ → Stock → List Supply → ℕ → Supply → List Advice
advice_on gross stock supplies place x =
    cons_option (action_on x) (cons_option (rescheduling gross stock.safety (supplied_before stock supplies place) x) [])

abbrev pub message : ℕ → Supplied → Advice → Message
message item source advice = record { item = item; supply = source; advice = advice }

abbrev pub told_of : ℕ → List ℕ → Stock → List Supply → ℕ → Supply → List Message
told_of item gross stock supplies place x = map (message item x.source) (advice_on gross stock supplies place x)

-- the messages about an item's supplies, in their order
abbrev pub told : ℕ → List ℕ → Stock → List Supply → List Message
told item gross stock supplies = flat_map (λ x. told_of item gross stock supplies x.0 x.1) (enumerate_from 0 supplies)
