-- Worked numbers of other shops, by computation.
use Rattle.std.proofs.Common.{◌≡◌, ℕ, List, [], ◌∷◌, refl, map}
use Rattle.std.specs.Prelude.{Ok, Err, None}
use Rattle.mrp_tables.specs.declared.version.Version.TheVariants.{One}
use Rattle.mrp_tables.specs.declared.item.Class.TheVariants.{Master, Part}
use Rattle.mrp_tables.specs.declared.item.LotRule.TheVariants.{LotForLot, Fixed, Period}
use Rattle.mrp_tables.specs.declared.item.Item.{Item}
use Rattle.mrp_tables.specs.declared.rows.BillLine.{BillLine}
use Rattle.mrp_tables.specs.declared.rows.MasterRow.{MasterRow}
use Rattle.mrp_tables.specs.declared.rows.StockRow.{StockRow}
use Rattle.mrp_book.specs.declared.booking.Booking.{Booking}
use Rattle.mrp_phase.specs.Weeks.{row, in_week, greatest_to}
use Rattle.mrp_lots.specs.Lots.{receipts}
use Rattle.mrp_item.specs.Inputs.{Inputs}
use Rattle.mrp_qty.specs.Quantity.{start_of}
use Rattle.mrp_item.specs.Orders.{started_in}
use Rattle.mrp_item.specs.Recursion.{value_to}
use Rattle.mrp_item.specs.Plan as plan
use Rattle.mrp_item.specs.Plan.{plan_in, outcome_of, plan_of, balance_in, needs_of}
use Rattle.mrp_item.proofs.BicycleShop.{shop, six_weeks, item, line, firm, forecast, service, booking, bike, frame, wheel, bike_plan, frame_plan, wheel_plan}

-- scrap
pub starts_with_scrap : map (start_of 100) (20 ∷ 9 ∷ 0 ∷ []) ≡ 23 ∷ 10 ∷ 0 ∷ []
starts_with_scrap = refl

abbrev pub shop_of : List Item → List StockRow → List BillLine → List MasterRow → List Booking → Inputs
shop_of items stock bills master standing = record {
  tables = record {
    version = One;
    calendar = six_weeks;
    items = items;
    centres = [];
    stock = stock;
    receipts = [];
    bills = bills;
    routings = [];
    master = master;
    script = [];
  };
  front = 1;
  standing = standing;
}

-- a shop with one lead time and no scrap, without bookings
abbrev pub plain_shop : Inputs
plain_shop = shop_of
    (item Master 1 0 LotForLot 0 ∷ item Part 1 0 LotForLot 0 ∷ item Part 1 0 LotForLot 0 ∷ [])
    (record { item = bike; on_hand = 10 } ∷ [])
    (line bike frame 1 ∷ line bike wheel 2 ∷ [])
    (firm bike 3 20 ∷ firm bike 5 20 ∷ forecast bike 2 8 ∷ forecast bike 4 6 ∷ [])
    []

pub plain_gross : map (λ i. (plan_in (outcome_of plain_shop i)).gross) (bike ∷ frame ∷ wheel ∷ [])
    ≡ (0 ∷ 8 ∷ 0 ∷ 6 ∷ 0 ∷ 0 ∷ []) ∷ (0 ∷ 20 ∷ 0 ∷ 20 ∷ 0 ∷ 0 ∷ []) ∷ (0 ∷ 40 ∷ 0 ∷ 40 ∷ 0 ∷ 0 ∷ []) ∷ []
unfolding outcome_of value_to row in_week greatest_to receipts
plain_gross = refl

pub plain_receipts : map (λ i. (plan_in (outcome_of plain_shop i)).receipts) (bike ∷ frame ∷ wheel ∷ [])
    ≡ (0 ∷ 0 ∷ 0 ∷ 0 ∷ 0 ∷ 0 ∷ []) ∷ (0 ∷ 20 ∷ 20 ∷ 40 ∷ 40 ∷ 40 ∷ []) ∷ (0 ∷ 40 ∷ 40 ∷ 80 ∷ 80 ∷ 80 ∷ []) ∷ []
unfolding outcome_of value_to row in_week greatest_to receipts
plain_receipts = refl

pub plain_balance : row 6 (balance_in plain_shop bike (plan_in (outcome_of plain_shop bike))) ≡ 10 ∷ 2 ∷ 22 ∷ 16 ∷ 36 ∷ 36 ∷ []
unfolding outcome_of value_to row in_week greatest_to receipts
plain_balance = refl

-- the same shop with the three bookings
abbrev pub booked_shop : Inputs
booked_shop = record plain_shop { standing = shop.standing }

pub booked_gross : map (λ i. (plan_in (outcome_of booked_shop i)).gross) (bike ∷ frame ∷ [])
    ≡ (10 ∷ 8 ∷ 12 ∷ 6 ∷ 25 ∷ 0 ∷ []) ∷ (8 ∷ 20 ∷ 0 ∷ 23 ∷ 0 ∷ 0 ∷ []) ∷ []
unfolding outcome_of value_to row in_week greatest_to receipts
booked_gross = refl

pub booked_starts : map (λ i. row 6 (started_in (plan_in (outcome_of booked_shop i)).orders)) (frame ∷ wheel ∷ [])
    ≡ (28 ∷ 0 ∷ 23 ∷ 0 ∷ 0 ∷ 0 ∷ []) ∷ (56 ∷ 0 ∷ 46 ∷ 0 ∷ 0 ∷ 0 ∷ []) ∷ []
unfolding outcome_of value_to row in_week greatest_to receipts
booked_starts = refl

-- two of the three bookings are left
pub fewer_receipts : (plan_in (outcome_of (record shop { standing = booking 1 bike 3 12 ∷ booking 5 bike 1 10 ∷ [] }) bike)).receipts ≡ 0 ∷ 8 ∷ 8 ∷ 8 ∷ 8 ∷ 8 ∷ []
unfolding outcome_of value_to row in_week greatest_to receipts
fewer_receipts = refl

-- a line of 2 or two lines of 1: the same plan
pub split_line_plan : plan_of (record shop { tables = record (shop.tables) { bills = line bike frame 1 ∷ line bike wheel 1 ∷ line bike wheel 1 ∷ [] } }) ≡ Ok (bike_plan ∷ frame_plan ∷ wheel_plan ∷ [])
unfolding outcome_of value_to row in_week greatest_to receipts
split_line_plan = refl

-- a component of an item with scrap: 138 for 46 pieces started, 3 each
abbrev pub tubes : Inputs
tubes = record shop {
  tables = record (shop.tables) {
    items = item Master 1 0 LotForLot 0 ∷ item Part 1 100 (Fixed 20) 5 ∷ item Part 0 0 LotForLot 0 ∷ [];
    stock = record { item = bike; on_hand = 10 } ∷ record { item = frame; on_hand = 12 } ∷ [];
    bills = line bike frame 1 ∷ line frame 2 3 ∷ [];
  };
}

pub tube_gross : (plan_in (outcome_of tubes 2)).gross ≡ 138 ∷ 0 ∷ 0 ∷ 0 ∷ 0 ∷ 0 ∷ []
unfolding outcome_of value_to row in_week greatest_to receipts
tube_gross = refl

-- wheels by the dozen, 50 or more at a time, and 7 of them for service
abbrev pub serviced : Inputs
serviced = record shop {
  tables = record (shop.tables) {
    items = item Master 1 0 LotForLot 0 ∷ item Part 1 100 (Fixed 20) 5 ∷ record (item Part 2 0 (Period 2) 0) { least = 50; step = 12 } ∷ [];
    master = service wheel 3 7 ∷ shop.tables.master;
  };
}

pub serviced_gross : (plan_in (outcome_of serviced wheel)).gross ≡ 16 ∷ 40 ∷ 7 ∷ 46 ∷ 0 ∷ 0 ∷ []
unfolding outcome_of value_to row in_week greatest_to receipts
serviced_gross = refl

pub serviced_needs : needs_of serviced wheel (plan_in (outcome_of serviced wheel)).gross ≡ 0 ∷ 26 ∷ 33 ∷ 79 ∷ 79 ∷ 79 ∷ []
unfolding outcome_of value_to row in_week greatest_to receipts
serviced_needs = refl

pub serviced_receipts : (plan_in (outcome_of serviced wheel)).receipts ≡ 0 ∷ 60 ∷ 60 ∷ 120 ∷ 120 ∷ 120 ∷ []
unfolding outcome_of value_to row in_week greatest_to receipts
serviced_receipts = refl

pub serviced_balance : row 6 (balance_in serviced wheel (plan_in (outcome_of serviced wheel))) ≡ 14 ∷ 34 ∷ 27 ∷ 41 ∷ 41 ∷ 41 ∷ []
unfolding outcome_of value_to row in_week greatest_to receipts
serviced_balance = refl

-- service parts demand of a part changes no other item's plan
pub serviced_others : map (outcome_of serviced) (bike ∷ frame ∷ []) ≡ plan.Planned bike_plan ∷ plan.Planned frame_plan ∷ []
unfolding outcome_of value_to row in_week greatest_to receipts
serviced_others = refl

-- a tall bill, in which quantities grow past the greatest
abbrev pub plain_part : Item
plain_part = item Part 0 0 LotForLot 0

abbrev pub tall : ℕ → Inputs
tall pieces = shop_of
    (item Master 0 0 LotForLot 0 ∷ plain_part ∷ plain_part ∷ plain_part ∷ [])
    []
    (line 0 1 1000000 ∷ line 1 2 1000000 ∷ line 2 3 1000000 ∷ [])
    (firm 0 1 pieces ∷ [])
    []

pub tall_1000 : plan_of (tall 1000) ≡ Err 3
unfolding outcome_of value_to row in_week greatest_to receipts
tall_1000 = refl

pub tall_1001 : plan_of (tall 1001) ≡ Err 2
unfolding outcome_of value_to row in_week greatest_to receipts
tall_1001 = refl

pub below_too_large : outcome_of (tall 1001) 3 ≡ plan.Blocked
unfolding outcome_of value_to row in_week greatest_to receipts
below_too_large = refl

-- two items of one parent are too large, and the first in table order is named
pub two_too_large : plan_of (record (tall 1001) { tables = record (tall 1001).tables { bills = line 0 1 1000000 ∷ line 1 3 1000000 ∷ line 1 2 1000000 ∷ [] } }) ≡ Err 2
unfolding outcome_of value_to row in_week greatest_to receipts
two_too_large = refl

-- a booking makes a plan too large that was not before
abbrev pub wide : List Booking → Inputs
wide standing = shop_of
    (item Master 0 0 LotForLot 0 ∷ plain_part ∷ plain_part ∷ [])
    []
    (line 0 1 1000000 ∷ line 1 2 1000000 ∷ [])
    (firm 0 1 1000 ∷ forecast 0 2 1000 ∷ [])
    standing

pub wide_fits : plan.first_over (wide []) ≡ None
unfolding outcome_of value_to row in_week greatest_to receipts
wide_fits = refl

pub wide_too_large : plan_of (wide (booking 2 0 1 1 ∷ [])) ≡ Err 2
unfolding outcome_of value_to row in_week greatest_to receipts
wide_too_large = refl
