-- A sample shop, and its plan by computation.
use Rattle.std.proofs.Common.{◌≡◌, ℕ, [], ◌∷◌, refl, rules, true, false}
use Rattle.std.specs.Prelude.{Ok, pos, codes}
use Rattle.jiff.specs.Types.{Date}
use Rattle.mrp_cal.specs.Calendar.{ShopCalendar}
use Rattle.mrp_tables.specs.declared.version.Version.TheVariants.{One}
use Rattle.mrp_tables.specs.declared.item.Class.{Class}
use Rattle.mrp_tables.specs.declared.item.Class.TheVariants.{Master, Part}
use Rattle.mrp_tables.specs.declared.item.LotRule.{LotRule}
use Rattle.mrp_tables.specs.declared.item.LotRule.TheVariants.{LotForLot, Fixed, Period}
use Rattle.mrp_tables.specs.declared.item.Item.{Item}
use Rattle.mrp_tables.specs.declared.rows.BillLine.{BillLine}
use Rattle.mrp_tables.specs.declared.rows.MasterKind.TheVariants as kind
use Rattle.mrp_tables.specs.declared.rows.MasterRow.{MasterRow}
use Rattle.mrp_tables.specs.declared.rows.Receipt.{Receipt}
use Rattle.mrp_book.specs.declared.booking.Booking.{Booking}
use Rattle.mrp_phase.specs.Weeks.{row, in_week, greatest_to}
use Rattle.mrp_net.specs.Need.{need, shortage}
use Rattle.mrp_lots.specs.Lots.{receipts}
use Rattle.mrp_item.specs.declared.order.OrderKind.TheVariants.{Firm, Planned}
use Rattle.mrp_item.specs.declared.order.Order.{Order}
use Rattle.mrp_item.specs.Inputs.{Inputs}
use Rattle.mrp_item.specs.Rows.{stock_of}
use Rattle.mrp_item.specs.Orders.{started_in}
use Rattle.mrp_item.specs.Recursion.{value_to}
use Rattle.mrp_item.specs.Plan as plan
use Rattle.mrp_item.specs.Plan.{ItemPlan, outcome_of, plan_of, balance_in}

abbrev pub item : Class → ℕ → ℕ → LotRule → ℕ → Item
item class lead scrap lot safety = record { name = []; class = class; lead = lead; scrap = scrap; lot = lot; safety = safety; least = 0; step = 1 }

abbrev pub line : ℕ → ℕ → ℕ → BillLine
line parent component per = record { parent = parent; component = component; per = per }

abbrev pub receipt : ℕ → ℕ → ℕ → Receipt
receipt i week quantity = record { number = 1; item = i; order = codes "R1"; week = week; quantity = quantity }

abbrev pub firm : ℕ → ℕ → ℕ → MasterRow
firm i week quantity = record { number = 1; item = i; kind = kind.Firm; week = week; quantity = quantity }

abbrev pub forecast : ℕ → ℕ → ℕ → MasterRow
forecast i week quantity = record { number = 1; item = i; kind = kind.Forecast; week = week; quantity = quantity }

abbrev pub service : ℕ → ℕ → ℕ → MasterRow
service i week quantity = record { number = 1; item = i; kind = kind.Service; week = week; quantity = quantity }

abbrev pub booking : ℕ → ℕ → ℕ → ℕ → Booking
booking number i week quantity = record { number = number; desk = 1; line = record { item = i; week = week; quantity = quantity } }

abbrev pub firm_order : ℕ → ℕ → ℕ → ℕ → ℕ → Order
firm_order due quantity start release late = record { kind = Firm; due = due; quantity = quantity; start = start; release = release; late = late }

abbrev pub planned_order : ℕ → ℕ → ℕ → ℕ → ℕ → Order
planned_order due quantity start release late = record { kind = Planned; due = due; quantity = quantity; start = start; release = release; late = late }

pub first_day : Date
first_day = record { year = pos 2025; month = 1; day = 6; year_in = search rules; month_in = search rules; day_in = search rules }

abbrev pub six_weeks : ShopCalendar
six_weeks = record {
  start = first_day;
  weeks = 6;
  workdays = true ∷ true ∷ true ∷ true ∷ true ∷ false ∷ false ∷ [];
  holidays = [];
}

abbrev pub bike : ℕ
bike = 0

abbrev pub frame : ℕ
frame = 1

abbrev pub wheel : ℕ
wheel = 2

abbrev pub shop : Inputs
shop = record {
  tables = record {
    version = One;
    calendar = six_weeks;
    items = item Master 1 0 LotForLot 0 ∷ item Part 1 100 (Fixed 20) 5 ∷ item Part 2 0 (Period 2) 0 ∷ [];
    centres = [];
    stock = record { item = bike; on_hand = 10 } ∷ record { item = frame; on_hand = 12 } ∷ record { item = wheel; on_hand = 30 } ∷ [];
    receipts = receipt frame 3 15 ∷ [];
    bills = line bike frame 1 ∷ line bike wheel 2 ∷ [];
    routings = [];
    master = firm bike 3 20 ∷ firm bike 5 20 ∷ forecast bike 2 8 ∷ forecast bike 4 6 ∷ [];
    script = [];
  };
  front = 7;
  standing = booking 1 bike 3 12 ∷ booking 2 bike 5 25 ∷ booking 5 bike 1 10 ∷ [];
}

abbrev pub bike_plan : ItemPlan
bike_plan = record {
  gross = 10 ∷ 8 ∷ 12 ∷ 6 ∷ 25 ∷ 0 ∷ [];
  receipts = 0 ∷ 8 ∷ 8 ∷ 8 ∷ 11 ∷ 11 ∷ [];
  orders = planned_order 2 8 8 1 0 ∷ firm_order 3 20 20 2 0 ∷ firm_order 5 20 20 4 0 ∷ planned_order 5 3 3 4 0 ∷ [];
}

pub bike_row : outcome_of shop bike ≡ plan.Planned bike_plan
unfolding outcome_of value_to row in_week greatest_to receipts
bike_row = refl

abbrev pub frame_plan : ItemPlan
frame_plan = record {
  gross = 8 ∷ 20 ∷ 0 ∷ 23 ∷ 0 ∷ 0 ∷ [];
  receipts = 20 ∷ 40 ∷ 40 ∷ 40 ∷ 40 ∷ 40 ∷ [];
  orders = planned_order 1 20 23 1 1 ∷ planned_order 2 20 23 1 0 ∷ [];
}

pub frame_row : outcome_of shop frame ≡ plan.Planned frame_plan
unfolding outcome_of value_to row in_week greatest_to receipts
frame_row = refl

abbrev pub wheel_plan : ItemPlan
wheel_plan = record {
  gross = 16 ∷ 40 ∷ 0 ∷ 46 ∷ 0 ∷ 0 ∷ [];
  receipts = 0 ∷ 26 ∷ 26 ∷ 72 ∷ 72 ∷ 72 ∷ [];
  orders = planned_order 2 26 26 1 1 ∷ planned_order 4 46 46 2 0 ∷ [];
}

pub wheel_row : outcome_of shop wheel ≡ plan.Planned wheel_plan
unfolding outcome_of value_to row in_week greatest_to receipts
wheel_row = refl

-- the net requirements of the bike, and the shortages of the frame
pub bike_need : row 6 (need (stock_of shop bike) bike_plan.gross) ≡ 0 ∷ 8 ∷ 8 ∷ 8 ∷ 11 ∷ 11 ∷ []
unfolding row in_week greatest_to
bike_need = refl

pub frame_shortage : row 6 (shortage (stock_of shop frame) frame_plan.gross) ≡ 1 ∷ 21 ∷ 6 ∷ 29 ∷ 29 ∷ 29 ∷ []
unfolding row in_week greatest_to
frame_shortage = refl

-- the whole plan, its starts and its balances
pub whole : plan_of shop ≡ Ok (bike_plan ∷ frame_plan ∷ wheel_plan ∷ [])
unfolding outcome_of value_to row in_week greatest_to receipts
whole = refl

pub bike_starts : row 6 (started_in bike_plan.orders) ≡ 8 ∷ 20 ∷ 0 ∷ 23 ∷ 0 ∷ 0 ∷ []
unfolding row
bike_starts = refl

pub frame_starts : row 6 (started_in frame_plan.orders) ≡ 46 ∷ 0 ∷ 0 ∷ 0 ∷ 0 ∷ 0 ∷ []
unfolding row
frame_starts = refl

pub wheel_starts : row 6 (started_in wheel_plan.orders) ≡ 26 ∷ 46 ∷ 0 ∷ 0 ∷ 0 ∷ 0 ∷ []
unfolding row
wheel_starts = refl

pub bike_balance : row 6 (balance_in shop bike bike_plan) ≡ 0 ∷ 0 ∷ 8 ∷ 2 ∷ 0 ∷ 0 ∷ []
unfolding row in_week
bike_balance = refl

pub frame_balance : row 6 (balance_in shop frame frame_plan) ≡ 24 ∷ 24 ∷ 39 ∷ 16 ∷ 16 ∷ 16 ∷ []
unfolding row in_week
frame_balance = refl

pub wheel_balance : row 6 (balance_in shop wheel wheel_plan) ≡ 14 ∷ 0 ∷ 0 ∷ 0 ∷ 0 ∷ 0 ∷ []
unfolding row in_week
wheel_balance = refl
