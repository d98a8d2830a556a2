-- Which lines fit a shop (profile).
use Rattle.std.specs.Prelude.{ℕ, ◌==◌, ◌&&◌, not, if◌then◌else◌, nat_le, nat_lt, length, Result, Ok, Err}
use Rattle.std.specs.Int.{IsInRange}
use Rattle.mrp_tables.specs.Items.{is_master_at}
use Rattle.mrp_tables.specs.Tables.{Tables}
use Rattle.mrp_tables.specs.declared.limits.TheConstants.{MOST_PIECES}
use Rattle.mrp_master.specs.declared.line.Line.{Line}
use Rattle.mrp_master.specs.declared.spot.Spot.{Spot}
use Rattle.mrp_master.specs.declared.wish.Wish.{Wish}
use Rattle.mrp_master.specs.declared.line.LineFault.{LineFault}
use Rattle.mrp_master.specs.declared.line.LineFault.TheVariants.{UnknownItem, NotMaster, BadWeek, ZeroQuantity, TooLarge}
use Rattle.mrp_master.specs.Supply.{Supply, IsMaster, IsWeek}

-- a number of pieces that one line or one wish may have
abbrev pub IsBookable : ℕ → Type 0
IsBookable quantity = IsInRange 1 MOST_PIECES quantity

-- what holds of every line, spot and wish of a shop: a master item, a week of the horizon, pieces that can be booked
pub record IsLine (s : Supply) (l : Line) : Type 0 where
  pub item : IsMaster s l.item
  pub week : IsWeek s l.week
  pub quantity : IsBookable l.quantity

pub record IsSpot (s : Supply) (p : Spot) : Type 0 where
  pub item : IsMaster s p.item
  pub week : IsWeek s p.week

pub record IsWish (s : Supply) (w : Wish) : Type 0 where
  pub item : IsMaster s w.item
  pub quantity : IsBookable w.quantity

-- an answer, if the item is a master item of the shop
abbrev pub of_master : {X : Type 0} → Tables → ℕ → Result X LineFault → Result X LineFault
of_master t item answer =
    if not (nat_lt item (length t.items)) then Err UnknownItem
    else if not (is_master_at t.items item) then Err NotMaster
    else answer

-- an answer, if the week is one of the horizon
abbrev pub in_horizon : {X : Type 0} → Tables → ℕ → Result X LineFault → Result X LineFault
in_horizon t week answer = if nat_le 1 week && nat_le week t.calendar.weeks then answer else Err BadWeek

-- an answer, if the pieces are at least 1 and not too many
abbrev pub of_pieces : {X : Type 0} → ℕ → Result X LineFault → Result X LineFault
of_pieces quantity answer =
    if quantity == 0 then Err ZeroQuantity
    else if not (nat_le quantity MOST_PIECES) then Err TooLarge
    else answer

-- the line, or the first fault that applies
abbrev pub line_of : Tables → ℕ → ℕ → ℕ → Result Line LineFault
line_of t item week quantity = of_master t item (in_horizon t week (of_pieces quantity (Ok (record { item = item; week = week; quantity = quantity }))))

abbrev pub spot_of : Tables → ℕ → ℕ → Result Spot LineFault
spot_of t item week = of_master t item (in_horizon t week (Ok (record { item = item; week = week })))

abbrev pub wish_of : Tables → ℕ → ℕ → Result Wish LineFault
wish_of t item quantity = of_master t item (of_pieces quantity (Ok (record { item = item; quantity = quantity })))
