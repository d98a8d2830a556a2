-- What callers see of a horizon.
use Rattle.std.specs.Prelude.{take}
use Rattle.mrp_cal.specs.Calendar.{ShopCalendar, days_in}
use Rattle.mrp_cal.specs.declared.horizon.Horizon.TheInside.{Inside}

-- its fields, with the holidays of the horizon's days alone
abbrev pub horizon_view : Inside → ShopCalendar
horizon_view c = record {
  start = c.start;
  weeks = c.weeks;
  workdays = c.workdays;
  holidays = take (days_in c.weeks) c.holidays;
}
