-- The release of an order.
use Rattle.std.specs.Prelude.{ℕ, ◌+◌, ◌-◌, max}
use Rattle.mrp_cal.specs.Calendar.{ShopCalendar}
use Rattle.mrp_cal.specs.Releases as by_days
use Rattle.mrp_tables.specs.declared.version.LeadUnit.{LeadUnit}
use Rattle.mrp_tables.specs.declared.version.LeadUnit.TheVariants.{Weeks, ShopDays}
use Rattle.mrp_tables.specs.Tables.{Tables}
use Rattle.mrp_tables.specs.Versions.{lead_unit}
use Rattle.mrp_item.specs.declared.release.Release.{Release}

-- a lead time in weeks before the week in which it is due (Orlicky: lead time offset), or in week 1 and late by 1 - (due - lead)
-- weeks (profile)
abbrev pub weeks_before : ℕ → ℕ → Release
weeks_before due lead = record { week = max 1 (due - lead); late = (1 + lead) - due }

-- a lead time in shop days before the first shop day of the week in which it is due, or in week 1 and late by the shop days that
-- the horizon lacks (profile)
abbrev pub shop_days_before : ShopCalendar → ℕ → ℕ → Release
shop_days_before calendar due lead = record { week = (by_days.release_of calendar due lead).0; late = (by_days.release_of calendar due lead).1 }

-- in the unit of the lead times
abbrev pub release_in : LeadUnit → ShopCalendar → ℕ → ℕ → Release
release_in Weeks calendar due lead = weeks_before due lead
release_in ShopDays calendar due lead = shop_days_before calendar due lead

-- by an item's lead time, as the tables count it
abbrev pub release_of : Tables → ℕ → ℕ → Release
release_of tables due lead = release_in (lead_unit tables.version) tables.calendar due lead
