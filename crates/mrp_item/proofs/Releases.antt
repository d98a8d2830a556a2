-- When orders are released.
use Rattle.std.proofs.Common.{ℕ, ◌≤◌, arith}
use Rattle.std.specs.Int.{IsInRange}
use Rattle.mrp_cal.specs.Calendar.{ShopCalendar}
use Rattle.mrp_cal.proofs.ReleaseLaws as by_days
use Rattle.mrp_tables.specs.declared.version.LeadUnit.{LeadUnit}
use Rattle.mrp_tables.specs.declared.version.LeadUnit.TheVariants.{Weeks, ShopDays}
use Rattle.mrp_tables.specs.Tables.{Tables}
use Rattle.mrp_tables.specs.Versions.{lead_unit}
use Rattle.mrp_item.specs.Releases.{release_in, release_of}

within : (unit : LeadUnit) (c : ShopCalendar) (lead due : ℕ) → 1 ≤ due → IsInRange 1 due (release_in unit c due lead).week
within Weeks c lead due from = (omega (arith, from), omega (arith, from))
within ShopDays c lead due from = by_days.released-within c due lead from

rises : (unit : LeadUnit) (c : ShopCalendar) (lead due later : ℕ) → due ≤ later → (release_in unit c due lead).week ≤ (release_in unit c later lead).week
rises Weeks c lead due later le = omega (arith, le)
rises ShopDays c lead due later le = by_days.released-rises c lead due later le

-- by the week in which they are due, from week 1 on
pub released-by_due : (t : Tables) (lead due : ℕ) → 1 ≤ due → IsInRange 1 due (release_of t due lead).week
released-by_due t lead due from = within (lead_unit t.version) t.calendar lead due from

-- no earlier than what is due before them
pub released-rises : (t : Tables) (lead due later : ℕ) → due ≤ later → (release_of t due lead).week ≤ (release_of t later lead).week
released-rises t lead due later le = rises (lead_unit t.version) t.calendar lead due later le
