-- What is odd about work centres (profile).
use Rattle.std.specs.Prelude.{ℕ, ◌==◌, ◌&&◌, nat_le, nat_lt, if◌then◌else◌, List, length, map, Option, Some, None}
use Rattle.std.specs.List.{zip}
use Rattle.mrp_tables.specs.declared.rows.Centre.{Centre}
use Rattle.mrp_tables.specs.declared.rows.Operation.{Operation}
use Rattle.mrp_warn.specs.declared.limits.TheConstants as limits
use Rattle.mrp_warn.specs.declared.oddity.Oddity.{Oddity}
use Rattle.mrp_warn.specs.declared.oddity.Oddity.TheVariants.{NoMinutes, FewMinutes, Idle}
use Rattle.mrp_warn.specs.declared.oddity.Warning.{Warning}
use Rattle.mrp_warn.specs.Rows.{tally, told}

-- the work centres with how many operations each has
abbrev pub loaded : List Centre → List Operation → List (Centre × ℕ)
loaded centres routings = zip centres (tally (length centres) (map (λ o. o.centre) routings))

-- no minutes, where it has operations; or 1 to 16 minutes
abbrev pub odd_minutes : ℕ → ℕ → Option Oddity
odd_minutes minutes operations =
    if (minutes == 0) && nat_lt 0 operations then Some (NoMinutes operations)
    else if nat_lt 0 minutes && nat_le minutes limits.LIKELY_HOURS then Some (FewMinutes minutes)
    else None

abbrev pub minutes_warnings : List Centre → List Operation → List Warning
minutes_warnings centres routings = told (λ _ r. odd_minutes r.0.minutes r.1) (loaded centres routings)

-- no operation
abbrev pub odd_centre : List ℕ → ℕ → Option Oddity
odd_centre name operations = if operations == 0 then Some (Idle name) else None

abbrev pub idle_warnings : List Centre → List Operation → List Warning
idle_warnings centres routings = told (λ _ r. odd_centre r.0.name r.1) (loaded centres routings)
