-- What is odd about operations (profile).
use Rattle.std.specs.Prelude.{ℕ, ◌&&◌, nat_lt, if◌then◌else◌, List, map, Option, Some, None}
use Rattle.mrp_tables.specs.declared.rows.Operation.{Operation}
use Rattle.mrp_warn.specs.declared.limits.TheConstants as limits
use Rattle.mrp_warn.specs.declared.oddity.Oddity.{Oddity}
use Rattle.mrp_warn.specs.declared.oddity.Oddity.TheVariants.{SmallRun, LowRun}
use Rattle.mrp_warn.specs.declared.oddity.Warning.{Warning}
use Rattle.mrp_warn.specs.Rows.{first_likely, is_at, told}

abbrev pub run_times : List Operation → List ℕ
run_times routings = map (λ o. o.run) routings

-- a run time of 1 to 9 thousandths of a minute; and the first of more, where no operation has more than 99
abbrev pub odd_run : Option ℕ → ℕ → ℕ → Option Oddity
odd_run likely place run =
    if nat_lt 0 run && nat_lt run limits.LIKELY_RUN then Some (SmallRun run)
    else if is_at likely place then Some (LowRun run)
    else None

abbrev pub run_warnings : List Operation → List Warning
run_warnings routings = told (odd_run (first_likely limits.LIKELY_RUN limits.LIKELY_MOST_RUN (run_times routings))) (run_times routings)
