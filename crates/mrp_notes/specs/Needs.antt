-- The week in which a supply is needed, and what is said of one that is due in another.
use Rattle.std.specs.Prelude.{ℕ, ◌+◌, nat_lt, if◌then◌else◌, Bool, true, false, List, length, find, Option, Some, None}
use Rattle.mrp_phase.specs.Weeks.{weeks, sum_to}
use Rattle.mrp_notes.specs.declared.message.Advice.{Advice}
use Rattle.mrp_notes.specs.Release.{is_fixed}
use Rattle.mrp_notes.specs.declared.message.Advice.TheVariants.{Release, PastDue, Earlier, Later, Cancel}
use Rattle.mrp_item.specs.declared.supplies.Supply.{Supply}

-- the first week in which gross requirements, summed up to it, and safety stock exceed what is supplied (profile)
abbrev pub need_week : List ℕ → ℕ → ℕ → Option ℕ
need_week gross safety supplied = find (λ week. nat_lt supplied (sum_to gross week + safety)) (weeks (length gross))

-- what is said of a supply, by the week in which it is due and the one in which it is needed (Orlicky:
-- expedite, de-expedite, cancel)
abbrev pub rescheduled : ℕ → Option ℕ → Option Advice
rescheduled due None = Some Cancel
rescheduled due (Some week) = if nat_lt week due then Some (Earlier week) else if nat_lt due week then Some (Later week) else None

-- the same for a supply, given what is supplied before it; only for a fixed one, since planning may change the others
-- itself
abbrev pub rescheduling : List ℕ → ℕ → ℕ → Supply → Option Advice
rescheduling gross safety supplied x = if is_fixed x then rescheduled x.week (need_week gross safety supplied) else None

-- whether advice reschedules a supply or cancels it
abbrev pub is_rescheduling : Advice → Bool
is_rescheduling Release = false
is_rescheduling (PastDue late) = false
is_rescheduling (Earlier week) = true
is_rescheduling (Later week) = true
is_rescheduling Cancel = true
