-- What is odd about the calls of a script, by the history that answers them (profile).
use Rattle.std.specs.Prelude.{ℕ, ◌-◌, Bool, true, false, nat_lt, if◌then◌else◌, List, length, Option, Some, None}
use Rattle.std.specs.List.{enumerate_from, filter_map, slice_get}
use Rattle.std.specs.Option.{option_map}
use Rattle.mrp_book.specs.declared.call.Call.{Call}
use Rattle.mrp_book.specs.declared.call.Call.TheVariants as call
use Rattle.mrp_book.specs.declared.reply.Reply.{Reply}
use Rattle.mrp_book.specs.declared.reply.Reply.TheVariants as reply
use Rattle.mrp_book.specs.Standing.{History}
use Rattle.mrp_script.specs.Script.{is_run}
use Rattle.mrp_warn.specs.declared.oddity.Oddity.{Oddity}
use Rattle.mrp_warn.specs.declared.oddity.Oddity.TheVariants.{Short, NotStanding, NotYours, Unplaced}
use Rattle.mrp_warn.specs.declared.oddity.Warning.{Warning}
use Rattle.mrp_warn.specs.Rows.{told}

-- the desk of the entry with a number, if there is one
abbrev pub desk_of : History → ℕ → Option ℕ
desk_of h number = option_map (λ e. e.who) (slice_get h (number - 1))

abbrev pub not_yours : ℕ → Option ℕ → Option Oddity
not_yours number None = None
not_yours number (Some desk) = Some (NotYours number desk)

-- a booking that is answered short, a cancellation whose booking does not stand or is another desk's
abbrev pub denied : History → Call → Reply → Option Oddity
denied h (call.Book l) (reply.Short available) = Some (Short l.quantity available)
denied h (call.Cancel number) reply.NotStanding = Some (NotStanding number)
denied h (call.Cancel number) reply.NotYours = not_yours number (desk_of h number)
denied h c r = None

abbrev pub denied_warnings : History → List Warning
denied_warnings h = told (λ _ e. denied h e.call e.reply) h

-- the places of the runs
unfoldable pub run_place : ℕ → Call → Option ℕ
run_place place c = if is_run c then Some place else None

abbrev pub run_places : History → List ℕ
run_places h = filter_map (λ r. run_place r.0 r.1.call) (enumerate_from 0 h)

-- the last one
abbrev pub last_run : History → Option ℕ
last_run h = slice_get (run_places h) (length (run_places h) - 1)

abbrev pub is_booked : Call → Reply → Bool
is_booked (call.Book l) (reply.Booked number) = true
is_booked c r = false

-- a booking that is answered booked, behind the last run
abbrev pub unplaced : Option ℕ → ℕ → Call → Reply → Option Oddity
unplaced None place c r = None
unplaced (Some run) place c r = if nat_lt run place then (if is_booked c r then Some (Unplaced run) else None) else None

abbrev pub unplaced_warnings : History → List Warning
unplaced_warnings h = told (λ place e. unplaced (last_run h) place e.call e.reply) h
