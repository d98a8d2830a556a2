-- A planned history is a planned day.
use Rattle.std.proofs.Common.{Result, Ok, Err, subst, sym}
use Rattle.mrp_tables.specs.Tables.{Tables}
use Rattle.mrp_book.specs.Standing.{History}
use Rattle.mrp_engine.specs.day.Day.{Answering, runs_of}
use Rattle.mrp_engine.specs.day.Planned.{PlansDay, PlansHistory, PlansRuns}
use Rattle.mrp_engine.specs.declared.day.Day.{Day}
use Rattle.mrp_engine.specs.declared.day.fault.DayFault.{DayFault}
use Rattle.mrp_engine.specs.declared.day.fault.DayFault.TheVariants.{Refused, TooLarge, Read, Write, NoMemory}

-- why the runs of a history are refused refuses its day
pub refused-day : (tables : Tables) (h : History) (f : DayFault) → PlansRuns (runs_of tables h) (Err f) → PlansHistory tables h (Err f)
refused-day tables h (TooLarge name) is = is
refused-day tables h NoMemory is = tt
refused-day tables h (Refused f) is = is
refused-day tables h Read is = is
refused-day tables h Write is = is

-- a history that answers a script is planned, and so is the script
pub answered-day : (Answers : Answering) (tables : Tables) (h : History) (r : Result Day DayFault) → Answers tables h → PlansHistory tables h r → PlansDay Answers tables r
answered-day Answers tables h (Ok day) answers (same, is, planned) = (same, subst (Answers tables) (sym is) answers, planned)
answered-day Answers tables h (Err (TooLarge name)) answers is = (h, answers, is)
answered-day Answers tables h (Err NoMemory) answers is = tt
answered-day Answers tables h (Err (Refused f)) answers is = is
answered-day Answers tables h (Err Read) answers is = is
answered-day Answers tables h (Err Write) answers is = is
