-- The words of a calendar's faults.
use Rattle.std.specs.Prelude.{ℕ, List, codes}
use Rattle.mrp_cal.specs.declared.fault.CalFault.{CalFault}
use Rattle.mrp_cal.specs.declared.fault.CalFault.TheVariants.{StartNotMonday, Weeks, NoWorkday}

-- profile
abbrev pub words_of : CalFault → List ℕ
words_of StartNotMonday = codes "the start is not a Monday"
words_of Weeks = codes "the weeks are not 1 to 104"
words_of NoWorkday = codes "no weekday is worked"
