-- Why a day is refused, by what refused a part of it.
use Rattle.std.specs.Prelude.{Result, Ok, Err}
use Rattle.mrp_rows.specs.declared.streams.ReadFault.{ReadFault}
use Rattle.mrp_rows.specs.declared.streams.ReadFault.TheVariants as read
use Rattle.mrp_report.specs.declared.fault.ReportFault.{ReportFault}
use Rattle.mrp_report.specs.declared.fault.ReportFault.TheVariants as report
use Rattle.mrp_explode.specs.declared.fault.RunFault.{RunFault}
use Rattle.mrp_explode.specs.declared.fault.RunFault.TheVariants as run
use Rattle.mrp_item.specs.Inputs.{Inputs, item_at}
use Rattle.mrp_item.specs.Places.{WholePlan}
use Rattle.mrp_engine.specs.declared.day.fault.DayFault.{DayFault}
use Rattle.mrp_engine.specs.declared.day.fault.DayFault.TheVariants.{Refused, TooLarge, Read, Write, NoMemory}
use Rattle.mrp_script.specs.declared.fault.OpenFault.{OpenFault}
use Rattle.mrp_script.specs.declared.fault.OpenFault.TheVariants as opening

abbrev pub reading_fault : ReadFault → DayFault
reading_fault read.Read = Read
reading_fault read.NoMemory = NoMemory

abbrev pub writing_fault : ReportFault → DayFault
writing_fault report.Write = Write
writing_fault report.NoMemory = NoMemory

abbrev pub opening_fault : OpenFault → DayFault
opening_fault (opening.Refused f) = Refused f
opening_fault opening.NoMemory = NoMemory

abbrev pub run_fault : Inputs → RunFault → DayFault
run_fault s (run.TooLarge item) = TooLarge (item_at s item).name
run_fault s run.NoMemory = NoMemory

-- the plan of a run, or why its day is refused
abbrev pub plan_or_fault : Inputs → Result WholePlan RunFault → Result WholePlan DayFault
plan_or_fault s (Ok plan) = Ok plan
plan_or_fault s (Err f) = Err (run_fault s f)
