-- How a bundle that was refused or not read is reported (profile).
use Rattle.std.specs.Prelude.{◌≡◌, ⊤, string_bytes}
use Rattle.mrp_rows.specs.FaultText.{text_of_fault}
use Rattle.mrp_rows.specs.declared.fault.Fault.{Fault}
use Rattle.mrp_rows.specs.declared.streams.ReadFault.{ReadFault}
use Rattle.mrp_rows.specs.declared.streams.ReadFault.TheVariants as read
use Rattle.mrp_script.specs.declared.fault.OpenFault.{OpenFault}
use Rattle.mrp_script.specs.declared.fault.OpenFault.TheVariants as opening
use Rattle.mrp_commands.specs.declared.ending.Ending.{Ending}
use Rattle.mrp_commands.specs.declared.ending.Ending.TheVariants.{Refused, NoMemory, Read}

-- the end of a refused bundle: the text of its fault takes memory
abbrev pub TellsFault : Fault → Ending → Type 0
TellsFault f (Refused text) = string_bytes text ≡ text_of_fault f
TellsFault f NoMemory = ⊤
TellsFault f _ = ⊥

-- the end of a bundle whose shop was not opened
abbrev pub TellsOpening : OpenFault → Ending → Type 0
TellsOpening (opening.Refused f) end = TellsFault f end
TellsOpening opening.NoMemory end = end ≡ NoMemory

-- the ending for a read that failed
abbrev pub end_of_read : ReadFault → Ending
end_of_read read.Read = Read
end_of_read read.NoMemory = NoMemory
