-- The fault for a bundle whose shop is not opened.
use Rattle.mrp_script.specs.declared.fault.OpenFault.{OpenFault}
use Rattle.mrp_script.specs.declared.fault.OpenFault.TheVariants as opening
use Rattle.mrp_audit.specs.declared.fault.AuditFault.{AuditFault}
use Rattle.mrp_audit.specs.declared.fault.AuditFault.TheVariants.{Input, NoMemory}

abbrev pub input_fault : OpenFault → AuditFault
input_fault (opening.Refused f) = Input f
input_fault opening.NoMemory = NoMemory
