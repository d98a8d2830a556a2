-- Exit statuses (profile).
use Rattle.std.specs.Prelude.{ℕ}
use Rattle.mrp_commands.specs.declared.ending.Ending.{Ending}
use Rattle.mrp_commands.specs.declared.ending.Ending.TheVariants as ending
use Rattle.mrp_commands.specs.declared.status.Status.{Status}
use Rattle.mrp_commands.specs.declared.status.Status.TheVariants.{Done, Refused, Usage, NoMemory, Stream}

-- the number of each status
abbrev pub code_of : Status → ℕ
code_of Done = 0
code_of Refused = 1
code_of Usage = 2
code_of NoMemory = 3
code_of Stream = 4

-- the status of each end
abbrev pub status_of : Ending → Status
status_of ending.Done = Done
status_of (ending.LeftBehind text) = Done
status_of (ending.Refused text) = Refused
status_of (ending.TooLarge name) = Refused
status_of ending.WrongShape = Refused
status_of ending.WrongTables = Refused
status_of ending.TablesChanged = Refused
status_of ending.InUse = Stream
status_of ending.Wrong = Refused
status_of ending.NoRun = Usage
status_of (ending.NoStart range) = Usage
status_of (ending.Usage text) = Usage
status_of ending.NoMemory = NoMemory
status_of ending.Read = Stream
status_of ending.Write = Stream
