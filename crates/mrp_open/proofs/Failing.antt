-- Why an order desk ends where its input failed.
use Rattle.std.proofs.Common.{◌≡◌, refl}
use Rattle.mrp_rows.specs.declared.streams.ReadFault.{ReadFault}
use Rattle.mrp_rows.specs.declared.streams.ReadFault.TheVariants as read
use Rattle.mrp_commands.specs.Refusal.{end_of_read}
use Rattle.mrp_commands.specs.declared.ending.Ending.{Ending}
use Rattle.mrp_commands.specs.declared.ending.Ending.TheVariants as ending

-- the fault of a read, by how it ends
pub read-fault : (fault : ReadFault) (end : Ending) → end ≡ end_of_read fault → end ≡ ending.Read → fault ≡ read.Read
read-fault read.Read end is e = refl
read-fault read.NoMemory end is e = cc

pub read-memory : (fault : ReadFault) (end : Ending) → end ≡ end_of_read fault → end ≡ ending.NoMemory → fault ≡ read.NoMemory
read-memory read.Read end is e = cc
read-memory read.NoMemory end is e = refl
