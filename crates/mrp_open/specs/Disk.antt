-- What contracts see of a folder of the operating system that an order desk is opened on: nothing of its files (profile).
use Rattle.std.specs.Prelude.{ℕ, ◌≡◌, Bool, true, false, List, [], ◌∷◌, Result, Ok, Err, codes}
use Rattle.std.specs.declared.fs.File.{File}
use Rattle.mrp_open.specs.Opening.{HasFailed, IsInUse, Opening}
use Rattle.mrp_open.specs.declared.disk.DeskFolder.{DeskFolder}
use Rattle.mrp_open.specs.declared.disk.Lock.{Lock}
use Rattle.mrp_open.specs.declared.disk.Lock.TheVariants.{Absent, Free, Held}
use Rattle.mrp_open.specs.declared.disk.LockFault.{LockFault}
use Rattle.mrp_open.specs.declared.disk.LockFault.TheVariants as fault

-- a folder is locked, or there is none
abbrev pub is_taken : {F : Type 0} → Lock F → Bool
is_taken Free = false
is_taken Absent = true
is_taken (Held handle) = true

-- there is a folder, and it is locked
abbrev pub has_handle : {F : Type 0} → Lock F → Bool
has_handle Free = false
has_handle Absent = false
has_handle (Held handle) = true

-- the path of a folder: an empty one is the folder that the program runs in
abbrev pub path_to_open : List ℕ → List ℕ
path_to_open [] = codes "."
path_to_open (byte ∷ rest) = byte ∷ rest

-- what a folder of the operating system came to
abbrev pub opening_of : {R : Type 0} → DeskFolder R → Opening
opening_of folder = record { is_held = is_taken folder.lock; is_opened = folder.is_opened; is_lasting = folder.is_lasting; in_use = folder.in_use; failures = folder.failures }

-- its path
abbrev pub path_of : {R : Type 0} → DeskFolder R → List ℕ
path_of folder = folder.path.now

-- a lock was taken, or why not
abbrev pub TellsLock : Opening → Opening → Result (Unit {0}) LockFault → Type 0
TellsLock old new (Ok done) = new ≡ record old { is_held = true }
TellsLock old new (Err fault.InUse) = IsInUse old new
TellsLock old new (Err fault.Read) = HasFailed old new

-- a folder has the lock that was taken, or why it has none is passed on
abbrev pub KeepsLock : {R : Type 0} → Result (Lock File) LockFault → DeskFolder R → Result (Unit {0}) LockFault → Type 0
KeepsLock (Ok lock) folder kept = (folder.lock ≡ lock) × (kept ≡ Ok tt)
KeepsLock (Err why) folder kept = kept ≡ Err why
