-- The lock of the folder that an order desk is opened on (profile).
use Rattle.std.specs.Prelude.{◌≡◌, if◌then◌else◌, Option, Some, None, Result, Ok, Err}
use Rattle.std.specs.declared.fs.TryLockError.{TryLockError}
use Rattle.std.specs.declared.fs.TryLockError.TheVariants as try
use Rattle.std.specs.IoError.{error_kind}
use Rattle.std.specs.declared.io.Error.{Error}
use Rattle.mrp_words.specs.Folder.{is_absent}
use Rattle.mrp_open.specs.declared.disk.Lock.{Lock}
use Rattle.mrp_open.specs.declared.disk.Lock.TheVariants as held
use Rattle.mrp_open.specs.declared.disk.LockFault.{LockFault}
use Rattle.mrp_open.specs.declared.disk.LockFault.TheVariants as lock

-- what the operating system answers where a lock is asked for
abbrev pub Answer : Type 0
Answer = Result (Unit {0}) TryLockError

-- a folder is locked by its handle, or why not, by what the operating system answered: where the lock would have to be waited
-- for, another desk has it
abbrev pub IsHeldBy : {F : Type 0} → F → Answer → Result (Lock F) LockFault → Type 0
IsHeldBy handle (Ok done) locked = locked ≡ Ok (held.Held handle)
IsHeldBy handle (Err try.WouldBlock) locked = locked ≡ Err lock.InUse
IsHeldBy handle (Err (try.Error error)) locked = locked ≡ Err lock.Read

-- a folder has a handle, by what opening it came to: none where it is not there
abbrev pub HasHandle : {F : Type 0} → Result F Error → Result (Option F) LockFault → Type 0
HasHandle (Ok handle) found = found ≡ Ok (Some handle)
HasHandle (Err error) found = found ≡ (if is_absent (error_kind error) then Ok None else Err lock.Read)

-- a folder is locked by its handle, or it is not, by what opening it came to and by what its handle may be answered: where it
-- is not there, there is nothing to lock
abbrev pub IsLocked : {F : Type 0} → (F → Answer → Type 0) → Result F Error → Result (Lock F) LockFault → Type 0
IsLocked answers (Ok handle) locked = (answer : Answer) × answers handle answer × IsHeldBy handle answer locked
IsLocked answers (Err error) locked = locked ≡ (if is_absent (error_kind error) then Ok held.Absent else Err lock.Read)
