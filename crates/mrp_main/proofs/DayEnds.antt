-- How a command ends, by how its day ended.
use Rattle.std.proofs.Common.{◌≡◌, inl, ℕ, List, Option, Some, Result, Ok, Err, ap, refl, sym, subst}
use Rattle.std.specs.Prelude.{MatchResult, ⊤}
use Rattle.std.specs.Io.KnownBytes.{IsAtEnd}
use Rattle.mrp_rows.specs.declared.fault.Fault.{Fault}
use Rattle.mrp_rows.specs.declared.streams.ReadFault.{ReadFault}
use Rattle.mrp_rows.specs.declared.streams.ReadFault.TheVariants as read
use Rattle.mrp_rows.specs.declared.told.Told.{Told}
use Rattle.mrp_rows.specs.Told.{failures_of, inner_of}
use Rattle.mrp_engine.specs.declared.day.fault.DayFault.{DayFault}
use Rattle.mrp_engine.specs.declared.day.fault.DayFault.TheVariants as fault
use Rattle.mrp_engine.specs.day.Run.{HasNotFailed, HasPassedLimits, IsAfterReading, IsReadWithin, MakesDay, WritesDay}
use Rattle.mrp_words.specs.declared.day.DayCommand.{DayCommand}
use Rattle.mrp_commands.specs.declared.ending.Ending.{Ending}
use Rattle.mrp_commands.specs.declared.ending.Ending.TheVariants.{Done, InUse, LeftBehind, Refused, TablesChanged, TooLarge, WrongShape, Wrong, NoRun, NoStart, Usage, NoMemory, Read, Write, WrongTables}
use Rattle.mrp_main.specs.Ends.{BundleEnds, DayEnds, DayWrites, HasReadAll, IsEndOf, answering}
use Rattle.mrp_commands.specs.Refusal.{TellsFault, end_of_read}

-- how a day ended, by its result
abbrev EndsAs : Result (Unit {0}) DayFault → Ending → Type 0
EndsAs day end = MatchResult day (λ x. end ≡ Done) (λ given. IsEndOf given end)

module _ {W : Type 0} (command : DayCommand) (contents : W → Option (List ℕ)) (given : Option (List ℕ)) (ended failed : Type 0) (output written : Told W) where
  -- a refused bundle, by the text of its fault
  refused-writes : (f : Fault) (end : Ending) → WritesDay (answering command) contents given ended failed output written (Err (fault.Refused f)) → TellsFault f end
      → DayWrites command contents given ended failed output written end
  refused-writes f (Refused text) day is = let (bundle, read, refused, other) = day.refused f refl in ((bundle, read, f, refused, other, is), day.unwritten tt)
  refused-writes f NoMemory day is = inl (day.unwritten tt)
  refused-writes f Done day is = absurd is
  refused-writes f (TooLarge name) day is = absurd is
  refused-writes f WrongShape day is = absurd is
  refused-writes f WrongTables day is = absurd is
  refused-writes f InUse day is = absurd is
  refused-writes f TablesChanged day is = absurd is
  refused-writes f Wrong day is = absurd is
  refused-writes f NoRun day is = absurd is
  refused-writes f (LeftBehind text) day is = absurd is
  refused-writes f (NoStart range) day is = absurd is
  refused-writes f (Usage text) day is = absurd is
  refused-writes f Read day is = absurd is
  refused-writes f Write day is = absurd is

  -- what a day has written at its end
  pub day-writes : (r : Result (Unit {0}) DayFault) (end : Ending) → WritesDay (answering command) contents given ended failed output written r → EndsAs r end
      → DayWrites command contents given ended failed output written end
  day-writes (Ok x) end day is = subst (λ (e : Ending). DayWrites command contents given ended failed output written e) (sym is) day.day
  day-writes (Err (fault.Refused f)) end day is = refused-writes f end day is
  day-writes (Err (fault.TooLarge name)) end day is =
      subst (λ (e : Ending). DayWrites command contents given ended failed output written e) (sym is) (day.too_large name refl, day.unwritten tt)
  day-writes (Err fault.Read) end day is = subst (λ (e : Ending). DayWrites command contents given ended failed output written e) (sym is) (day.read refl, day.unwritten tt)
  day-writes (Err fault.Write) end day is = subst (λ (e : Ending). DayWrites command contents given ended failed output written e) (sym is) (day.gave_up refl, day.write refl)
  day-writes (Err fault.NoMemory) end day is = subst (λ (e : Ending). DayWrites command contents given ended failed output written e) (sym is) (day.memory refl)

  -- it ends out of memory only if the output did not fail
  pub none-failed : (r : Result (Unit {0}) DayFault) (end : Ending) → WritesDay (answering command) contents given ended failed output written r → EndsAs r end → end ≡ NoMemory
      → HasNotFailed output written
  none-failed (Ok x) end day is e = (cc)
  none-failed (Err (fault.Refused f)) end day is e = ap (λ (w : Told W). failures_of w) (day.unwritten tt)
  none-failed (Err (fault.TooLarge name)) end day is e = (cc)
  none-failed (Err fault.Read) end day is e = (cc)
  none-failed (Err fault.Write) end day is e = (cc)
  none-failed (Err fault.NoMemory) end day is e = day.unfailed refl

-- a bundle's day ends as its command does
pub bundle-ends : {W : Type 0} (command : DayCommand) (contents : W → Option (List ℕ)) (bundle : List ℕ) (output written : Told W) (r : Result (Unit {0}) DayFault) (end : Ending)
    → WritesDay (answering command) contents (Some bundle) ⊤ ⊥ output written r → EndsAs r end → BundleEnds command contents output written (Ok bundle) end
bundle-ends command contents bundle output written r end day is =
    (day-writes command contents (Some bundle) ⊤ ⊥ output written r end day is, none-failed command contents (Some bundle) ⊤ ⊥ output written r end day is)

-- a bundle that was not read has no day
pub unread-ends : {W : Type 0} (command : DayCommand) (contents : W → Option (List ℕ)) (output : Told W) (f : ReadFault) (end : Ending) → end ≡ end_of_read f → BundleEnds command contents output output (Err f) end
unread-ends command contents output read.Read end is = (is, refl)
unread-ends command contents output read.NoMemory end is = (is, refl)

-- an end after the input was read is of a day that got so far
after-reading : (r : Result (Unit {0}) DayFault) (end : Ending) → EndsAs r end → HasReadAll end → IsAfterReading r
after-reading (Ok x) end is all = tt
after-reading (Err (fault.Refused f)) end is all = tt
after-reading (Err (fault.TooLarge name)) end is all = tt
after-reading (Err fault.Read) end is all = subst HasReadAll is all
after-reading (Err fault.Write) end is all = tt
after-reading (Err fault.NoMemory) end is all = subst HasReadAll is all

-- it ends out of memory only if the input was read within its limits
read-within : {R : Type 0} (input read : Told R) (r : Result (Unit {0}) DayFault) (end : Ending) → (r ≡ Err fault.NoMemory → IsReadWithin input read) → (IsAfterReading r → IsReadWithin input read)
    → EndsAs r end → end ≡ NoMemory → IsReadWithin input read
read-within input read (Ok x) end unfailed within is e = (cc)
read-within input read (Err (fault.Refused f)) end unfailed within is e = within tt
read-within input read (Err (fault.TooLarge name)) end unfailed within is e = (cc)
read-within input read (Err fault.Read) end unfailed within is e = (cc)
read-within input read (Err fault.Write) end unfailed within is e = (cc)
read-within input read (Err fault.NoMemory) end unfailed within is e = unfailed refl

-- a reader's day ends as its command does
pub day-ends : {R W : Type 0} (command : DayCommand) (remaining : R → Option (List ℕ)) (contents : W → Option (List ℕ)) (input read : Told R) (output written : Told W) (r : Result (Unit {0}) DayFault) (end : Ending)
    → MakesDay (answering command) remaining contents input read output written r → EndsAs r end → DayEnds command remaining contents input read output written end
day-ends command remaining contents input read output written r end day is =
    let given = remaining (inner_of input) in
    let ended = IsAtEnd (remaining (inner_of read)) in
    let failed = HasPassedLimits input read in
    record {
      writes = day-writes command contents given ended failed output written r end day.writes is;
      at_end = λ all. day.end (after-reading r end is all);
      within = λ all. day.within (after-reading r end is all);
      unfailed = λ e. (read-within input read r end day.unfailed day.within is e, none-failed command contents given ended failed output written r end day.writes is e);
      taken = day.taken;
    }
