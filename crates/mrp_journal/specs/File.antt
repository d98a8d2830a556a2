-- What contracts see of a journal in a file of the operating system: nothing of its bytes (profile).
use Rattle.std.specs.Prelude.{ℕ}
use Rattle.mrp_journal.specs.declared.file.JournalFile.{JournalFile}

-- the file itself
abbrev pub file_of : {F : Type 0} → JournalFile F → F
file_of journal = journal.file

-- how many of its calls failed
abbrev pub failures_told : {F : Type 0} → JournalFile F → ℕ
failures_told journal = journal.failures
