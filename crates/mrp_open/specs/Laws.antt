-- The folder of an order desk that was opened on it (profile).
use Rattle.std.specs.Prelude.{ℕ, ◌≡◌, ◌≢◌, List, [], ◌++◌, option_map}
use Rattle.mrp_rows.specs.Joined.{Part}
use Rattle.mrp_journal.specs.Held.{Becomes}
use Rattle.mrp_journal.specs.Journal.{KeepsSafely, begun, with_more}
use Rattle.mrp_words.specs.Folder.{AreParts, Known}
use Rattle.mrp_calls.specs.Desk.{Desk}
use Rattle.mrp_calls.specs.Journals.{AnswersFolder}
use Rattle.mrp_commands.specs.declared.ending.Ending.{Ending}
use Rattle.mrp_commands.specs.declared.ending.Ending.TheVariants as ending
use Rattle.mrp_open.specs.Served.{Stand}
use Rattle.mrp_open.specs.Start.{IsSplit, journal_of}
use Rattle.mrp_open.specs.declared.finding.Found.{Found}

-- a desk is open on what a folder has, with these records behind its journal as it was begun
pub record IsOpenOn (known : Known) (folder records : List ℕ) (d : Desk) : Type 0 where
  pub parts : List Part
  pub others : List Part
  pub script : List ℕ
  pub are : AreParts known folder parts
  pub split : IsSplit parts others script
  pub answers : AnswersFolder others (journal_of script ++ records) d

-- a desk is open on what was found in a folder, and its journal is the one that is begun there
pub record OpensOn (known : Known) (folder : List ℕ) (found : Found) (d : Desk) : Type 0 where
  pub on : IsOpenOn known folder [] d
  pub journal : journal_of on.script ≡ begun found.script.items found.header.now

-- a desk that was open on a folder has gone on: it is open there with more records; a crash leaves its journal as it was,
-- and a front of these behind it; unless a write has failed, the journal has them all, durable
pub record StaysOpen (known : Known) (folder records : List ℕ) (old new : Stand) (end : Ending) : Type 0 where
  pub more : List ℕ
  pub on : IsOpenOn known folder (records ++ more) new.desk
  pub safe : Becomes (KeepsSafely more) old.journal new.journal
  pub kept : end ≢ ending.Write → new.journal ≡ option_map (with_more more) old.journal
