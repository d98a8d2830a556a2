-- What contracts see of a journal that is sealed: its own parts, and that a text is there (profile).
use Rattle.std.specs.Prelude.{ℕ, ◌≡◌, Bool, List, Option}
use Rattle.mrp_folder.specs.declared.sealing.SealedJournal.{SealedJournal}
use Rattle.mrp_folder.specs.Kept.{Adds}
use Rattle.mrp_folder.specs.Named.{Named}

-- the journal itself
abbrev pub journal_of : {S D : Type 0} → SealedJournal S D → S
journal_of sealed = sealed.journal

-- the folder that the text is put into
abbrev pub folder_of : {S D : Type 0} → SealedJournal S D → D
folder_of sealed = sealed.folder

-- the text
abbrev pub text_of : {S D : Type 0} → SealedJournal S D → List ℕ
text_of sealed = sealed.text.now

-- its name
abbrev pub name_of : {S D : Type 0} → SealedJournal S D → List ℕ
name_of sealed = sealed.name.now

-- whether the text is known to be there
abbrev pub has_seal : {S D : Type 0} → SealedJournal S D → Bool
has_seal sealed = sealed.is_sealed

-- how often it could not be put there
abbrev pub failures_of_sealed : {S D : Type 0} → SealedJournal S D → ℕ
failures_of_sealed sealed = sealed.failures

-- a text was put into a folder, whole and durable, and so is its name
pub record IsThere (text name : List ℕ) (old new lasting : Option (List Named)) : Type 0 where
  pub added : Adds name text old new
  pub lasts : lasting ≡ new

-- a sealed journal has the same text under the same name
pub record KeepsText {S D : Type 0} (old new : SealedJournal S D) : Type 0 where
  pub text : text_of new ≡ text_of old
  pub name : name_of new ≡ name_of old

-- nothing has changed but the journal itself
pub record KeepsSeal {S D : Type 0} (old new : SealedJournal S D) : Type 0 where
  pub text : KeepsText old new
  pub folder : folder_of new ≡ folder_of old
  pub sealed : has_seal new ≡ has_seal old
  pub failures : failures_of_sealed new ≡ failures_of_sealed old
