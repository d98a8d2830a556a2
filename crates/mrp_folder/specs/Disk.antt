-- What contracts see of a folder of the operating system: nothing of its files (profile).
use Rattle.std.specs.Prelude.{ℕ, ◌≡◌, List}
use Rattle.mrp_folder.specs.declared.disk.DiskFolder.{DiskFolder}
use Rattle.mrp_folder.specs.declared.disk.DiskPart.{DiskPart}

-- the file itself
abbrev pub file_of : {F : Type 0} → DiskPart F → F
file_of part = part.file

-- how many of its calls failed
abbrev pub failures_told : {R : Type 0} → DiskFolder R → ℕ
failures_told folder = folder.failures

-- its path
abbrev pub path_of : {R : Type 0} → DiskFolder R → List ℕ
path_of folder = folder.folder.now

-- the name that a file is begun with
abbrev pub part_of : {R : Type 0} → DiskFolder R → List ℕ
part_of folder = folder.part.now

-- its files go where they went before
pub record KeepsPlace {R : Type 0} (old new : DiskFolder R) : Type 0 where
  pub path : path_of new ≡ path_of old
  pub part : part_of new ≡ part_of old
