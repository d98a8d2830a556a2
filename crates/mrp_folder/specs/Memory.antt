-- What contracts see of a folder in memory (profile).
use Rattle.std.specs.Prelude.{ℕ, ◌≡◌, List, map, string_bytes, take, vec_capacity}
use Rattle.mrp_folder.specs.declared.memory.MemoryFile.{MemoryFile}
use Rattle.mrp_folder.specs.declared.memory.MemoryFolder.{MemoryFolder}
use Rattle.mrp_folder.specs.declared.memory.MemoryPart.{MemoryPart}
use Rattle.mrp_folder.specs.Named.{Named}

-- the bytes of a file
abbrev pub part_bytes : MemoryPart → List ℕ
part_bytes part = part.bytes.items

-- how many bytes there is memory for
abbrev pub part_room : MemoryPart → ℕ
part_room part = vec_capacity part.bytes

-- how many writes of a file are left before they fail
abbrev pub writes_left : MemoryPart → ℕ
writes_left part = part.writes

-- the bytes of a file that are durable
abbrev pub memory_durable : MemoryPart → List ℕ
memory_durable part = take part.durable part.bytes.items

-- how many bytes at its front are durable
abbrev pub durable_len : MemoryPart → ℕ
durable_len part = part.durable

-- a file that has a name
abbrev pub memory_file : MemoryFile → Named
memory_file file = record { name = string_bytes file.name; file = record { bytes = file.part.bytes.items; durable = memory_durable file.part } }

-- the files that were named, in order
abbrev pub memory_files : MemoryFolder → List Named
memory_files folder = map memory_file folder.files.items

-- those that have their names after a crash
abbrev pub memory_lasting : MemoryFolder → List Named
memory_lasting folder = take folder.lasting (memory_files folder)

-- how many names at the front are durable
abbrev pub lasting_len : MemoryFolder → ℕ
lasting_len folder = folder.lasting

-- how many of its calls are left before they fail
abbrev pub calls_left : MemoryFolder → ℕ
calls_left folder = folder.calls

-- how many writes of each file do not fail
abbrev pub writes_given : MemoryFolder → ℕ
writes_given folder = folder.writes

-- how many of its calls failed
abbrev pub memory_failures : MemoryFolder → ℕ
memory_failures folder = folder.failures

-- no name has become durable, and files are begun as before
pub record KeepsNames (old new : MemoryFolder) : Type 0 where
  pub lasting : lasting_len new ≡ lasting_len old
  pub writes : writes_given new ≡ writes_given old
