-- Public. What a host in memory holds: its files, and the bytes that were said.
use Rattle.std.specs.Prelude.{ℕ, Some, None, List, [], ◌∷◌, if◌then◌else◌}
use Rattle.std.specs.Str.{bytes_eq}
use Rattle.bist_host.specs.Files.{Files}

pub record NamedFile : Type 0 where
  pub name : List ℕ
  pub bytes : List ℕ

pub record MemContent : Type 0 where
  pub listed : List NamedFile
  pub said : List ℕ

-- the bytes of the first file of that name
abbrev pub file_of : List NamedFile → Files
file_of [] name = None
file_of (f ∷ fs) name = if bytes_eq f.name name then Some f.bytes else file_of fs name

-- the files by name
abbrev pub files_of : MemContent → Files
files_of m = file_of m.listed
