-- Trusted. What the calls of a host may answer, and what they leave.
use Rattle.std.specs.Prelude.{◌≡◌, ◌≢◌, ◌<◌, ◌≤◌, ◌+◌, ◌-◌, ◌^◌, ℕ, min, Option, Some, None, List, ◌++◌, length}
use Rattle.bist_host.specs.declared.host.HostFault.{HostFault}
use Rattle.bist_host.specs.declared.host.HostFault.TheVariants.{Absent, TooLarge, ReadFailed, WriteFailed, NoMemory}

-- the files by name: the bytes of each file that is there
abbrev pub Files : Type 0
Files = List ℕ → Option (List ℕ)

-- what a host tells: its files and all bytes that were said, where it tells them, and its counts of faults
pub record HostState : Type 0 where
  pub files : Option Files
  pub said : Option (List ℕ)
  pub read_faults : ℕ
  pub write_faults : ℕ

-- a call that reads changes nothing but the count of read faults, which doesn't fall
pub record OnlyReads (old new : HostState) : Type 0 where
  pub files : new.files ≡ old.files
  pub said : new.said ≡ old.said
  pub reads : old.read_faults ≤ new.read_faults
  pub writes : new.write_faults ≡ old.write_faults

-- a call that writes leaves what was said and the count of read faults
pub record OnlyWrites (old new : HostState) : Type 0 where
  pub said : new.said ≡ old.said
  pub reads : new.read_faults ≡ old.read_faults
  pub writes : old.write_faults ≤ new.write_faults

-- a call that says leaves the files and the count of read faults
pub record OnlySays (old new : HostState) : Type 0 where
  pub files : new.files ≡ old.files
  pub reads : new.read_faults ≡ old.read_faults
  pub writes : old.write_faults ≤ new.write_faults

-- a count, of at most 2^64-1, rose in a call: it is greater, or stands at its last value
abbrev pub Rose : ℕ → ℕ → Type 0
Rose before now = (before < 2 ^ 64) × (min (before + 1) (2 ^ 64 - 1) ≤ now)

-- the count of read faults rose between what a host tells before and after
abbrev pub ReadsRose : HostState → HostState → Type 0
ReadsRose old new = Rose old.read_faults new.read_faults

-- the same of the count of write faults
abbrev pub WritesRose : HostState → HostState → Type 0
WritesRose old new = Rose old.write_faults new.write_faults

-- the bytes that a read gives, where the files are told
abbrev pub ReadGives : Option Files → List ℕ → ℕ → List ℕ → Type 0
ReadGives None name limit bytes = Unit {0}
ReadGives (Some files) name limit bytes = (files name ≡ Some bytes) × (length bytes ≤ limit)

-- the file is there and within the limit
abbrev pub IsReadable : Option (List ℕ) → ℕ → Type 0
IsReadable None limit = ⊥
IsReadable (Some bytes) limit = length bytes ≤ limit

-- the file is there and beyond the limit
abbrev pub IsTooLarge : Option (List ℕ) → ℕ → Type 0
IsTooLarge None limit = ⊥
IsTooLarge (Some bytes) limit = limit < length bytes

-- when a read may answer this fault: over told files by what is there, else only where the count rose
abbrev pub ReadRefused : Option Files → List ℕ → ℕ → HostFault → ℕ → ℕ → Type 0
ReadRefused (Some files) name limit Absent before now = files name ≡ None
ReadRefused (Some files) name limit TooLarge before now = IsTooLarge (files name) limit
ReadRefused (Some files) name limit ReadFailed before now = Rose before now × IsReadable (files name) limit
ReadRefused None name limit Absent before now = Rose before now
ReadRefused None name limit TooLarge before now = Rose before now
ReadRefused None name limit ReadFailed before now = Rose before now
ReadRefused told name limit NoMemory before now = now ≡ before
ReadRefused told name limit WriteFailed before now = ⊥

-- all files but one stay
abbrev pub KeepsOthers : Option Files → Option Files → List ℕ → Type 0
KeepsOthers None None name = Unit {0}
KeepsOthers None (Some new) name = ⊥
KeepsOthers (Some old) None name = ⊥
KeepsOthers (Some old) (Some new) name = (other : List ℕ) → other ≢ name → new other ≡ old other

-- the file has these bytes now, where the files are told
abbrev pub HasFile : Option Files → List ℕ → List ℕ → Type 0
HasFile None name bytes = Unit {0}
HasFile (Some files) name bytes = files name ≡ Some bytes

abbrev pub WritesFile : Option Files → Option Files → List ℕ → List ℕ → Type 0
WritesFile old new name bytes = HasFile new name bytes × KeepsOthers old new name

abbrev pub WriteRefused : Option Files → Option Files → List ℕ → HostFault → ℕ → ℕ → Type 0
WriteRefused old new name WriteFailed before now = Rose before now × KeepsOthers old new name
WriteRefused old new name NoMemory before now = (now ≡ before) × (new ≡ old)
WriteRefused old new name Absent before now = ⊥
WriteRefused old new name TooLarge before now = ⊥
WriteRefused old new name ReadFailed before now = ⊥

-- what was said is followed by these bytes
abbrev pub Says : Option (List ℕ) → Option (List ℕ) → List ℕ → Type 0
Says None new bytes = new ≡ None
Says (Some old) new bytes = new ≡ Some (old ++ bytes)

-- what was said is followed by a prefix of these bytes
abbrev pub SaysPrefix : Option (List ℕ) → Option (List ℕ) → List ℕ → Type 0
SaysPrefix old new bytes = (front : List ℕ) × (rest : List ℕ) × (bytes ≡ front ++ rest) × Says old new front

abbrev pub SayRefused : Option (List ℕ) → Option (List ℕ) → List ℕ → HostFault → ℕ → ℕ → Type 0
SayRefused old new bytes WriteFailed before now = Rose before now × SaysPrefix old new bytes
SayRefused old new bytes NoMemory before now = (now ≡ before) × (new ≡ old)
SayRefused old new bytes Absent before now = ⊥
SayRefused old new bytes TooLarge before now = ⊥
SayRefused old new bytes ReadFailed before now = ⊥

abbrev pub IsNoMemory : HostFault → Type 0
IsNoMemory NoMemory = Unit {0}
IsNoMemory other = ⊥
