-- Public. What a host does whose listed calls fail.
use Rattle.std.specs.Prelude.{◌≡◌, ◌≤◌, ◌+◌, ◌-◌, ◌/◌, ◌^◌, ◌++◌, ℕ, min, length, take, Contains, Some, None, List}
use Rattle.bist_host.specs.declared.host.HostFault.{HostFault}
use Rattle.bist_host.specs.declared.host.HostFault.TheVariants.{Absent, TooLarge, ReadFailed, WriteFailed, NoMemory}
use Rattle.bist_host.specs.Files.{HostState, IsReadable, IsTooLarge, WritesFile}
use Rattle.bist_host.specs.MemHost.{MemContent, files_of}

pub record FailContent : Type 0 where
  pub inner : MemContent
  pub failing : List ℕ
  pub calls : ℕ
  pub read_faults : ℕ
  pub write_faults : ℕ

-- what the host tells
abbrev pub state_of : FailContent → HostState
state_of h = record { files = Some (files_of h.inner); said = Some h.inner.said; read_faults = h.read_faults; write_faults = h.write_faults }

-- one more, up to the last value of a count
abbrev pub raised : ℕ → ℕ
raised n = min (n + 1) (2 ^ 64 - 1)

-- the number of the next call is listed
abbrev pub IsNextListed : FailContent → Type 0
IsNextListed h = Contains h.failing (raised h.calls)

-- the call has its number
abbrev pub counted : FailContent → FailContent
counted h = record h { calls = raised h.calls }

-- the first half of the bytes, rounded down
abbrev pub first_half : List ℕ → List ℕ
first_half bytes = take (length bytes / 2) bytes

-- the inner host's file has these bytes, and nothing else of it has changed
abbrev pub InnerWrites : MemContent → MemContent → List ℕ → List ℕ → Type 0
InnerWrites old new name bytes = WritesFile (Some (files_of old)) (Some (files_of new)) name bytes × (new.said ≡ old.said)

-- a listed read fails where it would else succeed, and raises the count of reads
abbrev pub ListedRead : FailContent → FailContent → List ℕ → ℕ → HostFault → Type 0
ListedRead old new name limit ReadFailed = IsReadable (files_of old.inner name) limit
    × (new ≡ record old { read_faults = raised old.read_faults })
ListedRead old new name limit Absent = (files_of old.inner name ≡ None) × (new ≡ old)
ListedRead old new name limit TooLarge = IsTooLarge (files_of old.inner name) limit × (new ≡ old)
ListedRead old new name limit NoMemory = new ≡ old
ListedRead old new name limit WriteFailed = ⊥

-- a listed write leaves the first half, and raises the count of writes
abbrev pub ListedWrite : FailContent → FailContent → List ℕ → List ℕ → HostFault → Type 0
ListedWrite old new name bytes WriteFailed = InnerWrites old.inner new.inner name (first_half bytes)
    × (new ≡ record old { inner = new.inner; write_faults = raised old.write_faults })
ListedWrite old new name bytes NoMemory = new ≡ old
ListedWrite old new name bytes Absent = ⊥
ListedWrite old new name bytes TooLarge = ⊥
ListedWrite old new name bytes ReadFailed = ⊥

-- a listed say appends nothing, and raises the count of writes
abbrev pub ListedSay : FailContent → FailContent → HostFault → Type 0
ListedSay old new WriteFailed = new ≡ record old { write_faults = raised old.write_faults }
ListedSay old new NoMemory = ⊥
ListedSay old new Absent = ⊥
ListedSay old new TooLarge = ⊥
ListedSay old new ReadFailed = ⊥

-- a read that isn't listed refuses what a host in memory refuses
abbrev pub OtherRead : FailContent → FailContent → List ℕ → ℕ → HostFault → Type 0
OtherRead old new name limit Absent = (files_of old.inner name ≡ None) × (new ≡ old)
OtherRead old new name limit TooLarge = IsTooLarge (files_of old.inner name) limit × (new ≡ old)
OtherRead old new name limit NoMemory = new ≡ old
OtherRead old new name limit ReadFailed = ⊥
OtherRead old new name limit WriteFailed = ⊥

-- any other call refuses only for want of memory
abbrev pub OtherCall : FailContent → FailContent → HostFault → Type 0
OtherCall old new NoMemory = new ≡ old
OtherCall old new other = ⊥

-- the file is read, and nothing has changed
abbrev pub ReadsWhole : FailContent → FailContent → List ℕ → ℕ → List ℕ → Type 0
ReadsWhole old new name limit bytes = (files_of old.inner name ≡ Some bytes) × (length bytes ≤ limit) × (new ≡ old)

-- the file is written, and nothing else has changed
abbrev pub WritesWhole : FailContent → FailContent → List ℕ → List ℕ → Type 0
WritesWhole old new name bytes = InnerWrites old.inner new.inner name bytes × (new ≡ record old { inner = new.inner })

-- the bytes are said, and nothing else has changed
abbrev pub SaysWhole : FailContent → FailContent → List ℕ → Type 0
SaysWhole old new bytes = new ≡ record old { inner = record { listed = old.inner.listed; said = old.inner.said ++ bytes } }
