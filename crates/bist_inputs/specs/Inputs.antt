-- Trusted. What the inputs of a command give: its checks in their order.
use Rattle.std.specs.Prelude.{◌≡◌, ℕ, List, Option, Some, None, Result, Ok, Err}
use Rattle.bist_host.specs.Files.{Files, HostState, ReadsRose, ReadGives, IsReadable, IsTooLarge}
use Rattle.march_core.specs.March.{MarchElement}
use Rattle.march_syntax.specs.Answers.{Reads as ReadsMarch}
use Rattle.fault_core.specs.Primitive.{Primitive}
use Rattle.fault_syntax.specs.Answers.{ReadsPrim}
use Rattle.dynamic_core.specs.declared.item.Item.{Item}
use Rattle.dynamic_core.specs.Items.{ReadsItems}
use Rattle.bist_endings.specs.declared.ending.InputRefusal.{InputRefusal}
use Rattle.bist_endings.specs.declared.ending.Refusal.{Refusal}
use Rattle.bist_endings.specs.Then.{Then}
use Rattle.bist_endings.specs.Words.{Words, word}

-- an input file has at most this many bytes
abbrev pub input_limit : ℕ
input_limit = 1048576

-- the named file's bytes, or why it has none; nothing is known of files that aren't told
abbrev pub GivesBytes : Option Files → List ℕ → ℕ → Result (List ℕ) Refusal → Type 0
GivesBytes files name position (Ok bytes) = ReadGives files name input_limit bytes
GivesBytes (Some files) name position (Err (Refusal.Absent p)) = (p ≡ position) × (files name ≡ None)
GivesBytes (Some files) name position (Err (Refusal.TooLarge p)) = (p ≡ position) × IsTooLarge (files name) input_limit
GivesBytes (Some files) name position (Err (Refusal.ReadFailed p)) = (p ≡ position) × IsReadable (files name) input_limit
GivesBytes None name position (Err (Refusal.Absent p)) = p ≡ position
GivesBytes None name position (Err (Refusal.TooLarge p)) = p ≡ position
GivesBytes None name position (Err (Refusal.ReadFailed p)) = p ≡ position
GivesBytes files name position (Err Refusal.NoMemory) = Unit {0}
GivesBytes files name position (Err other) = ⊥

-- a read fault comes only where the count of reads rose, and over files that aren't told so do the other faults of a file
abbrev pub HasInputCause : Option Files → Type 0 → InputRefusal → Type 0
HasInputCause files rose (InputRefusal.ReadFailed p) = rose
HasInputCause None rose (InputRefusal.Absent p) = rose
HasInputCause None rose (InputRefusal.TooLarge p) = rose
HasInputCause files rose other = Unit {0}

-- the same of what a command answers
abbrev pub HasReadCause : {A : Type 0} → Option Files → Type 0 → Result A Refusal → Type 0
HasReadCause files rose (Err (Refusal.ReadFailed p)) = HasInputCause files rose (InputRefusal.ReadFailed p)
HasReadCause files rose (Err (Refusal.Absent p)) = HasInputCause files rose (InputRefusal.Absent p)
HasReadCause files rose (Err (Refusal.TooLarge p)) = HasInputCause files rose (InputRefusal.TooLarge p)
HasReadCause files rose (Err (Refusal.Unit unit refusal)) = HasInputCause files rose refusal
HasReadCause files rose other = Unit {0}

-- the same between what a host tells before and after
abbrev pub HasCause : {A : Type 0} → HostState → HostState → Result A Refusal → Type 0
HasCause old new result = HasReadCause old.files (ReadsRose old new) result

-- not a refusal of a file's reading
abbrev pub IsOwnRefusal : Refusal → Type 0
IsOwnRefusal (Refusal.ReadFailed p) = ⊥
IsOwnRefusal (Refusal.Absent p) = ⊥
IsOwnRefusal (Refusal.TooLarge p) = ⊥
IsOwnRefusal (Refusal.Unit unit refusal) = ⊥
IsOwnRefusal other = Unit {0}

-- the accepted march whose text the bytes are, or why they are none
unfoldable pub GivesMarch : List ℕ → Result (List MarchElement) Refusal → Type 0
GivesMarch bytes (Ok march) = ReadsMarch bytes (Ok march)
GivesMarch bytes (Err (Refusal.March fault)) = ReadsMarch bytes (Err fault)
GivesMarch bytes (Err other) = ⊥

-- the march of the file of this name
unfoldable pub FileMarch : Option Files → List ℕ → ℕ → Result (List MarchElement) Refusal → Type 0
FileMarch files name position = Then (GivesBytes files name position) GivesMarch

-- the march of the file that a word names
abbrev pub InputMarch : Option Files → Words → ℕ → Result (List MarchElement) Refusal → Type 0
InputMarch files words position = FileMarch files (word words position) position

-- the primitive whose text the word is, or why it is none
unfoldable pub GivesPrim : List ℕ → Result Primitive Refusal → Type 0
GivesPrim bytes (Ok prim) = ReadsPrim bytes (Ok prim)
GivesPrim bytes (Err (Refusal.Fault fault)) = ReadsPrim bytes (Err fault)
GivesPrim bytes (Err other) = ⊥

-- the items that the lines of a list bring, or the first line that is refused
unfoldable pub GivesList : List ℕ → Result (List Item) Refusal → Type 0
GivesList bytes (Ok items) = ReadsItems bytes (Ok items)
GivesList bytes (Err (Refusal.Fault fault)) = ReadsItems bytes (Err fault)
GivesList bytes (Err Refusal.NoMemory) = Unit {0}
GivesList bytes (Err other) = ⊥

-- the items of the list that a word names
unfoldable pub InputList : Option Files → Words → ℕ → Result (List Item) Refusal → Type 0
InputList files words position = Then (GivesBytes files (word words position) position) GivesList
