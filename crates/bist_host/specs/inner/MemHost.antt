-- Inner. Where a file stands among those of a host in memory.
use Rattle.std.specs.Prelude.{◌≡◌, ℕ, None, List, take, slice_get, IsSomeAnd}
use Rattle.bist_host.specs.MemHost.{NamedFile, file_of}

-- the first file of that name stands at this place
abbrev pub IsPlaceOf : List NamedFile → List ℕ → ℕ → Type 0
IsPlaceOf files name i = (file_of (take i files) name ≡ None) × IsSomeAnd (slice_get files i) (λ f. f.name ≡ name)
