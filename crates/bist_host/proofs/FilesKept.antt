-- What a write does to a list of files.
use Rattle.std.proofs.Common.{◌≡◌, ◌≢◌, ◌<◌, ◌+◌, ℕ, suc, zero, Some, None, List, [], ◌∷◌, ◌++◌, length, take, arith, slice_set, slice_get, get_or, IsSomeAnd, string_bytes, add-one, subst, ◌∙◌}
use Rattle.std.proofs.lemmas.Grind.{common_steps}
use Rattle.std.proofs.lemmas.List.{map-set}
use Rattle.std.proofs.lemmas.Slice.Eq.{bytes_eq-Decides}
use Rattle.bist_host.specs.MemHost.{NamedFile, file_of}
use Rattle.bist_host.specs.inner.MemHost.{IsPlaceOf}
use Rattle.bist_host.specs.MemFile.{named_file, named_files}
use Rattle.bist_host.specs.declared.mem_host.MemFile.{MemFile}
use Rattle.bist_host.specs.Files.{WritesFile}

added_here : (fs : List NamedFile) (f : NamedFile) → file_of fs f.name ≡ None → file_of (fs ++ f ∷ []) f.name ≡ Some f.bytes
added_here [] f h = grind (arith, bytes_eq-Decides f.name f.name)
added_here (g ∷ gs) f h = grind (arith, added_here gs f)

added_elsewhere : (fs : List NamedFile) (f : NamedFile) (other : List ℕ) → other ≢ f.name → file_of (fs ++ f ∷ []) other ≡ file_of fs other
added_elsewhere [] f other h = grind (arith, bytes_eq-Decides f.name other)
added_elsewhere (g ∷ gs) f other h = grind (arith, added_elsewhere gs f other h)

added : (fs : List NamedFile) (f : NamedFile) → file_of fs f.name ≡ None → WritesFile (Some (file_of fs)) (Some (file_of (fs ++ f ∷ []))) f.name f.bytes
added fs f h = (added_here fs f h, added_elsewhere fs f)

named-append : (fs : List MemFile) (f : MemFile) → named_files (fs ++ f ∷ []) ≡ named_files fs ++ named_file f ∷ []
named-append fs f = grind (arith, common_steps)

-- a file of a new name behind all others
pub file_added : (fs : List MemFile) (f : MemFile) → file_of (named_files fs) (string_bytes f.name) ≡ None
    → WritesFile (Some (file_of (named_files fs))) (Some (file_of (named_files (fs ++ f ∷ [])))) (string_bytes f.name) f.bytes.items
file_added fs f h = rw (named-append fs f) (added (named_files fs) (named_file f) h)

replaced_here : (fs : List NamedFile) (i : ℕ) (f : NamedFile) → file_of (take i fs) f.name ≡ None → IsSomeAnd (slice_get fs i) (λ g. g.name ≡ f.name)
    → file_of (slice_set fs i f) f.name ≡ Some f.bytes
replaced_here [] i f before there = absurd there
replaced_here (g ∷ gs) zero f before there = grind (arith, bytes_eq-Decides f.name f.name)
replaced_here (g ∷ gs) (suc i) f before there =
    let rest : file_of (take i gs) f.name ≡ None → file_of (slice_set gs i f) f.name ≡ Some f.bytes = λ k. replaced_here gs i f k there in
    grind (arith, rest)

replaced_elsewhere : (fs : List NamedFile) (i : ℕ) (f : NamedFile) (other : List ℕ) → IsSomeAnd (slice_get fs i) (λ g. g.name ≡ f.name) → other ≢ f.name
    → file_of (slice_set fs i f) other ≡ file_of fs other
replaced_elsewhere [] i f other there k = absurd there
replaced_elsewhere (g ∷ gs) zero f other there k = grind (arith, there, bytes_eq-Decides f.name other, bytes_eq-Decides g.name other)
replaced_elsewhere (g ∷ gs) (suc i) f other there k = grind (arith, replaced_elsewhere gs i f other there k)

replaced : (fs : List NamedFile) (i : ℕ) (f : NamedFile) → IsPlaceOf fs f.name i → WritesFile (Some (file_of fs)) (Some (file_of (slice_set fs i f))) f.name f.bytes
replaced fs i f h = (replaced_here fs i f h.0 h.1, λ other k. replaced_elsewhere fs i f other h.1 k)

-- a file of this name stands there
name_of_place : (fs : List MemFile) (i : ℕ) (d : MemFile) (name : List ℕ) → IsSomeAnd (slice_get (named_files fs) i) (λ g. g.name ≡ name) → string_bytes (get_or fs i d).name ≡ name
name_of_place [] i d name there = absurd there
name_of_place (g ∷ gs) zero d name there = there
name_of_place (g ∷ gs) (suc i) d name there = name_of_place gs i d name there

-- other bytes in the place of the file of that name
pub file_replaced : (fs : List MemFile) (i : ℕ) (d f : MemFile) (name : List ℕ) → IsPlaceOf (named_files fs) name i → string_bytes f.name ≡ string_bytes (get_or fs i d).name
    → WritesFile (Some (file_of (named_files fs))) (Some (file_of (named_files (slice_set fs i f)))) name f.bytes.items
file_replaced fs i d f name h same =
    let e : string_bytes f.name ≡ name = same ∙ name_of_place fs i d name h.1 in
    let P : List ℕ → Type 0 = λ n. IsPlaceOf (named_files fs) n i → WritesFile (Some (file_of (named_files fs))) (Some (file_of (named_files (slice_set fs i f)))) n f.bytes.items in
    subst P e (λ k. rw (map-set named_file fs i f) (replaced (named_files fs) i (named_file f) k)) h

-- where a file of this name stands
pub place_found : (fs : List MemFile) (i : ℕ) (d : MemFile) (name : List ℕ) → i < length fs → string_bytes (get_or fs i d).name ≡ name
    → IsSomeAnd (slice_get (named_files fs) i) (λ g. g.name ≡ name)
place_found [] i d name below is = absurd (omega arith)
place_found (g ∷ gs) zero d name below is = is
place_found (g ∷ gs) (suc i) d name below is = place_found gs i d name (omega arith) is

none_before : (fs : List MemFile) (i : ℕ) (d : MemFile) (name : List ℕ) → file_of (take i (named_files fs)) name ≡ None → i < length fs
    → string_bytes (get_or fs i d).name ≢ name → file_of (take (suc i) (named_files fs)) name ≡ None
none_before [] i d name before below differs = absurd (omega arith)
none_before (g ∷ gs) zero d name before below differs = grind (arith, differs, bytes_eq-Decides (string_bytes g.name) name)
none_before (g ∷ gs) (suc i) d name before below differs =
    let rest : file_of (take i (named_files gs)) name ≡ None → file_of (take (suc i) (named_files gs)) name ≡ None = λ k. none_before gs i d name k (omega arith) differs in
    grind (arith, rest)

-- a file of another name hides none
pub none_more : (fs : List MemFile) (i : ℕ) (d : MemFile) (name : List ℕ) → file_of (take i (named_files fs)) name ≡ None → i < length fs
    → string_bytes (get_or fs i d).name ≢ name → file_of (take (i + 1) (named_files fs)) name ≡ None
none_more fs i d name before below differs = rw (add-one i) (none_before fs i d name before below differs)

-- the bytes of the first file of a name
pub file_there : (fs : List MemFile) (i : ℕ) (d : MemFile) (name : List ℕ) → IsPlaceOf (named_files fs) name i → file_of (named_files fs) name ≡ Some (get_or fs i d).bytes.items
file_there [] i d name h = absurd h.1
file_there (g ∷ gs) zero d name h = grind (arith, h.1, bytes_eq-Decides (string_bytes g.name) name)
file_there (g ∷ gs) (suc i) d name h =
    let rest : file_of (take i (named_files gs)) name ≡ None → file_of (named_files gs) name ≡ Some (get_or gs i d).bytes.items = λ k. file_there gs i d name (k, h.1) in
    grind (arith, h.0, rest)
