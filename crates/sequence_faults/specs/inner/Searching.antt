-- Inner. Only helps proofs: what the search for the least escape finds.
use Rattle.std.specs.Prelude.{◌≡◌, ◌<◌, ◌≤◌, ◌+◌, ◌^◌, ◌==◌, ◌&&◌, ℕ, Bool, not, if◌then◌else◌, Option, Some, None, List, length, drop}
use Rattle.std.specs.List.{All}
use Rattle.march_core.specs.March.{MarchElement}
use Rattle.pair_tracker.specs.Few.{end_of}
use Rattle.pair_tracker.specs.Tracking.{any_end}
use Rattle.pair_tracker.specs.Ways.{Leading, word_by}
use Rattle.sequence_faults.specs.declared.few.Few.{Few}
use Rattle.sequence_faults.specs.declared.few.Spots.{Spots}
use Rattle.sequence_faults.specs.declared.search.DeadEnd.{DeadEnd}
use Rattle.sequence_faults.specs.declared.escape.SeqEscape.{SeqEscape}
use Rattle.sequence_faults.specs.Primitive.{SequencePrimitive}
use Rattle.sequence_faults.specs.Stepping.{held_as, nothing}
use Rattle.sequence_faults.specs.Escapes.{addresses_in, content_in}
use Rattle.sequence_faults.specs.inner.Few.{machine_of, order_at, spots_at, few_at}

-- where the elements of a march lead the cells of an instance
abbrev pub lead_at : SequencePrimitive → Spots → Leading Few MarchElement
lead_at p s e q d = end_of (machine_of p) (order_at s) e q d

-- the least word of the elements from one on, in which no read differs
abbrev pub word_at : List MarchElement → SequencePrimitive → Spots → ℕ → Few → Option ℕ
word_at march p s i q = word_by any_end (lead_at p s) i (drop i march) q

-- what is known to lead nowhere does
abbrev pub IsDead : List MarchElement → SequencePrimitive → Spots → DeadEnd → Type 0
IsDead march p s d = word_at march p s d.element d.state ≡ None

abbrev pub AreDead : List MarchElement → SequencePrimitive → Spots → List DeadEnd → Type 0
AreDead march p s known = All (IsDead march p s) known

-- no two of the cells are one
abbrev pub are_apart : Spots → Bool
are_apart s = not (s.a == s.b) && (not (s.a == s.c) && not (s.b == s.c))

abbrev pub spots_in : ℕ → SequencePrimitive → ℕ → Spots
spots_in size p places = spots_at size (addresses_in size p places)

abbrev pub start_in : ℕ → SequencePrimitive → ℕ → ℕ → Few
start_in size p places content = few_at (spots_in size p places) (held_as (content_in size content) nothing)

-- the least word in which an array passes
abbrev pub word_in : List MarchElement → SequencePrimitive → ℕ → ℕ → ℕ → Option ℕ
word_in march p size places content =
    if are_apart (spots_in size p places) then word_at march p (spots_in size p places) 0 (start_in size p places content) else None

-- no array passes with a content below this one; in places below these; of a size below this
abbrev pub NoContent : List MarchElement → SequencePrimitive → ℕ → ℕ → ℕ → Type 0
NoContent march p size places below = (content : ℕ) → content < below → word_in march p size places content ≡ None

abbrev pub NoPlaces : List MarchElement → SequencePrimitive → ℕ → ℕ → Type 0
NoPlaces march p size below = (places : ℕ) → places < below → NoContent march p size places (2 ^ size)

abbrev pub NoSize : List MarchElement → SequencePrimitive → ℕ → Type 0
NoSize march p below = (size : ℕ) → 2 ≤ size → size < below → NoPlaces march p size (size ^ length p.states)

-- the first content that passes, with its least word
pub record IsFirstContent (march : List MarchElement) (p : SequencePrimitive) (size places : ℕ) (e : SeqEscape) : Type 0 where
  pub size_is : e.size ≡ size
  pub places_are : e.places ≡ places
  pub content_within : e.content < 2 ^ size
  pub before : NoContent march p size places e.content
  pub passes : word_in march p size places e.content ≡ Some e.directions

pub record IsFirstPlaces (march : List MarchElement) (p : SequencePrimitive) (size : ℕ) (e : SeqEscape) : Type 0 where
  pub first : IsFirstContent march p size e.places e
  pub within : e.places < size ^ length p.states
  pub before : NoPlaces march p size e.places

pub record IsFirst (march : List MarchElement) (p : SequencePrimitive) (e : SeqEscape) : Type 0 where
  pub first : IsFirstPlaces march p e.size e
  pub some : 2 ≤ e.size
  pub few : e.size < length p.states + 3
  pub before : NoSize march p e.size
