-- Inner. Only helps proofs: what the search for the least escape finds.
use Rattle.std.specs.Prelude.{◌≡◌, ◌<◌, ◌==◌, ℕ, Bool, true, false, if◌then◌else◌, Some, List, length}
use Rattle.fault_core.specs.Primitive.{has_aggressor}
use Rattle.march_core.specs.March.{MarchElement}
use Rattle.pair_tracker.specs.declared.search.DeadEnds.{DeadEnds}
use Rattle.pair_tracker.specs.Reached.{AreDeadEnds}
use Rattle.pair_tracker.specs.Survivors.{IsLeastOf}
use Rattle.pair_tracker.specs.Tracking.{any_end, GetsThrough}
use Rattle.linked_faults.specs.declared.link.Link.{Link}
use Rattle.linked_faults.specs.declared.link.LinkPlaces.{LinkPlaces}
use Rattle.linked_faults.specs.declared.three.Three.{Three}
use Rattle.linked_faults.specs.declared.escape.LinkEscape.{LinkEscape}
use Rattle.linked_faults.specs.Escapes.{three_number, has_other}
use Rattle.linked_faults.specs.inner.Threes.{machine_of, cells_in}

-- what is known to lead nowhere does
abbrev pub KnowsOf : List MarchElement → Link → LinkPlaces → DeadEnds → Type 0
KnowsOf march link at dead = AreDeadEnds three_number any_end (machine_of link at) cells_in march (length march) dead

-- no read differs in the directions of a word
abbrev pub LetsThrough : List MarchElement → Link → LinkPlaces → Three → ℕ → Type 0
LetsThrough march link at content word = GetsThrough (machine_of link at) cells_in march content word

-- the places of three cells in an array of three
abbrev pub link_places_at : ℕ → ℕ → ℕ → LinkPlaces
link_places_at a b v = record { a = a; b = b; v = v }

abbrev pub ordered_places : ℕ → LinkPlaces
ordered_places order =
    if order == 0 then link_places_at 0 1 2
    else if order == 1 then link_places_at 0 2 1
    else if order == 2 then link_places_at 1 0 2
    else if order == 3 then link_places_at 1 2 0
    else if order == 4 then link_places_at 2 0 1
    else link_places_at 2 1 0

-- the cells that take part in the places that are chosen for them
abbrev pub assigned_places : Bool → Bool → LinkPlaces → LinkPlaces
assigned_places true true s = s
assigned_places true false s = link_places_at s.a s.v s.b
assigned_places false true s = link_places_at s.v s.a s.b
assigned_places false false s = link_places_at s.b s.v s.a

-- the places of a link in their order
abbrev pub link_places_in : Link → ℕ → LinkPlaces
link_places_in link order = assigned_places (has_aggressor link.first) (has_other link) (ordered_places order)

-- no content before this one is let through
abbrev pub NoneBefore : List MarchElement → Link → ℕ → ℕ → Type 0
NoneBefore march link order number =
    (content : Three) → three_number content < number → (word : ℕ) → LetsThrough march link (link_places_in link order) content word → ⊥

-- no places before these let a content through
abbrev pub NoneIn : List MarchElement → Link → ℕ → Type 0
NoneIn march link order = (o : ℕ) → o < order → NoneBefore march link o 8

-- the array of the least content that is let through, with its least word
pub record IsLeastIn (march : List MarchElement) (link : Link) (order : ℕ) (e : LinkEscape) : Type 0 where
  pub link_is : e.link ≡ link
  pub spots : e.spots ≡ link_places_in link order
  pub before : NoneBefore march link order (three_number e.content)
  pub word : IsLeastOf (LetsThrough march link (link_places_in link order) e.content) (Some e.directions)

-- the least in the first places that let a content through
pub record IsFirstFound (march : List MarchElement) (link : Link) (e : LinkEscape) : Type 0 where
  pub order : ℕ
  pub within : order < 6
  pub none : NoneIn march link order
  pub least : IsLeastIn march link order e
