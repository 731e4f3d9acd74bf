-- Trusted. Which links are one device: the same two primitives in either order.
use Rattle.std.specs.Prelude.{◌≡◌, ◌≢◌, ◌↔◌, ◌⊎◌, ◌++◌, ℕ, Bool, true, false, List, [], ◌∷◌}
use Rattle.fault_core.specs.declared.primitive.Act.{Act}
use Rattle.march_core.specs.March.{MarchElement}
use Rattle.linked_faults.specs.declared.link.Link.{Link}
use Rattle.linked_faults.specs.declared.link.LinkPlaces.{LinkPlaces}
use Rattle.linked_faults.specs.Linking.{linked_cells, linked_answer, linked_pause}
use Rattle.linked_faults.specs.Detection.{Detects}

-- the link with its two primitives exchanged
abbrev pub exchanged : Link → Link
exchanged link = record { first = link.second; second = link.first; is_shared = link.is_shared }

-- a link stands among these
abbrev pub StandsIn : List Link → Link → Type 0
StandsIn [] link = ⊥
StandsIn (x ∷ xs) link = (x ≡ link) ⊎ StandsIn xs link

-- the links of a list that no link before is with its two exchanged: each device once
abbrev pub AreOnce : List Link → List Link → List Link → Type 0
AreOnce before [] chosen = chosen ≡ []
AreOnce before (x ∷ xs) chosen =
    ((StandsIn before (exchanged x) → ⊥) × (rest : List Link) × AreOnce (before ++ x ∷ []) xs rest × (chosen ≡ x ∷ rest))
    ⊎ (StandsIn before (exchanged x) × AreOnce (before ++ x ∷ []) xs chosen)

unfoldable pub AreDevices : List Link → List Link → Type 0
AreDevices links devices = AreOnce [] links devices

-- ---- that both orders are one device

-- the cells of the exchanged link: each aggressor keeps its own
abbrev pub turned_by : Bool → LinkPlaces → LinkPlaces
turned_by true at = at
turned_by false at = record { a = at.b; b = at.a; v = at.v }

abbrev pub turned : Link → LinkPlaces → LinkPlaces
turned link at = turned_by link.is_shared at

-- at each act and each pause both leave the same cells, and answer the same; so a march detects both or neither
pub record AreOneDevice (link : Link) : Type 0 where
  pub cells : (at : LinkPlaces) (cells : List Bool) (x : ℕ) (act : Act) → at.a ≢ at.v → at.b ≢ at.v
      → linked_cells (exchanged link) (turned link at) cells x act ≡ linked_cells link at cells x act
  pub answers : (at : LinkPlaces) (cells : List Bool) (x : ℕ) (act : Act) → at.a ≢ at.v → at.b ≢ at.v
      → linked_answer (exchanged link) (turned link at) cells x act ≡ linked_answer link at cells x act
  pub pauses : (at : LinkPlaces) (cells : List Bool) → linked_pause (exchanged link) (turned link at) cells ≡ linked_pause link at cells
  pub verdicts : (march : List MarchElement) → Detects march (exchanged link) ↔ Detects march link
