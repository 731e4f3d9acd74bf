-- Public. Where a controller stands in a cycle of the run, and what it has seen.
use Rattle.std.specs.Prelude.{◌≡◌, ◌≢◌, ℕ, suc, ◌+◌, ◌<◌, ◌≤◌, Bool, true, false, if◌then◌else◌, List, [], ◌∷◌, Option, Some, slice_get, drop, length, filter_map}
use Rattle.word_march.specs.declared.operations.PortOp.{PortOp}
use Rattle.march_core.specs.March.{MarchElement, IsMarch}
use Rattle.memory_desc.specs.Descriptions.{Description, IsMemory}
use Rattle.word_march.specs.Commands.{slots, port_ops, command_at, span}
use Rattle.microcode.specs.Places.{Place, first_place}
use Rattle.controller.specs.Places.{IsPlace, rest, word_at, Turns}
use Rattle.controller.specs.declared.stage.Stage.{Stage}
use Rattle.controller.specs.Machine.{Control, control_after, outputs}
use Rattle.word_march.specs.PortRule.{PortRule}

-- a read in a slot
pub record IsRead (slots : List (Option PortOp)) (k : ℕ) (c : PortOp) : Type 0 where
  pub there : slice_get slots k ≡ Some (Some c)
  pub reads : c.write ≡ false

-- what cycle t keeps of the cycle that lies `age` cycles back, in which slot t-age-1 stood
pub record IsAged (slots : List (Option PortOp)) (t age : ℕ) (reads over : Bool) (word : ℕ) : Type 0 where
  pub read : reads ≡ true → (k : ℕ) × (c : PortOp) × (1 + k + age ≡ t) × IsRead slots k c × (word ≡ c.word)
  pub found : (k : ℕ) (c : PortOp) → 1 + k + age ≡ t → IsRead slots k c → reads ≡ true
  pub late : over ≡ true → length slots + 1 + age ≤ t
  pub early : over ≡ false → t < length slots + 1 + age

abbrev pub IsStage : Description → List (Option PortOp) → ℕ → ℕ → Stage → Type 0
IsStage d slots t age s = IsAged slots t age s.reads s.over (word_at d s.back s.value)

abbrev pub AreStages : Description → List (Option PortOp) → ℕ → ℕ → List Stage → Type 0
AreStages d slots t age [] = Unit {0}
AreStages d slots t age (s ∷ ss) = IsStage d slots t age s × AreStages d slots t (age + 1) ss

-- some read before cycle t was answered by another word
pub record Missed (slots : List (Option PortOp)) (latency : ℕ) (returned : ℕ → ℕ) (t : ℕ) : Type 0 where
  pub slot : ℕ
  pub command : PortOp
  pub is_read : IsRead slots slot command
  pub before : 1 + slot + latency < t
  pub differs : returned (1 + slot + latency) ≢ command.word

-- the controller of cycle k+1
pub record Stands (march : List MarchElement) (d : Description) (returned : ℕ → ℕ) (k : ℕ) (c : Control) : Type 0 where
  pub place : IsPlace march d c.place
  pub left : (if c.run then rest march d c.place else []) ≡ drop k (slots march d)
  pub count : length c.stages + 1 ≡ d.latency
  pub stages : AreStages d (slots march d) (suc k) 1 c.stages
  pub last : IsAged (slots march d) (suc k) d.latency c.reads c.over c.want
  pub failed : c.bad ≡ true → Missed (slots march d) d.latency returned (suc k)
  pub passed : c.bad ≡ false → Missed (slots march d) d.latency returned (suc k) → ⊥

-- ---- the statements

abbrev pub Successor : Type 0
Successor = (march : List MarchElement) (d : Description) (p : Place) → IsMarch march → IsMemory d → IsPlace march d p → Turns march d p

-- the slots are what is left at the first place, and the commands stand among them where they should
pub record Starts (march : List MarchElement) (d : Description) : Type 0 where
  pub place : IsPlace march d first_place
  pub first : rest march d first_place ≡ slots march d
  pub commands : filter_map (λ s. s) (slots march d) ≡ port_ops march d
  pub stands : (j : ℕ) (c : PortOp) → slice_get (port_ops march d) j ≡ Some c
      → slice_get (slots march d) (command_at march d j) ≡ Some (Some c)
  pub only : (k : ℕ) (c : PortOp) → slice_get (slots march d) k ≡ Some (Some c)
      → (j : ℕ) × (slice_get (port_ops march d) j ≡ Some c) × (k ≡ command_at march d j)
  pub count : length (slots march d) ≡ span march d

abbrev pub Start : Type 0
Start = (march : List MarchElement) (d : Description) → IsMarch march → IsMemory d → Starts march d

-- ports that meet the rule in each cycle, whatever words return
abbrev pub Controlled : Type 0
Controlled = (march : List MarchElement) (d : Description) (returned : ℕ → ℕ) → IsMarch march → IsMemory d
    → (k : ℕ) → PortRule march d returned (suc k) (outputs march d (control_after march d returned k))
