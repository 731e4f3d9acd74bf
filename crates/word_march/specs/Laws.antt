-- Public. What follows from the definitions of commands and ports alone, and two small runs.
use Rattle.std.specs.Prelude.{◌≡◌, ℕ, ◌≤◌, true, false, IsTrue, List, [], ◌∷◌, map}
use Rattle.std.specs.List.{AllByRecursion}
use Rattle.march_core.specs.declared.operation.Order.TheVariants.{Up, Down, Any}
use Rattle.march_core.specs.declared.operation.Op.TheVariants.{W0, W1, R0, R1}
use Rattle.march_core.specs.March.{MarchElement, pause, sweep, is_pause}
use Rattle.scrambler.specs.Scrambling.{identity}
use Rattle.memory_desc.specs.Descriptions.{Description}
use Rattle.word_march.specs.Commands.{word_ops, port_ops, command_at, command_count, span}
use Rattle.word_march.specs.PortRule.{PortValues, PortRule, cycle_of}

-- ---- the ports

-- some ports meet the rule in each cycle, whatever words return
abbrev pub Met : Type 0
Met = (march : List MarchElement) (d : Description) (returned : ℕ → ℕ) (t : ℕ) → (q : PortValues) × PortRule march d returned t q

-- and no two of them command, are done or fail differently; where nothing is enabled or written, the rest is free
pub record Agree (q r : PortValues) : Type 0 where
  pub en : q.en ≡ r.en
  pub we : q.en ≡ true → q.we ≡ r.we
  pub addr : q.en ≡ true → q.addr ≡ r.addr
  pub wdata : q.en ≡ true → q.we ≡ true → q.wdata ≡ r.wdata
  pub done : q.done ≡ r.done
  pub fail : q.fail ≡ r.fail

abbrev pub Determined : Type 0
Determined = (march : List MarchElement) (d : Description) (returned : ℕ → ℕ) (t : ℕ) (q r : PortValues)
    → PortRule march d returned t q → PortRule march d returned t r → Agree q r

-- a failure stays
abbrev pub Lasting : Type 0
Lasting = (march : List MarchElement) (d : Description) (returned : ℕ → ℕ) (t u : ℕ) (q r : PortValues)
    → t ≤ u → PortRule march d returned t q → PortRule march d returned u r → IsTrue q.fail → IsTrue r.fail

-- ---- commands without a pause

-- each command stands right behind the one before it
pub record Unpaused (march : List MarchElement) (d : Description) : Type 0 where
  pub stands : (j : ℕ) → command_at march d j ≡ j
  pub count : span march d ≡ command_count march d

abbrev pub Unbroken : Type 0
Unbroken = (march : List MarchElement) (d : Description) → AllByRecursion (λ e. is_pause e ≡ false) march → Unpaused march d

-- ---- small runs

-- two words of one bit, which answer after one cycle
abbrev pub two_words : ℕ → ℕ → Description
two_words polarity idle =
    record { name = []; words = 2; bits = 1; latency = 1; polarity = polarity; pause = idle; scramble = identity 1; backgrounds = 0 ∷ [] }

abbrev pub one_write : List MarchElement
one_write = sweep Any (W0 ∷ []) ∷ []

abbrev pub with_pause : List MarchElement
with_pause = sweep Any (W0 ∷ []) ∷ pause ∷ sweep Any (R0 ∷ []) ∷ []

abbrev pub up_down : List MarchElement
up_down = sweep Up (W1 ∷ []) ∷ sweep Down (R1 ∷ []) ∷ []

pub record Examples : Type 0 where
  -- one write: commands in the cycles 1 and 2, done first in cycle 4
  pub writes_stand : map (cycle_of one_write (two_words 0 1)) (0 ∷ 1 ∷ []) ≡ 1 ∷ 2 ∷ []
  pub writes_span : span one_write (two_words 0 1) ≡ 2
  pub not_done : (q : PortValues) (returned : ℕ → ℕ) → PortRule one_write (two_words 0 1) returned 3 q → q.done ≡ false
  pub done : (q : PortValues) (returned : ℕ → ℕ) → PortRule one_write (two_words 0 1) returned 4 q → q.done ≡ true
  -- a pause of 5 cycles: commands in the cycles 1, 2, 8 and 9
  pub paused_stand : map (cycle_of with_pause (two_words 0 5)) (0 ∷ 1 ∷ 2 ∷ 3 ∷ []) ≡ 1 ∷ 2 ∷ 8 ∷ 9 ∷ []
  pub paused_span : span with_pause (two_words 0 5) ≡ 9
  -- a polarity inverts the words, and nothing else
  pub writes : map (λ o. o.write) (port_ops up_down (two_words 1 1)) ≡ true ∷ true ∷ false ∷ false ∷ []
  pub indices : map (λ o. o.index) (word_ops up_down (two_words 1 1)) ≡ 0 ∷ 1 ∷ 1 ∷ 0 ∷ []
  pub inverted : map (λ o. o.word) (port_ops up_down (two_words 1 1)) ≡ 0 ∷ 0 ∷ 0 ∷ 0 ∷ []
