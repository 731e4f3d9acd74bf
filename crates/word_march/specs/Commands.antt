-- Trusted. What a march does to the words of a memory, and to its port; where in the run each command stands.
use Rattle.std.specs.Prelude.{ℕ, zero, suc, ◌+◌, ◌*◌, List, [], ◌∷◌, Option, Some, None, map, length, replicate, filter_map, bit_xor}
use Rattle.std.specs.List.{flat_map}
use Rattle.march_core.specs.March.{MarchElement}
use Rattle.march_core.specs.Runs.{up, is_write, data_value}
use Rattle.march_core.specs.Visits.{Visit, MarchStep, pausing, visiting, visits}
use Rattle.scrambler.specs.Scrambling.{logical}
use Rattle.backgrounds.specs.Backgrounds.{word_of}
use Rattle.memory_desc.specs.Descriptions.{Description}
use Rattle.word_march.specs.declared.operations.WordOp.{WordOp}
use Rattle.word_march.specs.declared.operations.PortOp.{PortOp}

-- a visit, done to a whole word in a background
abbrev pub word_op : ℕ → ℕ → Visit → WordOp
word_op bits background v =
    record { write = is_write v.op; index = v.address; word = word_of background (data_value v.op) bits }

-- a step of the march in a background; none for a pause
abbrev pub word_step : ℕ → ℕ → MarchStep → Option WordOp
word_step bits background (pausing element) = None
word_step bits background (visiting v) = Some (word_op bits background v)

-- the march in one background
abbrev pub run_in : List MarchElement → Description → ℕ → List (Option WordOp)
run_in march d background = map (word_step d.bits background) (visits march (up march) d.words)

-- the march in each background, one after another
abbrev pub word_steps : List MarchElement → Description → List (Option WordOp)
word_steps march d = flat_map (run_in march d) d.backgrounds

-- the word operations: all steps but the pauses
abbrev pub word_ops : List MarchElement → Description → List WordOp
word_ops march d = filter_map (λ s. s) (word_steps march d)

-- a word operation at the port: at the logical address of its index, its word as the memory inverts it
abbrev pub port_op : Description → WordOp → PortOp
port_op d o = record { write = o.write; addr = logical d.scramble o.index; word = bit_xor o.word d.polarity }

-- the commands
abbrev pub port_ops : List MarchElement → Description → List PortOp
port_ops march d = map (port_op d) (word_ops march d)

-- how many commands there are
abbrev pub command_count : List MarchElement → Description → ℕ
command_count march d = length (port_ops march d)

-- how many pauses stand before operation j among these steps
abbrev pub pauses_before : {A : Type 0} → List (Option A) → ℕ → ℕ
pauses_before [] j = 0
pauses_before (None ∷ steps) j = suc (pauses_before steps j)
pauses_before (Some o ∷ steps) zero = 0
pauses_before (Some o ∷ steps) (suc j) = pauses_before steps j

-- how many pauses there are among these steps
abbrev pub pauses : {A : Type 0} → List (Option A) → ℕ
pauses [] = 0
pauses (None ∷ steps) = suc (pauses steps)
pauses (Some o ∷ steps) = pauses steps

-- how many cycles the run takes before command j
abbrev pub command_at : List MarchElement → Description → ℕ → ℕ
command_at march d j = j + d.pause * pauses_before (word_steps march d) j

-- how many cycles the run takes
abbrev pub span : List MarchElement → Description → ℕ
span march d = command_count march d + d.pause * pauses (word_steps march d)

-- the cycles of a self-test: the reset, those of the run, those in which the last answer comes, and one in which its comparison shows;
-- it is done in the last of them
abbrev pub cycle_count : List MarchElement → Description → ℕ
cycle_count march d = span march d + d.latency + 2

-- ---- the run, cycle by cycle

-- the cycles of a step: the cycles of a pause are idle
abbrev pub spread : Description → Option WordOp → List (Option PortOp)
spread d None = replicate d.pause None
spread d (Some o) = Some (port_op d o) ∷ []

-- what the port does in each cycle of the run
abbrev pub slots : List MarchElement → Description → List (Option PortOp)
slots march d = flat_map (spread d) (word_steps march d)
