-- The cycles of a march at the port are its operations and pauses on the words.
use Rattle.std.proofs.Common.{◌≡◌, ◌+◌, ◌<◌, ◌^◌, ◌%◌, ℕ, suc, Bool, true, false, Option, Some, None, List, [], ◌∷◌, ◌++◌, drop, map, All, refl, ap, sym, subst, ◌∙◌, arith}
use Rattle.std.specs.Prelude.{if◌then◌else◌, ◌&&◌, ◌||◌, slice_index, bit_xor}
use Rattle.std.specs.List.{flat_map}
use Rattle.std.proofs.Math.Nat.{mod-eq_of_lt}
use Rattle.std.proofs.lemmas.Nat.{pow_pos, xor_lt}
use Rattle.std.specs.Int.Bits.{xor_assoc, xor_self, xor_zero_r}
use Rattle.fault_core.specs.declared.primitive.Sense.{Sense}
use Rattle.march_core.specs.declared.operation.Op.{Op}
use Rattle.march_core.specs.March.{MarchElement, order_of, ops_of}
use Rattle.march_core.specs.Runs.{upward, data_value}
use Rattle.march_core.specs.Visits.{Visit, cell_visits, address_visits, addresses}
use Rattle.scrambler.specs.Linear.{dot}
use Rattle.scrambler.specs.Scrambling.{Scrambling, IsFull, IsInvertible, product, row, logical}
use Rattle.scrambler.proofs.LinearLemmas.{dot_below, number-below}
use Rattle.scrambler.proofs.ScramblingLemmas.{logical-below, logical_is}
use Rattle.pair_tracker.proofs.Sides.{AllBelow, addresses_below}
use Rattle.backgrounds.specs.Backgrounds.{word_of}
use Rattle.memory_desc.specs.Descriptions.{Description, IsMemory}
use Rattle.word_march.specs.declared.operations.WordOp.{WordOp}
use Rattle.word_march.specs.declared.operations.PortOp.{PortOp}
use Rattle.word_march.specs.Commands.{word_op, word_ops, port_op}
use Rattle.word_march.specs.Standing.{sweeps_from, run_ops}
use Rattle.word_march.proofs.Left.{runs_are}
use Rattle.word_march.proofs.Next.{index_fits}
use Rattle.word_device.specs.declared.device.BitPlace.{BitPlace}
use Rattle.word_device.specs.declared.device.Planted.{Planted}
use Rattle.word_device.specs.declared.device.PortCmd.{PortCmd}
use Rattle.word_device.specs.declared.shape.Shape.{Shape}
use Rattle.word_device.specs.Chips.{bits_hold, closed_words, with_bit_in, falls_on, falls_on_agg, matches, answered, words_after, reply_to}
use Rattle.word_device.specs.Ports.{Chip, shape_of, index_at, addressed, acted_at, shown, answer_at, queued, idle_more, rested, own_answer, chip_after, own_answers}
use Rattle.word_device.specs.Runs.{IsCommand, IsSlot, AreSlots, command_in}
use Rattle.word_device.proofs.Indexes.{index_found}

-- ---- two indexes have two addresses

pub product_below : (m : Scrambling) (k : ℕ) → product m k < 2 ^ m.width
product_below m k = number-below (λ i. dot (row m i) k) m.width (λ i _. dot_below (row m i) k)

pub product_from : (m : Scrambling) (k : ℕ) → m.constant < 2 ^ m.width → product m k ≡ bit_xor (logical m k) m.constant
product_from m k h =
    sym (xor_zero_r (product m k)) ∙ ap (bit_xor (product m k)) (sym (xor_self m.constant)) ∙ sym (xor_assoc (product m k) m.constant m.constant)
    ∙ ap (λ n. bit_xor n m.constant) (logical_is m k h)

pub one_index : (m : Scrambling) (j k : ℕ) → IsFull m → IsInvertible m → j < 2 ^ m.width → k < 2 ^ m.width → logical m j ≡ logical m k → j ≡ k
one_index m j k full invertible hj hk same =
    let e : product m j ≡ product m k =
    product_from m j full.constant_fits ∙ ap (λ n. bit_xor n m.constant) same ∙ sym (product_from m k full.constant_fits) in
    let only = invertible (product m k) (product_below m k) in
    only.3 j hj e ∙ sym (only.3 k hk refl)

-- ---- the operations of a march are within the memory

abbrev pub InMemory : ℕ → ℕ → List WordOp → Type 0
InMemory words bits [] = Unit {0}
InMemory words bits (o ∷ os) = (o.index < words) × (o.word < 2 ^ bits) × InMemory words bits os

in_on : (words bits : ℕ) (xs ys : List WordOp) → InMemory words bits xs → InMemory words bits ys → InMemory words bits (xs ++ ys)
in_on words bits [] ys hx hy = hy
in_on words bits (x ∷ xs) ys hx hy = (hx.0, hx.1, in_on words bits xs ys hx.2 hy)

abbrev VisitsIn : ℕ → List Visit → Type 0
VisitsIn n [] = Unit {0}
VisitsIn n (v ∷ vs) = (v.address < n) × VisitsIn n vs

visits_on : (n : ℕ) (xs ys : List Visit) → VisitsIn n xs → VisitsIn n ys → VisitsIn n (xs ++ ys)
visits_on n [] ys hx hy = hy
visits_on n (x ∷ xs) ys hx hy = (hx.0, visits_on n xs ys hx.1 hy)

cell_in : (n e x k : ℕ) (ops : List Op) → x < n → VisitsIn n (cell_visits e x k ops)
cell_in n e x k [] h = tt
cell_in n e x k (op ∷ ops) h = (h, cell_in n e x (k + 1) ops h)

element_in : (n e : ℕ) (ops : List Op) (xs : List ℕ) → AllBelow n xs → VisitsIn n (address_visits e ops xs)
element_in n e ops [] h = tt
element_in n e ops (x ∷ xs) h = visits_on n (cell_visits e x 0 ops) (address_visits e ops xs) (cell_in n e x 0 ops h.0) (element_in n e ops xs h.1)

sweeps_in : (n k : ℕ) (es : List MarchElement) → VisitsIn n (sweeps_from k es n)
sweeps_in n k [] = tt
sweeps_in n k (e ∷ es) =
    let xs : List ℕ = addresses (upward (order_of e)) n in
    visits_on n (address_visits k (ops_of e) xs) (sweeps_from (k + 1) es n) (element_in n k (ops_of e) xs (addresses_below (upward (order_of e)) n))
    (sweeps_in n (k + 1) es)

word_below : (bits b : ℕ) (v : Bool) → b < 2 ^ bits → word_of b v bits < 2 ^ bits
word_below bits b false h = h
word_below bits b true h = let some = pow_pos bits in omega arith

run_in_memory : (words bits b : ℕ) (vs : List Visit) → b < 2 ^ bits → VisitsIn words vs → InMemory words bits (map (word_op bits b) vs)
run_in_memory words bits b [] fits h = tt
run_in_memory words bits b (v ∷ vs) fits h = (h.0, word_below bits b (data_value v.op) fits, run_in_memory words bits b vs fits h.1)

runs_in_memory : (march : List MarchElement) (d : Description) (set : List ℕ) → All (λ b. b < 2 ^ d.bits) set
    → InMemory d.words d.bits (flat_map (run_ops march d) set)
runs_in_memory march d [] fit = tt
runs_in_memory march d (b ∷ bs) fit =
    in_on d.words d.bits (run_ops march d b) (flat_map (run_ops march d) bs)
    (run_in_memory d.words d.bits b (sweeps_from 0 march d.words) (fit 0 0 (omega arith)) (sweeps_in d.words 0 march))
    (runs_in_memory march d bs (λ k x l. fit (suc k) x (omega arith)))

pub march_in_memory : (march : List MarchElement) (d : Description) → IsMemory d → InMemory d.words d.bits (word_ops march d)
march_in_memory march d m =
    subst (λ (os : List WordOp). InMemory d.words d.bits os) (sym (runs_are march d)) (runs_in_memory march d d.backgrounds m.tested.fit)

-- ---- a command is its operation

-- of a read the word plays no part
abbrev pub op_of : Bool → ℕ → ℕ → WordOp
op_of w k a = record { write = w; index = k; word = a }

falls_same : (agg : Option Sense) (place : Option BitPlace) (k a b : ℕ) → falls_on_agg agg place (op_of false k a) ≡ falls_on_agg agg place (op_of false k b)
falls_same None place k a b = refl
falls_same (Some sense) None k a b = refl
falls_same (Some sense) (Some p) k a b = refl

pub matches_read : (i : Planted) (ws : List ℕ) (k a b : ℕ) → matches i ws (op_of false k a) ≡ matches i ws (op_of false k b)
unfolding matches
matches_read i ws k a b =
    ap (λ t. (falls_on i.prim.vic.act i.vic (op_of false k a) || t) && bits_hold i ws) (falls_same i.prim.agg i.agg k a b)

pub words_same : (i : Option Planted) (ws : List ℕ) (w : Bool) (k a b : ℕ) → (w ≡ true → a ≡ b)
    → words_after i ws (op_of w k a) ≡ words_after i ws (op_of w k b)
unfolding words_after
words_same i ws true k a b h = ap (λ x. words_after i ws (op_of true k x)) (h refl)
words_same None ws false k a b h = refl
words_same (Some i) ws false k a b h = ap (λ t. closed_words i (if t then with_bit_in ws i.vic i.prim.after else ws)) (matches_read i ws k a b)

pub reply_same : (i : Option Planted) (ws : List ℕ) (w : Bool) (k a b : ℕ) → (w ≡ true → a ≡ b) → reply_to i ws (op_of w k a) ≡ reply_to i ws (op_of w k b)
unfolding reply_to
reply_same i ws true k a b h = ap (λ x. reply_to i ws (op_of true k x)) (h refl)
reply_same None ws false k a b h = refl
reply_same (Some i) ws false k a b h =
    ap (λ t. if t then answered i.prim.answer i.vic (slice_index ws k) else slice_index ws k) (matches_read i ws k a b)

-- twice the polarity is none
pub twice : (w p : ℕ) → bit_xor (bit_xor w p) p ≡ w
twice w p = xor_assoc w p p ∙ ap (bit_xor w) (xor_self p) ∙ xor_zero_r w

-- the word of a command is that of its operation
finds : (d : Description) (k : ℕ) → IsMemory d → k < d.words → addressed (shape_of d) (logical d.scramble k) ≡ Some k
unfolding addressed
finds d k m inside =
    let s : Scrambling = d.scramble in
    let whole : logical s k % 2 ^ s.width ≡ logical s k = mod-eq_of_lt (logical-below s k) in
    ap (λ a. index_at s a d.words) whole
    ∙ index_found s d.words k inside (λ j l e. one_index s j k m.full m.invertible (index_fits d j m l) (index_fits d k m inside) e)

-- and so are the data of a write
abbrev data_of : Description → WordOp → ℕ
data_of d o = bit_xor ((if o.write then bit_xor o.word d.polarity else 0) % 2 ^ d.bits) d.polarity

data_kept : (d : Description) (o : WordOp) → IsMemory d → o.word < 2 ^ d.bits → o.write ≡ true → data_of d o ≡ o.word
data_kept d o m low write =
    ap (λ (b : Bool). bit_xor ((if b then bit_xor o.word d.polarity else 0) % 2 ^ d.bits) d.polarity) write
    ∙ ap (λ x. bit_xor x d.polarity) (mod-eq_of_lt (xor_lt d.bits o.word d.polarity low m.polarity)) ∙ twice o.word d.polarity

abbrev pub command_of : Description → WordOp → PortCmd
command_of d o = command_in (Some (port_op d o))

pub operation_acts : (d : Description) (o : WordOp) (i : Option Planted) (ws : List ℕ) → IsMemory d → o.index < d.words → o.word < 2 ^ d.bits
    → acted_at (shape_of d) i ws (command_of d o) (addressed (shape_of d) (logical d.scramble o.index)) ≡ words_after i ws o
operation_acts d o i ws m inside low =
    ap (acted_at (shape_of d) i ws (command_of d o)) (finds d o.index m inside)
    ∙ words_same i ws o.write o.index (data_of d o) o.word (data_kept d o m low)

pub operation_answers : (d : Description) (o : WordOp) (i : Option Planted) (ws : List ℕ) → IsMemory d → o.index < d.words → o.word < 2 ^ d.bits
    → answer_at (shape_of d) i ws (command_of d o) (addressed (shape_of d) (logical d.scramble o.index)) ≡ shown o.write d.polarity (reply_to i ws o)
operation_answers d o i ws m inside low =
    ap (answer_at (shape_of d) i ws (command_of d o)) (finds d o.index m inside)
    ∙ ap (shown o.write d.polarity) (reply_same i ws o.write o.index (data_of d o) o.word (data_kept d o m low))

-- ---- of a read the data at the port play no part, and of an idle cycle neither does the rest

-- the chip behind a cycle, by what the cycle makes of it
abbrev next_chip : Chip → List ℕ → ℕ → ℕ → Chip
next_chip chip words own idle = record { words = words; planted = chip.planted; pending = drop 1 (queued chip.pending own); idle = idle }

-- the words that a command writes, where it does
data_same : (shape : Shape) (o : PortOp) (cmd : PortCmd) → IsCommand o cmd → o.write ≡ true
    → bit_xor (cmd.wdata % 2 ^ shape.bits) shape.polarity ≡ bit_xor ((if o.write then o.word else 0) % 2 ^ shape.bits) shape.polarity
data_same shape o cmd is write =
    ap (λ x. bit_xor (x % 2 ^ shape.bits) shape.polarity) (is.word write ∙ sym (ap (λ (b : Bool). if b then o.word else 0) write))

acts_same : (shape : Shape) (i : Option Planted) (ws : List ℕ) (o : PortOp) (cmd : PortCmd) → IsCommand o cmd
    → acted_at shape i ws cmd (addressed shape cmd.addr) ≡ acted_at shape i ws (command_in (Some o)) (addressed shape o.addr)
acts_same shape i ws o cmd is = ap (λ a. acted_at shape i ws cmd (addressed shape a)) is.address ∙ go (addressed shape o.addr)
  where
    go : (at : Option ℕ) → acted_at shape i ws cmd at ≡ acted_at shape i ws (command_in (Some o)) at
    go None = refl
    go (Some k) =
        ap (λ w. words_after i ws (op_of w k (bit_xor (cmd.wdata % 2 ^ shape.bits) shape.polarity))) is.write
        ∙ words_same i ws o.write k _ _ (data_same shape o cmd is)

answers_same : (shape : Shape) (i : Option Planted) (ws : List ℕ) (o : PortOp) (cmd : PortCmd) → IsCommand o cmd
    → answer_at shape i ws cmd (addressed shape cmd.addr) ≡ answer_at shape i ws (command_in (Some o)) (addressed shape o.addr)
answers_same shape i ws o cmd is = ap (λ a. answer_at shape i ws cmd (addressed shape a)) is.address ∙ go (addressed shape o.addr)
  where
    go : (at : Option ℕ) → answer_at shape i ws cmd at ≡ answer_at shape i ws (command_in (Some o)) at
    go None = refl
    go (Some k) =
        ap (λ w. shown w shape.polarity (reply_to i ws (op_of w k (bit_xor (cmd.wdata % 2 ^ shape.bits) shape.polarity)))) is.write
        ∙ ap (shown o.write shape.polarity) (reply_same i ws o.write k _ _ (data_same shape o cmd is))

own_same : (shape : Shape) (chip : Chip) (s : Option PortOp) (cmd : PortCmd) → IsSlot s cmd → own_answer shape chip cmd ≡ own_answer shape chip (command_in s)
own_same shape chip None cmd off = ap (λ (b : Bool). if b then answer_at shape chip.planted chip.words cmd (addressed shape cmd.addr) else 0) off
own_same shape chip (Some o) cmd is =
    ap (λ (b : Bool). if b then answer_at shape chip.planted chip.words cmd (addressed shape cmd.addr) else 0) is.enabled
    ∙ answers_same shape chip.planted chip.words o cmd is

chip_same : (shape : Shape) (chip : Chip) (s : Option PortOp) (cmd : PortCmd) → IsSlot s cmd → chip_after shape chip cmd ≡ chip_after shape chip (command_in s)
chip_same shape chip None cmd off =
    let acted : List ℕ = acted_at shape chip.planted chip.words cmd (addressed shape cmd.addr) in
    let still : List ℕ = rested shape chip.planted chip.words chip.idle in
    ap (λ (b : Bool). next_chip chip (if b then acted else still) (own_answer shape chip cmd) (if b then 0 else idle_more shape chip.idle)) off
    ∙ ap (λ own. next_chip chip still own (idle_more shape chip.idle)) (own_same shape chip None cmd off)
chip_same shape chip (Some o) cmd is =
    let acted : List ℕ = acted_at shape chip.planted chip.words cmd (addressed shape cmd.addr) in
    let still : List ℕ = rested shape chip.planted chip.words chip.idle in
    ap (λ (b : Bool). next_chip chip (if b then acted else still) (own_answer shape chip cmd) (if b then 0 else idle_more shape chip.idle)) is.enabled
    ∙ ap (λ own. next_chip chip acted own 0) (own_same shape chip (Some o) cmd is)
    ∙ ap (λ ws. next_chip chip ws (own_answer shape chip (command_in (Some o))) 0) (acts_same shape chip.planted chip.words o cmd is)

-- so the answers are those to the cycles
pub answers_of_slots : (shape : Shape) (ss : List (Option PortOp)) (cmds : List PortCmd) → AreSlots ss cmds → (chip : Chip)
    → own_answers shape chip cmds ≡ own_answers shape chip (map command_in ss)
answers_of_slots shape [] [] are chip = refl
answers_of_slots shape [] (cmd ∷ cmds) are chip = absurd are
answers_of_slots shape (s ∷ ss) [] are chip = absurd are
answers_of_slots shape (s ∷ ss) (cmd ∷ cmds) are chip =
    ap (λ own. own ∷ own_answers shape (chip_after shape chip cmd) cmds) (own_same shape chip s cmd are.0)
    ∙ ap (λ c. own_answer shape chip (command_in s) ∷ own_answers shape c cmds) (chip_same shape chip s cmd are.0)
    ∙ ap (λ l. own_answer shape chip (command_in s) ∷ l) (answers_of_slots shape ss cmds are.1 (chip_after shape chip (command_in s)))
