-- Inner. For proofs and private contracts alone: two bits of one word as a machine: an operation on the word is one on both at once.
use Rattle.std.specs.Prelude.{ℕ, Bool, not, ◌&&◌, ◌||◌, if◌then◌else◌, Option, Some, None, is_some, unwrap_or, List, [], ◌∷◌}
use Rattle.fault_core.specs.declared.primitive.Act.{Act}
use Rattle.fault_core.specs.declared.primitive.Act.TheVariants.{Write, Read}
use Rattle.fault_core.specs.Primitive.{Primitive, same_bit}
use Rattle.fault_core.specs.Cells.{has_this_act}
use Rattle.cell_machine.specs.declared.pair.Pair.{Pair}
use Rattle.cell_machine.specs.Pairs.{pair_of, pair_holds, with_victim, pair_close, agg_act_of, pair_pause}
use Rattle.march_core.specs.declared.operation.Op.{Op}
use Rattle.march_core.specs.March.{MarchElement, pause, sweep}
use Rattle.march_core.specs.Runs.{is_write, data_value}
use Rattle.word_device.specs.Chips.{has_bit}
use Rattle.word_coupling.specs.declared.reading.Reading.{Reading}
use Rattle.word_coupling.specs.declared.reading.Reading.TheVariants.{Before, Behind}
use Rattle.word_coupling.specs.declared.couple.PairOp.{PairOp}

-- the two bits of a background
abbrev pub bits_at : ℕ → ℕ → ℕ → Pair
bits_at agg vic background = pair_of (has_bit background agg) (has_bit background vic)

-- the bit that stands for a data value where the background has this bit
abbrev pub value_in : Bool → Bool → Bool
value_in background value = not (same_bit value background)

-- an operation of the march in a background, at the two bits
abbrev pub pair_op : Pair → Op → PairOp
pair_op background op =
    record { write = is_write op; bits = pair_of (value_in background.a (data_value op)) (value_in background.v (data_value op)) }

-- what an operation does to a bit
abbrev pub act_with : Bool → Bool → Act
act_with write bit = if write then Write bit else Read

-- whether the operation is the act of the primitive, at either bit, on contents where its states hold
unfoldable pub couple_acts : Primitive → Pair → PairOp → Bool
couple_acts p pair o =
    (has_this_act p.vic.act (act_with o.write o.bits.v) || has_this_act (agg_act_of p.agg) (act_with o.write o.bits.a)) && pair_holds p pair

-- the plain part of an operation
abbrev pub plain_couple : Pair → PairOp → Pair
plain_couple pair o = if o.write then o.bits else pair

-- the two bits in which an operation finds the states: those before it; or those that its plain part leaves, where only the bit that the
-- act falls on is as before
unfoldable pub found_pair : Reading → Primitive → Pair → PairOp → Pair
found_pair Before p pair o = pair
found_pair Behind p pair o =
    if is_some p.vic.act then pair_of (plain_couple pair o).a pair.v else pair_of pair.a (plain_couple pair o).v

-- the two bits behind an operation: the plain part, the primitive's effect where the act is its own and the states are so found, and closing
unfoldable pub couple_after : Reading → Primitive → Pair → PairOp → Pair
couple_after r p pair o =
    pair_close p (if couple_acts p (found_pair r p pair o) o then with_victim (plain_couple pair o) p.after else plain_couple pair o)

-- what a read shows of the victim
unfoldable pub victim_reply : Primitive → Pair → PairOp → Bool
victim_reply p pair o = if couple_acts p pair o then unwrap_or p.answer pair.v else pair.v

-- whether the operation is a read that shows another bit of the victim than it expects
unfoldable pub is_misread : Primitive → Pair → PairOp → Bool
is_misread p pair o = not o.write && not (same_bit (victim_reply p pair o) o.bits.v)

-- ---- runs, which end where a read is wrong

-- the two bits behind an operation
abbrev pub run_op : Reading → Primitive → Pair → PairOp → Option Pair
run_op r p pair o = if is_misread p pair o then None else Some (couple_after r p pair o)

abbrev pub behind : Option Pair → (Pair → Option Pair) → Option Pair
behind None rest = None
behind (Some pair) rest = rest pair

-- the operations of an element
abbrev pub run_ops : Reading → Primitive → Pair → List Op → Pair → Option Pair
run_ops r p background [] pair = Some pair
run_ops r p background (op ∷ ops) pair = behind (run_op r p pair (pair_op background op)) (run_ops r p background ops)

abbrev pub run_element : Reading → Primitive → Pair → MarchElement → Pair → Option Pair
run_element r p background pause pair = Some (pair_pause p pair)
run_element r p background (sweep order ops) pair = run_ops r p background ops pair

-- the march in a background that has these two bits
abbrev pub run_march : Reading → Primitive → Pair → List MarchElement → Pair → Option Pair
run_march r p background [] pair = Some pair
run_march r p background (e ∷ es) pair = behind (run_element r p background e pair) (run_march r p background es)

-- the march in each background
abbrev pub run_test : Reading → Primitive → List MarchElement → ℕ → ℕ → List ℕ → Pair → Option Pair
run_test r p march agg vic [] pair = Some pair
run_test r p march agg vic (b ∷ bs) pair = behind (run_march r p (bits_at agg vic b) march pair) (run_test r p march agg vic bs)

-- whether the primitive passes the test at these two bits, from this content of theirs, which is closed first
unfoldable pub passes : Reading → Primitive → List MarchElement → List ℕ → ℕ → ℕ → Pair → Bool
passes r p march backgrounds agg vic content = is_some (run_test r p march agg vic backgrounds (pair_close p content))
