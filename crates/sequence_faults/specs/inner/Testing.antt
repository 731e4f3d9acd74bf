-- Inner. Only helps proofs: the parts of a primitive by a test.
use Rattle.std.specs.Prelude.{Bool, true, false, not, ◌&&◌, ◌||◌, nat_eq, nat_lt, Option, Some, None, is_some, List, [], ◌∷◌, length}
use Rattle.fault_core.specs.declared.primitive.Act.{Act}
use Rattle.fault_core.specs.declared.primitive.Act.TheVariants.{Write, Read, Pause}
use Rattle.fault_core.specs.Primitive.{same_bit}
use Rattle.sequence_faults.specs.Primitive.{SequencePrimitive, victim_index, last_act, good_after}

abbrev pub is_access : Act → Bool
is_access (Write bit) = true
is_access Read = true
is_access Pause = false

abbrev pub are_accesses : List Act → Bool
are_accesses [] = true
are_accesses (act ∷ acts) = is_access act && are_accesses acts

abbrev pub is_empty : List Act → Bool
is_empty [] = true
is_empty (act ∷ acts) = false

abbrev pub is_read : Option Act → Bool
is_read (Some Read) = true
is_read other = false

abbrev pub answers : Option Bool → Bool → Bool
answers None bit = false
answers (Some own) bit = same_bit own bit

abbrev pub has_parts : SequencePrimitive → Bool
has_parts p = (not (nat_lt 3 (length p.states)) && nat_lt p.actor (length p.states)) && (not (is_empty p.acts) && are_accesses p.acts)

abbrev pub answers_well : SequencePrimitive → Bool
answers_well p = same_bit (is_some p.answer) (nat_eq p.actor (victim_index p) && is_read (last_act p.acts))

abbrev pub goes_wrong : SequencePrimitive → Bool
goes_wrong p = not (same_bit p.after (good_after p)) || answers p.answer (not (good_after p))

abbrev pub sequence_test : SequencePrimitive → Bool
sequence_test p = has_parts p && (answers_well p && goes_wrong p)
