-- Public. Whether two links are the same, as a test.
use Rattle.std.specs.Prelude.{Bool, true, false, ◌&&◌, Option, Some, None}
use Rattle.fault_core.specs.declared.primitive.Act.{Act}
use Rattle.fault_core.specs.declared.primitive.Sense.{Sense}
use Rattle.fault_core.specs.Primitive.{Primitive, same_bit}
use Rattle.fault_core.specs.Cells.{same_act}
use Rattle.linked_faults.specs.declared.link.Link.{Link}

abbrev pub same_answer : Option Bool → Option Bool → Bool
same_answer None None = true
same_answer None (Some b) = false
same_answer (Some a) None = false
same_answer (Some a) (Some b) = same_bit a b

abbrev pub same_acts : Option Act → Option Act → Bool
same_acts None None = true
same_acts None (Some b) = false
same_acts (Some a) None = false
same_acts (Some a) (Some b) = same_act a b

abbrev pub same_sense : Sense → Sense → Bool
same_sense a b = same_bit a.state b.state && same_acts a.act b.act

abbrev pub same_agg : Option Sense → Option Sense → Bool
same_agg None None = true
same_agg None (Some b) = false
same_agg (Some a) None = false
same_agg (Some a) (Some b) = same_sense a b

abbrev pub same_prim : Primitive → Primitive → Bool
same_prim p q = same_sense p.vic q.vic && (same_agg p.agg q.agg && (same_bit p.after q.after && same_answer p.answer q.answer))

unfoldable pub same_link : Link → Link → Bool
same_link l k = same_prim l.first k.first && (same_prim l.second k.second && same_bit l.is_shared k.is_shared)
