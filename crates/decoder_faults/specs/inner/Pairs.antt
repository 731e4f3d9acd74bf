-- Inner. Only helps proofs: what a fault of the address decoder makes of its own two cells, x on side A and y on side V.
use Rattle.std.specs.Prelude.{Bool, Option, Some, None}
use Rattle.fault_core.specs.declared.primitive.Act.{Act}
use Rattle.fault_core.specs.declared.primitive.Act.TheVariants.{Write, Read}
use Rattle.cell_machine.specs.declared.pair.Pair.{Pair}
use Rattle.cell_machine.specs.declared.pair.Side.{Side}
use Rattle.cell_machine.specs.declared.pair.Side.TheVariants.{A, V}
use Rattle.cell_machine.specs.Pairs.{pair_of, bit_on, written_on}
use Rattle.pair_tracker.specs.Few.{Machine}
use Rattle.decoder_faults.specs.declared.fault.DecoderFault.{DecoderFault}
use Rattle.decoder_faults.specs.declared.fault.DecoderFault.TheVariants.{NoCell, OtherCell, BothCells, TakenCell}
use Rattle.decoder_faults.specs.declared.pair.SideReach.{SideReach}
use Rattle.decoder_faults.specs.declared.pair.SideReach.TheVariants.{Neither, One, Both}
use Rattle.decoder_faults.specs.Decoding.{wired_bit}

-- which of the two cells an address of the two reaches
abbrev pub side_reach : DecoderFault → Side → SideReach
side_reach (NoCell answer) A = Neither answer
side_reach OtherCell A = One V
side_reach (BothCells wired) A = Both A wired
side_reach (TakenCell answer wired) A = Neither answer
side_reach (TakenCell answer wired) V = Both V wired
side_reach fault V = One V

abbrev pub pair_written : SideReach → Pair → Bool → Pair
pair_written (Neither answer) q bit = q
pair_written (One s) q bit = written_on q s bit
pair_written (Both own wired) q bit = pair_of bit bit

abbrev pub pair_read : SideReach → Pair → Bool
pair_read (Neither answer) q = answer
pair_read (One s) q = bit_on q s
pair_read (Both A wired) q = wired_bit wired q.a q.v
pair_read (Both V wired) q = wired_bit wired q.v q.a

abbrev pub pair_act : SideReach → Pair → Act → Pair
pair_act reach q (Write bit) = pair_written reach q bit
pair_act reach q other = q

abbrev pub pair_reply : SideReach → Pair → Act → Option Bool
pair_reply reach q Read = Some (pair_read reach q)
pair_reply reach q other = None

abbrev pub machine_of : DecoderFault → Machine Pair Side
machine_of fault = record {
  step = λ q on act. pair_act (side_reach fault on) q act;
  answer = λ q on act. pair_reply (side_reach fault on) q act;
  other = λ q. q;
  pause = λ q. q;
}
