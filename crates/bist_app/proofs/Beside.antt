-- A self-test fails beside each memory that answers some read of its march wrong, whatever is wrong with that memory.
use Rattle.bist_app.proofs.Common.{◌≡◌, true, List, Some, Description, IsMemory, IsPrimitive, MarchElement}
use Rattle.march_core.specs.March.{IsMarch}
use Rattle.fault_core.specs.Primitive.{Primitive}
use Rattle.array_sim.specs.Detection.{Detects}
use Rattle.dynamic_core.specs.Primitive.{DynamicPrimitive, IsDynamic}
use Rattle.dynamic_core.specs.Detecting.{DetectsDyn}
use Rattle.verilog_tree.specs.Plain.{ModuleTree}
use Rattle.verilog_tree.specs.Formed.{formed}
use Rattle.self_test.specs.SelfTest.{SelfTest}
use Rattle.word_device.specs.Memories.{words_with}
use Rattle.word_device.specs.Chips.{closed_words}
use Rattle.word_device.specs.Answers.{EachPlanted}
use Rattle.word_device.proofs.Wholes.{planted_wrong}
use Rattle.word_faults.specs.Linked.{linked}
use Rattle.word_faults.specs.Decoders.{decoded}
use Rattle.word_faults.specs.Dynamic.{dynamic, EachDynamic}
use Rattle.word_faults.specs.Laws.{BeginsAfresh, OfDetectedLinks, OfDetectedDecoders}
use Rattle.word_faults.proofs.Linked.{linked_wrong}
use Rattle.word_faults.proofs.Decoders.{decoder_wrong}
use Rattle.word_faults.proofs.Dynamic.{dynamic_wrong}
use Rattle.word_coupling.specs.Words.{in_word}
use Rattle.word_coupling.specs.Memories.{read_by, OfDetectedInWord}
use Rattle.word_coupling.proofs.Memories.{in_word_wrong}
use Rattle.bench.specs.Beside.{FailsBeside}
use Rattle.bench.proofs.Beside.{ends_failing}

module _ (mo : ModuleTree) (march : List MarchElement) (d : Description) (test : SelfTest mo march d) (forms : formed mo ≡ true) where
  pub planted_fails : IsMemory d → (p : Primitive) → IsPrimitive p → Detects march p → EachPlanted (FailsBeside mo march d) d p
  planted_fails is p prim detects m i has same fits =
      ends_failing (words_with (Some i)) mo march d test forms (record m { state = closed_words i m.state }) has.under_way
      (planted_wrong march d is p prim detects m i has same fits)

  pub dynamic_fails : IsMemory d → (p : DynamicPrimitive) → IsDynamic p → BeginsAfresh p march d → DetectsDyn march p → EachDynamic (FailsBeside mo march d) d p
  dynamic_fails is p dyn fresh detects m at has fits =
      ends_failing (dynamic p at) mo march d test forms m has.under_way (dynamic_wrong march d is p dyn fresh detects m at has fits)

  pub links_fail : IsMarch march → IsMemory d → OfDetectedLinks (FailsBeside mo march d) march d
  links_fail marches is link pair alone detects m at has fits =
      ends_failing (linked link at) mo march d test forms m has.under_way (linked_wrong march d marches is link pair alone detects m at has fits)

  pub decoders_fail : IsMarch march → IsMemory d → OfDetectedDecoders (FailsBeside mo march d) march d
  decoders_fail marches is fault detects m at decoder read has fits wrong reads =
      ends_failing (decoded decoder read) mo march d test forms m has.under_way (decoder_wrong march d marches is fault detects m at decoder read has fits wrong reads)

  pub in_word_fails : IsMemory d → OfDetectedInWord (FailsBeside mo march d) march d
  in_word_fails is p reading prim detects m word agg vic has bits =
      ends_failing (read_by reading (in_word p word agg vic)) mo march d test forms (record m { state = closed_words (in_word p word agg vic) m.state }) has.under_way
      (in_word_wrong march d is p reading prim detects m word agg vic has bits)
