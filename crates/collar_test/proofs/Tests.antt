-- A self-test behind its collar: in any history, whenever `test` rises, it catches what its march detects.
use Rattle.std.proofs.Common.{◌≡◌, false, Some, None, List, ◌++◌, refl, sym, subst, arith}
use Rattle.fault_core.specs.Primitive.{IsPrimitive}
use Rattle.march_core.specs.March.{MarchElement, IsMarch}
use Rattle.array_sim.specs.Detection.{Detects}
use Rattle.memory_desc.specs.Descriptions.{Description, IsMemory}
use Rattle.verilog_tree.specs.Plain.{ModuleTree}
use Rattle.dynamic_core.specs.Primitive.{DynamicPrimitive}
use Rattle.self_test.specs.SelfTest.{SelfTest}
use Rattle.word_device.specs.Joint.{EndsFailing}
use Rattle.word_device.specs.Answers.{IsWhole}
use Rattle.word_device.specs.Memories.{Behaviour, words_with}
use Rattle.word_faults.specs.Linked.{linked}
use Rattle.word_faults.specs.Decoders.{decoded}
use Rattle.word_faults.specs.Dynamic.{DynPlaces, dynamic}
use Rattle.word_device.proofs.Attaching.{AlwaysDiffers, DiffersRested}
use Rattle.word_faults.proofs.Linked.{linked_caught}
use Rattle.word_faults.proofs.Decoders.{decoder_caught}
use Rattle.word_faults.proofs.Dynamic.{dynamic_caught}
use Rattle.word_coupling.specs.Words.{in_word}
use Rattle.word_coupling.specs.Memories.{read_by}
use Rattle.word_coupling.proofs.Memories.{in_word_caught}
use Rattle.macro_pins.specs.Pins.{Pins}
use Rattle.collar_test.specs.CollarTest.{EndsBehind, EndsBehindRest, IsShort, HasSize, HasHeldSize, PassesBehind, CollarTests}
use Rattle.collar_test.proofs.Histories.{begins, first_cycles}
use Rattle.collar_test.proofs.Runs.{has_runs}
use Rattle.collar_test.proofs.Uses.{has_use, has_rest}
use Rattle.word_device.proofs.Wholes.{lawful_words, words_caught, words_right}
use Rattle.collar_test.proofs.Ends.{ends_failing, ends_sound, ends_still}

pub ends_caught : {S : Type 0} (b : Behaviour S) (Good : S → Type 0) (mo : ModuleTree) (march : List MarchElement) (d : Description) (p : Pins) → SelfTest mo march d → IsMemory d → IsShort p
    → AlwaysDiffers b Good march d → EndsBehind b Good mo march d p EndsFailing
ends_caught b Good mo march d p tests m short caught = record {
  runs = has_runs b Good caught.lawful mo march d p tests;
  uses = has_use b Good mo march d p tests;
  ends = λ name own pins h before cycles behind good some late run count rises c last.
      let from = begins b Good mo march d p name before (cycles ++ behind) own pins h good run in
      let many = from.as_many in
      let there = first_cycles b Good mo march d p name cycles behind from.own from.pins from.held from.run in
      ends_failing mo march d tests p name b Good caught.lawful m short from.own from.pins from.held (omega (arith, some)) (omega (arith, late)) c cycles there count rises last
      (λ s good. caught.differs s.state good);
}

pub ends_passing : (mo : ModuleTree) (march : List MarchElement) (d : Description) (p : Pins) → SelfTest mo march d → IsMarch march → IsMemory d → IsShort p → PassesBehind mo march d p
ends_passing mo march d p tests is m short = record {
  runs = has_runs (words_with None) (IsWhole d None) (lawful_words d None tt) mo march d p tests;
  uses = has_use (words_with None) (IsWhole d None) mo march d p tests;
  ends = λ name own pins h before cycles behind good some late run count rises c last.
      let from = begins (words_with None) (IsWhole d None) mo march d p name before (cycles ++ behind) own pins h good run in
      let many = from.as_many in
      let there = first_cycles (words_with None) (IsWhole d None) mo march d p name cycles behind from.own from.pins from.held from.run in
      ends_sound mo march d tests p name (words_with None) (IsWhole d None) (lawful_words d None tt) m short from.own from.pins from.held (omega (arith, some)) (omega (arith, late)) c cycles there count rises last
      (words_right march d is);
}

pub ends_unarmed : (mo : ModuleTree) (march : List MarchElement) (d : Description) (p : Pins) → SelfTest mo march d → IsMemory d → IsShort p → (prim : DynamicPrimitive) (at : DynPlaces)
    → DiffersRested (dynamic prim at) (HasHeldSize d) (λ h. h.armed ≡ false) march d → EndsBehindRest (dynamic prim at) (HasHeldSize d) mo march d p EndsFailing
ends_unarmed mo march d p tests m short prim at caught = record {
  runs = has_runs (dynamic prim at) (HasHeldSize d) caught.lawful mo march d p tests;
  uses = has_use (dynamic prim at) (HasHeldSize d) mo march d p tests;
  rests = has_rest (dynamic prim at) (HasHeldSize d) mo march d p tests;
  ends = λ name own pins h before cycles behind good some late run count rises none c last.
      let from = begins (dynamic prim at) (HasHeldSize d) mo march d p name before (cycles ++ behind) own pins h good run in
      let many = from.as_many in
      let there = first_cycles (dynamic prim at) (HasHeldSize d) mo march d p name cycles behind from.own from.pins from.held from.run in
      ends_still mo march d tests p name (dynamic prim at) (HasHeldSize d) caught.lawful m short from.own from.pins from.held (omega (arith, some)) (omega (arith, late)) c
      (λ s. s.armed ≡ false) (λ s. refl) (λ s. refl) cycles there count rises from.good none last
      (λ s calm. caught.differs s.state calm.0 calm.1);
}

pub collar_tests : CollarTests
collar_tests mo march d p tests is m short = record {
  passes = ends_passing mo march d p tests is m short;
  fails = λ prim primitive detects i same fits.
      ends_caught (words_with (Some i)) (IsWhole d (Some i)) mo march d p tests m short
      (words_caught march d m i (subst IsPrimitive (sym same) primitive) fits (let all : Detects march i.prim = subst (Detects march) (sym same) detects in all d.words m.words_low));
  fails_linked = λ link pair alone detected at places.
      ends_caught (linked link at) (HasSize d) mo march d p tests m short (linked_caught march d is m link pair alone detected at places);
  fails_decoder = λ fault detected at decoder read places has reads.
      ends_caught (decoded decoder read) (HasSize d) mo march d p tests m short (decoder_caught march d is m fault detected at decoder read places has reads);
  fails_dynamic = λ prim dyn fresh detected at places. ends_unarmed mo march d p tests m short prim at (dynamic_caught march d m prim dyn fresh detected at places);
  fails_in_word = λ prim reading primitive detects word agg vic bits.
      ends_caught (read_by reading (in_word prim word agg vic)) (IsWhole d (Some (in_word prim word agg vic))) mo march d p tests m short
      (in_word_caught march d prim reading primitive detects word agg vic bits);
}
