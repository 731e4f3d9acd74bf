-- A chip beside the memory of one of its units: from the start of its group on, its ports are those of a self-test beside that memory.
use Rattle.bist_app.proofs.Common.{◌≡◌, ◌<◌, ◌≤◌, ◌∙◌, sym, subst, ap, refl, arith, ℕ, Bool, true, false, List, [], ◌∷◌, length, Some, None, Description, IsMemory, TestUnit, lengths, test_length, shape_of}
use Rattle.std.specs.Prelude.{zero, suc, ◌+◌, ◌-◌, ◌^◌, ◌%◌, ◌==◌, if◌then◌else◌, Option, slice_get}
use Rattle.march_core.specs.March.{IsMarch}
use Rattle.word_march.specs.PortRule.{PortValues, PortRule}
use Rattle.word_device.specs.declared.shape.Shape.{Shape}
use Rattle.word_device.specs.Chips.{closed_words}
use Rattle.word_device.specs.Memories.{Behaviour, Memory, acted_at, cycle_answer, memory_after, words_with}
use Rattle.word_device.specs.Ports.{addressed, idle_more}
use Rattle.word_device.specs.Joint.{command_on}
use Rattle.word_device.specs.Answers.{HasWords, IsWhole, memory_at}
use Rattle.word_device.proofs.Joint.{joint_passes}
use Rattle.word_device.proofs.Attaching.{Attached, DiffersRested, from_any, way_at, wrong_at, wrong_fails}
use Rattle.word_device.proofs.Wholes.{planted_caught, whole_planted}
use Rattle.word_faults.specs.Linked.{linked}
use Rattle.word_faults.specs.Decoders.{decoded}
use Rattle.word_faults.specs.Dynamic.{HeldWords, dynamic}
use Rattle.word_faults.proofs.Linked.{linked_caught}
use Rattle.word_faults.proofs.Decoders.{decoder_caught}
use Rattle.word_faults.proofs.Dynamic.{dynamic_caught}
use Rattle.word_coupling.specs.Words.{in_word}
use Rattle.word_coupling.specs.Memories.{read_by}
use Rattle.word_coupling.proofs.Memories.{in_word_caught}
use Rattle.bench.proofs.Beside.{chip_of, joined_of}
use Rattle.chip_plan.specs.Groups.{start_of}
use Rattle.chip_rtl.specs.ChipTree.{ChipTree}
use Rattle.chip_rtl.specs.ChipLaws.{AllTested, memories}
use Rattle.chip_rtl.specs.Together.{IsChip, ChipCycle}
use Rattle.chip_rtl.specs.TopFits.{AllFit}
use Rattle.chip_rtl.specs.Tops.{top_ports}
use Rattle.chip_rtl.specs.ChipTest.{ChipTest, UnitMeets, unit_values, words_of}
use Rattle.fault_core.specs.Primitive.{IsPrimitive}
use Rattle.bist_app.proofs.ChipRuns.{chip_runs}
use Rattle.bist_app.specs.ChipBeside.{unit_ports, IsBeside, UnitEnds, UnitTests}

-- ---- a memory from a later cycle on

later : {S : Type 0} (b : Behaviour S) (shape : Shape) (m : Memory S) (q : ℕ → PortValues) (s k : ℕ)
    → memory_at b shape m q (s + k) ≡ memory_at b shape (memory_at b shape m q s) (λ j. q (s + j)) k
later b shape m q s zero = let e : s + 0 ≡ s = omega arith in ap (memory_at b shape m q) e
later b shape m q s (suc k) =
    let e : s + suc k ≡ suc (s + k) = omega arith in
    ap (memory_at b shape m q) e ∙ ap (λ x. memory_after b shape x (command_on (q (s + k)))) (later b shape m q s k)

-- a sound memory keeps its words where nothing is enabled
sound_still : (shape : Shape) (m : Memory (List ℕ)) (q : ℕ → PortValues) (s : ℕ) → ((t : ℕ) → t < s → (q t).en ≡ false) → (memory_at (words_with None) shape m q s).state ≡ m.state
sound_still shape m q zero off = refl
sound_still shape m q (suc s) off =
    let before : Memory (List ℕ) = memory_at (words_with None) shape m q s in
    go (q s).en (off s (omega arith)) (addressed shape (q s).addr) (idle_more shape before.idle == shape.pause) before.state
    ∙ sound_still shape m q s (λ t l. off t (omega arith))
  where
    go : (en : Bool) → en ≡ false → (at : Option ℕ) (t : Bool) (ws : List ℕ)
        → (if en then acted_at (words_with None) shape ws (command_on (q s)) at else (if t then ws else ws)) ≡ ws
    go true e at t ws = cc
    go false e at true ws = refl
    go false e at false ws = refl

-- ---- from the start of the group on

there : (i : ℕ) (cs : List ChipCycle) (t : ℕ) → t < length cs → (e : ChipCycle) × (slice_get cs t ≡ Some e) × (unit_ports i cs t ≡ unit_values i e)
there i [] t h = absurd (omega arith)
there i (e ∷ cs) zero h = (e, refl, refl)
there i (e ∷ cs) (suc t) h = there i cs t (omega arith)

module _ (c : ChipTree) (us : List TestUnit) (budget : ℕ) (groups : List ℕ) (test : ChipTest c us budget groups) (i : ℕ) (u : TestUnit) (g : ℕ) (is_unit : slice_get us i ≡ Some u)
    (is_group : slice_get groups i ≡ Some g) {S : Type 0} (b : Behaviour S) (m : Memory S) (cs : List ChipCycle) (run : IsBeside b c i u.memory m cs) where
  s : ℕ
  s = start_of groups (lengths us) g

  d : Description
  d = u.memory

  q : ℕ → PortValues
  q = unit_ports i cs

  meets : (t : ℕ) (e : ChipCycle) → slice_get cs t ≡ Some e → UnitMeets u i s (words_of run.inputs i) t e
  unfolding s
  meets t e is = (test.meets run.registers run.inputs cs run.reset run.history t e is).units i u g is_unit is_group

  idle : (t : ℕ) → t < length cs → t < s → (q t).en ≡ false
  unfolding q
  idle t h early =
      let e = there i cs t h in
      ap (λ (v : PortValues). v.en) e.2 ∙ ap (λ (n : ℕ). n == 1) ((meets t e.0 e.1).before (omega arith)).0

  rule : (k : ℕ) → s + k < length cs → PortRule u.march d (λ j. words_of run.inputs i (s + j)) k (q (s + k))
  unfolding q d
  rule k h =
      let e = there i cs (s + k) h in
      subst (λ (v : PortValues). PortRule u.march u.memory (λ j. words_of run.inputs i (s + j)) k v) (sym e.2) ((meets (s + k) e.0 e.1).from k refl)

  answer : (k : ℕ) → suc (s + k) < length cs → words_of run.inputs i (s + suc k)
      ≡ cycle_answer b (shape_of d) (memory_at b (shape_of d) (memory_at b (shape_of d) m q s) (λ j. q (s + j)) k) (command_on (q (s + k))) % 2 ^ d.bits
  unfolding q d
  answer k h =
      let e : s + suc k ≡ suc (s + k) = omega arith in
      ap (words_of run.inputs i) e ∙ run.answers (s + k) h
      ∙ ap (λ x. cycle_answer b (shape_of u.memory) x (command_on (unit_ports i cs (s + k))) % 2 ^ u.memory.bits) (later b (shape_of u.memory) m (unit_ports i cs) s k)

  attached : length m.pending + 1 ≡ d.latency → (last : ℕ) → test_length u ≤ last → s + last < length cs
      → Attached b u.march d (memory_at b (shape_of d) m q s) (λ j. q (s + j)) (λ j. words_of run.inputs i (s + j)) last
  unfolding d
  attached way last late h = record {
    under_way = ap (λ (n : ℕ). n + 1) (way_at b (shape_of u.memory) m q s) ∙ way;
    rule = λ k l. rule k (omega arith);
    answer = λ k l. answer k (omega arith);
    late = late;
  }

-- ---- the test of a unit

module _ (c : ChipTree) (us : List TestUnit) (budget : ℕ) (groups : List ℕ) (test : ChipTest c us budget groups) (i : ℕ) (u : TestUnit) (g : ℕ) (is_unit : slice_get us i ≡ Some u)
    (is_group : slice_get groups i ≡ Some g) (is : IsMarch u.march) (mem : IsMemory u.memory) (legal : IsChip c) (tested : AllTested c.units us) (fit : AllFit c.units)
    (ports : c.top.ports ≡ top_ports (memories us)) (few : length us ≤ 16) where
  abbrev start : ℕ
  start = start_of groups (lengths us) g

  passes_unit : (m : Memory (List ℕ)) → HasWords u.memory m → (cs : List ChipCycle) → IsBeside (words_with None) c i u.memory m cs
      → (t : ℕ) → start + test_length u ≤ t → t < length cs → (unit_ports i cs t).fail ≡ false
  unfolding s d q
  passes_unit m has cs run t late h =
      let last = t - start in
      let on : start + last ≡ t = omega arith in
      let off : (k : ℕ) → k < start → (unit_ports i cs k).en ≡ false =
      λ k l. idle c us budget groups test i u g is_unit is_group (words_with None) m cs run k (omega arith) l in
      let from : Memory (List ℕ) = memory_at (words_with None) (shape_of u.memory) m (unit_ports i cs) start in
      let ends = joint_passes u.march u.memory is mem (chip_of None from) (λ j. unit_ports i cs (start + j)) (λ j. words_of run.inputs i (start + j)) last
      (record { words = ap length (sound_still (shape_of u.memory) m (unit_ports i cs) start off) ∙ has.words; planted = refl })
      (joined_of None from u.march u.memory (λ j. unit_ports i cs (start + j)) (λ j. words_of run.inputs i (start + j)) last
      (attached c us budget groups test i u g is_unit is_group (words_with None) m cs run has.under_way last (omega arith) (omega arith))) in
      ap (λ k. (unit_ports i cs k).fail) (sym on) ∙ ends.passes

  -- a memory in which some reply of the march always differs
  fails_unit : {S : Type 0} (b : Behaviour S) (Good Rested : S → Type 0) → DiffersRested b Good Rested u.march u.memory → (m : Memory S) → Good m.state
      → length m.pending + 1 ≡ u.memory.latency → UnitEnds true b c i u start m
  unfolding s d q
  fails_unit b Good Rested caught m good way = record {
    runs = λ registers rdata others count starts low.
        chip_runs c us budget groups test legal tested fit ports few i u is_unit b m registers rdata others count starts low;
    ends = λ cs run t late h.
        let last = t - start in
        let on : start + last ≡ t = omega arith in
        let ends = wrong_fails b (memory_at b (shape_of u.memory) m (unit_ports i cs) start) (λ j. unit_ports i cs (start + j)) u.march u.memory (λ j. words_of run.inputs i (start + j)) last
        (attached c us budget groups test i u g is_unit is_group b m cs run way last (omega arith) (omega arith))
        (wrong_at b Good Rested u.march u.memory caught mem (unit_ports i cs) m start
        (λ k l. idle c us budget groups test i u g is_unit is_group b m cs run k (omega arith) l) good) in
        ap (λ k. (unit_ports i cs k).fail) (sym on) ∙ ends.fail;
  }

  abbrev Any : {S : Type 0} → S → Type 0
  Any s = Unit {0}

  abbrev HasSize : List ℕ → Type 0
  HasSize ws = length ws ≡ u.memory.words

  pub unit_tests : UnitTests c i u (start_of groups (lengths us) g)
  unit_tests = record {
    passes = λ m has. record {
      runs = λ registers rdata others count starts low.
          chip_runs c us budget groups test legal tested fit ports few i u is_unit (words_with None) m registers rdata others count starts low;
      ends = passes_unit m has;
    };
    fails = λ p prim detects m planted has same fits.
        let W : List ℕ → Type 0 = IsWhole u.memory (Some planted) in
        fails_unit (words_with (Some planted)) W Any
        (from_any (words_with (Some planted)) W u.march u.memory (planted_caught u.march u.memory mem p prim detects planted same fits)) (record m { state = closed_words planted m.state })
        (whole_planted u.memory planted m.state (subst IsPrimitive (sym same) prim) fits.word has.words) has.under_way;
    fails_dynamic = λ p dyn fresh detects m at has fits.
        fails_unit (dynamic p at) (λ h. length h.words ≡ u.memory.words) (λ (h : HeldWords). h.armed ≡ false)
        (dynamic_caught u.march u.memory mem p dyn fresh detects at fits) m has.words has.under_way;
    fails_linked = λ link pair alone detects m at has fits.
        fails_unit (linked link at) HasSize Any
        (from_any (linked link at) HasSize u.march u.memory (linked_caught u.march u.memory is mem link pair alone detects at fits)) m has.words has.under_way;
    fails_decoder = λ fault detects m at decoder read has fits wrong reads.
        fails_unit (decoded decoder read) HasSize Any
        (from_any (decoded decoder read) HasSize u.march u.memory (decoder_caught u.march u.memory is mem fault detects at decoder read fits wrong reads)) m has.words has.under_way;
    fails_in_word = λ p reading prim detects m word agg vic has bits.
        let W : List ℕ → Type 0 = IsWhole u.memory (Some (in_word p word agg vic)) in
        fails_unit (read_by reading (in_word p word agg vic)) W Any
        (from_any (read_by reading (in_word p word agg vic)) W u.march u.memory (in_word_caught u.march u.memory p reading prim detects word agg vic bits))
        (record m { state = closed_words (in_word p word agg vic) m.state })
        (whole_planted u.memory (in_word p word agg vic) m.state prim bits.word_within has.words) has.under_way;
  }
