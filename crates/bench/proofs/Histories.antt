-- A joint run of a self-test is a history of it, so each cycle meets the rule of the ports.
use Rattle.std.proofs.Common.{◌≡◌, ◌≢◌, ◌↔◌, ◌⊎◌, ℕ, zero, suc, ◌+◌, ◌-◌, ◌*◌, ◌<◌, ◌≤◌, ◌^◌, ◌%◌, Bool, true, false, IsTrue, nat_eq, ◌&&◌, ◌||◌, if◌then◌else◌, List, [], ◌∷◌, length, Option, Some, None, is_some, slice_get, slice_index, refl, sym, ap, ap₂, ◌∙◌, subst, arith, lit<, codes, inl, inr}
use Rattle.std.proofs.lemmas.Bool.{cases_lt}
use Rattle.std.proofs.lemmas.Bool.Decides.{Decides-eqb, eqb_tells}
use Rattle.std.proofs.lemmas.Option.{slice_get_within, get_or_from_slice_get}
use Rattle.word_march.proofs.Words.{commands_fit}
use Rattle.std.proofs.Math.Nat.{one-le-pow, mod-lt, mod-eq_of_lt}
use Rattle.verilog_tree.specs.declared.tree.Dir.TheVariants.{Input}
use Rattle.verilog_tree.specs.Plain.{ModulePort, ModuleTree}
use Rattle.verilog_tree.specs.Names.{item_declarations}
use Rattle.verilog_tree.specs.Meaning.{Env, Settles, History, next}
use Rattle.march_core.specs.March.{MarchElement, IsMarch}
use Rattle.memory_desc.specs.Descriptions.{Description, IsMemory}
use Rattle.word_march.specs.declared.operations.PortOp.{PortOp}
use Rattle.word_march.specs.Commands.{port_ops, command_at, slots, span, cycle_count}
use Rattle.word_march.specs.PortRule.{PortValues, PortRule, SomeReadDiffers, cycle_of}
use Rattle.controller.specs.Standing.{Starts}
use Rattle.controller.proofs.Slots.{start}
use Rattle.self_test.specs.Ports.{ports, port_values}
use Rattle.self_test.specs.SelfTest.{SelfTest, AreInputs, EachMeets, reset_at}
use Rattle.self_test.specs.WrongPort.{has_port}
use Rattle.verilog_cycle.specs.Nets.{valued}
use Rattle.verilog_cycle.specs.Design.{names, registers_of}
use Rattle.word_device.specs.declared.device.Planted.{Planted}
use Rattle.word_device.specs.declared.device.PortCmd.{PortCmd}
use Rattle.word_device.specs.declared.shape.Shape.{Shape}
use Rattle.word_device.specs.Ports.{Chip, shape_of, chip_after, cycle_answer}
use Rattle.word_device.specs.Boxes.{Script, Tells, TellsChip, TellsScript, TellsNothing, IsTold, Answers, script_answer, script_after, after_cycle}
use Rattle.word_device.specs.Joint.{command_on, chip_at, Joined, returned_word}
use Rattle.word_device.specs.Runs.{IsRight, IsFirstWrong, AllRight, HasDetected, IsPlain, run_word}
use Rattle.word_device.proofs.Joint.{joint_fails, joint_passes, same_first}
use Rattle.word_device.proofs.Joining.{same_words}
use Rattle.bench.specs.declared.ending.Seen.{Seen}
use Rattle.bench.specs.Joint.{Between, Turn, Joint, at_first, word_in, ports_in, first_done}
use Rattle.bench.specs.Endings.{IsFirstRead, IsFirstSeen, Runs}
use Rattle.bench.specs.Laws.{done_at, EndsFailed, PlantedFails, EndsPassed, PlainPasses, IsWrongRead, EndsAsSeen, AnyBox, SeenAlone, script_word, SeenScript, IsSeenOf, EndsSelfTest}
use Rattle.bench.proofs.Inputs.{given_there}

same_number : (n : ℕ) → nat_eq n n ≡ true
same_number n = (Decides-eqb n n).1 refl

pub has_rdata : (mo : ModuleTree) (d : Description) → mo.ports ≡ ports d → has_port (record { dir = Input; name = codes "rdata"; width = d.bits }) mo.ports ≡ true
has_rdata mo d e =
    ap (has_port (record { dir = Input; name = codes "rdata"; width = d.bits })) e
    ∙ ap (λ t. t || has_port (record { dir = Input; name = codes "rdata"; width = d.bits }) (outputs_of (ports d))) (same_number d.bits)
  where
    outputs_of : List ModulePort → List ModulePort
    outputs_of (c ∷ r ∷ w ∷ ps) = ps
    outputs_of ps = []

module _ (mo : ModuleTree) (march : List MarchElement) (d : Description) (test : SelfTest mo march d) where
  -- the word on `rdata` is the one that stands between the cycles
  word_now : (t : ℕ) (e : Env) (s r : Between) → Turn mo d t e s r → e (codes "rdata") ≡ s.rdata
  word_now t e s r h =
      given_there s.registers h.inputs e (codes "rdata") d.bits mo.ports (item_declarations mo.items) refl (has_rdata mo d test.ports) h.settles.given
      ∙ h.rdata

  -- ---- the history

  record Told (t : ℕ) (es : List Env) (s : Between) : Type 0 where
    words : List ℕ
    inputs : List Env
    are_inputs : AreInputs t words inputs
    history : History mo s.registers inputs es
    same : (k : ℕ) → slice_index words k ≡ word_in es k

  history : (t : ℕ) (es : List Env) (s r : Between) → Joint mo d t es s r → Told t es s
  history t [] s r j = record { words = []; inputs = []; are_inputs = tt; history = tt; same = λ k. refl }
  history t (e ∷ es) s r j =
      let rest = history (suc t) es j.0 r j.2 in
      let turn = j.1 in
      record {
        words = s.rdata ∷ rest.words;
        inputs = turn.inputs ∷ rest.inputs;
        are_inputs = (turn.reset, turn.rdata, rest.are_inputs);
        history = (turn.settles, subst (λ (f : Env). History mo f rest.inputs es) (ap (λ (b : Between). b.registers) turn.left) rest.history);
        same = agree rest.words rest.same (word_now t e s j.0 turn);
      }
    where
      agree : (ws : List ℕ) → ((k : ℕ) → slice_index ws k ≡ word_in es k) → e (codes "rdata") ≡ s.rdata → (k : ℕ) → slice_index (s.rdata ∷ ws) k ≡ word_in (e ∷ es) k
      agree ws f h zero = sym h
      agree ws f h (suc k) = f k

pub there : (es : List Env) (t : ℕ) → t < length es → (e : Env) × (slice_get es t ≡ Some e) × (ports_in es t ≡ port_values e)
there [] t h = absurd (omega arith)
there (e ∷ es) zero h = (e, refl, refl)
there (e ∷ es) (suc t) h = there es t (omega arith)

-- the rule holds with other words that are the same
pub same_rule : (march : List MarchElement) (d : Description) (v w : ℕ → ℕ) (t : ℕ) (q : PortValues) → ((k : ℕ) → v k ≡ w k) → PortRule march d v t q → PortRule march d w t q
same_rule march d v w t q same r = record {
  reset = r.reset;
  commands = r.commands;
  idle = r.idle;
  done = r.done;
  fail = λ l. (λ h. moved v w same ((r.fail l).0 h), λ h. (r.fail l).1 (moved w v (λ k. sym (same k)) h));
}
  where
    moved : (v w : ℕ → ℕ) → ((k : ℕ) → v k ≡ w k) → SomeReadDiffers march d v t → SomeReadDiffers march d w t
    moved v w same s = record {
      number = s.number;
      command = s.command;
      is_command = s.is_command;
      is_read = s.is_read;
      before = s.before;
      differs = λ e. s.differs (same (cycle_of march d s.number + d.latency) ∙ e);
    }

module _ (mo : ModuleTree) (march : List MarchElement) (d : Description) (test : SelfTest mo march d) (registers now : List ℕ) (before after : Tells) (failed : Bool)
    (done_in : Option ℕ) (seen : Option Seen) (run : Runs mo march d registers now before after failed done_in seen) where
  last : ℕ
  last = span march d + 1 + d.latency

  in_run : (t : ℕ) → t ≤ done_at march d → t < length run.cycles
  in_run t h = let c = run.count in omega arith

  -- each cycle meets the rule
  rule : (t : ℕ) → t ≤ done_at march d → PortRule march d (word_in run.cycles) t (ports_in run.cycles t)
  rule t h =
      let told = history mo march d test 0 run.cycles (at_first (valued (names (registers_of mo)) registers) before) run.left run.joint in
      let e = there run.cycles t (in_run t h) in
      subst (λ (q : PortValues). PortRule march d (word_in run.cycles) t q) (sym e.2)
      (same_rule march d (slice_index told.words) (word_in run.cycles) t (port_values e.0) told.same
      (test.meets (valued (names (registers_of mo)) registers) told.words told.inputs run.cycles told.are_inputs told.history t e.0 e.1))

  -- ---- done in its time

  first_at : (k : ℕ) (es : List Env) (n : ℕ) → k ≤ n → n < k + length es
      → ((t : ℕ) → k + t ≤ n → IsTrue (ports_in es t).done ↔ (n ≤ k + t)) → first_done k es ≡ Some n
  first_at k [] n low high h = absurd (omega arith)
  first_at k (e ∷ es) n low high h = by (port_values e).done refl (λ m. first_at (suc k) es n m (omega arith) (λ t l. behind t l))
    where
      behind : (t : ℕ) → suc k + t ≤ n → IsTrue (ports_in es t).done ↔ (n ≤ suc k + t)
      behind t l =
          let r = h (suc t) (omega arith) in
          (λ d. (let z = r.0 d in omega arith), λ m. r.1 (omega arith))

      by : (b : Bool) → (port_values e).done ≡ b → (suc k ≤ n → first_done (suc k) es ≡ Some n) → (if (port_values e).done then Some k else first_done (suc k) es) ≡ Some n
      by true f rest =
          let now = (h 0 (omega arith)).0 f in
          ap (λ b. if b then Some k else first_done (suc k) es) f ∙ ap Some (let z : k ≡ n = omega arith in z)
      by false f rest = ap (λ b. if b then Some k else first_done (suc k) es) f ∙ rest (later (cases_lt k n))
        where
          later : (k < n) ⊎ (n ≤ k) → suc k ≤ n
          later (inl l) = l
          later (inr l) = let y = (h 0 (omega arith)).1 (omega arith) in absurd (let z : true ≡ false = sym y ∙ f in cc)

  done_is : done_in ≡ Some (done_at march d)
  done_is = run.shows.done ∙ first_at 0 run.cycles (done_at march d) (omega arith) (let z = in_run (done_at march d) (omega arith) in omega arith)
      (λ t l. let r = (rule t (omega arith)).done in (λ x. (let z = r.0 x in omega arith), λ x. r.1 (omega arith)))

  -- ---- the word that is seen

  read_before : (m : IsMarch march) (n : IsMemory d) (j : ℕ) (c : PortOp) → slice_get (port_ops march d) j ≡ Some c → cycle_of march d j + d.latency < done_at march d
  read_before m n j c e =
      let s = start march d m n in
      let within = slice_get_within (slots march d) (command_at march d j) (Some c) (s.stands j c e) in
      let count = s.count in
      omega arith

  same_end : failed ≡ (ports_in run.cycles (done_at march d)).fail
  same_end = run.shows.fail

  some_wrong : (m : IsMarch march) (n : IsMemory d) (j : ℕ) → IsFirstWrong march d (returned_word march d (word_in run.cycles)) j → failed ≡ true
  some_wrong m n j f =
      let r = rule (done_at march d) (omega arith) in
      same_end ∙ (r.fail (omega arith)).1 (record {
        number = j;
        command = f.wrong.command;
        is_command = f.wrong.is_command;
        is_read = f.wrong.is_read;
        before = read_before m n j f.wrong.command f.wrong.is_command;
        differs = f.wrong.differs;
      })

  none_wrong : AllRight march d (returned_word march d (word_in run.cycles)) → failed ≡ false
  none_wrong a = by failed refl
    where
      by : (b : Bool) → failed ≡ b → failed ≡ false
      by false e = e
      by true e =
          let r = rule (done_at march d) (omega arith) in
          let s = (r.fail (omega arith)).0 (sym same_end ∙ e) in
          absurd (s.differs (a s.number s.command s.is_command s.is_read))

  fails_as_seen : (m : IsMarch march) (n : IsMemory d) (o : Option Seen) → IsFirstSeen march d (word_in run.cycles) o → failed ≡ is_some o
  fails_as_seen m n None f = none_wrong f
  fails_as_seen m n (Some x) f = some_wrong m n f.0 f.2

  word_low : (t : ℕ) (es : List Env) (s r : Between) → s.rdata < 2 ^ d.bits → Joint mo d t es s r → (k : ℕ) → word_in es k < 2 ^ d.bits
  word_low t [] s r low j k = one-le-pow d.bits 2 (omega arith)
  word_low t (e ∷ es) s r low j zero = subst (λ w. w < 2 ^ d.bits) (sym (word_now mo march d test t e s j.0 j.1)) low
  word_low t (e ∷ es) s r low j (suc k) =
      word_low (suc t) es j.0 r
      (subst (λ w. w < 2 ^ d.bits) (sym (ap (λ (b : Between). b.rdata) j.1.left)) (mod-lt j.1.answer (one-le-pow d.bits 2 (omega arith)))) j.2 k

  wrong_read : (n : IsMemory d) (o : Option Seen) → IsFirstSeen march d (word_in run.cycles) o → IsWrongRead march d o
  wrong_read n None f = tt
  wrong_read n (Some x) f =
      let low = word_low 0 run.cycles (at_first (valued (names (registers_of mo)) registers) before) run.left (one-le-pow d.bits 2 (omega arith)) run.joint
      (cycle_of march d f.0 + d.latency) in
      let wrong = f.2.wrong in
      let same : wrong.command ≡ f.1 = same_command f.0 wrong.command f.1 wrong.is_command f.3 in (
        f.0,
        f.1,
        f.3,
        ap (λ c. c.write) (sym same) ∙ wrong.is_read,
        ap (λ (s : Seen). s.cycle) f.4,
        ap (λ (s : Seen). s.expected) f.4,
        subst (λ w. w < 2 ^ d.bits) (sym (ap (λ (s : Seen). s.expected) f.4)) (fits f.0 f.1 f.3),
        subst (λ w. w < 2 ^ d.bits) (sym (ap (λ (s : Seen). s.returned) f.4)) low,
        λ e. wrong.differs (sym (ap (λ (s : Seen). s.returned) f.4) ∙ e ∙ ap (λ (s : Seen). s.expected) f.4 ∙ ap (λ c. c.word) (sym same)),
      )
    where
      same_command : (j : ℕ) (c x : PortOp) → slice_get (port_ops march d) j ≡ Some c → slice_get (port_ops march d) j ≡ Some x → c ≡ x
      same_command j c x e f = let z : Some c ≡ Some x = sym e ∙ f in cc

      fits : (j : ℕ) (c : PortOp) → slice_get (port_ops march d) j ≡ Some c → c.word < 2 ^ d.bits
      fits j c e =
          subst (λ (o : PortOp). o.word < 2 ^ d.bits) (get_or_from_slice_get (port_ops march d) j c c e)
          (commands_fit march d n j c (slice_get_within (port_ops march d) j c e))

  ends_as_seen : IsMarch march → IsMemory d → EndsAsSeen march d failed done_in seen
  ends_as_seen m n = record { fail = fails_as_seen m n seen run.shows.first; done = done_is; read = wrong_read n seen run.shows.first }

pub any_box : (march : List MarchElement) (d : Description) → IsMarch march → IsMemory d → AnyBox march d
any_box march d m n mo registers now before after failed done_in seen test run = ends_as_seen mo march d test registers now before after failed done_in seen run m n

-- ---- beside a chip

chip_next : (shape : Shape) (chip : Chip) (q : ℕ → PortValues) (k : ℕ)
    → chip_at shape chip q (suc k) ≡ chip_at shape (chip_after shape chip (command_on (q 0))) (λ n. q (suc n)) k
chip_next shape chip q zero = refl
chip_next shape chip q (suc k) = ap (λ c. chip_after shape c (command_on (q (suc k)))) (chip_next shape chip q k)

module _ (mo : ModuleTree) (march : List MarchElement) (d : Description) (test : SelfTest mo march d) where
  -- the word of a cycle is what the chip answered in the cycle before
  answered : (t : ℕ) (es : List Env) (s r : Between) (chip : Chip) → s.box ≡ TellsChip chip → Joint mo d t es s r → (k : ℕ) → suc k < length es
      → word_in es (suc k) ≡ cycle_answer (shape_of d) (chip_at (shape_of d) chip (ports_in es) k) (command_on (ports_in es k)) % 2 ^ d.bits
  answered t [] s r chip b j k h = absurd (omega arith)
  answered t (e ∷ []) s r chip b j k h = absurd (omega arith)
  answered t (e ∷ f ∷ es) s r chip b j zero h =
      let G : Tells → Type 0 = λ x. Answers (Some (shape_of d)) (command_on (port_values e)) x j.1.answer in
      let is : j.1.answer ≡ cycle_answer (shape_of d) chip (command_on (port_values e)) = subst G b j.1.answers in
      word_now mo march d test (suc t) f j.0 j.2.0 j.2.1 ∙ ap (λ (x : Between). x.rdata) j.1.left ∙ ap (λ a. a % 2 ^ d.bits) is
  answered t (e ∷ f ∷ es) s r chip b j (suc k) h =
      let box : j.0.box ≡ TellsChip (chip_after (shape_of d) chip (command_on (port_values e))) =
      ap (λ (x : Between). x.box) j.1.left ∙ ap (after_cycle (Some (shape_of d)) (command_on (port_values e))) b in
      answered (suc t) (f ∷ es) j.0 r (chip_after (shape_of d) chip (command_on (port_values e))) box j.2 k (omega arith)
      ∙ ap (λ c. cycle_answer (shape_of d) c (command_on (ports_in (f ∷ es) k)) % 2 ^ d.bits) (sym (chip_next (shape_of d) chip (ports_in (e ∷ f ∷ es)) k))

joined : (mo : ModuleTree) (march : List MarchElement) (d : Description) (registers now : List ℕ) (chip : Chip) (after : Tells) (failed : Bool)
    (done_in : Option ℕ) (seen : Option Seen) → SelfTest mo march d → length chip.pending + 1 ≡ d.latency
    → (run : Runs mo march d registers now (TellsChip chip) after failed done_in seen) → Joined march d chip (ports_in run.cycles) (word_in run.cycles) (done_at march d)
joined mo march d registers now chip after failed done_in seen test way run = record {
  under_way = way;
  rule = rule mo march d test registers now (TellsChip chip) after failed done_in seen run;
  answer = λ t h. answered mo march d test 0 run.cycles (at_first (valued (names (registers_of mo)) registers) (TellsChip chip)) run.left chip refl run.joint t
      (let c = run.count in omega arith);
  late = omega arith;
}

pub planted : (march : List MarchElement) (d : Description) → IsMemory d → PlantedFails march d
planted march d m mo registers now chip i after failed done_in seen test way found run =
    let e = joint_fails march d m chip i (ports_in run.cycles) (word_in run.cycles) (done_at march d) found
    (joined mo march d registers now chip after failed done_in seen test way run) in
    record {
      fail = run.shows.fail ∙ e.fail;
      done = done_is mo march d test registers now (TellsChip chip) after failed done_in seen run;
    }

pub plain : (march : List MarchElement) (d : Description) → IsMarch march → IsMemory d → PlainPasses march d
plain march d n m mo registers now chip after failed done_in seen test way found run =
    let e = joint_passes march d n m chip (ports_in run.cycles) (word_in run.cycles) (done_at march d) found
    (joined mo march d registers now chip after failed done_in seen test way run) in
    let passes = run.shows.fail ∙ e.passes in
    record {
      passes = passes;
      done = done_is mo march d test registers now (TellsChip chip) after failed done_in seen run;
      none = nothing seen (sym (fails_as_seen mo march d test registers now (TellsChip chip) after failed done_in seen run n m seen run.shows.first) ∙ passes);
    }
  where
    nothing : (o : Option Seen) → is_some o ≡ false → o ≡ None
    nothing None h = refl
    nothing (Some x) h = cc

pub alone : (march : List MarchElement) (d : Description) → SeenAlone march d
alone march d mo registers now chip after failed done_in seen test way run = by seen run.shows.first
  where
    j : Joined march d chip (ports_in run.cycles) (word_in run.cycles) (done_at march d)
    j = joined mo march d registers now chip after failed done_in seen test way run

    same : (i : ℕ) (c : PortOp) → slice_get (port_ops march d) i ≡ Some c → returned_word march d (word_in run.cycles) i ≡ run_word march d chip i
    same i c e = same_words march d chip (ports_in run.cycles) (word_in run.cycles) (done_at march d) i j (slice_get_within (port_ops march d) i c e)

    by : (o : Option Seen) → IsFirstSeen march d (word_in run.cycles) o → IsFirstRead march d (run_word march d chip) o
    by None f = λ i c e r. sym (same i c e) ∙ f i c e r
    by (Some x) f = (
      f.0,
      f.1,
      (same_first march d chip (ports_in run.cycles) (word_in run.cycles) (done_at march d) f.0 j).0 f.2,
      f.3,
      f.4 ∙ ap (λ w. record { cycle = cycle_of march d f.0 + d.latency; expected = f.1.word; returned = w }) (same f.0 f.1 f.3),
    )

-- ---- beside a script

module _ (mo : ModuleTree) (march : List MarchElement) (d : Description) (test : SelfTest mo march d) where
  scripted : (t : ℕ) (es : List Env) (s r : Between) (script : Script) → s.box ≡ TellsScript script → script.count + length es < 2 ^ 64 → Joint mo d t es s r
      → (k : ℕ) → suc k < length es → word_in es (suc k) ≡ (script.base + script.step * (script.count + k)) % 2 ^ 64 % 2 ^ d.bits
  scripted t [] s r script b few j k h = absurd (omega arith)
  scripted t (e ∷ []) s r script b few j k h = absurd (omega arith)
  scripted t (e ∷ f ∷ es) s r script b few j zero h =
      let G : Tells → Type 0 = λ x. Answers (Some (shape_of d)) (command_on (port_values e)) x j.1.answer in
      let is : j.1.answer ≡ script_answer script = subst G b j.1.answers in
      let same : script.count ≡ script.count + 0 = omega arith in
      word_now mo march d test (suc t) f j.0 j.2.0 j.2.1 ∙ ap (λ (x : Between). x.rdata) j.1.left ∙ ap (λ a. a % 2 ^ d.bits) is
      ∙ ap (λ c. (script.base + script.step * c) % 2 ^ 64 % 2 ^ d.bits) same
  scripted t (e ∷ f ∷ es) s r script b few j (suc k) h =
      let next : Script = record { base = script.base; step = script.step; count = script.count + 1 } in
      let whole : script_after script ≡ next =
      ap (λ c. record { base = script.base; step = script.step; count = c }) (mod-eq_of_lt (let l : script.count + 1 < 2 ^ 64 = omega arith in l)) in
      let box : j.0.box ≡ TellsScript next =
      ap (λ (x : Between). x.box) j.1.left ∙ ap (after_cycle (Some (shape_of d)) (command_on (port_values e))) b ∙ ap TellsScript whole in
      let same : script.count + 1 + k ≡ script.count + suc k = omega arith in
      scripted (suc t) (f ∷ es) j.0 r next box (omega arith) j.2 k (omega arith)
      ∙ ap (λ c. (script.base + script.step * c) % 2 ^ 64 % 2 ^ d.bits) same

pub script : (march : List MarchElement) (d : Description) → IsMarch march → IsMemory d → span march d ≤ 167771648 → SeenScript march d
script march d m n few mo registers now told after failed done_in seen test new run = by seen run.shows.first
  where
    word_is : (i : ℕ) (c : PortOp) → slice_get (port_ops march d) i ≡ Some c → returned_word march d (word_in run.cycles) i ≡ script_word march d told i
    word_is i c e =
        let before = read_before mo march d test registers now (TellsScript told) after failed done_in seen run m n i c e in
        let count = run.count in
        let latency = n.latency_high in
        let big : 200000000 < 2 ^ 64 = lit< tt in
        let k = cycle_of march d i + d.latency - 1 in
        let at : cycle_of march d i + d.latency ≡ suc k = omega arith in
        let from : told.count + k ≡ k = omega (arith, new) in
        ap (word_in run.cycles) at
        ∙ scripted mo march d test 0 run.cycles (at_first (valued (names (registers_of mo)) registers) (TellsScript told)) run.left told refl (omega (arith, new)) run.joint k (omega arith)
        ∙ ap (λ c. (told.base + told.step * c) % 2 ^ 64 % 2 ^ d.bits) from

    by : (o : Option Seen) → IsFirstSeen march d (word_in run.cycles) o → IsFirstRead march d (script_word march d told) o
    by None f = λ i c e r. sym (word_is i c e) ∙ f i c e r
    by (Some x) f = (
      f.0,
      f.1,
      record {
        wrong = record {
          command = f.2.wrong.command;
          is_command = f.2.wrong.is_command;
          is_read = f.2.wrong.is_read;
          differs = λ z. f.2.wrong.differs (word_is f.0 f.2.wrong.command f.2.wrong.is_command ∙ z);
        };
        right_before = λ i l c e r. sym (word_is i c e) ∙ f.2.right_before i l c e r;
      },
      f.3,
      f.4 ∙ ap (λ w. record { cycle = cycle_of march d f.0 + d.latency; expected = f.1.word; returned = w }) (word_is f.0 f.1 f.3),
    )

-- ---- beside a box that tells

pub ends_test : (mo : ModuleTree) (march : List MarchElement) (d : Description) (registers now : List ℕ) (before after : Tells) (shape : Option Shape) (failed : Bool)
    (done_in : Option ℕ) (seen : Option Seen) → IsMarch march → IsMemory d → cycle_count march d ≤ 2000000 → shape ≡ Some (shape_of d) → IsTold shape before
    → Runs mo march d registers now before after failed done_in seen → SelfTest mo march d → EndsSelfTest march d before failed done_in seen
ends_test mo march d registers now before after shape failed done_in seen m n few fits told run test = record {
  ends = any_box march d m n mo registers now before after failed done_in seen test run;
  is_seen = by before (subst (λ (o : Option Shape). IsTold o before) fits told) run;
}
  where
    by : (tells : Tells) → IsTold (Some (shape_of d)) tells → Runs mo march d registers now tells after failed done_in seen → IsSeenOf march d tells seen
    by (TellsChip chip) is r = alone march d mo registers now chip after failed done_in seen test is.pending r
    by (TellsScript s) is r = λ new. script march d m n (omega arith) mo registers now s after failed done_in seen test new r
    by TellsNothing is r = tt
