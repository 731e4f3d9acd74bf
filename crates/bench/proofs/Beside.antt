-- A self-test beside a memory, from any registers: that there is a run, and how each ends.
use Rattle.std.proofs.Common.{◌≡◌, ℕ, zero, suc, ◌+◌, ◌<◌, ◌^◌, ◌%◌, true, cond, List, [], ◌∷◌, ◌++◌, length, Option, Some, None, slice_index, refl, sym, ap, ◌∙◌, subst, arith, codes}
use Rattle.std.specs.Str.{bytes_eq}
use Rattle.std.proofs.Math.Nat.{one-le-pow, mod-lt}
use Rattle.march_core.specs.March.{MarchElement, IsMarch}
use Rattle.memory_desc.specs.Descriptions.{Description, IsMemory}
use Rattle.verilog_tree.specs.declared.names.Kind.{Kind}
use Rattle.verilog_tree.specs.declared.names.Kind.TheVariants as K
use Rattle.verilog_tree.specs.Plain.{ModuleItem, WireItem, RegItem, AssignItem, AlwaysItem, ModuleTree}
use Rattle.verilog_tree.specs.Formed.{formed}
use Rattle.verilog_tree.specs.Names.{Declaration, declarations, port_declarations, item_declarations, lookup, declared_width}
use Rattle.verilog_tree.specs.Meaning.{Env, History, settled_width, next}
use Rattle.verilog_tree.specs.Rules.{first_break}
use Rattle.verilog_tree.specs.Wires.{GivenWithin, AllWithin, Starts}
use Rattle.verilog_tree.proofs.Settling.{lawful_module}
use Rattle.verilog_open.proofs.Histories.{starts_at}
use Rattle.verilog_open.proofs.Within.{next_fits}
use Rattle.word_march.specs.Commands.{cycle_count}
use Rattle.word_march.specs.PortRule.{PortValues, PortRule}
use Rattle.self_test.specs.Ports.{port_values}
use Rattle.self_test.specs.SelfTest.{SelfTest, AreInputs, reset_at}
use Rattle.word_device.specs.declared.device.Planted.{Planted}
use Rattle.word_device.specs.declared.shape.Shape.{Shape}
use Rattle.word_device.specs.Ports.{Chip, shape_of, chip_after, cycle_answer as chip_answer}
use Rattle.word_device.specs.Joint.{command_on, chip_at, Joined}
use Rattle.word_device.specs.Memories.{Behaviour, Memory, cycle_answer, memory_after, words_with}
use Rattle.word_device.specs.Answers.{memory_at, AnswersWrong}
use Rattle.word_device.proofs.Joint.{joint_passes}
use Rattle.word_device.proofs.Attaching.{Attached, wrong_fails}
use Rattle.bench.specs.Joint.{word_in, ports_in}
use Rattle.bench.specs.Laws.{done_at}
use Rattle.bench.specs.Beside.{AreBeside, PassesBeside, FailsBeside}
use Rattle.bench.proofs.Histories.{there, same_rule, has_rdata}
use Rattle.bench.proofs.Inputs.{given_there}

-- the memory behind the first cycle
pub memory_next : {S : Type 0} (b : Behaviour S) (shape : Shape) (m : Memory S) (q : ℕ → PortValues) (k : ℕ)
    → memory_at b shape m q (suc k) ≡ memory_at b shape (memory_after b shape m (command_on (q 0))) (λ n. q (suc n)) k
memory_next b shape m q zero = refl
memory_next b shape m q (suc k) = ap (λ x. memory_after b shape x (command_on (q (suc k)))) (memory_next b shape m q k)

-- what a cycle leaves in the registers of a module fits
pub fits_next : (mo : ModuleTree) → formed mo ≡ true → first_break mo ≡ None → (e : Env) → ((n : List ℕ) → e n < 2 ^ settled_width mo n) → Starts mo (next mo e) (λ n. 0)
fits_next mo forms legal e within =
    starts_at (next mo e) (λ n. 0) (declarations mo.ports mo.items) [] (declarations mo.ports mo.items) (lawful_module mo forms legal).fresh refl
    (λ x q. by x q x.kind refl)
  where
    by : (x : Declaration) → lookup (declarations mo.ports mo.items) x.name ≡ Some x → (k : Kind) → x.kind ≡ k → GivenWithin (next mo e) (λ n. 0) k x.name x.width
    by x q K.Input i = λ c. one-le-pow x.width 2 (omega arith)
    by x q K.Wire i = tt
    by x q K.Register i = subst (λ (v : ℕ). next mo e x.name < 2 ^ v) (ap declared_width q) (next_fits mo forms legal e within x.name)

-- ---- there is a run

-- the inputs of a cycle: the reset in the first, and this word
abbrev inputs_with : ℕ → ℕ → Env
inputs_with t word n = cond (bytes_eq n (codes "reset")) (reset_at t) (cond (bytes_eq n (codes "rdata")) word 0)

pub items_within : (regs i j : Env) (is : List ModuleItem) → AllWithin regs i (item_declarations is) → AllWithin regs j (item_declarations is)
items_within regs i j [] h = tt
items_within regs i j (WireItem n k ∷ is) h = (tt, items_within regs i j is h.1)
items_within regs i j (RegItem n k ∷ is) h = (h.0, items_within regs i j is h.1)
items_within regs i j (AssignItem n x ∷ is) h = items_within regs i j is h
items_within regs i j (AlwaysItem c ss ∷ is) h = items_within regs i j is h

behind : (regs ins : Env) (ds es : List Declaration) → AllWithin regs ins (ds ++ es) → AllWithin regs ins es
behind regs ins [] es h = h
behind regs ins (d ∷ ds) es h = behind regs ins ds es h.1

reset_low : (t : ℕ) → reset_at t < 2 ^ 1
reset_low zero = omega arith
reset_low (suc t) = omega arith

module _ (mo : ModuleTree) (march : List MarchElement) (d : Description) (test : SelfTest mo march d) where
  -- inputs that fit beside registers that fit
  starts_with : (t word : ℕ) → word < 2 ^ d.bits → (registers : Env) → Starts mo registers (λ n. 0) → Starts mo registers (inputs_with t word)
  starts_with t word low registers fit =
      let items = items_within registers (λ n. 0) (inputs_with t word) mo.items
      (behind registers (λ n. 0) (port_declarations mo.ports) (item_declarations mo.items) fit) in
      let none : 0 < 2 ^ 1 = omega arith in
      subst (λ ps. AllWithin registers (inputs_with t word) (port_declarations ps ++ item_declarations mo.items)) (sym test.ports)
      (λ _. none, (λ _. reset_low t, (λ _. low, (tt, (tt, (tt, (tt, (tt, (tt, items)))))))))

  module _ {S : Type 0} (b : Behaviour S) where
    pub goes : formed mo ≡ true → (k t : ℕ) (registers : Env) (rdata : ℕ) (m : Memory S) → rdata < 2 ^ d.bits → Starts mo registers (λ n. 0)
        → (cycles : List Env) × (length cycles ≡ k) × AreBeside b mo d t registers rdata m cycles
    goes forms zero t registers rdata m low fit = ([], refl, tt)
    goes forms (suc k) t registers rdata m low fit =
        let one = test.settles registers (inputs_with t rdata) (starts_with t rdata low registers fit) in
        let answer = cycle_answer b (shape_of d) m (command_on (port_values one.env)) in
        let rest = goes forms k (suc t) (next mo one.env) (answer % 2 ^ d.bits) (memory_after b (shape_of d) m (command_on (port_values one.env)))
        (mod-lt answer (one-le-pow d.bits 2 (omega arith))) (fits_next mo forms test.legal one.env one.settles.within) in
        (one.env ∷ rest.0, ap suc rest.1, ((inputs_with t rdata, refl, refl, one.settles), rest.2))

    -- ---- it is a history

    -- the word on `rdata` is the one that stands there
    word_now : (t : ℕ) (registers : Env) (rdata : ℕ) (m : Memory S) (e : Env) (es : List Env) → AreBeside b mo d t registers rdata m (e ∷ es) → e (codes "rdata") ≡ rdata
    word_now t registers rdata m e es ((inputs, reset, word, settles), rest) =
        given_there registers inputs e (codes "rdata") d.bits mo.ports (item_declarations mo.items) refl (has_rdata mo d test.ports) settles.given ∙ word

    record Told (t : ℕ) (registers : Env) (es : List Env) : Type 0 where
      words : List ℕ
      inputs : List Env
      are_inputs : AreInputs t words inputs
      history : History mo registers inputs es
      same : (k : ℕ) → slice_index words k ≡ word_in es k

    told : (t : ℕ) (registers : Env) (rdata : ℕ) (m : Memory S) (es : List Env) → AreBeside b mo d t registers rdata m es → Told t registers es
    told t registers rdata m [] h = record { words = []; inputs = []; are_inputs = tt; history = tt; same = λ k. refl }
    told t registers rdata m (e ∷ es) h =
        let rest = told (suc t) (next mo e) (cycle_answer b (shape_of d) m (command_on (port_values e)) % 2 ^ d.bits)
        (memory_after b (shape_of d) m (command_on (port_values e))) es h.1 in
        record {
          words = rdata ∷ rest.words;
          inputs = h.0.0 ∷ rest.inputs;
          are_inputs = (h.0.1, h.0.2, rest.are_inputs);
          history = (h.0.3, rest.history);
          same = agree rest.words rest.same (word_now t registers rdata m e es h);
        }
      where
        agree : (ws : List ℕ) → ((k : ℕ) → slice_index ws k ≡ word_in es k) → e (codes "rdata") ≡ rdata → (k : ℕ) → slice_index (rdata ∷ ws) k ≡ word_in (e ∷ es) k
        agree ws f h zero = sym h
        agree ws f h (suc k) = f k

    -- each cycle meets the rule
    pub rule : (registers : Env) (rdata : ℕ) (m : Memory S) (es : List Env) → AreBeside b mo d 0 registers rdata m es → (t : ℕ) → t < length es
        → PortRule march d (word_in es) t (ports_in es t)
    rule registers rdata m es h t within =
        let history = told 0 registers rdata m es h in
        let e = there es t within in
        subst (λ (q : PortValues). PortRule march d (word_in es) t q) (sym e.2)
        (same_rule march d (slice_index history.words) (word_in es) t (port_values e.0) history.same
        (test.meets registers history.words history.inputs es history.are_inputs history.history t e.0 e.1))

    -- and the word of a cycle is what the memory answered in the cycle before
    pub answered : (t : ℕ) (registers : Env) (rdata : ℕ) (m : Memory S) (es : List Env) → AreBeside b mo d t registers rdata m es → (k : ℕ) → suc k < length es
        → word_in es (suc k) ≡ cycle_answer b (shape_of d) (memory_at b (shape_of d) m (ports_in es) k) (command_on (ports_in es k)) % 2 ^ d.bits
    answered t registers rdata m [] h k l = absurd (omega arith)
    answered t registers rdata m (e ∷ []) h k l = absurd (omega arith)
    answered t registers rdata m (e ∷ f ∷ es) h zero l =
        word_now (suc t) (next mo e) (cycle_answer b (shape_of d) m (command_on (port_values e)) % 2 ^ d.bits) (memory_after b (shape_of d) m (command_on (port_values e))) f es h.1
    answered t registers rdata m (e ∷ f ∷ es) h (suc k) l =
        answered (suc t) (next mo e) (cycle_answer b (shape_of d) m (command_on (port_values e)) % 2 ^ d.bits) (memory_after b (shape_of d) m (command_on (port_values e))) (f ∷ es) h.1 k (omega arith)
        ∙ ap (λ x. cycle_answer b (shape_of d) x (command_on (ports_in (f ∷ es) k)) % 2 ^ d.bits) (sym (memory_next b (shape_of d) m (ports_in (e ∷ f ∷ es)) k))

-- ---- beside any memory that answers some read wrong it fails

attached_to : {S : Type 0} (b : Behaviour S) (mo : ModuleTree) (march : List MarchElement) (d : Description) → SelfTest mo march d → (m : Memory S) → length m.pending + 1 ≡ d.latency
    → (registers : Env) (rdata : ℕ) (cycles : List Env) → length cycles ≡ cycle_count march d → AreBeside b mo d 0 registers rdata m cycles
    → Attached b march d m (ports_in cycles) (word_in cycles) (done_at march d)
attached_to b mo march d test m way registers rdata cycles count beside = record {
  under_way = way;
  rule = λ t h. rule mo march d test b registers rdata m cycles beside t (omega (arith, count));
  answer = λ t h. answered mo march d test b 0 registers rdata m cycles beside t (omega (arith, count));
  late = omega arith;
}

pub ends_failing : {S : Type 0} (b : Behaviour S) (mo : ModuleTree) (march : List MarchElement) (d : Description) → SelfTest mo march d → formed mo ≡ true → (m : Memory S)
    → length m.pending + 1 ≡ d.latency → AnswersWrong march d S b m → FailsBeside mo march d S b m
ends_failing b mo march d test forms m way wrong = record {
  runs = λ registers rdata fit low. goes mo march d test b forms (cycle_count march d) 0 registers rdata m low fit;
  ends = λ registers rdata cycles count beside.
      wrong_fails b m (ports_in cycles) march d (word_in cycles) (done_at march d) (attached_to b mo march d test m way registers rdata cycles count beside) wrong;
}

-- ---- beside a sound one it passes

abbrev pub chip_of : Option Planted → Memory (List ℕ) → Chip
chip_of p m = record { words = m.state; planted = p; pending = m.pending; idle = m.idle }

pub chip_as : (shape : Shape) (p : Option Planted) (m : Memory (List ℕ)) (q : ℕ → PortValues) (t : ℕ) → chip_at shape (chip_of p m) q t ≡ chip_of p (memory_at (words_with p) shape m q t)
chip_as shape p m q zero = refl
chip_as shape p m q (suc t) = ap (λ c. chip_after shape c (command_on (q t))) (chip_as shape p m q t)

pub joined_of : (p : Option Planted) (m : Memory (List ℕ)) (march : List MarchElement) (d : Description) (q : ℕ → PortValues) (returned : ℕ → ℕ) (last : ℕ)
    → Attached (words_with p) march d m q returned last → Joined march d (chip_of p m) q returned last
joined_of p m march d q returned last attached = record {
  under_way = attached.under_way;
  rule = attached.rule;
  answer = λ t h. attached.answer t h ∙ ap (λ c. chip_answer (shape_of d) c (command_on (q t)) % 2 ^ d.bits) (sym (chip_as (shape_of d) p m q t));
  late = attached.late;
}

pub passes_beside : (mo : ModuleTree) (march : List MarchElement) (d : Description) → SelfTest mo march d → formed mo ≡ true → IsMarch march → IsMemory d → PassesBeside mo march d
passes_beside mo march d test forms is m memory has = record {
  runs = λ registers rdata fit low. goes mo march d test (words_with None) forms (cycle_count march d) 0 registers rdata memory low fit;
  ends = λ registers rdata cycles count beside.
      joint_passes march d is m (chip_of None memory) (ports_in cycles) (word_in cycles) (done_at march d) (record { words = has.words; planted = refl })
      (joined_of None memory march d (ports_in cycles) (word_in cycles) (done_at march d)
      (attached_to (words_with None) mo march d test memory has.under_way registers rdata cycles count beside));
}
