-- One cycle of a module and a box.
use Rattle.std.proofs.Common.{◌≡◌, ◌≢◌, ℕ, zero, suc, ◌+◌, ◌-◌, ◌<◌, ◌≤◌, ◌^◌, ◌%◌, ◌==◌, Bool, true, false, if◌then◌else◌, List, [], ◌∷◌, map, length, Option, Some, refl, sym, ap, ap₂, ◌∙◌, subst, arith, codes, inl, inr}
use Rattle.std.proofs.Math.Pow.{pow_mono}
use Rattle.std.proofs.lemmas.Bool.Decides.{eqb_tells}
use Rattle.verilog_tree.specs.Plain.{ModuleTree}
use Rattle.verilog_tree.specs.Names.{item_declarations, declarations, width_of}
use Rattle.verilog_tree.specs.Meaning.{Env, names_widths, settled_width, next}
use Rattle.memory_desc.specs.Descriptions.{Description, IsMemory}
use Rattle.self_test.specs.Ports.{port_values}
use Rattle.self_test.specs.SelfTest.{reset_at}
use Rattle.self_test.specs.WrongPort.{ArePorts}
use Rattle.verilog_cycle.specs.Nets.{valued}
use Rattle.verilog_cycle.specs.Design.{names, registers_of, inputs_of, Cycle}
use Rattle.word_device.specs.declared.device.PortCmd.{PortCmd}
use Rattle.word_device.specs.Ports.{shape_of}
use Rattle.word_device.specs.declared.shape.Shape.{Shape}
use Rattle.word_device.specs.Boxes.{Tells, Told, after_cycle, Answers}
use Rattle.bench.specs.declared.cycle.Outputs.{Outputs}
use Rattle.word_device.specs.Joint.{command_on}
use Rattle.self_test.specs.declared.pins.Pins.{Pins}
use Rattle.self_test.specs.Pins.{ArePins}
use Rattle.bench.specs.inner.Cycles.{input_values, outputs_at, Turned}
use Rattle.bench.proofs.Inputs.{given, given_there, bit_of, AreGiven}
use Rattle.bench.proofs.Outputs.{shown, width_there}

-- an address is narrow
narrow : (d : Description) (mo : ModuleTree) (n : ℕ) → IsMemory d → ArePorts d mo.ports → n < 2 ^ settled_width mo (codes "addr") → n < 2 ^ 32
narrow d mo n m a h =
    let low = m.words_low in
    let high = m.words_high in
    let w : d.scramble.width ≤ 16 = m.address.least 16 (omega arith) (let h : d.words - 1 < 65536 = omega arith in h) in
    let is : settled_width mo (codes "addr") ≡ d.scramble.width =
    width_there (codes "addr") d.scramble.width mo.ports (item_declarations mo.items) a.once a.each.1.1.1.1.1.0 in
    let at : n < 2 ^ d.scramble.width = subst (λ k. n < 2 ^ k) is h in
    let wide : 2 ^ d.scramble.width ≤ 2 ^ 16 = pow_mono w in
    omega arith

bit_is : (t : ℕ) → bit_of (t == 0) ≡ reset_at t
bit_is zero = refl
bit_is (suc t) = elim (eqb_tells (suc t) 0) [ inl r ↦ (let z = r.1 in absurd (omega arith)) | inr r ↦ ap bit_of r.0 ]

pub turned : (mo : ModuleTree) (d : Description) (t : ℕ) (registers after outs : List ℕ) (pins : Pins) (rdata answer : ℕ) (box : Tells)
    → IsMemory d → ArePorts d mo.ports → ArePins mo.ports pins → rdata < 2 ^ d.bits
    → Cycle mo registers (input_values pins.reset_first (t == 0) rdata) outs after
    → Answers (Some (shape_of d)) (outputs_at outs pins).cmd box answer
    → Turned mo d t registers after rdata (answer % 2 ^ d.bits) box (after_cycle (Some (shape_of d)) (outputs_at outs pins).cmd box)
    (outputs_at outs pins).done (outputs_at outs pins).fail
turned mo d t registers after outs pins rdata answer box m a s low c answers =
    let e = c.one.env in
    let values = input_values pins.reset_first (t == 0) rdata in
    let g = given d mo pins.reset_first (t == 0) rdata a s.reset_first low in
    let out = shown d mo pins e outs a s (narrow d mo (e (codes "addr")) m a (c.one.settles.within (codes "addr"))) c.shown in
    record {
      env = e;
      turn = record {
        inputs = valued (names (inputs_of mo)) values;
        reset = g.resets ∙ bit_is t;
        rdata = g.reads;
        settles = c.one.settles;
        answer = answer;
        answers = subst (λ (x : PortCmd). Answers (Some (shape_of d)) x box answer) out.cmd answers;
        left = ap (λ (x : PortCmd). record { registers = next mo e; rdata = answer % 2 ^ d.bits; box = after_cycle (Some (shape_of d)) x box }) out.cmd;
      };
      registers = c.left;
      word = given_there (valued (names (registers_of mo)) registers) (valued (names (inputs_of mo)) values) e (codes "rdata") d.bits mo.ports
          (item_declarations mo.items) refl a.each.1.1.0 c.one.settles.given ∙ g.reads;
      done = out.done;
      fail = out.fail;
    }

-- the same of what the calls answer
pub turn_is : (mo : ModuleTree) (d : Description) (t : ℕ) (registers after : List ℕ) (pins : Pins) (rdata answer word : ℕ) (out : Outputs) (box left : Told)
    → IsMemory d → ArePorts d mo.ports → ArePins mo.ports pins → rdata < 2 ^ d.bits
    → (outs : List ℕ) × Cycle mo registers (input_values pins.reset_first (t == 0) rdata) outs after × (out ≡ outputs_at outs pins)
    → box.shape ≡ Some (shape_of d) → Answers box.shape out.cmd box.tells answer
    → left ≡ record box { tells = after_cycle box.shape out.cmd box.tells } → word ≡ answer % 2 ^ d.bits
    → Turned mo d t registers after rdata word box.tells left.tells out.done out.fail
turn_is mo d t registers after pins rdata answer word out box left m a s low c fits answers new is =
    let asked : Answers (Some (shape_of d)) (outputs_at c.0 pins).cmd box.tells answer =
    subst (λ (o : Outputs). Answers (Some (shape_of d)) o.cmd box.tells answer) c.2 (subst (λ (o : Option Shape). Answers o out.cmd box.tells answer) fits answers) in
    let told_is : left.tells ≡ after_cycle (Some (shape_of d)) (outputs_at c.0 pins).cmd box.tells =
    ap (λ (x : Told). x.tells) new ∙ ap₂ (λ (o : Option Shape) (x : Outputs). after_cycle o x.cmd box.tells) fits c.2 in
    let done = turned mo d t registers after c.0 pins rdata answer box.tells m a s low c.1 asked in
    subst (λ w. Turned mo d t registers after rdata w box.tells left.tells out.done out.fail) (sym is)
    (subst (λ (x : Tells). Turned mo d t registers after rdata (answer % 2 ^ d.bits) box.tells x out.done out.fail) (sym told_is)
    (subst (λ (x : Outputs). Turned mo d t registers after rdata (answer % 2 ^ d.bits) box.tells (after_cycle (Some (shape_of d)) (outputs_at c.0 pins).cmd box.tells) x.done x.fail) (sym c.2)
    done))
