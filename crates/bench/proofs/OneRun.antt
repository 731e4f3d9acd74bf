-- A run is one alone: a module that breaks no rule and has no loop of wires, its registers, and a box that tells its chip or its script
-- determine each cycle.
use Rattle.std.proofs.Common.{◌≡◌, ◌≢◌, ◌⊎◌, ℕ, zero, suc, ◌+◌, ◌<◌, ◌^◌, ◌%◌, Bool, true, false, not, ◌&&◌, if◌then◌else◌, List, [], ◌∷◌, ◌++◌, length, append_assoc, Option, Some, None, slice_get, refl, sym, ap, ap₂, ◌∙◌, subst, arith, codes, inl, inr}
use Rattle.std.specs.List.{AllByRecursion, filter}
use Rattle.std.proofs.lemmas.Option.{slice_get_within, get_or_from_slice_get}
use Rattle.std.proofs.Math.Nat.{one-le-pow, mod-lt}
use Rattle.verilog_tree.specs.declared.names.Kind.{Kind}
use Rattle.verilog_tree.specs.declared.names.Kind.TheVariants as K
use Rattle.verilog_tree.specs.Plain.{ModuleTree}
use Rattle.verilog_tree.specs.Formed.{formed}
use Rattle.verilog_tree.specs.Names.{Declaration, declarations, item_declarations, lookup, declared_width, is_input, is_clk, number}
use Rattle.verilog_tree.specs.Meaning.{Env, Given, AllGiven, Settles, next, names_widths, settled_width}
use Rattle.verilog_tree.specs.Rules.{first_break}
use Rattle.verilog_tree.specs.Wires.{GivenWithin, AllWithin}
use Rattle.verilog_tree.proofs.Clean.{Fresh, fresh_found}
use Rattle.verilog_tree.proofs.Settling.{lawful_module, one_settles, narrowed}
use Rattle.verilog_cycle.specs.Nets.{valued}
use Rattle.verilog_cycle.specs.Design.{names, registers_of, inputs_of, AreNets}
use Rattle.verilog_cycle.proofs.Settled.{places_fall}
use Rattle.march_core.specs.March.{MarchElement}
use Rattle.memory_desc.specs.Descriptions.{Description, IsMemory}
use Rattle.word_march.specs.declared.operations.PortOp.{PortOp}
use Rattle.word_march.specs.Commands.{port_ops}
use Rattle.word_march.specs.PortRule.{cycle_of}
use Rattle.word_march.proofs.Words.{commands_fit}
use Rattle.self_test.specs.Ports.{port_values}
use Rattle.self_test.specs.WrongPort.{ArePorts}
use Rattle.word_device.specs.declared.device.PortCmd.{PortCmd}
use Rattle.word_device.specs.declared.shape.Shape.{Shape}
use Rattle.word_device.specs.Ports.{shape_of}
use Rattle.word_device.specs.Boxes.{Tells, TellsChip, TellsScript, TellsNothing, Answers, after_cycle}
use Rattle.word_device.specs.Joint.{command_on}
use Rattle.bench.specs.declared.ending.Seen.{Seen}
use Rattle.bench.specs.Joint.{Between, Turn, Joint, at_first, word_in}
use Rattle.bench.specs.Endings.{IsFirstSeen, Runs}
use Rattle.bench.proofs.Inputs.{data_inputs, inputs_are, each_is_one, reset_input, rdata_input, given_there}

-- ---- one environment

-- what settles starts from values within the widths
given_within : (regs ins e : Env) (n : List ℕ) (w : ℕ) (k : Kind) → e n < 2 ^ w → Given regs ins e k n → GivenWithin regs ins k n w
given_within regs ins e n w K.Input low g = λ c. subst (λ x. x < 2 ^ w) (g c) low
given_within regs ins e n w K.Wire low g = tt
given_within regs ins e n w K.Register low g = subst (λ x. x < 2 ^ w) g low

all_within : (mo : ModuleTree) (regs ins e : Env) → ((n : List ℕ) → e n < 2 ^ settled_width mo n) → (b cs : List Declaration) → Fresh b cs
    → b ++ cs ≡ declarations mo.ports mo.items → AllGiven regs ins e cs → AllWithin regs ins cs
all_within mo regs ins e within b [] f q g = tt
all_within mo regs ins e within b (x ∷ cs) f q g =
    let here : lookup (declarations mo.ports mo.items) x.name ≡ Some x = subst (λ (l : List Declaration). lookup l x.name ≡ Some x) q (fresh_found b cs x f.0) in
    let low : e x.name < 2 ^ x.width =
    subst (λ w. e x.name < 2 ^ w) (ap declared_width here) (narrowed (is_clk x.name) (e x.name) (names_widths mo x.name) (within x.name)) in (
      given_within regs ins e x.name x.width x.kind low g.0,
      all_within mo regs ins e within (b ++ x ∷ []) cs f.1 (append_assoc b (x ∷ []) cs ∙ q) g.1,
    )

-- two environments that settle with the same registers and inputs are one
one_env : (mo : ModuleTree) (ns : List (List ℕ)) → formed mo ≡ true → first_break mo ≡ None → AreNets mo ns → (regs ins e f : Env)
    → Settles mo regs ins e → Settles mo regs ins f → e ≡ f
one_env mo ns sizes legal nets regs ins e f s t =
    let lawful = lawful_module mo sizes legal in
    let starts = all_within mo regs ins e s.within [] (declarations mo.ports mo.items) lawful.fresh refl s.given in
    let one = one_settles mo sizes legal (number ((names (registers_of mo) ++ names (inputs_of mo)) ++ ns)) (places_fall mo sizes legal ns nets) regs ins starts in
    let each : (n : List ℕ) → e n ≡ f n = λ n. one.only e s n ∙ sym (one.only f t n) in
    λ j n. each n j

-- ---- the inputs

-- inputs that agree where they are declared settle the same cycles
given_inputs : (r i j e : Env) (ds : List Declaration) → AllByRecursion (λ x. i x.name ≡ j x.name) (filter (λ x. is_input x.kind && not (is_clk x.name)) ds)
    → AllGiven r i e ds → AllGiven r j e ds
given_inputs r i j e [] a g = tt
given_inputs r i j e (x ∷ ds) a g = by x.kind refl (is_clk x.name) refl (λ b. given_inputs r i j e ds b g.1)
  where
    moved : (k : Kind) (c : Bool) → x.kind ≡ k → is_clk x.name ≡ c → AllByRecursion (λ y. i y.name ≡ j y.name)
        (if is_input k && not c then x ∷ filter (λ y. is_input y.kind && not (is_clk y.name)) ds else filter (λ y. is_input y.kind && not (is_clk y.name)) ds)
    moved k c f h =
        subst (λ (b : Bool). AllByRecursion (λ y. i y.name ≡ j y.name)
        (if is_input k && not b then x ∷ filter (λ y. is_input y.kind && not (is_clk y.name)) ds else filter (λ y. is_input y.kind && not (is_clk y.name)) ds)) h
        (subst (λ (q : Kind). AllByRecursion (λ y. i y.name ≡ j y.name)
        (if is_input q && not (is_clk x.name) then x ∷ filter (λ y. is_input y.kind && not (is_clk y.name)) ds else filter (λ y. is_input y.kind && not (is_clk y.name)) ds)) f a)

    by : (k : Kind) → x.kind ≡ k → (c : Bool) → is_clk x.name ≡ c
        → (AllByRecursion (λ y. i y.name ≡ j y.name) (filter (λ y. is_input y.kind && not (is_clk y.name)) ds) → AllGiven r j e ds)
        → Given r j e x.kind x.name × AllGiven r j e ds
    by K.Input f true h more = (
      subst (λ k. Given r j e k x.name) (sym f) (λ unclocked. let z : true ≡ false = sym h ∙ unclocked in cc),
      more (moved K.Input true f h),
    )
    by K.Input f false h more =
        let b = moved K.Input false f h in
        let was : is_clk x.name ≡ false → e x.name ≡ i x.name = subst (λ k. Given r i e k x.name) f g.0 in
        (subst (λ k. Given r j e k x.name) (sym f) (λ unclocked. was unclocked ∙ b.0), more b.1)
    by K.Wire f c h more = (subst (λ k. Given r j e k x.name) (sym f) tt, more (moved K.Wire c f h))
    by K.Register f c h more =
        let was : e x.name ≡ r x.name = subst (λ k. Given r i e k x.name) f g.0 in
        (subst (λ k. Given r j e k x.name) (sym f) was, more (moved K.Register c f h))

both_agree : (d : Description) (i j : Env) (xs : List Declaration) → i (codes "reset") ≡ j (codes "reset") → i (codes "rdata") ≡ j (codes "rdata")
    → AllByRecursion (λ x. (x ≡ reset_input) ⊎ (x ≡ rdata_input d)) xs → AllByRecursion (λ x. i x.name ≡ j x.name) xs
both_agree d i j [] reset rdata a = tt
both_agree d i j (x ∷ xs) reset rdata (inl e, rest) =
    (subst (λ (y : Declaration). i y.name ≡ j y.name) (sym e) reset, both_agree d i j xs reset rdata rest)
both_agree d i j (x ∷ xs) reset rdata (inr e, rest) =
    (subst (λ (y : Declaration). i y.name ≡ j y.name) (sym e) rdata, both_agree d i j xs reset rdata rest)

settles_inputs : (mo : ModuleTree) (d : Description) → ArePorts d mo.ports → (r i j e : Env) → i (codes "reset") ≡ j (codes "reset")
    → i (codes "rdata") ≡ j (codes "rdata") → Settles mo r i e → Settles mo r j e
settles_inputs mo d ports r i j e reset rdata h = record {
  within = h.within;
  given = given_inputs r i j e (declarations mo.ports mo.items)
      (subst (λ (l : List Declaration). AllByRecursion (λ x. i x.name ≡ j x.name) l) (sym (inputs_are mo.ports mo.items))
      (both_agree d i j (data_inputs mo.ports) reset rdata (each_is_one d mo.ports ports.only))) h.given;
  equations = h.equations;
}

-- ---- a box that tells

one_answer : (shape : Shape) (cmd : PortCmd) (tells : Tells) (x y : ℕ) → tells ≢ TellsNothing → Answers (Some shape) cmd tells x → Answers (Some shape) cmd tells y → x ≡ y
one_answer shape cmd (TellsChip c) x y n f g = f ∙ sym g
one_answer shape cmd (TellsScript s) x y n f g = f ∙ sym g
one_answer shape cmd TellsNothing x y n f g = absurd (n refl)

still_tells : (shape : Shape) (cmd : PortCmd) (tells : Tells) → tells ≢ TellsNothing → after_cycle (Some shape) cmd tells ≢ TellsNothing
still_tells shape cmd (TellsChip c) n = λ e. cc
still_tells shape cmd (TellsScript s) n = λ e. cc
still_tells shape cmd TellsNothing n = n

-- ---- the run

module _ (mo : ModuleTree) (d : Description) (ns : List (List ℕ)) (sizes : formed mo ≡ true) (legal : first_break mo ≡ None) (nets : AreNets mo ns) (ports : ArePorts d mo.ports) where
  record SameTurn (e f : Env) (after left : Between) : Type 0 where
    env : e ≡ f
    after_is : after ≡ left

  turn_one : (t : ℕ) (e f : Env) (before after left : Between) → before.box ≢ TellsNothing → Turn mo d t e before after → Turn mo d t f before left → SameTurn e f after left
  turn_one t e f before after left n h k =
      let moved = settles_inputs mo d ports before.registers k.inputs h.inputs f (k.reset ∙ sym h.reset) (k.rdata ∙ sym h.rdata) k.settles in
      let same = one_env mo ns sizes legal nets before.registers h.inputs e f h.settles moved in
      let other = subst (λ (x : Env). Answers (Some (shape_of d)) (command_on (port_values x)) before.box k.answer) (sym same) k.answers in
      let answer = one_answer (shape_of d) (command_on (port_values e)) before.box h.answer k.answer n h.answers other in
      record {
        env = same;
        after_is = h.left
            ∙ ap₂ (λ (x : Env) (a : ℕ). record { registers = next mo x; rdata = a % 2 ^ d.bits; box = after_cycle (Some (shape_of d)) (command_on (port_values x)) before.box }) same answer
            ∙ sym k.left;
      }

  tells_after : (t : ℕ) (e : Env) (before after : Between) → before.box ≢ TellsNothing → Turn mo d t e before after → after.box ≢ TellsNothing
  tells_after t e before after n h =
      subst (λ (x : Tells). x ≢ TellsNothing) (sym (ap (λ (b : Between). b.box) h.left)) (still_tells (shape_of d) (command_on (port_values e)) before.box n)

  joint_one : (t : ℕ) (es fs : List Env) (before after left : Between) → before.box ≢ TellsNothing → length es ≡ length fs
      → Joint mo d t es before after → Joint mo d t fs before left → es ≡ fs
  joint_one t [] [] before after left n l j k = refl
  joint_one t [] (f ∷ fs) before after left n l j k = absurd (omega (arith, l))
  joint_one t (e ∷ es) [] before after left n l j k = absurd (omega (arith, l))
  joint_one t (e ∷ es) (f ∷ fs) before after left n l j k =
      let one = turn_one t e f before j.0 k.0 n j.1 k.1 in
      let more = joint_one (suc t) es fs j.0 after left (tells_after t e before j.0 n j.1) (omega (arith, l)) j.2
      (subst (λ (x : Between). Joint mo d (suc t) fs x left) (sym one.after_is) k.2) in
      ap₂ (λ (x : Env) (xs : List Env). x ∷ xs) one.env more

  -- two runs from the same registers, beside a box that tells the same, have the same cycles
  pub same_cycles : (march : List MarchElement) (registers now later : List ℕ) (before after left : Tells) (failed fails : Bool) (done_in ends_in : Option ℕ) (seen sees : Option Seen)
      → before ≢ TellsNothing → (run : Runs mo march d registers now before after failed done_in seen) → (other : Runs mo march d registers later before left fails ends_in sees)
      → run.cycles ≡ other.cycles
  same_cycles march registers now later before after left failed fails done_in ends_in seen sees n run other =
      joint_one 0 run.cycles other.cycles (at_first (valued (names (registers_of mo)) registers) before) run.left other.left n (run.count ∙ sym other.count) run.joint other.joint

-- ---- the words that are seen

-- the words of a read have no more bits than the memory's
abbrev pub AreLow : ℕ → Option Seen → Type 0
AreLow bits None = Unit {0}
AreLow bits (Some seen) = (seen.expected < 2 ^ bits) × (seen.returned < 2 ^ bits)

module _ (mo : ModuleTree) (d : Description) (ports : ArePorts d mo.ports) where
  -- the word on `rdata` is the one that stands between the cycles
  word_now : (t : ℕ) (e : Env) (s r : Between) → Turn mo d t e s r → e (codes "rdata") ≡ s.rdata
  word_now t e s r h =
      given_there s.registers h.inputs e (codes "rdata") d.bits mo.ports (item_declarations mo.items) refl ports.each.1.1.0 h.settles.given ∙ h.rdata

  word_low : (t : ℕ) (es : List Env) (s r : Between) → s.rdata < 2 ^ d.bits → Joint mo d t es s r → (k : ℕ) → word_in es k < 2 ^ d.bits
  word_low t [] s r low j k = one-le-pow d.bits 2 (omega arith)
  word_low t (e ∷ es) s r low j zero = subst (λ w. w < 2 ^ d.bits) (sym (word_now t e s j.0 j.1)) low
  word_low t (e ∷ es) s r low j (suc k) =
      word_low (suc t) es j.0 r
      (subst (λ w. w < 2 ^ d.bits) (sym (ap (λ (b : Between). b.rdata) j.1.left)) (mod-lt j.1.answer (one-le-pow d.bits 2 (omega arith)))) j.2 k

  pub seen_low : (march : List MarchElement) (registers now : List ℕ) (before after : Tells) (failed : Bool) (done_in : Option ℕ) (seen : Option Seen)
      → IsMemory d → Runs mo march d registers now before after failed done_in seen → AreLow d.bits seen
  seen_low march registers now before after failed done_in seen m run = by seen run.shows.first
    where
      low : (k : ℕ) → word_in run.cycles k < 2 ^ d.bits
      low = word_low 0 run.cycles (at_first (valued (names (registers_of mo)) registers) before) run.left (one-le-pow d.bits 2 (omega arith)) run.joint

      fits : (j : ℕ) (c : PortOp) → slice_get (port_ops march d) j ≡ Some c → c.word < 2 ^ d.bits
      fits j c e =
          subst (λ (o : PortOp). o.word < 2 ^ d.bits) (get_or_from_slice_get (port_ops march d) j c c e)
          (commands_fit march d m j c (slice_get_within (port_ops march d) j c e))

      by : (o : Option Seen) → IsFirstSeen march d (word_in run.cycles) o → AreLow d.bits o
      by None f = tt
      by (Some x) f = (
        subst (λ w. w < 2 ^ d.bits) (sym (ap (λ (s : Seen). s.expected) f.4)) (fits f.0 f.1 f.3),
        subst (λ w. w < 2 ^ d.bits) (sym (ap (λ (s : Seen). s.returned) f.4)) (low (cycle_of march d f.0 + d.latency)),
      )
