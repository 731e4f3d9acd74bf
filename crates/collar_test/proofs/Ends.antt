-- How a self-test ends behind its collar.
use Rattle.std.proofs.Common.{◌≡◌, ◌+◌, ◌<◌, ◌≤◌, ◌^◌, ◌%◌, ℕ, zero, suc, Bool, true, false, cond, Option, Some, None, List, [], ◌∷◌, take, length, map, refl, ap, sym, subst, ◌∙◌, arith, codes}
use Rattle.std.specs.Prelude.{if◌then◌else◌, ◌==◌, slice_get, slice_index, IsTrue}
use Rattle.std.proofs.lemmas.Option.{slice_get_within}
use Rattle.march_core.specs.March.{MarchElement}
use Rattle.memory_desc.specs.Descriptions.{Description, IsMemory}
use Rattle.verilog_tree.specs.Plain.{ModulePort, ModuleTree}
use Rattle.verilog_tree.specs.Names.{declarations, width_of, is_clk}
use Rattle.verilog_tree.specs.Meaning.{Env, truth, settled_width, Settles, History, next}
use Rattle.word_march.specs.declared.operations.PortOp.{PortOp}
use Rattle.word_march.specs.Commands.{word_steps, port_ops, command_count, command_at as cycle_at, slots, span, cycle_count}
use Rattle.word_march.specs.PortRule.{PortValues, PortRule, Carries, cycle_of, SomeReadDiffers}
use Rattle.self_test.specs.Ports.{ports, port_values}
use Rattle.self_test.specs.SelfTest.{SelfTest, AreInputs}
use Rattle.word_device.specs.declared.device.PortCmd.{PortCmd}
use Rattle.word_device.specs.Ports.{shape_of, addressed, idle_more}
use Rattle.word_device.specs.Runs.{IsCommand, IsSlot, AreSlots, IsRight, IsWrong, SomeWrong}
use Rattle.word_device.specs.Joint.{command_on, EndsFailing}
use Rattle.word_device.proofs.Core.{SomeReplyDiffers, AllRepliesRight}
use Rattle.word_device.specs.Memories.{Behaviour, acted_at, rested}
use Rattle.word_device.specs.Answers.{own_answers}
use Rattle.word_device.proofs.Answering.{IsLawful, replies}
use Rattle.word_device.proofs.Cycles.{length-slots, stands, only, some_command, at_within}
use Rattle.macro_pins.specs.Pins.{Pins}
use Rattle.macro_pins.specs.Asked.{Asked}
use Rattle.macro_pins.specs.Macros.{Values, PortMemory, Held}
use Rattle.collar_rtl.specs.Interface.{en_at, we_at, addr_at, wdata_at, interface}
use Rattle.collar_rtl.specs.Collared.{command_at, given_word, AreCollared, AllInTest, Seen}
use Rattle.collar_rtl.proofs.Equations.{passes_through}
use Rattle.collar_rtl.proofs.Registers.{none_goes_on}
use Rattle.collar_rtl.proofs.Seen.{seen, seen_so}
use Rattle.collar_rtl.proofs.Waiting.{answered}
use Rattle.collar_test.specs.CollarTest.{Kept, cmd_of, memory_of, IsKind, Cycle, Linked, AreTested, Rises, nothing, AsksNothing, EndsSound, IsShort, QuietInUse}
use Rattle.collar_test.proofs.FromAny.{answer, fails_from, passes_from}
use Rattle.collar_test.proofs.Kept.{keeps}
use Rattle.collar_test.proofs.Chips.{chip_of, cmds_of, read_answer, slots_of}

-- ---- lists

get_map : {A B : Type 0} (f : A → B) (xs : List A) (k : ℕ) (x : A) → slice_get xs k ≡ Some x → slice_get (map f xs) k ≡ Some (f x)
get_map f [] k x e = cc
get_map f (y ∷ ys) zero x e = let same : y ≡ x = cc in ap (λ z. Some (f z)) same
get_map f (y ∷ ys) (suc k) x e = get_map f ys k x e

get_some : {A : Type 0} (xs : List A) (k : ℕ) → k < length xs → (x : A) × (slice_get xs k ≡ Some x)
get_some [] k low = absurd (omega arith)
get_some (x ∷ xs) zero low = (x, refl)
get_some (x ∷ xs) (suc k) low = get_some xs k (omega arith)

-- ---- one cycle

truth_one : (v : ℕ) → v < 2 → truth v ≡ (v == 1)
truth_one zero low = refl
truth_one (suc zero) low = refl
truth_one (suc (suc v)) low = absurd (omega arith)

not_true : (b : Bool) → (IsTrue b → ⊥) → b ≡ false
not_true true h = absurd (h refl)
not_true false h = refl

module _ (mo : ModuleTree) (march : List MarchElement) (d : Description) (tests : SelfTest mo march d) (p : Pins) (name : List ℕ) where
  abbrev col : ModuleTree
  col = interface name p d.bits d.scramble.width

  one_bit : (own inputs e : Env) → Settles mo own inputs e → (n : List ℕ) → cond (is_clk n) 0 (width_of (declarations (ports d) mo.items) n) ≡ 1 → e n < 2
  one_bit own inputs e s n wide =
      let same : settled_width mo n ≡ 1 = ap (λ (ps : List ModulePort). cond (is_clk n) 0 (width_of (declarations ps mo.items) n)) tests.ports ∙ wide in
      subst (λ (k : ℕ). e n < 2 ^ k) same (s.within n)

  same_command : (own inputs pins pin_inputs : Env) (c : Cycle) → Settles mo own inputs c.own → Settles col pins pin_inputs c.pins → Linked inputs pin_inputs c
      → cmd_of (command_at 0 c.pins) ≡ command_on (port_values c.own)
  same_command own inputs pins pin_inputs c s t linked =
      let en : c.pins (en_at 0) ≡ c.own (codes "en") = t.given.1.1.0 refl ∙ linked.en in
      let we : c.pins (we_at 0) ≡ c.own (codes "we") = t.given.1.1.1.0 refl ∙ linked.we in
      let addr : c.pins (addr_at 0) ≡ c.own (codes "addr") = t.given.1.1.1.1.0 refl ∙ linked.addr in
      let wdata : c.pins (wdata_at 0) ≡ c.own (codes "wdata") = t.given.1.1.1.1.1.0 refl ∙ linked.wdata in
      let on : truth (c.pins (en_at 0)) ≡ (c.own (codes "en") == 1) = ap truth en ∙ truth_one (c.own (codes "en")) (one_bit own inputs c.own s (codes "en") refl) in
      let writes : truth (c.pins (we_at 0)) ≡ (c.own (codes "we") == 1) = ap truth we ∙ truth_one (c.own (codes "we")) (one_bit own inputs c.own s (codes "we") refl) in
      let two : ◌≡◌ {A = PortCmd} (record { en = truth (c.pins (en_at 0)); we = truth (c.pins (we_at 0)); addr = c.pins (addr_at 0); wdata = c.pins (wdata_at 0) })
      (record { en = c.own (codes "en") == 1; we = c.own (codes "we") == 1; addr = c.pins (addr_at 0); wdata = c.pins (wdata_at 0) }) =
      ap (λ (x : Bool). record { en = x; we = truth (c.pins (we_at 0)); addr = c.pins (addr_at 0); wdata = c.pins (wdata_at 0) }) on
      ∙ ap (λ (x : Bool). record { en = c.own (codes "en") == 1; we = x; addr = c.pins (addr_at 0); wdata = c.pins (wdata_at 0) }) writes in
      two
      ∙ ap (λ (x : ℕ). record { en = c.own (codes "en") == 1; we = c.own (codes "we") == 1; addr = x; wdata = c.pins (wdata_at 0) }) addr
      ∙ ap (λ (x : ℕ). record { en = c.own (codes "en") == 1; we = c.own (codes "we") == 1; addr = c.own (codes "addr"); wdata = x }) wdata

  -- what the ports carry in the cycle behind k of the run
  slot_at : (returned : ℕ → ℕ) (k : ℕ) (s : Option PortOp) (q : PortValues) → PortRule march d returned (suc k) q → slice_get (slots march d) k ≡ Some s → IsSlot s (command_on q)
  slot_at returned k (Some c) q rule at =
      let from = only march d k c at in
      let there : k ≡ cycle_at march d from.0 = from.2 in
      let carries : Carries c q = rule.commands from.0 c from.1 (omega arith) in
      record { enabled = carries.enabled; write = carries.write; address = carries.address; word = carries.word }
  slot_at returned k None q rule at =
      rule.idle (λ j within is.
      let here : k ≡ cycle_at march d j = omega arith in
      not_both (slice_get (slots march d) k) at (stands_at j within here))
    where
      not_both : (x : Option (Option PortOp)) → x ≡ Some None → ((c : PortOp) × (x ≡ Some (Some c))) → ⊥
      not_both x e f = let g = f.1 in cc

      stands_at : (j : ℕ) → j < command_count march d → k ≡ cycle_at march d j → (c : PortOp) × (slice_get (slots march d) k ≡ Some (Some c))
      stands_at j within here =
          let c = some_command march d j within in
          (c.0, ap (slice_get (slots march d)) here ∙ stands march d j c.0 c.1)

  module _ {S : Type 0} (b : Behaviour S) (Good : S → Type 0) (lawful : IsLawful b Good) (m : IsMemory d) (short : IsShort p) where
    abbrev mem : PortMemory (Kept S)
    mem = memory_of b (shape_of d)

    -- ---- the interface alone, and the self-test alone

    collared : (own pins : Env) (h : Held (Kept S)) (cs : List Cycle) → AreTested mem (IsKind Good) p mo col own pins h cs
        → AreCollared mem (IsKind Good) p col pins h (map (λ c. c.pins) cs)
    collared own pins h [] run = tt
    collared own pins h (c ∷ cs) run = (run.1, run.2, run.4, run.6, collared (next mo c.own) (next col c.pins) run.2 cs run.7)

    record Told (t : ℕ) (own : Env) (cs : List Cycle) : Type 0 where
      words : List ℕ
      inputs : List Env
      are_inputs : AreInputs t words inputs
      history : History mo own inputs (map (λ c. c.own) cs)
      same : (k : ℕ) (c : Cycle) → slice_get cs k ≡ Some c → slice_index words k ≡ given_word c.pins

    agree : (c : Cycle) (cs : List Cycle) (ws : List ℕ) → ((k : ℕ) (x : Cycle) → slice_get cs k ≡ Some x → slice_index ws k ≡ given_word x.pins)
        → (k : ℕ) (x : Cycle) → slice_get (c ∷ cs) k ≡ Some x → slice_index (given_word c.pins ∷ ws) k ≡ given_word x.pins
    agree c cs ws f zero x e = let same : c ≡ x = cc in ap (λ (y : Cycle). given_word y.pins) same
    agree c cs ws f (suc k) x e = f k x e

    told_behind : (t : ℕ) (own pins : Env) (h : Held (Kept S)) (cs : List Cycle) → AreTested mem (IsKind Good) p mo col own pins h cs → AllInTest (map (λ c. c.pins) cs)
        → Told (suc t) own cs
    told_behind t own pins h [] run on = record { words = []; inputs = []; are_inputs = tt; history = tt; same = λ k c e. cc }
    told_behind t own pins h (c ∷ cs) run on =
        let rest = told_behind (suc t) (next mo c.own) (next col c.pins) run.2 cs run.7 on.1 in
        let passes = passes_through p d.bits d.scramble.width name pins run.1 c.pins run.4 in
        record {
          words = given_word c.pins ∷ rest.words;
          inputs = run.0 ∷ rest.inputs;
          are_inputs = (run.5.reset ∙ passes.in_test on.0, run.5.rdata, rest.are_inputs);
          history = (run.3, rest.history);
          same = agree c cs rest.words rest.same;
        }

    told : (own pins : Env) (h : Held (Kept S)) (c : Cycle) (cs : List Cycle) → AreTested mem (IsKind Good) p mo col own pins h (c ∷ cs) → Rises (c ∷ cs)
        → Told 0 own (c ∷ cs)
    told own pins h c cs run rises =
        let rest = told_behind 0 (next mo c.own) (next col c.pins) run.2 cs run.7 rises.1 in
        let passes = passes_through p d.bits d.scramble.width name pins run.1 c.pins run.4 in
        record {
          words = given_word c.pins ∷ rest.words;
          inputs = run.0 ∷ rest.inputs;
          are_inputs = (run.5.reset ∙ passes.in_use rises.0, run.5.rdata, rest.are_inputs);
          history = (run.3, rest.history);
          same = agree c cs rest.words rest.same;
        }

    -- the commands that a cycle has on either side
    commands_same : (own pins : Env) (h : Held (Kept S)) (cs : List Cycle) → AreTested mem (IsKind Good) p mo col own pins h cs → (k : ℕ) (c : Cycle)
        → slice_get cs k ≡ Some c → cmd_of (command_at 0 c.pins) ≡ command_on (port_values c.own)
    commands_same own pins h [] run k c e = cc
    commands_same own pins h (x ∷ cs) run zero c e =
        let same : x ≡ c = cc in
        subst (λ (y : Cycle). cmd_of (command_at 0 y.pins) ≡ command_on (port_values y.own)) same (same_command own run.0 pins run.1 x run.3 run.4 run.5)
    commands_same own pins h (x ∷ cs) run (suc k) c e = commands_same (next mo x.own) (next col x.pins) run.2 cs run.7 k c e

    -- ---- what the self-test sees

    abbrev Sees : (Kept S → Type 0) → (own pins : Env) (h : Held (Kept S)) (c : Cycle) (cs : List Cycle) → AreTested mem (IsKind Good) p mo col own pins h (c ∷ cs) → Type 0
    Sees Calm own pins h c cs run = Seen mem Calm (p.before + length run.2.due + p.after) (map (λ x. x.pins) cs)

    sees_any : (own pins : Env) (h : Held (Kept S)) (c : Cycle) (cs : List Cycle) (run : AreTested mem (IsKind Good) p mo col own pins h (c ∷ cs)) → 1 ≤ length h.due → Rises (c ∷ cs)
        → Sees (IsKind Good) own pins h c cs run
    sees_any own pins h c cs run some rises =
        let many = run.6.as_many in
        seen mem (IsKind Good) name p d.bits d.scramble.width short.before short.after (keeps b Good lawful (shape_of d)) (next col c.pins) run.2 (map (λ x. x.pins) cs) (omega arith) run.6.good
        (collared (next mo c.own) (next col c.pins) run.2 cs run.7) rises.1

    -- where each cycle without a command leaves something
    module _ (Still : S → Type 0) (idled : (s : S) → Still (b.idled s)) (paused : (s : S) → Still (b.paused s)) where
      abbrev Calm : Kept S → Type 0
      Calm s = Good s.state × Still s.state

      still_rested : (s : Kept S) → Still (rested b (shape_of d) s.state s.idle)
      still_rested s = go (idle_more (shape_of d) s.idle == d.pause)
        where
          go : (t : Bool) → Still (if t then b.paused s.state else b.idled s.state)
          go true = paused s.state
          go false = idled s.state

      calm_after : (s : Kept S) (a : Asked) → a.en ≡ false → Good s.state → Calm (mem.after s a)
      calm_after s a off good = (keeps b Good lawful (shape_of d) s a good, go a.en off)
        where
          go : (t : Bool) → t ≡ false → Still (if t then acted_at b (shape_of d) s.state (cmd_of a) (addressed (shape_of d) a.addr) else rested b (shape_of d) s.state s.idle)
          go true e = cc
          go false e = still_rested s

      sees_still : (own pins : Env) (h : Held (Kept S)) (c e : Cycle) (cs : List Cycle) (run : AreTested mem (IsKind Good) p mo col own pins h (c ∷ e ∷ cs)) → 1 ≤ length h.due
          → Rises (c ∷ e ∷ cs) → Good h.state.state → AsksNothing p (c ∷ e ∷ cs) → Sees Calm own pins h c (e ∷ cs) run
      sees_still own pins h c e cs run some rises good none =
          let many = run.6.as_many in
          let left : run.2.state ≡ mem.after h.state nothing = (run.6.asked nothing none).0 in
          seen_so mem (IsKind Good) name p d.bits d.scramble.width short.before short.after Calm (next col c.pins) run.2 e.pins (map (λ x. x.pins) cs) (omega arith)
          (subst (λ (s : Kept S). Calm s) (sym left) (calm_after h.state nothing refl good))
          (λ k s low held. calm_after s (command_at (suc k) e.pins)
          (ap truth (none_goes_on p d.bits d.scramble.width name c.pins run.7.1 e.pins run.7.4 k low short.before rises.0)) held.0)
          (collared (next mo c.own) (next col c.pins) run.2 (e ∷ cs) run.7) rises.1

    -- ---- the whole

    module _ (own pins : Env) (h : Held (Kept S)) (c : Cycle) (cs : List Cycle) (some : 1 ≤ length h.due)
        (late : p.before + length h.due + p.after ≡ d.latency) (count : length (c ∷ cs) ≡ cycle_count march d) (rises : Rises (c ∷ cs))
        (run : AreTested mem (IsKind Good) p mo col own pins h (c ∷ cs)) (Calm : Kept S → Type 0) (calm_good : (s : Kept S) → Calm s → Good s.state)
        (sees : Sees Calm own pins h c cs run) where
      abbrev es : List Values
      es = map (λ x. x.pins) cs

      history : Told 0 own (c ∷ cs)
      history = told own pins h c cs run rises

      abbrev returned : ℕ → ℕ
      returned = slice_index history.words

      rule : (t : ℕ) (x : Cycle) → slice_get (c ∷ cs) t ≡ Some x → PortRule march d returned t (port_values x.own)
      rule t x at = tests.meets own history.words history.inputs (map (λ y. y.own) (c ∷ cs)) history.are_inputs history.history t x.own (get_map (λ y. y.own) (c ∷ cs) t x at)

      each : (t : ℕ) (s : Option PortOp) (x : Cycle) → slice_get (slots march d) t ≡ Some s → slice_get cs t ≡ Some x → IsSlot s (cmd_of (command_at 0 x.pins))
      each t s x at there =
          subst (λ (k : PortCmd). IsSlot s k) (sym (commands_same (next mo c.own) (next col c.pins) run.2 cs run.7 t x there))
          (slot_at returned t s (port_values x.own) (rule (suc t) x there) at)

      length_es : length es ≡ length cs
      length_es = length_map cs
        where
          length_map : (xs : List Cycle) → length (map (λ x. x.pins) xs) ≡ length xs
          length_map [] = refl
          length_map (x ∷ xs) = let rest = length_map xs in omega arith

      from_pins : (t : ℕ) (e : Env) → slice_get es t ≡ Some e → (x : Cycle) × (slice_get cs t ≡ Some x) × (x.pins ≡ e)
      from_pins t e at = go cs t at
        where
          go : (xs : List Cycle) (t : ℕ) → slice_get (map (λ x. x.pins) xs) t ≡ Some e → (x : Cycle) × (slice_get xs t ≡ Some x) × (x.pins ≡ e)
          go [] t at = cc
          go (x ∷ xs) zero at = let same : x.pins ≡ e = cc in (x, refl, same)
          go (x ∷ xs) (suc t) at = go xs t at

      each_pins : (t : ℕ) (s : Option PortOp) (e : Env) → slice_get (slots march d) t ≡ Some s → slice_get es t ≡ Some e → IsSlot s (cmd_of (command_at 0 e))
      each_pins t s e at there =
          let x = from_pins t e there in
          subst (λ (y : Env). IsSlot s (cmd_of (command_at 0 y))) x.2 (each t s x.0 at x.1)

      abbrev run_cmds : List PortCmd
      run_cmds = cmds_of b Good lawful (shape_of d) (command_at 0) given_word (take (length (slots march d)) es)

      are : AreSlots (slots march d) run_cmds
      are =
          let size = length-slots march d in
          let same = length_es in
          slots_of b Good lawful (shape_of d) (command_at 0) given_word (slots march d) es (omega arith) each_pins

      abbrev told_answer : ℕ → ℕ
      told_answer = answer b Good lawful march d m sees.state.state (calm_good sees.state sees.good) [] sees.state.idle run_cmds are

      -- the word that returns to a read
      read_returns : (j : ℕ) (command : PortOp) → slice_get (port_ops march d) j ≡ Some command → command.write ≡ false → j < command_count march d
          → returned (cycle_of march d j + d.latency) ≡ told_answer j % 2 ^ d.bits
      read_returns j command at read within =
          let k : ℕ = cycle_at march d j in
          let size = length-slots march d in
          let same = length_es in
          let many = run.6.as_many in
          let under_way = sees.under_way in
          let soon = at_within march d j within in
          let here = get_some es k (omega arith) in
          let x = get_some cs (k + d.latency) (omega arith) in
          let there : slice_get es (k + d.latency) ≡ Some x.0.pins = get_map (λ y. y.pins) cs (k + d.latency) x.0 x.1 in
          let then_ : k + length sees.due ≡ k + d.latency = omega arith in
          let slot : IsCommand command (cmd_of (command_at 0 here.0)) = each_pins k (Some command) here.0 (stands march d j command at) here.1 in
          let low : k < length (slots march d) = omega arith in
          let some_due : 1 ≤ length sees.due = omega arith in
          let word = answered mem (command_at 0) given_word k sees.state sees.due es here.0 x.0.pins
          (slice_index (own_answers b (shape_of d) (chip_of b Good lawful (shape_of d) (command_at 0) given_word sees.state []) run_cmds) k % 2 ^ d.bits)
          some_due sees.cycles here.1 (ap (slice_get es) then_ ∙ there)
          (read_answer b Good lawful (shape_of d) (command_at 0) given_word (length (slots march d)) es sees.state k here.0 low here.1 slot.enabled (slot.write ∙ read)) in
          let at_cycle : cycle_of march d j + d.latency ≡ suc (k + d.latency) = omega arith in
          ap returned at_cycle ∙ history.same (suc (k + d.latency)) x.0 x.1 ∙ word

      command_within : (j : ℕ) (command : PortOp) → slice_get (port_ops march d) j ≡ Some command → j < command_count march d
      command_within j command at = slice_get_within (port_ops march d) j command at

      module _ (x : Cycle) (last : slice_get (c ∷ cs) (span march d + 1 + d.latency) ≡ Some x) where
        done : IsTrue (port_values x.own).done
        done = (rule (span march d + 1 + d.latency) x last).done.1 (omega arith)

        fails : SomeWrong march d (λ j. told_answer j % 2 ^ d.bits) → EndsFailing (port_values x.own)
        fails wrong =
            let w : IsWrong march d (λ j. told_answer j % 2 ^ d.bits) wrong.0 = wrong.1 in
            let within = command_within wrong.0 w.command w.is_command in
            let soon = at_within march d wrong.0 within in
            let some_differs : SomeReadDiffers march d returned (span march d + 1 + d.latency) = record {
              number = wrong.0;
              command = w.command;
              is_command = w.is_command;
              is_read = w.is_read;
              before = omega arith;
              differs = λ e. w.differs (sym (read_returns wrong.0 w.command w.is_command w.is_read within) ∙ e);
            } in
            record { done = done; fail = ((rule (span march d + 1 + d.latency) x last).fail (omega arith)).1 some_differs }

        passes : ((j : ℕ) → IsRight march d (λ k. told_answer k % 2 ^ d.bits) j) → EndsSound (port_values x.own)
        passes right = record {
          done = done;
          passes = not_true (port_values x.own).fail (λ failing.
              let s : SomeReadDiffers march d returned (span march d + 1 + d.latency) = ((rule (span march d + 1 + d.latency) x last).fail (omega arith)).0 failing in
              s.differs (read_returns s.number s.command s.is_command s.is_read (command_within s.number s.command s.is_command)
              ∙ right s.number s.command s.is_command s.is_read));
        }

    -- some reply differs from each state of a kind, or none does
    abbrev Differs : (Kept S → Type 0) → Type 0
    Differs Calm = (s : Kept S) → Calm s → SomeReplyDiffers d.bits (word_steps march d) (replies b Good lawful s.state (word_steps march d))

    abbrev AllRight : Type 0
    AllRight = (s : S) → Good s → AllRepliesRight (word_steps march d) (replies b Good lawful s (word_steps march d))

    module _ (own pins : Env) (h : Held (Kept S)) (some : 1 ≤ length h.due) (late : p.before + length h.due + p.after ≡ d.latency) (x : Cycle) where
      pub ends_failing : (cs : List Cycle) → AreTested mem (IsKind Good) p mo col own pins h cs → length cs ≡ cycle_count march d → Rises cs
          → slice_get cs (span march d + 1 + d.latency) ≡ Some x → Differs (IsKind Good) → EndsFailing (port_values x.own)
      ends_failing [] run count rises last differs = cc
      ends_failing (c ∷ cs) run count rises last differs =
          let s = sees_any own pins h c cs run some rises in
          fails own pins h c cs some late count rises run (IsKind Good) (λ k g. g) s x last
          (fails_from b Good lawful march d m s.state.state s.good [] s.state.idle (run_cmds own pins h c cs some late count rises run (IsKind Good) (λ k g. g) s)
          (are own pins h c cs some late count rises run (IsKind Good) (λ k g. g) s) (differs s.state s.good))

      pub ends_sound : (cs : List Cycle) → AreTested mem (IsKind Good) p mo col own pins h cs → length cs ≡ cycle_count march d → Rises cs
          → slice_get cs (span march d + 1 + d.latency) ≡ Some x → AllRight → EndsSound (port_values x.own)
      ends_sound [] run count rises last right = cc
      ends_sound (c ∷ cs) run count rises last right =
          let s = sees_any own pins h c cs run some rises in
          passes own pins h c cs some late count rises run (IsKind Good) (λ k g. g) s x last
          (passes_from b Good lawful march d m s.state.state s.good [] s.state.idle (run_cmds own pins h c cs some late count rises run (IsKind Good) (λ k g. g) s)
          (are own pins h c cs some late count rises run (IsKind Good) (λ k g. g) s) (right s.state.state s.good))

      pub ends_still : (Still : S → Type 0) (idled : (s : S) → Still (b.idled s)) (paused : (s : S) → Still (b.paused s)) (cs : List Cycle)
          → AreTested mem (IsKind Good) p mo col own pins h cs → length cs ≡ cycle_count march d → Rises cs → Good h.state.state → AsksNothing p cs
          → slice_get cs (span march d + 1 + d.latency) ≡ Some x → Differs (Calm Still idled paused) → EndsFailing (port_values x.own)
      ends_still Still idled paused [] run count rises good none last differs = cc
      ends_still Still idled paused (c ∷ []) run count rises good none last differs = absurd (omega (arith, count, m.latency_low))
      ends_still Still idled paused (c ∷ e ∷ cs) run count rises good none last differs =
          let s = sees_still Still idled paused own pins h c e cs run some rises good none in
          fails own pins h c (e ∷ cs) some late count rises run (Calm Still idled paused) (λ k g. g.0) s x last
          (fails_from b Good lawful march d m s.state.state s.good.0 [] s.state.idle (run_cmds own pins h c (e ∷ cs) some late count rises run (Calm Still idled paused) (λ k g. g.0) s)
          (are own pins h c (e ∷ cs) some late count rises run (Calm Still idled paused) (λ k g. g.0) s) (differs s.state s.good))

pub quiet_in_use : QuietInUse
quiet_in_use mo march d p name own pins test_inputs pin_inputs c tests s t linked off =
    let passes = passes_through p d.bits d.scramble.width name pins pin_inputs c.pins t in
    let rule : PortRule march d (slice_index (given_word c.pins ∷ [])) 0 (port_values c.own) =
    tests.meets own (given_word c.pins ∷ []) (test_inputs ∷ []) (c.own ∷ []) (linked.reset ∙ passes.in_use off, linked.rdata, tt) (s, tt) 0 c.own refl in
    let quiet = rule.reset refl in
    record { en = quiet.0; done = quiet.1; fail = quiet.2 }
