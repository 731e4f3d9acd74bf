-- The parts of a history.
use Rattle.std.proofs.Common.{◌≡◌, ℕ, List, [], ◌∷◌, ◌++◌, length, refl, ◌∙◌}
use Rattle.march_core.specs.March.{MarchElement}
use Rattle.memory_desc.specs.Descriptions.{Description}
use Rattle.verilog_tree.specs.Plain.{ModuleTree}
use Rattle.verilog_tree.specs.Meaning.{Env, next}
use Rattle.word_device.specs.Memories.{Behaviour}
use Rattle.macro_pins.specs.Pins.{Pins}
use Rattle.macro_pins.specs.Macros.{Held}
use Rattle.collar_rtl.specs.Interface.{interface}
use Rattle.collar_test.specs.CollarTest.{Kept, Cycle, AreRun}

module _ {S : Type 0} (b : Behaviour S) (Good : S → Type 0) (mo : ModuleTree) (march : List MarchElement) (d : Description) (p : Pins) (name : List ℕ) where
  abbrev col : ModuleTree
  col = interface name p d.bits d.scramble.width

  -- what the cycles behind some others begin with
  pub record Begins (many : ℕ) (rest : List Cycle) : Type 0 where
    pub own : Env
    pub pins : Env
    pub held : Held (Kept S)
    pub good : Good held.state.state
    pub as_many : length held.due ≡ many
    pub run : AreRun b Good mo march d p name own pins held rest

  pub begins : (before rest : List Cycle) (own pins : Env) (h : Held (Kept S)) → Good h.state.state → AreRun b Good mo march d p name own pins h (before ++ rest) → Begins (length h.due) rest
  begins [] rest own pins h good run = record { own = own; pins = pins; held = h; good = good; as_many = refl; run = run }
  begins (c ∷ before) rest own pins h good run =
      let later = begins before rest (next mo c.own) (next col c.pins) run.2 run.6.good run.7 in
      record { own = later.own; pins = later.pins; held = later.held; good = later.good; as_many = later.as_many ∙ run.6.as_many; run = later.run }

  pub first_cycles : (cycles behind : List Cycle) (own pins : Env) (h : Held (Kept S)) → AreRun b Good mo march d p name own pins h (cycles ++ behind)
      → AreRun b Good mo march d p name own pins h cycles
  first_cycles [] behind own pins h run = tt
  first_cycles (c ∷ cycles) behind own pins h run =
      (run.0, run.1, run.2, run.3, run.4, run.5, run.6, first_cycles cycles behind (next mo c.own) (next col c.pins) run.2 run.7)
