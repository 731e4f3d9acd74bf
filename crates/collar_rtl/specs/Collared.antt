-- Public. The interface of a collar in front of a macro: what the chip sees of the macro in use, and the self-test in test.
use Rattle.std.specs.Prelude.{◌≡◌, ◌+◌, ◌≤◌, ℕ, List, [], ◌∷◌, Option, length, codes}
use Rattle.verilog_tree.specs.Plain.{ModuleTree}
use Rattle.verilog_tree.specs.Meaning.{Env, truth, Settles, next}
use Rattle.macro_pins.specs.declared.pins.PinKind.{PinKind}
use Rattle.macro_pins.specs.declared.pins.PinKind.TheVariants.{Tie}
use Rattle.macro_pins.specs.Pins.{PinTree, Pins}
use Rattle.macro_pins.specs.Asked.{Asked}
use Rattle.macro_pins.specs.Macros.{PortMemory, Held, MacroCycle, AreCycles}
use Rattle.collar_rtl.specs.Interface.{test, at_pin, en_at, we_at, addr_at, wdata_at, interface}

-- ---- in use

-- a tie has its value, and each other pin what the chip drives
abbrev pub PinPasses : PinKind → PinTree → Env → Type 0
PinPasses Tie p e = e (at_pin p.name) ≡ p.value
PinPasses kind p e = e (at_pin p.name) ≡ e p.name

abbrev pub AllPass : List PinTree → Env → Type 0
AllPass [] e = Unit {0}
AllPass (p ∷ ps) e = PinPasses p.kind p e × AllPass ps e

-- in use the chip has the macro: the pins are what it drives. Its word is the macro's always, and the self-test is held in reset.
pub record PassesThrough (p : Pins) (e : Env) : Type 0 where
  pub pins : e test ≡ 0 → AllPass p.inputs e
  pub word : e p.rdata ≡ e (at_pin p.rdata)
  pub in_use : e test ≡ 0 → e (codes "bist_reset") ≡ 1
  pub in_test : e test ≡ 1 → e (codes "bist_reset") ≡ 0

-- ---- in test

-- the command of the self-test behind i registers
abbrev pub command_at : ℕ → Env → Asked
command_at i e = record { en = truth (e (en_at i)); we = truth (e (we_at i)); addr = e (addr_at i); wdata = e (wdata_at i) }

abbrev pub given_word : Env → ℕ
given_word e = e (codes "bist_rdata")

module _ {S : Type 0} (m : PortMemory S) (Good : S → Type 0) (p : Pins) (mo : ModuleTree) where
  -- cycles of this module, from these registers on, in front of a macro that holds this at first
  abbrev pub AreCollared : Env → Held S → List Env → Type 0
  AreCollared regs h [] = Unit {0}
  AreCollared regs h (e ∷ es) =
      (inputs : Env) × (left : Held S) × Settles mo regs inputs e × MacroCycle m Good p (λ n. e (at_pin n)) h left × AreCollared (next mo e) left es

abbrev pub AllInTest : List Env → Type 0
AllInTest [] = Unit {0}
AllInTest (e ∷ es) = (e test ≡ 1) × AllInTest es

-- What the self-test sees in these cycles: a memory in a state of its kind, with the registers in its latency.
pub record Seen {S : Type 0} (m : PortMemory S) (Good : S → Type 0) (latency : ℕ) (es : List Env) : Type 0 where
  pub state : S
  pub due : List (Option ℕ)
  pub good : Good state
  pub under_way : length due ≡ latency
  pub cycles : AreCycles m (command_at 0) given_word state due es

-- every command leaves a state of its kind in one
abbrev pub Keeps : {S : Type 0} → PortMemory S → (S → Type 0) → Type 0
Keeps {S = S} m Good = (s : S) (a : Asked) → Good s → Good (m.after s a)

-- Whatever the registers and the macro held before, in test the self-test sees the memory.
abbrev pub SeenInTest : {S : Type 0} → PortMemory S → (S → Type 0) → Type 0
SeenInTest {S = S} m Good =
    (name : List ℕ) (p : Pins) (b w : ℕ) (regs : Env) (h : Held S) (es : List Env)
    → p.before ≤ 3 → p.after ≤ 3 → 1 ≤ length h.due → Good h.state → AreCollared m Good p (interface name p b w) regs h es → AllInTest es
    → Seen m Good (p.before + length h.due + p.after) es

-- In each cycle that settles, the interface passes the functional port through.
abbrev pub AlwaysPasses : Type 0
AlwaysPasses = (name : List ℕ) (p : Pins) (b w : ℕ) (regs inputs e : Env) → Settles (interface name p b w) regs inputs e → PassesThrough p e
