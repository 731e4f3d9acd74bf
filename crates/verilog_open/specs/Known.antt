-- Public. Names that have numbers, whatever is left open: those that nothing which is left open leads to.
use Rattle.std.specs.Prelude.{◌≡◌, ℕ, Bool, true, false, List, [], ◌∷◌, ◌⊎◌, Option, Some, None}
use Rattle.verilog_tree.specs.declared.names.Kind.TheVariants as K
use Rattle.verilog_tree.specs.Names.{Declaration, declarations, lookup, is_clk}
use Rattle.verilog_tree.specs.Plain.{ModuleItem, ModuleTree}
use Rattle.verilog_tree.specs.Wires.{Leads}
use Rattle.verilog_open.specs.Open.{OpenEnv}

-- there is a number
abbrev pub Known : Option ℕ → Type 0
Known None = ⊥
Known (Some v) = Unit {0}

-- what a clear wire or output is assigned uses clear names alone
abbrev pub AreClear : (List ℕ → Bool) → List ModuleItem → Type 0
AreClear clear is = (n m : List ℕ) → Leads is n m → clear n ≡ true → clear m ≡ true

-- the clear names have numbers
abbrev pub AreKnown : (List ℕ → Bool) → OpenEnv → Type 0
AreKnown clear o = (n : List ℕ) → clear n ≡ true → Known (o n)

-- the clear registers have numbers
abbrev pub RegistersKnown : ModuleTree → (List ℕ → Bool) → OpenEnv → Type 0
RegistersKnown mo clear regs =
    (n : List ℕ) (d : Declaration) → lookup (declarations mo.ports mo.items) n ≡ Some d → d.kind ≡ K.Register
    → clear n ≡ true → Known (regs n)

-- the clear inputs but the clock have numbers
abbrev pub InputsKnown : ModuleTree → (List ℕ → Bool) → OpenEnv → Type 0
InputsKnown mo clear ins =
    (n : List ℕ) (d : Declaration) → lookup (declarations mo.ports mo.items) n ≡ Some d → d.kind ≡ K.Input
    → is_clk n ≡ false → clear n ≡ true → Known (ins n)

-- each number that is given to the name
abbrev pub SetsKnown : List ℕ → List (List ℕ × Option ℕ) → Type 0
SetsKnown n [] = Unit {0}
SetsKnown n (p ∷ ps) = (n ≡ p.0 → Known p.1) × SetsKnown n ps

-- something is given to the name
abbrev pub IsGiven : List ℕ → List (List ℕ × Option ℕ) → Type 0
IsGiven n [] = ⊥
IsGiven n (p ∷ ps) = (n ≡ p.0) ⊎ IsGiven n ps
