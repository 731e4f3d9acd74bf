-- Trusted. Wires whose expressions use wires.
use Rattle.std.specs.Prelude.{◌≡◌, ℕ, ◌^◌, ◌<◌, cond, false, List, [], ◌∷◌, ◌⊎◌, Option, Some, None}
use Rattle.std.specs.Str.{bytes_eq}
use Rattle.verilog_tree.specs.declared.names.Kind.{Kind}
use Rattle.verilog_tree.specs.declared.names.Kind.TheVariants as K
use Rattle.verilog_tree.specs.Names.{Declaration, declarations, lookup, is_clk}
use Rattle.verilog_tree.specs.Meaning.{Env, Settles}
use Rattle.verilog_tree.specs.Plain.{Expression, Net, BitSelect, PartSelect, Literal, Concatenation, Prefixed, Infixed, Conditional, Expressions, NoMore, Followed, ModuleItem, WireItem, RegItem, AssignItem, AlwaysItem, ModuleTree}

-- the expression uses the name
abbrev mutual
  pub Uses : List ℕ → Expression → Type 0
  Uses n (Net m) = n ≡ m
  Uses n (BitSelect m i) = n ≡ m
  Uses n (PartSelect m h l) = n ≡ m
  Uses n (Literal b) = ⊥
  Uses n (Concatenation xs) = UsesAny n xs
  Uses n (Prefixed o x) = Uses n x
  Uses n (Infixed o x y) = Uses n x ⊎ Uses n y
  Uses n (Conditional c x y) = Uses n c ⊎ (Uses n x ⊎ Uses n y)

  pub UsesAny : List ℕ → Expressions → Type 0
  UsesAny n NoMore = ⊥
  UsesAny n (Followed x xs) = Uses n x ⊎ UsesAny n xs

-- the first expression that a name is assigned
abbrev pub driver : List ModuleItem → List ℕ → Option Expression
driver [] n = None
driver (WireItem m k ∷ is) n = driver is n
driver (RegItem m k ∷ is) n = driver is n
driver (AssignItem m x ∷ is) n = cond (bytes_eq n m) (Some x) (driver is n)
driver (AlwaysItem c ss ∷ is) n = driver is n

-- the name is assigned an expression that uses the other
abbrev pub Leads : List ModuleItem → List ℕ → List ℕ → Type 0
Leads [] n m = ⊥
Leads (WireItem k w ∷ is) n m = Leads is n m
Leads (RegItem k w ∷ is) n m = Leads is n m
Leads (AssignItem k x ∷ is) n m = ((n ≡ k) × Uses m x) ⊎ Leads is n m
Leads (AlwaysItem c ss ∷ is) n m = Leads is n m

-- the name is declared, and isn't the clock
pub record Read (ds : List Declaration) (m : List ℕ) : Type 0 where
  pub declaration : Declaration
  pub found : lookup ds m ≡ Some declaration
  pub unclocked : is_clk m ≡ false

-- n leads to the first of these names, each of them to the next, and the last to m
abbrev pub Chain : List ModuleItem → List ℕ → List (List ℕ) → List ℕ → Type 0
Chain is n [] m = Leads is n m
Chain is n (k ∷ ks) m = Leads is n k × Chain is k ks m

-- These names are a loop of wires: the expression of each uses the next, and that of the last the first.
abbrev pub IsLoop : ModuleTree → List (List ℕ) → Type 0
IsLoop mo [] = ⊥
IsLoop mo (n ∷ ns) = Chain mo.items n ns n

-- a rank of the names, which falls from a name to each that its expression uses
abbrev pub Falls : (List ℕ → ℕ) → List ModuleItem → Type 0
Falls rank is = (n m : List ℕ) → Leads is n m → rank m < rank n

-- the value given to a declared name, where something is given, is within its width; nothing is given to the clock
abbrev pub GivenWithin : Env → Env → Kind → List ℕ → ℕ → Type 0
GivenWithin regs ins K.Input n k = is_clk n ≡ false → ins n < 2 ^ k
GivenWithin regs ins K.Wire n k = Unit {0}
GivenWithin regs ins K.Register n k = regs n < 2 ^ k

abbrev pub AllWithin : Env → Env → List Declaration → Type 0
AllWithin regs ins [] = Unit {0}
AllWithin regs ins (d ∷ ds) = GivenWithin regs ins d.kind d.name d.width × AllWithin regs ins ds

-- the values of registers, and of inputs but the clock, are within their widths
abbrev pub Starts : ModuleTree → Env → Env → Type 0
Starts mo regs ins = AllWithin regs ins (declarations mo.ports mo.items)

-- exactly one environment settles
pub record OneSettles (mo : ModuleTree) (regs ins : Env) : Type 0 where
  pub env : Env
  pub settles : Settles mo regs ins env
  pub only : (e : Env) → Settles mo regs ins e → (n : List ℕ) → e n ≡ env n
