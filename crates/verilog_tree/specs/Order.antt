-- Public. Modules whose assign items and always blocks stand in another order.
use Rattle.std.specs.Prelude.{◌≡◌, ℕ, List, [], ◌∷◌}
use Rattle.std.specs.List.Sorted.{IsPermutation}
use Rattle.verilog_tree.specs.Names.{item_declarations}
use Rattle.verilog_tree.specs.Meaning.{Env, Settles, next, History}
use Rattle.verilog_tree.specs.Plain.{Expression, Statements, ModuleItem, WireItem, RegItem, AssignItem, AlwaysItem, ModuleTree}

pub record Assignment : Type 0 where
  pub target : List ℕ
  pub expression : Expression

-- the assign items, in order
abbrev pub assignments : List ModuleItem → List Assignment
assignments [] = []
assignments (WireItem n k ∷ is) = assignments is
assignments (RegItem n k ∷ is) = assignments is
assignments (AssignItem n x ∷ is) = record { target = n; expression = x } ∷ assignments is
assignments (AlwaysItem c ss ∷ is) = assignments is

-- what the always blocks do, in order
abbrev pub blocks : List ModuleItem → List Statements
blocks [] = []
blocks (WireItem n k ∷ is) = blocks is
blocks (RegItem n k ∷ is) = blocks is
blocks (AssignItem n x ∷ is) = blocks is
blocks (AlwaysItem c ss ∷ is) = ss ∷ blocks is

-- The second module has the ports and the declarations of the first, and its assign items and its always
-- blocks in some order.
pub record Reordered (one other : ModuleTree) : Type 0 where
  pub ports : one.ports ≡ other.ports
  pub declared : item_declarations one.items ≡ item_declarations other.items
  pub assigned : IsPermutation (assignments one.items) (assignments other.items)
  pub clocked : IsPermutation (blocks one.items) (blocks other.items)

-- What settles and happens in the first module does so in the second.
pub record MeansTheSame (one other : ModuleTree) : Type 0 where
  pub settles : (regs ins e : Env) → Settles one regs ins e → Settles other regs ins e
  pub registers : (e : Env) (n : List ℕ) → next one e n ≡ next other e n
  pub histories : (regs : Env) (is es : List Env) → History one regs is es → History other regs is es
