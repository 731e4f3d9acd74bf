-- Trusted. What the names of a module are.
use Rattle.std.specs.Prelude.{ℕ, ◌+◌, Bool, true, false, cond, nat_eq, ◌&&◌, List, [], ◌∷◌, ◌++◌, map, Option, Some, None, codes}
use Rattle.std.specs.Str.{bytes_eq}
use Rattle.verilog_tree.specs.declared.tree.Dir.{Dir}
use Rattle.verilog_tree.specs.declared.tree.Dir.TheVariants.{Input, Output, OutputReg}
use Rattle.verilog_tree.specs.declared.names.Kind.{Kind}
use Rattle.verilog_tree.specs.declared.names.Kind.TheVariants as K
use Rattle.verilog_tree.specs.Plain.{ModuleItem, WireItem, RegItem, AssignItem, AlwaysItem, ModulePort}

pub record Declaration : Type 0 where
  pub name : List ℕ
  pub kind : Kind
  pub width : ℕ

-- a plain output counts as a wire
abbrev pub kind_of : Dir → Kind
kind_of Input = K.Input
kind_of Output = K.Wire
kind_of OutputReg = K.Register

abbrev pub port_declaration : ModulePort → Declaration
port_declaration p = record { name = p.name; kind = kind_of p.dir; width = p.width }

abbrev pub port_declarations : List ModulePort → List Declaration
port_declarations ps = map port_declaration ps

-- what an item declares
abbrev pub declared_by : ModuleItem → List Declaration
declared_by (WireItem n k) = record { name = n; kind = K.Wire; width = k } ∷ []
declared_by (RegItem n k) = record { name = n; kind = K.Register; width = k } ∷ []
declared_by (AssignItem n x) = []
declared_by (AlwaysItem c ss) = []

abbrev pub item_declarations : List ModuleItem → List Declaration
item_declarations [] = []
item_declarations (i ∷ is) = declared_by i ++ item_declarations is

-- the declarations of these ports and items, in order
abbrev pub declarations : List ModulePort → List ModuleItem → List Declaration
declarations ps is = port_declarations ps ++ item_declarations is

-- the first declaration of a name
abbrev pub lookup : List Declaration → List ℕ → Option Declaration
lookup [] n = None
lookup (d ∷ ds) n = cond (bytes_eq n d.name) (Some d) (lookup ds n)

-- how many of these names stand before n
abbrev pub number : List (List ℕ) → List ℕ → ℕ
number [] n = 0
number (x ∷ xs) n = cond (bytes_eq n x) 0 (1 + number xs n)

abbrev pub declared_width : Option Declaration → ℕ
declared_width None = 0
declared_width (Some d) = d.width

-- the width that a name is declared with, or 0
abbrev pub width_of : List Declaration → List ℕ → ℕ
width_of ds n = declared_width (lookup ds n)

abbrev pub is_input : Kind → Bool
is_input K.Input = true
is_input K.Wire = false
is_input K.Register = false

abbrev pub is_wire : Kind → Bool
is_wire K.Input = false
is_wire K.Wire = true
is_wire K.Register = false

abbrev pub is_register : Kind → Bool
is_register K.Input = false
is_register K.Wire = false
is_register K.Register = true

-- the name of the clock
abbrev pub is_clk : List ℕ → Bool
is_clk n = bytes_eq n (codes "clk")

-- an input of one bit
abbrev pub may_be_clock : Declaration → Bool
may_be_clock d = is_input d.kind && nat_eq d.width 1

-- a test of what a name is declared as
abbrev pub is_declared_as : (Declaration → Bool) → Option Declaration → Bool
is_declared_as test None = false
is_declared_as test (Some d) = test d
