-- Public. Small modules, to try the definitions on.
use Rattle.std.specs.Prelude.{ℕ, List, [], ◌∷◌, codes}
use Rattle.verilog_tree.specs.declared.tree.Dir.TheVariants.{Input, Output}
use Rattle.verilog_tree.specs.declared.tree.BinOp.TheVariants.{Add, Shl}
use Rattle.verilog_tree.specs.Plain.{Net, Literal, Infixed, SetTo, Done, Then, RegItem, AssignItem, AlwaysItem, ModuleItem, ModuleTree}

abbrev pub a : List ℕ
a = codes "a"

abbrev pub b : List ℕ
b = codes "b"

abbrev pub y : List ℕ
y = codes "y"

abbrev pub clk : List ℕ
clk = codes "clk"

-- a module with the clock, an input a of four bits, an input b of three, and an output y of four
abbrev pub with_items : List ModuleItem → ModuleTree
with_items is = record {
  name = codes "m";
  ports = record { dir = Input; name = clk; width = 1 } ∷ record { dir = Input; name = a; width = 4 }
      ∷ record { dir = Input; name = b; width = 3 } ∷ record { dir = Output; name = y; width = 4 } ∷ [];
  items = is;
}

-- assign y = (a + b);
abbrev pub unequal_sum : ModuleTree
unequal_sum = with_items (AssignItem y (Infixed Add (Net a) (Net b)) ∷ [])

-- assign y = (a << 4'h4);
abbrev pub shifted_out : ModuleTree
shifted_out = with_items (AssignItem y (Infixed Shl (Net a) (Literal (record { width = 4; value = 4 }))) ∷ [])

abbrev pub p : List ℕ
p = codes "p"

abbrev pub q : List ℕ
q = codes "q"

-- two registers of four bits that exchange their values, where y shows the first
abbrev pub swap : ModuleTree
swap = with_items
    (RegItem p 4 ∷ RegItem q 4 ∷ AssignItem y (Net p)
    ∷ AlwaysItem clk (Then (SetTo p (Net q)) (Then (SetTo q (Net p)) Done)) ∷ [])

-- the same registers, one of them in two blocks
abbrev pub two_blocks : ModuleTree
two_blocks = with_items
    (RegItem p 4 ∷ AssignItem y (Net p)
    ∷ AlwaysItem clk (Then (SetTo p (Net a)) Done) ∷ AlwaysItem clk (Then (SetTo p (Net y)) Done) ∷ [])

-- the text of a module of one input and one output
abbrev pub text : List ℕ
text = codes "module m(input a,output y);assign y=(a); endmodule"

abbrev pub spelled : ModuleTree
spelled = record {
  name = codes "m";
  ports = record { dir = Input; name = a; width = 1 } ∷ record { dir = Output; name = y; width = 1 } ∷ [];
  items = AssignItem y (Net a) ∷ [];
}
