-- Trusted. The layout of a module's text. Every line ends with a line feed, and each depth is two blanks.
use Rattle.std.specs.Prelude.{ℕ, zero, suc, ◌+◌, ◌-◌, Bool, true, false, nat_lt, if◌then◌else◌, List, [], ◌∷◌, ◌++◌, codes, decimal}
use Rattle.bist_bits.specs.Vector.{Vector}
use Rattle.bist_text.specs.Numbers.{word_text}
use Rattle.verilog_tree.specs.declared.tree.Dir.{Dir}
use Rattle.verilog_tree.specs.declared.tree.Dir.TheVariants.{Input, Output, OutputReg}
use Rattle.verilog_tree.specs.Grammar.{unary_mark, binary_mark}
use Rattle.verilog_tree.specs.Plain.{Expression, Net, BitSelect, PartSelect, Literal, Concatenation, Prefixed, Infixed, Conditional, Expressions, NoMore, Followed, Statement, SetTo, IfElse, CaseOf, Statements, Done, Then, Arms, NoArm, ArmOf, ModuleItem, WireItem, RegItem, AssignItem, AlwaysItem, ModulePort, ModuleTree}
use Rattle.verilog_tree.specs.Tokens.{mark_text}

-- ---- lines

abbrev pub margin : ℕ → List ℕ
margin zero = []
margin (suc depth) = margin depth ++ codes "  "

abbrev pub line : ℕ → List ℕ → List ℕ
line depth text = margin depth ++ text ++ (10 ∷ [])

-- ---- expressions

-- the width, 'h, and the value in lower case with as many digits as the width needs
abbrev pub literal_text : Vector → List ℕ
literal_text x = decimal x.width ++ codes "'h" ++ word_text x.width x.value

-- a comma and a blank stand before each part and each label but the first
abbrev pub separator : Bool → List ℕ
separator true = []
separator false = codes ", "

-- parentheses stand round each operator
abbrev mutual
  pub expression_text : Expression → List ℕ
  expression_text (Net n) = n
  expression_text (BitSelect n i) = n ++ codes "[" ++ decimal i ++ codes "]"
  expression_text (PartSelect n h l) = n ++ codes "[" ++ decimal h ++ codes ":" ++ decimal l ++ codes "]"
  expression_text (Literal x) = literal_text x
  expression_text (Concatenation xs) = codes "{" ++ parts_text true xs ++ codes "}"
  expression_text (Prefixed o x) = codes "(" ++ mark_text (unary_mark o) ++ expression_text x ++ codes ")"
  expression_text (Infixed o x y) = codes "(" ++ expression_text x ++ codes " " ++ mark_text (binary_mark o)
      ++ codes " " ++ expression_text y ++ codes ")"
  expression_text (Conditional c x y) = codes "(" ++ expression_text c ++ codes " ? " ++ expression_text x
      ++ codes " : " ++ expression_text y ++ codes ")"

  pub parts_text : Bool → Expressions → List ℕ
  parts_text first NoMore = []
  parts_text first (Followed x xs) = separator first ++ expression_text x ++ parts_text false xs

-- ---- statements

abbrev pub labels_text : Bool → List Vector → List ℕ
labels_text first [] = []
labels_text first (x ∷ xs) = separator first ++ literal_text x ++ labels_text false xs

-- what is left out where there are no statements
abbrev pub unless_empty : Statements → List ℕ → List ℕ
unless_empty Done text = []
unless_empty (Then s ss) text = text

-- begin and end stand round each body
abbrev mutual
  pub statement_text : ℕ → Statement → List ℕ
  statement_text depth (SetTo n x) = line depth (n ++ codes " <= " ++ expression_text x ++ codes ";")
  statement_text depth (IfElse c a b) =
      line depth (codes "if (" ++ expression_text c ++ codes ") begin") ++ statements_text (depth + 1) a
      ++ unless_empty b (line depth (codes "end else begin") ++ statements_text (depth + 1) b) ++ line depth (codes "end")
  statement_text depth (CaseOf x as' d) =
      line depth (codes "case (" ++ expression_text x ++ codes ")") ++ arms_text (depth + 1) as'
      ++ unless_empty d (line (depth + 1) (codes "default: begin") ++ statements_text (depth + 2) d
      ++ line (depth + 1) (codes "end")) ++ line depth (codes "endcase")

  pub arms_text : ℕ → Arms → List ℕ
  arms_text depth NoArm = []
  arms_text depth (ArmOf ls ss as') = line depth (labels_text true ls ++ codes ": begin")
      ++ statements_text (depth + 1) ss ++ line depth (codes "end") ++ arms_text depth as'

  pub statements_text : ℕ → Statements → List ℕ
  statements_text depth Done = []
  statements_text depth (Then s ss) = statement_text depth s ++ statements_text depth ss

-- ---- ports and items

-- the range of a width above 1, and the blank behind it
abbrev pub range_text : ℕ → List ℕ
range_text width = if nat_lt 1 width then codes "[" ++ decimal (width - 1) ++ codes ":0] " else []

abbrev pub direction_text : Dir → List ℕ
direction_text Input = codes "input "
direction_text Output = codes "output "
direction_text OutputReg = codes "output reg "

abbrev pub port_text : ModulePort → List ℕ
port_text p = direction_text p.dir ++ range_text p.width ++ p.name

-- a comma stands behind each port but the last
abbrev pub comma : Bool → List ℕ
comma true = []
comma false = codes ","

abbrev pub is_last : List ModulePort → Bool
is_last [] = true
is_last (p ∷ ps) = false

abbrev pub ports_text : List ModulePort → List ℕ
ports_text [] = []
ports_text (p ∷ ps) = line 1 (port_text p ++ comma (is_last ps)) ++ ports_text ps

abbrev pub item_text : ModuleItem → List ℕ
item_text (WireItem n w) = line 1 (codes "wire " ++ range_text w ++ n ++ codes ";")
item_text (RegItem n w) = line 1 (codes "reg " ++ range_text w ++ n ++ codes ";")
item_text (AssignItem n x) = line 1 (codes "assign " ++ n ++ codes " = " ++ expression_text x ++ codes ";")
item_text (AlwaysItem c ss) = line 1 (codes "always @(posedge " ++ c ++ codes ") begin") ++ statements_text 2 ss ++ line 1 (codes "end")

abbrev pub items_text : List ModuleItem → List ℕ
items_text [] = []
items_text (i ∷ is) = item_text i ++ items_text is

-- the text of a module
abbrev pub printed : ModuleTree → List ℕ
printed mo = line 0 (codes "module " ++ mo.name ++ codes "(") ++ ports_text mo.ports ++ line 0 (codes ");")
    ++ items_text mo.items ++ line 0 (codes "endmodule")
