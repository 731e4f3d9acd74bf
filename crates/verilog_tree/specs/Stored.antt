-- Public. How the logic stores a plain module: a tree of numbers, from which it is read again.
use Rattle.std.specs.Prelude.{◌≡◌, ℕ, zero, suc, ◌+◌, List, [], ◌∷◌, get_or, if◌then◌else◌, refl}
use mathlib.Core.Path.{sym, ap, ◌∙◌}
use Rattle.std.specs.Coded.{Coded, code_by, coded×, coded⊎, coded_ℕ, coded_list}
use base.Stored.{Gv, gnil, gnum, gcons, num}
use mathlib.Core.Logic.{◌⊎◌, inl, inr}
use Rattle.bist_bits.specs.Vector.{Vector}
use Rattle.verilog_tree.specs.declared.tree.Dir.{Dir}
use Rattle.verilog_tree.specs.contracts.tree.Dir.{the_row}
use Rattle.verilog_tree.specs.declared.tree.UnOp.{UnOp}
use Rattle.verilog_tree.specs.declared.tree.UnOp.TheVariants as U
use Rattle.verilog_tree.specs.declared.tree.BinOp.{BinOp}
use Rattle.verilog_tree.specs.declared.tree.BinOp.TheVariants as B
use Rattle.verilog_tree.specs.declared.tokens.Mark.{Mark}
use Rattle.verilog_tree.specs.Operators.{unary_mark, binary_mark}
use Rattle.verilog_tree.specs.Pieces.{is_sign}
use Rattle.verilog_tree.specs.Marked.{prefixes, infixes}
use Rattle.verilog_tree.specs.Plain.{Expression, Net, BitSelect, PartSelect, Literal, Concatenation, Prefixed, Infixed, Conditional, Expressions, NoMore, Followed, Statement, SetTo, IfElse, CaseOf, Statements, Done, Then, Arms, NoArm, ArmOf, ModuleItem, WireItem, RegItem, AssignItem, AlwaysItem, ModulePort, ModuleTree}

-- a node: its kind, what it has beside its parts, and its parts
abbrev node : ℕ → Gv → Gv → Gv
node k what parts = gcons (gcons (gnum k) what) parts

abbrev bytes : List ℕ → Gv
bytes [] = gnil
bytes (n ∷ ns) = gcons (gnum n) (bytes ns)

abbrev bytes_read : Gv → List ℕ
bytes_read gnil = []
bytes_read (gnum n) = []
bytes_read (gcons a b) = num a ∷ bytes_read b

bytes_back : (ns : List ℕ) → bytes_read (bytes ns) ≡ ns
bytes_back [] = refl
bytes_back (n ∷ ns) = ap (λ k. n ∷ k) (bytes_back ns)

-- an operator is stored as its place among all
abbrev place : {O : Type 0} → (O → Mark) → List O → Mark → ℕ
place mark [] m = 0
place mark (o ∷ os) m = if is_sign (mark o) m then 0 else place mark os m + 1

abbrev prefix_number : UnOp → ℕ
prefix_number o = place unary_mark prefixes (unary_mark o)

abbrev prefix_read : ℕ → UnOp
prefix_read n = get_or prefixes n U.Not

prefix_back : (o : UnOp) → prefix_read (prefix_number o) ≡ o
prefix_back U.Not = refl
prefix_back o = refl

abbrev infix_number : BinOp → ℕ
infix_number o = place binary_mark infixes (binary_mark o)

abbrev infix_read : ℕ → BinOp
infix_read n = get_or infixes n B.Add

infix_back : (o : BinOp) → infix_read (infix_number o) ≡ o
infix_back B.Add = refl
infix_back o = refl

-- an expression's parts are stored as those of a concatenation
abbrev mutual
  expression : Expression → Gv
  expression (Net n) = node 0 (bytes n) gnil
  expression (BitSelect n i) = node 1 (gcons (gnum i) (bytes n)) gnil
  expression (PartSelect n h l) = node 2 (gcons (gcons (gnum h) (gnum l)) (bytes n)) gnil
  expression (Literal b) = node 3 (gcons (gnum b.width) (gnum b.value)) gnil
  expression (Concatenation xs) = node 4 gnil (expressions xs)
  expression (Prefixed o x) = node 5 (gnum (prefix_number o)) (gcons (expression x) gnil)
  expression (Infixed o x y) = node 6 (gnum (infix_number o)) (gcons (expression x) (gcons (expression y) gnil))
  expression (Conditional c x y) = node 7 gnil (gcons (expression c) (gcons (expression x) (gcons (expression y) gnil)))

  expressions : Expressions → Gv
  expressions NoMore = gnil
  expressions (Followed x xs) = gcons (expression x) (expressions xs)

-- the first part, and the parts behind it
abbrev part : Expressions → Expression
part NoMore = Net []
part (Followed x xs) = x

abbrev behind : Expressions → Expressions
behind NoMore = NoMore
behind (Followed x xs) = xs

abbrev left : Gv → Gv
left gnil = gnil
left (gnum n) = gnil
left (gcons a b) = a

abbrev right : Gv → Gv
right gnil = gnil
right (gnum n) = gnil
right (gcons a b) = b

abbrev node_read : ℕ → Gv → Expressions → Expression
node_read zero what parts = Net (bytes_read what)
node_read (suc zero) what parts = BitSelect (bytes_read (right what)) (num (left what))
node_read (suc (suc zero)) what parts = PartSelect (bytes_read (right what)) (num (left (left what))) (num (right (left what)))
node_read (suc (suc (suc zero))) what parts = Literal (record { width = num (left what); value = num (right what) })
node_read (suc (suc (suc (suc zero)))) what parts = Concatenation parts
node_read (suc (suc (suc (suc (suc zero))))) what parts = Prefixed (prefix_read (num what)) (part parts)
node_read (suc (suc (suc (suc (suc (suc zero)))))) what parts = Infixed (infix_read (num what)) (part parts) (part (behind parts))
node_read (suc (suc (suc (suc (suc (suc (suc n))))))) what parts = Conditional (part parts) (part (behind parts))
    (part (behind (behind parts)))

abbrev mutual
  expression_read : Gv → Expression
  expression_read gnil = Net []
  expression_read (gnum n) = Net []
  expression_read (gcons a b) = node_read (num (left a)) (right a) (expressions_read b)

  expressions_read : Gv → Expressions
  expressions_read gnil = NoMore
  expressions_read (gnum n) = NoMore
  expressions_read (gcons a b) = Followed (expression_read a) (expressions_read b)

mutual
  pub expression_back : (x : Expression) → expression_read (expression x) ≡ x
  expression_back (Net n) = ap Net (bytes_back n)
  expression_back (BitSelect n i) = ap (λ k. BitSelect k i) (bytes_back n)
  expression_back (PartSelect n h l) = ap (λ k. PartSelect k h l) (bytes_back n)
  expression_back (Literal b) = refl
  expression_back (Concatenation xs) = ap Concatenation (expressions_back xs)
  expression_back (Prefixed o x) = ap (λ k. Prefixed k (expression_read (expression x))) (prefix_back o)
      ∙ ap (Prefixed o) (expression_back x)
  expression_back (Infixed o x y) =
      ap (λ k. Infixed k (expression_read (expression x)) (expression_read (expression y))) (infix_back o)
      ∙ ap (λ k. Infixed o k (expression_read (expression y))) (expression_back x)
      ∙ ap (Infixed o x) (expression_back y)
  expression_back (Conditional c x y) =
      ap (λ k. Conditional k (expression_read (expression x)) (expression_read (expression y))) (expression_back c)
      ∙ ap (λ k. Conditional c k (expression_read (expression y))) (expression_back x)
      ∙ ap (Conditional c x) (expression_back y)

  expressions_back : (xs : Expressions) → expressions_read (expressions xs) ≡ xs
  expressions_back NoMore = refl
  expressions_back (Followed x xs) = ap (λ k. Followed k (expressions_read (expressions xs))) (expression_back x)
      ∙ ap (Followed x) (expressions_back xs)

abbrev labels : List Vector → Gv
labels [] = gnil
labels (b ∷ bs) = gcons (gcons (gnum b.width) (gnum b.value)) (labels bs)

abbrev labels_read : Gv → List Vector
labels_read gnil = []
labels_read (gnum n) = []
labels_read (gcons a b) = record { width = num (left a); value = num (right a) } ∷ labels_read b

labels_back : (bs : List Vector) → labels_read (labels bs) ≡ bs
labels_back [] = refl
labels_back (b ∷ bs) = ap (λ k. b ∷ k) (labels_back bs)

-- a statement's bodies are stored as arms
abbrev mutual
  statement : Statement → Gv
  statement (SetTo n x) = node 0 (gcons (bytes n) (expression x)) gnil
  statement (IfElse c a b) = node 1 (expression c) (gcons (gcons gnil (statements a)) (gcons (gcons gnil (statements b)) gnil))
  statement (CaseOf x as' d) = node 2 (expression x) (gcons (gcons gnil (statements d)) (arms as'))

  statements : Statements → Gv
  statements Done = gnil
  statements (Then s ss) = gcons (statement s) (statements ss)

  arms : Arms → Gv
  arms NoArm = gnil
  arms (ArmOf bs ss as') = gcons (gcons (labels bs) (statements ss)) (arms as')

-- the first body, and the arms behind it
abbrev body : Arms → Statements
body NoArm = Done
body (ArmOf bs ss as') = ss

abbrev others : Arms → Arms
others NoArm = NoArm
others (ArmOf bs ss as') = as'

abbrev step_read : ℕ → Gv → Arms → Statement
step_read zero what bodies = SetTo (bytes_read (left what)) (expression_read (right what))
step_read (suc zero) what bodies = IfElse (expression_read what) (body bodies) (body (others bodies))
step_read (suc (suc n)) what bodies = CaseOf (expression_read what) (others bodies) (body bodies)

abbrev mutual
  statement_read : Gv → Statement
  statement_read gnil = SetTo [] (Net [])
  statement_read (gnum n) = SetTo [] (Net [])
  statement_read (gcons a b) = step_read (num (left a)) (right a) (arms_read b)

  statements_read : Gv → Statements
  statements_read gnil = Done
  statements_read (gnum n) = Done
  statements_read (gcons a b) = Then (statement_read a) (statements_read b)

  arms_read : Gv → Arms
  arms_read gnil = NoArm
  arms_read (gnum n) = NoArm
  arms_read (gcons gnil b) = NoArm
  arms_read (gcons (gnum n) b) = NoArm
  arms_read (gcons (gcons l a) b) = ArmOf (labels_read l) (statements_read a) (arms_read b)

mutual
  statement_back : (s : Statement) → statement_read (statement s) ≡ s
  statement_back (SetTo n x) = ap (λ k. SetTo k (expression_read (expression x))) (bytes_back n) ∙ ap (SetTo n) (expression_back x)
  statement_back (IfElse c a b) =
      ap (λ k. IfElse k (statements_read (statements a)) (statements_read (statements b))) (expression_back c)
      ∙ ap (λ k. IfElse c k (statements_read (statements b))) (statements_back a)
      ∙ ap (IfElse c a) (statements_back b)
  statement_back (CaseOf x as' d) =
      ap (λ k. CaseOf k (arms_read (arms as')) (statements_read (statements d))) (expression_back x)
      ∙ ap (λ k. CaseOf x k (statements_read (statements d))) (arms_back as')
      ∙ ap (CaseOf x as') (statements_back d)

  pub statements_back : (ss : Statements) → statements_read (statements ss) ≡ ss
  statements_back Done = refl
  statements_back (Then s ss) = ap (λ k. Then k (statements_read (statements ss))) (statement_back s) ∙ ap (Then s) (statements_back ss)

  arms_back : (as' : Arms) → arms_read (arms as') ≡ as'
  arms_back NoArm = refl
  arms_back (ArmOf bs ss as') =
      ap (λ k. ArmOf k (statements_read (statements ss)) (arms_read (arms as'))) (labels_back bs)
      ∙ ap (λ k. ArmOf bs k (arms_read (arms as'))) (statements_back ss)
      ∙ ap (ArmOf bs ss) (arms_back as')

abbrev expression_code : Coded Expression
expression_code = record { code = expression; inj = λ x y p. sym (expression_back x) ∙ ap expression_read p ∙ expression_back y }

abbrev statements_code : Coded Statements
statements_code = record { code = statements; inj = λ x y p. sym (statements_back x) ∙ ap statements_read p ∙ statements_back y }

-- what an item is beside its name
abbrev ItemBody : Type 0
ItemBody = (ℕ ⊎ ℕ) ⊎ (Expression ⊎ Statements)

abbrev item_body : ModuleItem → List ℕ × ItemBody
item_body (WireItem n w) = (n, inl (inl w))
item_body (RegItem n w) = (n, inl (inr w))
item_body (AssignItem n x) = (n, inr (inl x))
item_body (AlwaysItem c ss) = (c, inr (inr ss))

abbrev item_of : List ℕ → ItemBody → ModuleItem
item_of n (inl (inl w)) = WireItem n w
item_of n (inl (inr w)) = RegItem n w
item_of n (inr (inl x)) = AssignItem n x
item_of n (inr (inr ss)) = AlwaysItem n ss

pub item_back : (i : ModuleItem) → item_of (item_body i).0 (item_body i).1 ≡ i
item_back (WireItem n w) = refl
item_back (RegItem n w) = refl
item_back (AssignItem n x) = refl
item_back (AlwaysItem c ss) = refl

abbrev item_code : Coded ModuleItem
item_code =
    code_by (List ℕ × ItemBody) (coded× (coded_list coded_ℕ)
    (coded⊎ (coded⊎ coded_ℕ coded_ℕ) (coded⊎ expression_code statements_code))) item_body
    (λ p. item_of p.0 p.1) item_back

abbrev port_code : Coded ModulePort
port_code =
    code_by (Dir × (List ℕ × ℕ)) (coded× the_row.coded (coded× (coded_list coded_ℕ) coded_ℕ))
    (λ p. (p.dir, (p.name, p.width))) (λ p. record { dir = p.0; name = p.1.0; width = p.1.1 }) (λ _. refl)

-- a module is stored as its name, its ports and its items
abbrev pub module_code : Coded ModuleTree
module_code =
    code_by (List ℕ × (List ModulePort × List ModuleItem))
    (coded× (coded_list coded_ℕ) (coded× (coded_list port_code) (coded_list item_code)))
    (λ m. (m.name, (m.ports, m.items))) (λ p. record { name = p.0; ports = p.1.0; items = p.1.1 }) (λ _. refl)
