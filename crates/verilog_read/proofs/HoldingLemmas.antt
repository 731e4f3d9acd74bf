-- What the code holds, one part more.
use Rattle.std.proofs.Common.{◌≡◌, ◌∙◌, sym, Bool, Option, ℕ, Some, if◌then◌else◌, List, [], ◌∷◌, ◌++◌, map, refl, ap}
use Rattle.verilog_tree.specs.declared.tree.Expr.{Expr}
use Rattle.verilog_tree.specs.Plain.{Expression, plain, expressions, Followed, NoMore}
use Rattle.verilog_tree.specs.Free.{signed}
use Rattle.verilog_tree.specs.declared.tree.BinOp.{BinOp}
use Rattle.verilog_tree.specs.declared.tree.UnOp.{UnOp}
use Rattle.verilog_text.specs.Places as Q
use Rattle.verilog_text.specs.Places.{Alone, Only, IfTrue, WantOperand, Linked, AtExpr, State, more_parts}
use Rattle.verilog_read.specs.inner.Holding.{nest, nests_on, nests_of, is_expected}
use Rattle.verilog_tree.specs.Grammar.{Limit, is_sign}
use Rattle.verilog_text.specs.Flat.{one_more, Left, settle_all, linked}
use Rattle.verilog_text.specs.declared.count.Count.{Count}
use Rattle.verilog_text.specs.Steps.{in_room, infix_of, link_step, have_step, expects, only_where, ask_step, close_step}
use Rattle.verilog_tree.specs.Tokens.{Token, Identifier, Number, Based, Unused, Sign}
use Rattle.verilog_tree.specs.declared.tokens.Mark.{Mark}
use Rattle.verilog_tree.specs.declared.tokens.Mark.TheVariants.{Question}
use Rattle.verilog_read.specs.declared.precedence.Nest.{Nest}

push_on : (ns : List Nest) (n : Nest) (o : Q.Nest) → nests_on (ns ++ n ∷ []) o ≡ nest n (nests_on ns o)
push_on [] n o = refl
push_on (m ∷ ns) n o = push_on ns n (nest m o)

pub nests_push : (ns : List Nest) (n : Nest) (b : Alone) → nests_of (ns ++ n ∷ []) b ≡ nest n (nests_of ns b)
nests_push ns n b = push_on ns n (Only b)

pub parts_push : (xs : List Expr) (x : Expr) → expressions (map plain (xs ++ x ∷ [])) ≡ more_parts (expressions (map plain xs)) (Followed (plain x) NoMore)
parts_push [] x = refl
parts_push (y ∷ xs) x = ap (λ es. Followed (plain y) es) (parts_push xs x)

pub expects_is : (m : Mark) (s : State) (t : Token) → expects m s t ≡ only_where (is_expected m t) (Some s)
expects_is m s (Sign n) = refl
expects_is m s (Identifier w) = refl
expects_is m s (Number l n) = refl
expects_is m s (Based x) = refl
expects_is m s Unused = refl

pub expected : (m : Mark) (s : State) (t : Token) (b : Bool) → is_expected m t ≡ b → expects m s t ≡ only_where b (Some s)
expected m s t b e = expects_is m s t ∙ ap (λ x. only_where x (Some s)) e

-- behind no operator: a choice where the mark is ?, and else the end
pub ask_is : (limit : Limit) (p : ℕ) (n : Count) (ws : List Left) (e : Expression) (o : Q.Nest) (m : Mark) → ask_step limit p n ws e o m ≡ (if is_sign Question m then in_room (one_more limit n) (λ j. AtExpr (WantOperand p j [] (IfTrue (settle_all ws e) o))) else close_step p n (settle_all ws e) o (Sign m))
ask_is limit p n ws e o Question = refl
ask_is limit p n ws e o m = refl

-- behind an operand an operator comes
pub linked_is : (limit : Limit) (p : ℕ) (n : Count) (x e : Expression) (ws : List Left) (u : Option UnOp) (o : Q.Nest) (t : Token) (m : Mark) (b : BinOp) → t ≡ Sign m → infix_of m ≡ Some b → e ≡ signed u x → have_step limit p x (Linked n ws u o) t ≡ in_room (one_more limit n) (λ j. AtExpr (WantOperand p j (linked b ws e) o))
linked_is limit p n x e ws u o t m b k f g =
    ap (λ (y : Token). have_step limit p x (Linked n ws u o) y) k
    ∙ ap (λ (w : Option BinOp). link_step limit w p n ws (signed u x) o m) f
    ∙ ap (λ (y : Expression). in_room (one_more limit n) (λ j. AtExpr (WantOperand p j (linked b ws y) o))) (sym g)
