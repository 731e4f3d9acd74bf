-- Operators that wait, as the code holds them.
use Rattle.std.proofs.Common.{◌≡◌, ◌∙◌, Bool, true, if◌then◌else◌, nat_le, List, [], ◌∷◌, ◌++◌, refl, ap}
use Rattle.verilog_tree.specs.Operators.{height}
use Rattle.verilog_tree.specs.Plain.{Expression, plain}
use Rattle.verilog_tree.specs.declared.tree.BinOp.{BinOp}
use Rattle.verilog_tree.specs.declared.tree.BinOp.TheVariants.{Add}
use Rattle.verilog_tree.specs.declared.tree.Expr.{Expr}
use Rattle.verilog_text.specs.Flat as F
use Rattle.verilog_read.specs.inner.Waiting.{left_of, lefts_on, lefts_of, waiting_of}
use Rattle.verilog_read.specs.declared.operators.Left.{Left}

push_on : (ls : List Left) (l : Left) (ws : List F.Left) → lefts_on (ls ++ (l ∷ [])) ws ≡ left_of l ∷ lefts_on ls ws
push_on [] l ws = refl
push_on (k ∷ ls) l ws = push_on ls l (left_of k ∷ ws)

pub lefts_push : (ls : List Left) (l : Left) → lefts_of (ls ++ (l ∷ [])) ≡ left_of l ∷ lefts_of ls
lefts_push ls l = push_on ls l []

-- no operator binds more loosely than those of height 9
within : (o : BinOp) → nat_le (height o) 9 ≡ true
within Add = refl
within o = refl

settles_all : (ws : List F.Left) (x : Expression) → (F.settle 9 ws x).last ≡ F.settle_all ws x
settles_all [] x = refl
settles_all (w ∷ ws) x =
    ap (λ (b : Bool). (if b then F.settle 9 ws (F.joined w x) else record { lefts = w ∷ ws; last = x }).last) (within w.operator)
    ∙ settles_all ws (F.joined w x)

pub settled_all : (ls ks : List Left) (y x : Expr) → waiting_of ks y ≡ F.settle 9 (lefts_of ls) (plain x) → plain y ≡ F.settle_all (lefts_of ls) (plain x)
settled_all ls ks y x e = ap (λ (w : F.Waiting). w.last) e ∙ settles_all (lefts_of ls) (plain x)
