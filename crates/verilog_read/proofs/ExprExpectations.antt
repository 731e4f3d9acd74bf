-- The words, names and literals that may come in an expression by precedence.
use Rattle.std.proofs.Common.{◌≡◌, Bool, false, refl, sym, subst}
use Rattle.verilog_tree.specs.Plain as P
use Rattle.verilog_text.specs.Places as Q
use Rattle.verilog_text.specs.Places.{AtExpr, Linked}
use Rattle.verilog_read.specs.inner.Waiting.{lefts_of}
use Rattle.verilog_read.specs.inner.Holding.{standing}
use Rattle.verilog_read.specs.inner.WordSets.{Expects}
use Rattle.verilog_read.specs.inner.Ends.{begins}
use Rattle.verilog_read.specs.declared.words.Expected.{Expected}
use Rattle.verilog_read.specs.declared.words.WordSet.TheVariants as W
use Rattle.verilog_read.specs.declared.precedence.Chain.{Chain}
use Rattle.verilog_read.specs.declared.precedence.ExprSpot.{ExprSpot}
use Rattle.verilog_read.specs.declared.precedence.ExprSpot.TheVariants as S
use Rattle.verilog_text.proofs.Expectations.{have_literal}

abbrev told : Bool → Expected
told b = record { alternative = false; words = W.Nothing; names = b; literals = b }

expects_of : (s : ExprSpot) (c : Chain) (o : Q.Nest) → Expects (told (begins s)) (AtExpr (standing s c o))
expects_of (S.Operand r) c o = record { reserved = refl; names = refl; literals = refl }
expects_of (S.Prim r) c o = record { reserved = refl; names = refl; literals = refl }
expects_of (S.Named r n) c o = record { reserved = refl; names = refl; literals = sym (have_literal r (P.Net n.bytes) (Linked c.count (lefts_of c.lefts.items) c.mark o) (record { width = 1; value = 0 })) }
expects_of (S.Bracket r n) c o = record { reserved = refl; names = refl; literals = refl }
expects_of (S.HighRead r n h) c o = record { reserved = refl; names = refl; literals = refl }
expects_of (S.ColonRead r n h) c o = record { reserved = refl; names = refl; literals = refl }
expects_of (S.LowRead r n h l) c o = record { reserved = refl; names = refl; literals = refl }
expects_of (S.Have r x) c o = record { reserved = refl; names = refl; literals = sym (have_literal r (P.plain x) (Linked c.count (lefts_of c.lefts.items) c.mark o) (record { width = 1; value = 0 })) }

pub expr_expects : (e : Expected) (s : ExprSpot) (b : Bool) → e ≡ told b → b ≡ begins s → (c : Chain) (o : Q.Nest) → Expects e (AtExpr (standing s c o))
expr_expects e s b p q c o = subst (λ (y : Expected). Expects y (AtExpr (standing s c o))) (sym p) (subst (λ (t : Bool). Expects (told t) (AtExpr (standing s c o))) (sym q) (expects_of s c o))
