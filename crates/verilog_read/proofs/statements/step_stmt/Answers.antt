use Rattle.std.proofs.Common.{◌≡◌, ◌∙◌, ℕ, true, false, List, Option, Some, Result, subst, sym, ap, refl}
use Rattle.verilog_tree.specs.Grammar.{Style}
use Rattle.verilog_tree.specs.Spells.{bounded}
use Rattle.verilog_tree.specs.Tokens.{Token, Identifier, Number, Based, Unused, Sign}
use Rattle.verilog_tree.specs.declared.tokens.Mark.TheVariants.{Open, LessEquals}
use Rattle.verilog_text.specs.Places as Q
use Rattle.verilog_text.specs.Places.{Around, State, AtExpr, AsValue, AsCondition, AsSubject, begin_expr, style_of}
use Rattle.verilog_text.specs.Steps.{step_stmt}
use Rattle.verilog_read.specs.declared.fault.ParseFault.{ParseFault}
use Rattle.verilog_read.specs.declared.places.Outer.{Outer}
use Rattle.verilog_read.specs.declared.places.Place.{Place}
use Rattle.verilog_read.specs.inner.Answers.{Goes, opens_expr}
use Rattle.verilog_read.specs.declared.places.StmtSpot.{StmtSpot}
use Rattle.verilog_read.specs.inner.Frames.{around_of}
use Rattle.verilog_read.specs.inner.Holding.{is_expected, token_of}
use Rattle.verilog_read.specs.inner.Spots.{stmt_spot}
use Rattle.verilog_read.proofs.HoldingLemmas.{expected}
use Rattle.verilog_read.proofs.PlaceSteps.{stmt_stepped, first_stepped}
use Rattle.verilog_read.proofs.statements.step_stmt.Goals as goal

goes_as : (s u : Option State) (r : Result Place ParseFault) (w : Outer) → s ≡ u → Goes u r w → Goes s r w
goes_as s u r w e h = subst (λ (x : Option State). Goes x r w) (sym e) h

placed : (p q : StmtSpot) (a : Around) (t : Token) (o : Option State) → p ≡ q → step_stmt bounded (stmt_spot q a) t ≡ o → step_stmt bounded (stmt_spot p a) t ≡ o
placed p q a t o e f = ap (λ x. step_stmt bounded (stmt_spot x a) t) e ∙ f

began : (q : ℕ) (n : List ℕ) (a : Around) (t : Token) (y : Style) (s : State) → is_expected LessEquals t ≡ true → style_of a ≡ y → s ≡ AtExpr (begin_expr y q (AsValue n a)) → step_stmt bounded (Q.Target q n a) t ≡ Some s
began q n a t y s e f g = expected LessEquals _ t true e ∙ ap (λ x. Some (AtExpr (begin_expr x q (AsValue n a)))) f ∙ ap Some (sym g)

if_is : (r q : ℕ) (a : Around) (t : Token) → step_stmt bounded (Q.IfRead r q a) t ≡ opens_expr bounded q (style_of a) (AsCondition r q a) t
if_is r q a (Sign Open) = refl
if_is r q a (Sign m) = refl
if_is r q a (Identifier w) = refl
if_is r q a (Number l n) = refl
if_is r q a (Based x) = refl
if_is r q a Unused = refl

case_is : (r q : ℕ) (a : Around) (t : Token) → step_stmt bounded (Q.CaseRead r q a) t ≡ opens_expr bounded q (style_of a) (AsSubject r q a) t
case_is r q a (Sign Open) = refl
case_is r q a (Sign m) = refl
case_is r q a (Identifier w) = refl
case_is r q a (Number l n) = refl
case_is r q a (Based x) = refl
case_is r q a Unused = refl

pub returns-then-not-is_mark : goal.returns-then-not-is_mark
returns-then-not-is_mark c = placed _ _ _ _ _ c.in-Target.is (expected LessEquals _ _ false (sym c.is_mark.ensures ∙ c.if-not-is_mark.true))

pub returns-else-not-is_mark : goal.returns-else-not-is_mark
returns-else-not-is_mark c = placed _ _ _ _ _ c.in-Target.is (began _ _ _ _ _ _ (sym c.is_mark.ensures ∙ c.if-not-is_mark.false) c.begin_expr.ensures.same c.begin_expr.ensures.begun)

pub returns-in-WantStmt : goal.returns-in-WantStmt
returns-in-WantStmt c = stmt_stepped _ _ _ _ _ _ c.in-WantStmt.is c.want_stmt.ensures

pub returns-in-IfRead : goal.returns-in-IfRead
returns-in-IfRead c = stmt_stepped _ _ _ _ _ _ c.in-IfRead.is (goes_as _ _ _ c.opened.new.outer (if_is c.in-IfRead.depth c.in-IfRead.inner (around_of c.args.outer.now) (token_of c.args.token.now)) c.opened.ensures)

pub returns-in-CaseRead : goal.returns-in-CaseRead
returns-in-CaseRead c = stmt_stepped _ _ _ _ _ _ c.in-CaseRead.is (goes_as _ _ _ c.opened-in-CaseRead.new.outer (case_is c.in-CaseRead.depth c.in-CaseRead.inner (around_of c.args.outer.now) (token_of c.args.token.now)) c.opened-in-CaseRead.ensures)

pub returns-in-NextLabel : goal.returns-in-NextLabel
returns-in-NextLabel c = stmt_stepped _ _ _ _ _ _ c.in-NextLabel.is (c.next_label-in-NextLabel.ensures c.args.outer.now)

pub returns-in-Block : goal.returns-in-Block
returns-in-Block c = stmt_stepped _ _ _ _ _ _ c.in-Block.is c.in_block.ensures

pub returns-in-HaveStmt : goal.returns-in-HaveStmt
returns-in-HaveStmt c = stmt_stepped _ _ _ _ _ _ c.in-HaveStmt.is c.after_stmt.ensures

pub returns-in-FirstLabel : goal.returns-in-FirstLabel
returns-in-FirstLabel c = stmt_stepped _ _ _ _ _ _ c.in-FirstLabel.is (first_stepped _ _ _ _ _ _ _ _ _ c.new.ensures.items (c.next_label.ensures c.args.outer.now))
