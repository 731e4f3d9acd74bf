use Rattle.std.proofs.Common.{◌≡◌, ◌∙◌, ℕ, Bool, true, false, List, Some, codes, sym, ap}
use Rattle.verilog_tree.specs.Grammar.{alone}
use Rattle.verilog_tree.specs.Plain as P
use Rattle.verilog_tree.specs.Tokens.{Token, Identifier, Number, Based, Unused, Sign}
use Rattle.verilog_tree.proofs.Layers.{plain_case}
use Rattle.verilog_text.specs.Places.{Around, State, AtStmt, HaveStmt}
use Rattle.verilog_text.specs.Steps.{expects_word, is_word, only_where}
use Rattle.verilog_read.specs.inner.Holding.{token_of}
use Rattle.verilog_read.proofs.statements.end_case.Goals as goal

expected : (w : List ℕ) (s : State) (t : Token) (b : Bool) → is_word w t ≡ b → expects_word w s t ≡ only_where b (Some s)
expected w s (Identifier v) b e = ap (λ x. only_where x (Some s)) e
expected w s (Number l n) b e = ap (λ x. only_where x (Some s)) e
expected w s (Based x) b e = ap (λ x. only_where x (Some s)) e
expected w s Unused b e = ap (λ x. only_where x (Some s)) e
expected w s (Sign m) b e = ap (λ x. only_where x (Some s)) e

ended : (q : ℕ) (s d : P.Statements) (a : Around) (t : Token) → is_word (codes "endcase") t ≡ true → d ≡ s → expects_word (codes "endcase") (AtStmt (HaveStmt q s a)) t ≡ Some (AtStmt (HaveStmt q d a))
ended q s d a t e f = expected (codes "endcase") _ t true e ∙ ap (λ x. Some (AtStmt (HaveStmt q x a))) (sym f)

pub returns-then-not-is_word : goal.returns-then-not-is_word
returns-then-not-is_word c = expected (codes "endcase") _ (token_of c.args.token.now) false (sym c.is_word.ensures ∙ c.if-not-is_word.true)

pub returns : goal.returns
returns c = ended _ _ _ _ (token_of c.args.token.now) (sym c.is_word.ensures ∙ c.if-not-is_word.false) (c.in_ok-body.ensures.value ∙ ap alone (plain_case c.args.case.subject c.args.case.arms c.args.other))
