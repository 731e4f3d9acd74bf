use Rattle.std.proofs.Common.{◌≡◌, ◌∙◌, ℕ, Bool, true, Option, Result, if◌then◌else◌, subst, sym, ap, refl}
use Rattle.verilog_tree.specs.Plain as P
use Rattle.verilog_tree.specs.Spells.{bounded}
use Rattle.verilog_tree.specs.Tokens.{Token}
use Rattle.verilog_text.specs.Places.{Around, State}
use Rattle.verilog_text.specs.Steps.{have_stmt_step, want_item_step, block_step}
use Rattle.verilog_read.specs.declared.fault.ParseFault.{ParseFault}
use Rattle.verilog_read.specs.declared.places.Holder.{Holder}
use Rattle.verilog_read.specs.declared.places.Outer.{Outer}
use Rattle.verilog_read.specs.declared.places.Place.{Place}
use Rattle.verilog_read.specs.inner.Answers.{Goes}
use Rattle.verilog_read.specs.inner.Frames.{around_of, holder}
use Rattle.verilog_read.specs.inner.Holding.{token_of}
use Rattle.verilog_read.proofs.statements.+after_stmt.Goals as goal

-- by the innermost holder
innermost : (a b : Around) (q : ℕ) (s : P.Statements) (t : Token) (o : Option State) (r : Result Place ParseFault) (w : Outer) → a ≡ b → have_stmt_step bounded b q s t ≡ o → Goes o r w → Goes (have_stmt_step bounded a q s t) r w
innermost a b q s t o r w e f h = subst (λ (x : Option State). Goes x r w) (sym (ap (λ x. have_stmt_step bounded x q s t) e ∙ f)) h

held : (a b : Around) (h k : Holder) → a ≡ holder h b → h ≡ k → a ≡ holder k b
held a b h k e f = e ∙ ap (λ x. holder x b) f

chosen : (b d : Bool) (x y : Option State) → b ≡ d → (if b then x else y) ≡ (if d then x else y)
chosen b d x y e = ap (λ (z : Bool). if z then x else y) e

pub returns-in_ok-add_item-in-None : goal.returns-in_ok-add_item-in-None
returns-in_ok-add_item-in-None t c = innermost _ _ _ _ _ _ _ c.add_item.new.outer c.in-None.ensures.released (ap (λ h. want_item_step h (token_of c.args.token.now)) (sym c.in_ok-add_item-in-None.ensures.added)) c.want_item.ensures

pub returns-in_ok-old-in-Some-Block : goal.returns-in_ok-old-in-Some-Block
returns-in_ok-old-in-Some-Block t c = innermost _ _ _ _ _ _ _ c.in_block.new.outer (held _ _ _ _ c.in-Some-Block.ensures.released c.in-Some-Block.field-0-is) (ap (λ b. block_step bounded c.args.depth c.in-Some-Block.above b (around_of c.pop_holder.new.outer) (token_of c.args.token.now)) (sym c.in_ok-old-in-Some-Block.ensures.value)) c.in_block.ensures

pub returns-in-Some-Other : goal.returns-in-Some-Other
returns-in-Some-Other t c = innermost _ _ _ _ _ _ _ c.pop_holder.new.outer (held _ _ _ _ c.in-Some-Other.ensures.released c.in-Some-Other.field-0-is) refl c.end_case.ensures

pub returns-then-is_word : goal.returns-then-is_word
returns-then-is_word t c = innermost _ _ _ _ _ _ _ c.begin_stmt.new.outer (held _ _ _ _ c.in-Some-Then.ensures.released c.in-Some-Then.field-0-is) (chosen _ true _ _ (sym c.is_word.ensures ∙ c.if-is_word.true)) c.begin_stmt.ensures
