-- Which marks may come behind a whole expression by precedence, and behind an operand.
use Rattle.std.proofs.Common.{◌≡◌, ◌∙◌, ◌||◌, ℕ, Bool, true, false, List, ◌-◌, ◌≤◌, length, take, get_or, Option, Some, None, [], ◌∷◌, ◌<◌, refl, sym, ap, arith}
use Rattle.std.proofs.lemmas.List.{length-take-le}
use Rattle.verilog_tree.specs.Plain as P
use Rattle.verilog_tree.specs.Plain.{Expression}
use Rattle.verilog_tree.specs.declared.tokens.Mark.{Mark}
use Rattle.verilog_tree.specs.declared.tokens.Mark.TheVariants.{Open, OpenBrace, Bang, Tilde, OpenBracket, Close, Semicolon, Colon, Comma, CloseBrace, Question, Plus, Minus, Ampersand, Bar, Caret, TwoEquals, BangEquals, Less, LessEquals, Greater, GreaterEquals, TwoAmpersands, TwoBars, TwoLess, TwoGreater}
use Rattle.verilog_tree.specs.declared.tree.UnOp.{UnOp}
use Rattle.verilog_read.specs.declared.places.Purpose.TheVariants as B
use Rattle.verilog_read.specs.declared.places.Purpose.{Purpose}
use Rattle.verilog_read.specs.declared.precedence.Nest.{Nest}
use Rattle.verilog_read.specs.declared.precedence.Nest.TheVariants as N
use Rattle.verilog_tree.specs.Grammar.{unlimited, is_sign}
use Rattle.verilog_tree.specs.Free.{signed}
use Rattle.verilog_text.specs.Flat.{one_more, Left, settle_all}
use Rattle.verilog_text.specs.declared.count.Count.{Count}
use Rattle.verilog_text.specs.declared.count.Count.TheVariants.{Together, Apart}
use Rattle.verilog_tree.specs.Tokens.{Token, Sign}
use Rattle.verilog_text.specs.Places as Q
use Rattle.verilog_text.specs.Places.{Head, Around, Alone, AsDriver, AsCondition, AsSubject, AsValue, Only, InRound, InList, IfTrue, IfFalse, Linked, Named, WantOperand, WantPrim, AtExpr, State}
use Rattle.verilog_read.specs.inner.Frames.{alone}
use Rattle.verilog_read.specs.inner.Holding.{nest, nests_of, is_expected}
use Rattle.verilog_text.specs.Expected.{is_step, taken}
use Rattle.verilog_text.specs.Steps.{in_room, expects, only_where, alone_step, parts_step, close_step, have_step}
use Rattle.verilog_read.specs.inner.Ends.{ends, end_of, splits, closes, goes_on, ends_choice, may, opens, starts}
use Rattle.verilog_read.proofs.FrameLemmas.{last_split}
use Rattle.verilog_read.proofs.HoldingLemmas.{nests_push, expects_is}

where_is : (b : Bool) (s : State) → is_step (only_where b (Some s)) ≡ b
where_is true s = refl
where_is false s = refl

pub ends_is : (p : ℕ) (x : Expression) (b : Alone) (m : Mark) → is_step (alone_step p x b (Sign m)) ≡ ends b m
ends_is p x (AsDriver h n) m = where_is (is_sign Semicolon m) _
ends_is p x (AsCondition r q a) m = where_is (is_sign Close m) _
ends_is p x (AsSubject r q a) m = where_is (is_sign Close m) _
ends_is p x (AsValue n a) m = where_is (is_sign Semicolon m) _

-- another token ends it not
not_expected : (m : Mark) (s : State) (t : Token) → is_expected m t ≡ false → expects m s t ≡ None
not_expected m s t e = expects_is m s t ∙ ap (λ b. only_where b (Some s)) e

pub ends_not : (p : ℕ) (x : Expression) (b : Purpose) (h : Head) (a : Around) (t : Token) → is_expected (end_of b) t ≡ false → alone_step p x (alone b h a) t ≡ None
ends_not p x (B.Drive n) h a t e = not_expected Semicolon _ t e
ends_not p x (B.Test r q) h a t e = not_expected Close _ t e
ends_not p x (B.Pick r q) h a t e = not_expected Close _ t e
ends_not p x (B.Set n) h a t e = not_expected Semicolon _ t e

splits_is : (p : ℕ) (c : Count) (r : ℕ) (old : P.Expressions) (x : Expression) (n : Count) (ws : List Left) (u : Option UnOp) (o : Q.Nest) (m : Mark) → is_step (parts_step p c r old x n ws u o m) ≡ splits m
splits_is p c r old x n ws u o Comma = refl
splits_is p c r old x n ws u o CloseBrace = refl
splits_is p c r old x n ws u o m = refl

pub closes_is : (p : ℕ) (c : Count) (x : Expression) (o : Q.Nest) (m : Mark) → is_step (close_step p c x o (Sign m)) ≡ closes o m
closes_is p c x (Only b) m = ends_is p x b m
closes_is p c x (InRound r n ws u o) m = where_is (is_sign Close m) _
closes_is p c x (InList r old n ws u o) m = splits_is p c r old x n ws u o m
closes_is p c x (IfTrue y o) m = where_is (is_sign Colon m) _
closes_is p c x (IfFalse y z o) m = closes_is p c (P.Conditional y z x) o m

may_is : (n : Count) (f : Count → State) → is_step (in_room (one_more unlimited n) f) ≡ may n
may_is (Together n) f = refl
may_is (Apart true) f = refl
may_is (Apart false) f = refl

pub linked_takes : (p : ℕ) (n : Count) (x : Expression) (ws : List Left) (u : Option UnOp) (o : Q.Nest) (m : Mark) → is_step (have_step unlimited p x (Linked n ws u o) (Sign m)) ≡ goes_on n o m
linked_takes p n x ws u o Plus = may_is n _
linked_takes p n x ws u o Minus = may_is n _
linked_takes p n x ws u o Ampersand = may_is n _
linked_takes p n x ws u o Bar = may_is n _
linked_takes p n x ws u o Caret = may_is n _
linked_takes p n x ws u o TwoEquals = may_is n _
linked_takes p n x ws u o BangEquals = may_is n _
linked_takes p n x ws u o Less = may_is n _
linked_takes p n x ws u o LessEquals = may_is n _
linked_takes p n x ws u o Greater = may_is n _
linked_takes p n x ws u o GreaterEquals = may_is n _
linked_takes p n x ws u o TwoAmpersands = may_is n _
linked_takes p n x ws u o TwoBars = may_is n _
linked_takes p n x ws u o TwoLess = may_is n _
linked_takes p n x ws u o TwoGreater = may_is n _
linked_takes p n x ws u o Question = may_is n _
linked_takes p n x ws u o m = closes_is p n (settle_all ws (signed u x)) o m

-- behind a name a select may come, too
pub named_takes : (p : ℕ) (n : Count) (w : List ℕ) (ws : List Left) (u : Option UnOp) (o : Q.Nest) (m : Mark) → taken (AtExpr (Named p w (Linked n ws u o))) (Sign m) ≡ (is_sign OpenBracket m || goes_on n o m)
named_takes p n w ws u o OpenBracket = refl
named_takes p n w ws u o m = linked_takes p n (P.Net w) ws u o m

-- where an operand is wanted
pub operand_is : (p : ℕ) (n : Count) (ws : List Left) (o : Q.Nest) (m : Mark) → taken (AtExpr (WantOperand p n ws o)) (Sign m) ≡ starts n m
operand_is p n ws o Bang = may_is n _
operand_is p n ws o Tilde = may_is n _
operand_is p n ws o Ampersand = may_is n _
operand_is p n ws o Bar = may_is n _
operand_is p n ws o Caret = may_is n _
operand_is p n ws o Open = refl
operand_is p n ws o OpenBrace = refl
operand_is p n ws o m = refl

pub prim_is : (p : ℕ) (n : Count) (ws : List Left) (u : Option UnOp) (o : Q.Nest) (m : Mark) → taken (AtExpr (WantPrim p n ws u o)) (Sign m) ≡ opens m
prim_is p n ws u o Open = refl
prim_is p n ws u o OpenBrace = refl
prim_is p n ws u o m = refl

nests_last : (ns : List Nest) (n : Nest) (b : Alone) → 1 ≤ length ns → n ≡ get_or ns (length ns - 1) n → nests_of ns b ≡ nest n (nests_of (take (length ns - 1) ns) b)
nests_last ns n b h e = ap (λ x. nests_of x b) (last_split ns n h e) ∙ nests_push (take (length ns - 1) ns) n b

-- a mark that may come, by the innermost; a choice of which the last part is read makes no difference
pub innermost_takes : (ns : List Nest) (n : Nest) (b : Alone) (m : Mark) (r : Bool) → 1 ≤ length ns → n ≡ get_or ns (length ns - 1) n → r ≡ closes (nest n (nests_of (take (length ns - 1) ns) b)) m → r ≡ closes (nests_of ns b) m
innermost_takes ns n b m r h e f = f ∙ ap (λ o. closes o m) (sym (nests_last ns n b h e))

choice_ends : (n : Nest) (o : Q.Nest) (m : Mark) → ends_choice n ≡ true → closes (nest n o) m ≡ closes o m
choice_ends (N.IfFalse c x) o m h = refl
choice_ends (N.IfTrue c) o m h = cc
choice_ends (N.Round r ws) o m h = cc
choice_ends (N.List r xs ws) o m h = cc

pub others_take : (ns : List Nest) (n : Nest) (b : Alone) (m : Mark) → 1 ≤ length ns → n ≡ get_or ns (length ns - 1) n → ends_choice n ≡ true → closes (nests_of (take (length ns - 1) ns) b) m ≡ closes (nests_of ns b) m
others_take ns n b m h e t = sym (choice_ends n (nests_of (take (length ns - 1) ns) b) m t) ∙ ap (λ o. closes o m) (sym (nests_last ns n b h e))

pub none_takes : (ns : List Nest) (b : Alone) (m : Mark) (r : Bool) → length ns < 1 → ((p : ℕ) (x : Expression) → r ≡ is_step (alone_step p x b (Sign m))) → r ≡ closes (nests_of ns b) m
none_takes [] b m r h f = f 0 (P.Net []) ∙ ends_is 0 (P.Net []) b m
none_takes (n ∷ ns) b m r h f = absurd (omega (arith, h))

pub take_fewer : (ns : List Nest) (n : ℕ) → length ns ≤ n → length (take (length ns - 1) ns) ≤ n
take_fewer ns n h = let k : length (take (length ns - 1) ns) ≡ length ns - 1 = length-take-le (length ns - 1) ns (omega arith) in omega (arith, h, k)
