-- Steps, each where the parser stands.
use Rattle.std.proofs.Common.{◌≡◌, ◌∙◌, ℕ, Bool, true, false, List, [], Option, Some, None, Result, codes, if◌then◌else◌, refl, subst, sym, ap}
use Rattle.std.specs.Str.{bytes_eq}
use Rattle.std.proofs.lemmas.Slice.Eq.{bytes_eq-Decides}
use Rattle.bist_bits.specs.Vector.{Vector}
use Rattle.bist_text.specs.ReservedWords.{is_among, reserved_words}
use Rattle.verilog_tree.specs.Grammar.{Limit, deeper}
use Rattle.verilog_tree.specs.Plain as P
use Rattle.verilog_tree.specs.Spells.{bounded}
use Rattle.verilog_tree.specs.Tokens.{Token, Identifier, Number, Based, Unused, Sign}
use Rattle.verilog_text.specs.Places.{Around, State, AtStmt, Target, FirstLabel, NextLabel}
use Rattle.verilog_text.specs.Steps.{step_stmt, word_step, target_step, arm_step, in_room}
use Rattle.verilog_read.specs.declared.fault.ParseFault.{ParseFault}
use Rattle.verilog_read.specs.declared.places.Outer.{Outer}
use Rattle.verilog_read.specs.declared.places.Place.{Place}
use Rattle.verilog_read.specs.declared.places.StmtSpot.{StmtSpot}
use Rattle.verilog_read.specs.inner.Spots.{stmt_spot}
use Rattle.verilog_read.specs.inner.Answers.{Goes}
use Rattle.verilog_read.specs.inner.Holding.{token_of}
use Rattle.verilog_read.specs.declared.lexemes.Lexeme.{Lexeme}
use Rattle.verilog_read.specs.declared.lexemes.Lexeme.TheVariants as X
use Rattle.verilog_read.proofs.Scanning.{fails}

-- in a statement
pub stmt_stepped : (p q : StmtSpot) (a : Around) (t : Token) (r : Result Place ParseFault) (w : Outer) → p ≡ q → Goes (step_stmt bounded (stmt_spot q a) t) r w
    → Goes (step_stmt bounded (stmt_spot p a) t) r w
stmt_stepped p q a t r w is h = subst (λ x. Goes (step_stmt bounded (stmt_spot x a) t) r w) (sym is) h

-- the first label comes where none is read
first_is : (r q : ℕ) (e : P.Expression) (bs : P.Arms) (a : Around) (t : Token) → step_stmt bounded (FirstLabel r q e bs a) t ≡ step_stmt bounded (NextLabel r q e bs [] a) t
first_is r q e bs a (Identifier n) = refl
first_is r q e bs a (Number l n) = refl
first_is r q e bs a (Based x) = refl
first_is r q e bs a Unused = refl
first_is r q e bs a (Sign m) = refl

pub first_stepped : (r q : ℕ) (e : P.Expression) (bs : P.Arms) (ls : List Vector) (a : Around) (t : Token) (o : Result Place ParseFault) (w : Outer) → ls ≡ [] → Goes (step_stmt bounded (NextLabel r q e bs ls a) t) o w
    → Goes (step_stmt bounded (FirstLabel r q e bs a) t) o w
first_stepped r q e bs ls a t o w g h =
    let j = subst (λ x. Goes (step_stmt bounded (NextLabel r q e bs x a) t) o w) g h in
    subst (λ (s : Option State). Goes s o w) (sym (first_is r q e bs a t)) j

-- the first label of an arm comes where none is read
pub arm_stepped : (r q : ℕ) (e : P.Expression) (bs : P.Arms) (ls : List Vector) (a : Around) (t : Lexeme) (x : Vector) (o : Result Place ParseFault) (w : Outer) → t ≡ X.Constant x → ls ≡ [] → Goes (step_stmt bounded (NextLabel r q e bs ls a) (token_of t)) o w
    → Goes (arm_step r q e bs a (token_of t)) o w
arm_stepped r q e bs ls a t x o w f g h =
    let k = subst (λ y. Goes (step_stmt bounded (NextLabel r q e bs y a) (token_of t)) o w) g h in
    let j : Goes (step_stmt bounded (NextLabel r q e bs [] a) (Based x)) o w = subst (λ (y : Lexeme). Goes (step_stmt bounded (NextLabel r q e bs [] a) (token_of y)) o w) f k in
    subst (λ (y : Lexeme). Goes (arm_step r q e bs a (token_of y)) o w) (sym f) j

-- ---- the word that begins a statement

apart : (w v : List ℕ) → is_among v reserved_words ≡ true → is_among w reserved_words ≡ false → bytes_eq w v ≡ false
apart w v r f = fails (bytes_eq w v) (λ e.
    let k : w ≡ v = (bytes_eq-Decides w v).0 e in
    let z : true ≡ false = sym r ∙ ap (λ x. is_among x reserved_words) (sym k) ∙ f in
    cc)

targets : (x y z b : Bool) (o p r : Option State) (q : ℕ) (w : List ℕ) (a : Around) → x ≡ false → y ≡ false → z ≡ false → b ≡ false → (if x then o else if y then p else if z then r else target_step b q w a) ≡ Some (AtStmt (Target q w a))
targets true y z b o p r q w a e f g h = cc
targets false true z b o p r q w a e f g h = cc
targets false false true b o p r q w a e f g h = cc
targets false false false true o p r q w a e f g h = cc
targets false false false false o p r q w a e f g h = refl

-- a word that isn't reserved is a target
pub free_word : (limit : Limit) (q : ℕ) (a : Around) (w : List ℕ) → is_among w reserved_words ≡ false → word_step limit q a w ≡ Some (AtStmt (Target q w a))
free_word limit q a w f = targets (bytes_eq w (codes "begin")) (bytes_eq w (codes "if")) (bytes_eq w (codes "case")) (is_among w reserved_words) _ _ _ q w a (apart w (codes "begin") refl f) (apart w (codes "if") refl f) (apart w (codes "case") refl f) f

refused : (x y z b : Bool) (m : Option ℕ) (i j k : ℕ → State) (q : ℕ) (w : List ℕ) (a : Around) → m ≡ None → b ≡ true → (if x then in_room m i else if y then in_room m j else if z then in_room m k else target_step b q w a) ≡ None
refused x y z b (Some n) i j k q w a e f = cc
refused x y z false None i j k q w a e f = cc
refused true y z true None i j k q w a e f = refl
refused false true z true None i j k q w a e f = refl
refused false false true true None i j k q w a e f = refl
refused false false false true None i j k q w a e f = refl

-- a reserved word begins none where no opening may be more
pub full_word : (limit : Limit) (q : ℕ) (a : Around) (w : List ℕ) → is_among w reserved_words ≡ true → deeper limit q ≡ None → word_step limit q a w ≡ None
full_word limit q a w r d = refused (bytes_eq w (codes "begin")) (bytes_eq w (codes "if")) (bytes_eq w (codes "case")) (is_among w reserved_words) (deeper limit q) _ _ _ q w a d r
