use Rattle.std.proofs.Common.{◌≡◌, ◌∙◌, ℕ, Bool, true, false, List, Option, Some, None, if◌then◌else◌, codes, sym, ap, refl}
use Rattle.arrayvec.specs.ArrayString.{ArrayString}
use Rattle.std.specs.Str.{bytes_eq}
use Rattle.std.proofs.lemmas.Slice.Eq.{bytes_eq-Decides}
use Rattle.bist_text.specs.ReservedWords.{is_among, reserved_words}
use Rattle.verilog_tree.specs.Grammar.{deeper}
use Rattle.verilog_tree.specs.Plain.{Done, plain_stmts}
use Rattle.verilog_tree.specs.Spells.{bounded}
use Rattle.verilog_text.specs.Places.{Around, State, AtStmt, Block, IfRead, CaseRead}
use Rattle.verilog_text.specs.Steps.{want_stmt_step, word_step, target_step, in_room}
use Rattle.verilog_read.specs.declared.lexemes.Lexeme.{Lexeme}
use Rattle.verilog_read.specs.declared.lexemes.Lexeme.TheVariants as X
use Rattle.verilog_read.specs.inner.Frames.{around_of}
use Rattle.verilog_read.specs.inner.Holding.{token_of}
use Rattle.verilog_read.specs.inner.Spots.{stmt_spot}
use Rattle.verilog_read.proofs.Scanning.{fails}
use Rattle.verilog_read.proofs.PlaceSteps.{free_word, full_word}
use Rattle.verilog_read.proofs.statements.want_stmt.Goals as goal
use Rattle.verilog_read.proofs.statements.want_stmt.Goals.{in-begin, in-if, in-case}

no_word : (q : ℕ) (a : Around) (t : Lexeme) → ((n : ArrayString) → t ≡ X.Word n → ⊥) → want_stmt_step bounded q a (token_of t) ≡ None
no_word q a (X.Word n) f = absurd (f n refl)
no_word q a (X.Number l n) f = refl
no_word q a (X.Constant b) f = refl
no_word q a X.Unused f = refl
no_word q a (X.Sign m) f = refl

at_word : (q : ℕ) (a : Around) (t : Lexeme) (n : ArrayString) (o : Option State) → t ≡ X.Word n → word_step bounded q a n.bytes ≡ o → want_stmt_step bounded q a (token_of t) ≡ o
at_word q a t n o e f = ap (λ (x : Lexeme). want_stmt_step bounded q a (token_of x)) e ∙ f

reserved : (w v u : List ℕ) (r b : Bool) → v ≡ w → u ≡ v → r ≡ is_among u reserved_words → r ≡ b → is_among w reserved_words ≡ b
reserved w v u r b e f g h = ap (λ x. is_among x reserved_words) (sym (f ∙ e)) ∙ sym g ∙ h

apart : (w v k : List ℕ) → v ≡ w → (v ≡ k → ⊥) → bytes_eq w k ≡ false
apart w v k e f = fails (bytes_eq w k) (λ g. f (e ∙ (bytes_eq-Decides w k).0 g))

refused : (x y z b : Bool) (o p r : Option State) (q : ℕ) (w : List ℕ) (a : Around) → x ≡ false → y ≡ false → z ≡ false → b ≡ true → (if x then o else if y then p else if z then r else target_step b q w a) ≡ None
refused x y z b o p r q w a e f g h =
    ap (λ (m : Bool). if m then o else if y then p else if z then r else target_step b q w a) e
    ∙ ap (λ (m : Bool). if m then p else if z then r else target_step b q w a) f
    ∙ ap (λ (m : Bool). if m then r else target_step b q w a) g
    ∙ ap (λ m. target_step m q w a) h

other_word : (q : ℕ) (a : Around) (w v : List ℕ) → v ≡ w → is_among w reserved_words ≡ true → (v ≡ codes "begin" → ⊥) → (v ≡ codes "if" → ⊥) → (v ≡ codes "case" → ⊥) → word_step bounded q a w ≡ None
other_word q a w v e r f g h = refused (bytes_eq w (codes "begin")) (bytes_eq w (codes "if")) (bytes_eq w (codes "case")) _ _ _ _ q w a (apart w v _ e f) (apart w v _ e g) (apart w v _ e h) r

begins : (q p : ℕ) (a : Around) (w v k : List ℕ) (f : ℕ → State) (s : State) → v ≡ w → v ≡ k → word_step bounded q a k ≡ in_room (deeper bounded q) f → deeper bounded q ≡ Some p → s ≡ f p → word_step bounded q a w ≡ Some s
begins q p a w v k f s e g h d l = ap (λ x. word_step bounded q a x) (sym e ∙ g) ∙ h ∙ ap (λ m. in_room m f) d ∙ ap Some (sym l)

pub returns-in_default : goal.returns-in_default
returns-in_default c = no_word _ _ _ c.in_default.not-Word

pub returns-then-not-is_reserved : goal.returns-then-not-is_reserved
returns-then-not-is_reserved c = at_word _ _ _ c.in-Word.name _ c.in-Word.is (free_word bounded _ _ _ (reserved _ c.as_str-word.result.now c.as_bytes.result.now _ _ c.as_str-word.ensures.value c.as_bytes.ensures.value c.is_reserved.ensures c.if-not-is_reserved.true))

pub returns-in_default-deeper : goal.returns-in_default-deeper
returns-in_default-deeper c = at_word _ _ _ c.in-Word.name _ c.in-Word.is (full_word bounded c.args.depth (around_of c.args.outer.now) c.in-Word.name.bytes (reserved _ c.as_str-word.result.now c.as_bytes.result.now _ _ c.as_str-word.ensures.value c.as_bytes.ensures.value c.is_reserved.ensures c.if-not-is_reserved.false) (sym c.deeper.ensures ∙ c.in_default-deeper.is))

pub returns-in_default-word : goal.returns-in_default-word
returns-in_default-word c = at_word _ _ _ c.in-Word.name _ c.in-Word.is (other_word _ _ _ c.as_str-word.result.now c.as_str-word.ensures.value (reserved _ c.as_str-word.result.now c.as_bytes.result.now _ _ c.as_str-word.ensures.value c.as_bytes.ensures.value c.is_reserved.ensures c.if-not-is_reserved.false) c.in_default-word.not-begin c.in_default-word.not-if c.in_default-word.not-case)

pub returns : goal.returns
returns c =
    let q = c.args.depth in
    let p = c.in-Some.inner in
    let a = around_of c.args.outer.now in
    let n = c.in-Word.name.bytes in
    let v = c.as_str-word.result.now in
    let e : v ≡ n = c.as_str-word.ensures.value in
    let d : deeper bounded q ≡ Some p = sym c.deeper.ensures ∙ c.in-Some.is in
    at_word q a c.args.token.now c.in-Word.name (Some (AtStmt (stmt_spot c.match-word.spot a))) c.in-Word.is (elim c.match-word.branch [
      | in-begin w ↦ begins q p a n v (codes "begin") (λ r. AtStmt (Block r q Done a)) (AtStmt (stmt_spot c.match-word.spot a)) e w.in-begin.is refl d (ap (λ s. AtStmt (stmt_spot s a)) w.spot-is ∙ ap (λ xs. AtStmt (Block p q (plain_stmts xs) a)) w.new.ensures.items)
      | in-if w ↦ begins q p a n v (codes "if") (λ r. AtStmt (IfRead q r a)) (AtStmt (stmt_spot c.match-word.spot a)) e w.in-if.is refl d (ap (λ s. AtStmt (stmt_spot s a)) w.spot-is)
      | in-case w ↦ begins q p a n v (codes "case") (λ r. AtStmt (CaseRead q r a)) (AtStmt (stmt_spot c.match-word.spot a)) e w.in-case.is refl d (ap (λ s. AtStmt (stmt_spot s a)) w.spot-is)
    ])
