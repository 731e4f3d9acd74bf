-- Where an opening stands, the lexer begins it at its first byte, goes on with it, and has it at its last.
use Rattle.std.proofs.lemmas.Slice.Eq.{bytes_eq-Decides}
use Rattle.verilog_text.proofs.Marks.{is_mark}
use Rattle.std.proofs.Common.{◌≡◌, ℕ, suc, ◌+◌, ◌*◌, ◌≤◌, Bool, true, false, not, ◌||◌, ◌==◌, nat_le, List, [], ◌∷◌, ◌++◌, length, Option, Some, None, refl, sym, ap, subst, ◌∙◌, ◌⊎◌, inl, inr, arith, if◌then◌else◌, append-nil, append_assoc, codes}
use Rattle.std.specs.List.{list_all}
use Rattle.std.proofs.lemmas.Bool.{and_parts, and_from, eqb-true, le-leb, or_left, or_right}
use Rattle.std.proofs.lemmas.List.{append_cancel_left, length-append, append_cancel_right}
use Rattle.bist_text.specs.inner.Lexed.{emitted}
use Rattle.bist_text.specs.Machine.{Holds}
use Rattle.verilog_tree.specs.declared.tokens.Base.{Base}
use Rattle.verilog_tree.specs.declared.tokens.Mark.{Mark}
use Rattle.verilog_tree.specs.declared.tokens.Mark.TheVariants.{Open, OpenBrace, Equals, Bang, Less, Greater, Ampersand, Bar, TwoEquals, BangEquals, LessEquals, TwoLess, GreaterEquals, TwoGreater, TwoAmpersands, TwoBars}
use Rattle.verilog_tree.specs.declared.tokens.Within.TheVariants.{Between, Slash, Line, Block, Star}
use Rattle.verilog_tree.specs.Tokens.{Token, Identifier, Number, Unused, Sign, is_space, is_query, lengthened, Start, AWord, ANumber, AMark, NoToken, start_of, Lexed, spoils, growth_of, mark_text, Growth, Longer, Spoiled, Complete, growth}
use Rattle.bist_text.specs.Identifiers.{is_digit, in_identifier}
use Rattle.verilog_tree.specs.Words.{digit_value, radix, base_of, is_digit_of}
use Rattle.verilog_text.specs.Lexing.{Lexer, InGap, InWord, InNumber, Quoted, Lettered, InDigits, Marked, Whole, literal, begin_token, begin, with_token, silent, lettered, grow, lex, last}
use Rattle.verilog_text.specs.inner.Lexing.{unread}
use Rattle.verilog_text.specs.Openings.{Opening, Parenthesis, Brace, BlockWord, IfWord, CaseWord, opening_text, opening_token, opening_goes_on, Operator, grows}
use Rattle.verilog_text.proofs.LexerLaws.{by_test, lexes}
use Rattle.verilog_text.proofs.LexingOn.{lexing, emitted_on, unread_to}
use Rattle.verilog_text.proofs.Moving.{Small}
use Rattle.verilog_text.proofs.Pending.{NoOpening, queried, longer_text, start_bytes, tokens_in, state_in, adding, behind}

-- ---- one byte back

-- a byte of white space, or of a comment's ends
abbrev is_gap : ℕ → Bool
is_gap c = is_space c || (c == 47)

-- how the lexer came to be there by byte c
abbrev From : Lexer → ℕ → Lexer → Option Token → Type 0
From l c (InWord v) o = (v ≡ c ∷ []) ⊎ ((u : List ℕ) × (l ≡ InWord u) × (v ≡ u ++ (c ∷ [])) × (o ≡ None))
From l c (InGap Between) o = is_gap c ≡ true
From l c (InGap Line) o = (is_gap c ≡ true) ⊎ ((l ≡ InGap Line) × (o ≡ None))
From l c (Whole t) o = NoOpening t
From l c (Marked n) o = ((k : Mark) × (l ≡ Marked k) × (mark_text n ≡ mark_text k ++ (c ∷ []))) ⊎ (mark_text n ≡ c ∷ [])
From l c m o = Unit {0}

abbrev Came : Lexer → ℕ → Option (Lexer × Option Token) → Type 0
Came l c r = (m : Lexer) (o : Option Token) → r ≡ Some (m, o) → From l c m o

abbrev lexer_in : Lexer → Option (Lexer × Option Token) → Lexer
lexer_in l None = l
lexer_in l (Some r) = r.0

abbrev token_in : Option (Lexer × Option Token) → Option Token
token_in None = None
token_in (Some r) = r.1

abbrev stepped : Lexer → Option Token → Option (Lexer × Option Token)
stepped l o = Some (l, o)

abbrev pub made : List Token → Lexer → Option (List Token × Lexer)
made ts l = Some (ts, l)

came_to : (l : Lexer) (c : ℕ) (m : Lexer) (o : Option Token) → From l c m o → Came l c (Some (m, o))
came_to l c m o h n p e = subst (λ x. From l c x p) (ap (lexer_in m) e) (subst (λ x. From l c m x) (ap token_in e) h)

came_none : (l : Lexer) (c : ℕ) → Came l c None
came_none l c m o e = cc

begun_from : (l : Lexer) (c : ℕ) (m : Lexer) (o : Option Token) → begin c ≡ Some m → From l c m o
begun_from l c m o = by_test (λ t. (if t then Some (InGap Between) else if c == 47 then Some (InGap Slash) else begin_token (start_of c) c) ≡ Some m → From l c m o) (is_space c) (λ e f. let k : InGap Between ≡ m = cc in subst (λ x. From l c x o) k (or_left (is_space c) (c == 47) e)) (λ e. by_test (λ t. (if t then Some (InGap Slash) else begin_token (start_of c) c) ≡ Some m → From l c m o) (c == 47) (λ e f. let k : InGap Slash ≡ m = cc in subst (λ x. From l c x o) k tt) (λ e f. start (start_of c) (start_bytes c) f))
  where
    start : (s : Start) → ((n : Mark) → s ≡ AMark n → mark_text n ≡ c ∷ []) → begin_token s c ≡ Some m → From l c m o
    start AWord g f = let k : InWord (c ∷ []) ≡ m = cc in subst (λ x. From l c x o) k (inl refl)
    start ANumber g f = let k : InNumber false (digit_value c) ≡ m = cc in subst (λ x. From l c x o) k tt
    start (AMark n) g f = let k : Marked n ≡ m = cc in subst (λ x. From l c x o) k (inr (g n refl))
    start NoToken g f = cc

came_token : (l : Lexer) (c : ℕ) (t : Token) → Came l c (with_token t (begin c))
came_token l c t = go (begin c) refl
  where
    go : (o : Option Lexer) → begin c ≡ o → Came l c (with_token t o)
    go None e = came_none l c
    go (Some m) e = came_to l c m (Some t) (begun_from l c m (Some t) e)

line_feed : (c : ℕ) → (c == 10) ≡ true → is_gap c ≡ true
line_feed c e = subst (λ x. is_gap x ≡ true) (sym (eqb-true c 10 e)) refl

pub came : (l : Lexer) (c : ℕ) → Came l c (lex l c)
came (InGap Between) c = go (begin c) refl
  where
    go : (o : Option Lexer) → begin c ≡ o → Came (InGap Between) c (silent o)
    go None e = came_none (InGap Between) c
    go (Some m) e = came_to (InGap Between) c m None (begun_from (InGap Between) c m None e)
came (InGap Slash) c = by_test (λ t. Came (InGap Slash) c (if t then Some (InGap Line, None) else if c == 42 then Some (InGap Block, None) else None)) (c == 47) (λ e. came_to (InGap Slash) c (InGap Line) None (inl (or_right (is_space c) (c == 47) e))) (λ e. by_test (λ t. Came (InGap Slash) c (if t then Some (InGap Block, None) else None)) (c == 42) (λ e. came_to (InGap Slash) c (InGap Block) None tt) (λ e. came_none (InGap Slash) c))
came (InGap Line) c = by_test (λ t. Came (InGap Line) c (if t then Some (InGap Between, None) else Some (InGap Line, None))) (c == 10) (λ e. came_to (InGap Line) c (InGap Between) None (line_feed c e)) (λ e. came_to (InGap Line) c (InGap Line) None (inr (refl, refl)))
came (InGap Block) c = by_test (λ t. Came (InGap Block) c (if t then Some (InGap Star, None) else Some (InGap Block, None))) (c == 42) (λ e. came_to (InGap Block) c (InGap Star) None tt) (λ e. came_to (InGap Block) c (InGap Block) None tt)
came (InGap Star) c = by_test (λ t. Came (InGap Star) c (if t then Some (InGap Between, None) else if c == 42 then Some (InGap Star, None) else Some (InGap Block, None))) (c == 47) (λ e. came_to (InGap Star) c (InGap Between) None (or_right (is_space c) (c == 47) e)) (λ e. by_test (λ t. Came (InGap Star) c (if t then Some (InGap Star, None) else Some (InGap Block, None))) (c == 42) (λ e. came_to (InGap Star) c (InGap Star) None tt) (λ e. came_to (InGap Star) c (InGap Block) None tt))
came (InWord w) c = by_test (λ t. Came (InWord w) c (if t then Some (InWord (w ++ (c ∷ [])), None) else with_token (Identifier w) (begin c))) (in_identifier c) (λ e. came_to (InWord w) c (InWord (w ++ (c ∷ []))) None (inr (w, refl, refl, refl))) (λ e. came_token (InWord w) c (Identifier w))
came (InNumber long v) c = by_test (λ t. Came (InNumber long v) c (if t then Some (InNumber true (v * 10 + digit_value c), None) else if c == 39 then Some (Quoted v, None) else with_token (Number long v) (begin c))) (is_digit c) (λ e. came_to (InNumber long v) c (InNumber true (v * 10 + digit_value c)) None tt) (λ e. by_test (λ t. Came (InNumber long v) c (if t then Some (Quoted v, None) else with_token (Number long v) (begin c))) (c == 39) (λ e. came_to (InNumber long v) c (Quoted v) None tt) (λ e. came_token (InNumber long v) c (Number long v)))
came (Quoted v) c = go (base_of c)
  where
    go : (o : Option Base) → Came (Quoted v) c (lettered v o)
    go None = came_none (Quoted v) c
    go (Some base) = came_to (Quoted v) c (Lettered v base) None tt
came (Lettered v base) c = by_test (λ t. Came (Lettered v base) c (if t then Some (InDigits v base (digit_value c), None) else None)) (is_digit_of base c) (λ e. came_to (Lettered v base) c (InDigits v base (digit_value c)) None tt) (λ e. came_none (Lettered v base) c)
came (InDigits v base x) c = by_test (λ t. Came (InDigits v base x) c (if t then Some (InDigits v base (x * radix base + digit_value c), None) else if c == 95 then Some (InDigits v base x, None) else if is_query base c then Some (Whole Unused, None) else with_token (literal v x) (begin c))) (is_digit_of base c) (λ e. came_to (InDigits v base x) c (InDigits v base (x * radix base + digit_value c)) None tt) (λ e. by_test (λ t. Came (InDigits v base x) c (if t then Some (InDigits v base x, None) else if is_query base c then Some (Whole Unused, None) else with_token (literal v x) (begin c))) (c == 95) (λ e. came_to (InDigits v base x) c (InDigits v base x) None tt) (λ e. by_test (λ t. Came (InDigits v base x) c (if t then Some (Whole Unused, None) else with_token (literal v x) (begin c))) (is_query base c) (λ e. came_to (InDigits v base x) c (Whole Unused) None queried) (λ e. came_token (InDigits v base x) c (literal v x))))
came (Marked m) c = go (lengthened m c) (spoils m c) refl
  where
    go : (o : Option Mark) (p : Bool) → lengthened m c ≡ o → Came (Marked m) c (grow m c (growth_of o p))
    go (Some k) p e = came_to (Marked m) c (Marked k) None (inl (m, refl, longer_text m k c e))
    go None true e = came_to (Marked m) c (Whole Unused) None queried
    go None false e = came_token (Marked m) c (Sign m)
came (Whole t) c = came_token (Whole t) c t

-- ---- some bytes

-- a first byte, and those behind it
pub lexing_parts : (c : ℕ) (b : List ℕ) (l : Lexer) (us : List Token) (m : Lexer) → lexing (c ∷ b) l ≡ Some (us, m) → (x : Lexer) × (o : Option Token) × (vs : List Token) × (lex l c ≡ Some (x, o)) × (lexing b x ≡ Some (vs, m)) × (us ≡ emitted o vs)
lexing_parts c b l us m e = go (lex l c) refl e
  where
    go : (p : Option (Lexer × Option Token)) → lex l c ≡ p → behind b p ≡ Some (us, m) → (x : Lexer) × (o : Option Token) × (vs : List Token) × (lex l c ≡ Some (x, o)) × (lexing b x ≡ Some (vs, m)) × (us ≡ emitted o vs)
    go None k e = cc
    go (Some r) k e = inner (lexing b r.0) refl e
      where
        inner : (p : Option (List Token × Lexer)) → lexing b r.0 ≡ p → adding r.1 p ≡ Some (us, m) → (x : Lexer) × (o : Option Token) × (vs : List Token) × (lex l c ≡ Some (x, o)) × (lexing b x ≡ Some (vs, m)) × (us ≡ emitted o vs)
        inner None j e = cc
        inner (Some s) j e = (r.0, r.1, s.0, k, j ∙ ap (made s.0) (ap (state_in m) e), sym (ap tokens_in e))

lexing_cons : (c : ℕ) (b : List ℕ) (l x : Lexer) (o : Option Token) (vs : List Token) (m : Lexer) → lex l c ≡ Some (x, o) → lexing b x ≡ Some (vs, m) → lexing (c ∷ b) l ≡ Some (emitted o vs, m)
lexing_cons c b l x o vs m h k = ap (behind b) h ∙ ap (adding o) k

pub lexing_split : (a b : List ℕ) (l : Lexer) (us : List Token) (m : Lexer) → lexing (a ++ b) l ≡ Some (us, m) → (vs : List Token) × (x : Lexer) × (ws : List Token) × (lexing a l ≡ Some (vs, x)) × (lexing b x ≡ Some (ws, m)) × (us ≡ vs ++ ws)
lexing_split [] b l us m e = ([], l, us, refl, e, refl)
lexing_split (c ∷ a) b l us m e =
    let p = lexing_parts c (a ++ b) l us m e in
    let q = lexing_split a b p.0 p.2 m p.4 in
    (emitted p.1 q.0, q.1, q.2, lexing_cons c a l p.0 p.1 q.0 q.1 p.3 q.3, q.4, p.5 ∙ ap (emitted p.1) q.5 ∙ emitted_on p.1 q.0 q.2)

-- the last byte of some
last_step : (b : List ℕ) (c : ℕ) (l : Lexer) (us : List Token) (m : Lexer) → lexing (c ∷ b) l ≡ Some (us, m) → (x : Lexer) × (d : ℕ) × (o : Option Token) × (lex x d ≡ Some (m, o))
last_step [] c l us m e = let p = lexing_parts c [] l us m e in (l, c, p.1, p.3 ∙ ap (λ x. stepped x p.1) (ap (state_in m) p.4))
last_step (d ∷ b) c l us m e = let p = lexing_parts c (d ∷ b) l us m e in last_step b d p.0 p.2 m p.4

-- ---- words

-- a word that began among the bytes w: behind the first of them, or with it
abbrev Inside : List ℕ → Lexer → List ℕ → Type 0
Inside [] l v = ⊥
Inside (c ∷ w) l v = (length v ≤ length w) ⊎ ((length v ≡ suc (length w)) × ((o : Option Token) × (lex l c ≡ Some (InWord (c ∷ []), o))))

inside_short : (w : List ℕ) (l : Lexer) (v : List ℕ) → Inside w l v → length v ≤ length w
inside_short [] l v h = absurd h
inside_short (c ∷ w) l v h = elim h [ inl k ↦ omega (arith, k) | inr k ↦ let e = k.0 in omega (arith, e) ]

-- or one that had begun
word_came : (w : List ℕ) (l : Lexer) (us : List Token) (v : List ℕ) → lexing w l ≡ Some (us, InWord v) → ((u : List ℕ) × (l ≡ InWord u) × (v ≡ u ++ w) × (us ≡ [])) ⊎ Inside w l v
word_came [] l us v e = inl (v, ap (state_in l) e, sym (append-nil v), sym (ap tokens_in e))
word_came (c ∷ w) l us v e =
    let p = lexing_parts c w l us (InWord v) e in elim (word_came w p.0 p.2 v p.4) [
      | inl k ↦ behind_word p.0 p.1 p.2 p.3 p.5 k
      | inr k ↦ inr (inl (inside_short w p.0 v k))
    ]
  where
    behind_word : (x : Lexer) (o : Option Token) (vs : List Token) → lex l c ≡ Some (x, o) → us ≡ emitted o vs → ((u : List ℕ) × (x ≡ InWord u) × (v ≡ u ++ w) × (vs ≡ [])) → ((u : List ℕ) × (l ≡ InWord u) × (v ≡ u ++ (c ∷ w)) × (us ≡ [])) ⊎ Inside (c ∷ w) l v
    behind_word x o vs h i k =
        let j : lex l c ≡ Some (InWord k.0, o) = h ∙ ap (λ x. stepped x o) k.1 in elim (came l c (InWord k.0) o j) [
          | inl z ↦ inr (inr (ap length (k.2 ∙ ap (λ (x : List ℕ). x ++ w) z), (o, j ∙ ap (λ x. stepped (InWord x) o) z)))
          | inr z ↦ inl (z.0, z.1, k.2 ∙ ap (λ (x : List ℕ). x ++ w) z.2 ∙ append_assoc z.0 (c ∷ []) w, i ∙ ap (λ x. emitted x vs) z.3 ∙ k.3)
        ]

word_step : (v : List ℕ) (c : ℕ) → in_identifier c ≡ true → lex (InWord v) c ≡ Some (InWord (v ++ (c ∷ [])), None)
word_step v c h = ap (λ b. if b then Some (InWord (v ++ (c ∷ [])), None) else with_token (Identifier v) (begin c)) h

run_on : (w v : List ℕ) → list_all in_identifier w ≡ true → lexing w (InWord v) ≡ Some ([], InWord (v ++ w))
run_on [] v h = ap (λ (x : List ℕ). made [] (InWord x)) (sym (append-nil v))
run_on (c ∷ w) v h =
    let p = and_parts (in_identifier c) (list_all in_identifier w) h in
    lexing_cons c w (InWord v) (InWord (v ++ (c ∷ []))) None [] (InWord ((v ++ (c ∷ [])) ++ w)) (word_step v c p.0) (run_on w (v ++ (c ∷ [])) p.1) ∙ ap (λ (x : List ℕ). made [] (InWord x)) (append_assoc v (c ∷ []) w)

-- ---- gaps

-- a gap that goes on with a byte of none is a comment to the line's end
gap_step : (l : Lexer) (c : ℕ) (x : Lexer) (o : Option Token) → is_gap c ≡ false → last x ≡ Some None → From l c x o → (l ≡ InGap Line) × (o ≡ None)
gap_step l c (InGap Between) o n e h = let k : true ≡ false = sym h ∙ n in cc
gap_step l c (InGap Line) o n e h = elim h [ inl f ↦ absurd (let k : true ≡ false = sym f ∙ n in cc) | inr f ↦ f ]
gap_step l c (InGap Slash) o n e h = cc
gap_step l c (InGap Block) o n e h = cc
gap_step l c (InGap Star) o n e h = cc
gap_step l c (InWord w) o n e h = cc
gap_step l c (InNumber b v) o n e h = cc
gap_step l c (Quoted v) o n e h = cc
gap_step l c (Lettered v base) o n e h = cc
gap_step l c (InDigits v base x) o n e h = cc
gap_step l c (Marked m) o n e h = cc
gap_step l c (Whole t) o n e h = cc

plain : (b : Bool) → not b ≡ true → b ≡ false
plain true e = cc
plain false e = refl

gap_came : (w : List ℕ) (c : ℕ) (l : Lexer) (us : List Token) (m : Lexer) → list_all (λ d. not (is_gap d)) (c ∷ w) ≡ true → lexing (c ∷ w) l ≡ Some (us, m) → last m ≡ Some None → (l ≡ InGap Line) × (us ≡ [])
gap_came [] c l us m h e f =
    let p = lexing_parts c [] l us m e in
    let n = plain (is_gap c) (and_parts (not (is_gap c)) true h).0 in
    let s = gap_step l c p.0 p.1 n (subst (λ y. last y ≡ Some None) (sym (ap (state_in m) p.4)) f) (came l c p.0 p.1 p.3) in
    (s.0, p.5 ∙ ap (λ y. emitted y p.2) s.1 ∙ sym (ap tokens_in p.4))
gap_came (d ∷ w) c l us m h e f =
    let p = lexing_parts c (d ∷ w) l us m e in
    let a = and_parts (not (is_gap c)) (list_all (λ d. not (is_gap d)) (d ∷ w)) h in
    let q = gap_came w d p.0 p.2 m a.1 p.4 f in
    let s = gap_step l c (InGap Line) p.1 (plain (is_gap c) a.0) refl (came l c (InGap Line) p.1 (p.3 ∙ ap (λ y. stepped y p.1) q.0)) in
    (s.0, p.5 ∙ ap (λ y. emitted y p.2) s.1 ∙ q.1)

-- ---- marks

-- the mark that its first byte is
abbrev pub first_mark : Mark → Mark
first_mark TwoEquals = Equals
first_mark BangEquals = Bang
first_mark LessEquals = Less
first_mark TwoLess = Less
first_mark GreaterEquals = Greater
first_mark TwoGreater = Greater
first_mark TwoAmpersands = Ampersand
first_mark TwoBars = Bar
first_mark m = m

abbrev pub head_of : List ℕ → ℕ
head_of [] = 0
head_of (c ∷ w) = c

some_text : (m : Mark) → mark_text m ≡ [] → ⊥
some_text Open e = cc
some_text m e = cc

no_three : (m : Mark) (c d f : ℕ) (w : List ℕ) → mark_text m ≡ c ∷ d ∷ f ∷ w → ⊥
no_three Open c d f w e = cc
no_three m c d f w e = cc

one_byte : (m : Mark) (c : ℕ) → mark_text m ≡ c ∷ [] → first_mark m ≡ m
one_byte TwoEquals c e = cc
one_byte BangEquals c e = cc
one_byte LessEquals c e = cc
one_byte TwoLess c e = cc
one_byte GreaterEquals c e = cc
one_byte TwoGreater c e = cc
one_byte TwoAmpersands c e = cc
one_byte TwoBars c e = cc
one_byte m c e = refl

first_text : (m : Mark) (c d : ℕ) → mark_text m ≡ c ∷ d ∷ [] → mark_text (first_mark m) ≡ c ∷ []
first_text Open c d e = cc
first_text m c d e = cc

-- its second byte makes it of the first
second_byte : (k m : Mark) (d f : ℕ) → f ≡ d → lex (Marked k) f ≡ Some (Marked m, None) → lex (Marked k) d ≡ Some (Marked m, None)
second_byte k m d f e h = subst (λ x. lex (Marked k) x ≡ Some (Marked m, None)) e h

grows_to : (m : Mark) (c d : ℕ) → mark_text m ≡ c ∷ d ∷ [] → lex (Marked (first_mark m)) d ≡ Some (Marked m, None)
grows_to TwoEquals c d e = let i : 61 ≡ d = cc in second_byte Equals TwoEquals d 61 i refl
grows_to BangEquals c d e = let i : 61 ≡ d = cc in second_byte Bang BangEquals d 61 i refl
grows_to LessEquals c d e = let i : 61 ≡ d = cc in second_byte Less LessEquals d 61 i refl
grows_to TwoLess c d e = let i : 60 ≡ d = cc in second_byte Less TwoLess d 60 i refl
grows_to GreaterEquals c d e = let i : 61 ≡ d = cc in second_byte Greater GreaterEquals d 61 i refl
grows_to TwoGreater c d e = let i : 62 ≡ d = cc in second_byte Greater TwoGreater d 62 i refl
grows_to TwoAmpersands c d e = let i : 38 ≡ d = cc in second_byte Ampersand TwoAmpersands d 38 i refl
grows_to TwoBars c d e = let i : 124 ≡ d = cc in second_byte Bar TwoBars d 124 i refl
grows_to m c d e = cc

same_text : (m n : Mark) → mark_text m ≡ mark_text n → m ≡ n
same_text m n e = is_mark n m ((bytes_eq-Decides (mark_text m) (mark_text n)).1 e)

-- ---- an opening

-- its first byte, where the lexer is behind it, and behind all of it
abbrev pub first_of : Opening → ℕ
first_of Parenthesis = 40
first_of Brace = 123
first_of BlockWord = 98
first_of IfWord = 105
first_of CaseWord = 99
first_of (Operator m) = head_of (mark_text m)

abbrev pub after_first : Opening → Lexer
after_first Parenthesis = Marked Open
after_first Brace = Marked OpenBrace
after_first BlockWord = InWord (codes "b")
after_first IfWord = InWord (codes "i")
after_first CaseWord = InWord (codes "c")
after_first (Operator m) = Marked (first_mark m)

abbrev pub after_all : Opening → Lexer
after_all Parenthesis = Marked Open
after_all Brace = Marked OpenBrace
after_all (Operator m) = Marked m
after_all o = InWord (opening_text o)

pub after_ends : (o : Opening) → last (after_all o) ≡ Some (Some (opening_token o))
after_ends Parenthesis = refl
after_ends Brace = refl
after_ends BlockWord = refl
after_ends IfWord = refl
after_ends CaseWord = refl
after_ends (Operator m) = refl

-- a byte that makes it no longer ends it
pub not_silent : (o : Opening) (c : ℕ) (m : Lexer) → opening_goes_on o c ≡ false → lex (after_all o) c ≡ Some (m, None) → ⊥
not_silent o c m n e = go o n e
  where
    loud : (t : Token) (x : Option Lexer) → with_token t x ≡ Some (m, None) → ⊥
    loud t None e = cc
    loud t (Some y) e = let k : Some t ≡ None = ap token_in e in cc

    word : (w : List ℕ) (b : Bool) → b ≡ false → (if b then Some (InWord (w ++ (c ∷ [])), None) else with_token (Identifier w) (begin c)) ≡ Some (m, None) → ⊥
    word w true n e = cc
    word w false n e = loud (Identifier w) (begin c) e

    go : (o : Opening) → opening_goes_on o c ≡ false → lex (after_all o) c ≡ Some (m, None) → ⊥
    go Parenthesis n e = loud (Sign Open) (begin c) e
    go Brace n e = loud (Sign OpenBrace) (begin c) e
    go BlockWord n e = word (codes "begin") (in_identifier c) n e
    go IfWord n e = word (codes "if") (in_identifier c) n e
    go CaseWord n e = word (codes "case") (in_identifier c) n e
    go (Operator k) n e = by (growth k c) n e
      where
        by : (g : Growth) → grows g ≡ false → grow k c g ≡ Some (m, None) → ⊥
        by (Longer j) n e = cc
        by Spoiled n e = cc
        by Complete n e = loud (Sign k) (begin c) e

-- where the lexer has it
has_it : (l : Lexer) (o : Opening) → last l ≡ Some (Some (opening_token o)) → ((t : Token) → l ≡ Whole t → NoOpening t) → l ≡ after_all o
has_it (InGap Between) o e h = cc
has_it (InGap Slash) o e h = cc
has_it (InGap Line) o e h = cc
has_it (InGap Block) o e h = cc
has_it (InGap Star) o e h = cc
has_it (InWord w) Parenthesis e h = cc
has_it (InWord w) Brace e h = cc
has_it (InWord w) BlockWord e h = let k : w ≡ codes "begin" = cc in ap InWord k
has_it (InWord w) IfWord e h = let k : w ≡ codes "if" = cc in ap InWord k
has_it (InWord w) (Operator j) e h = cc
has_it (InWord w) CaseWord e h = let k : w ≡ codes "case" = cc in ap InWord k
has_it (InNumber b n) Parenthesis e h = cc
has_it (InNumber b n) Brace e h = cc
has_it (InNumber b n) BlockWord e h = cc
has_it (InNumber b n) IfWord e h = cc
has_it (InNumber b n) (Operator j) e h = cc
has_it (InNumber b n) CaseWord e h = cc
has_it (Quoted n) o e h = cc
has_it (Lettered n base) o e h = cc
has_it (InDigits n base v) Parenthesis e h = cc
has_it (InDigits n base v) Brace e h = cc
has_it (InDigits n base v) BlockWord e h = cc
has_it (InDigits n base v) IfWord e h = cc
has_it (InDigits n base v) (Operator j) e h = cc
has_it (InDigits n base v) CaseWord e h = cc
has_it (Marked m) Parenthesis e h = let k : m ≡ Open = cc in ap Marked k
has_it (Marked m) Brace e h = let k : m ≡ OpenBrace = cc in ap Marked k
has_it (Marked m) BlockWord e h = cc
has_it (Marked m) IfWord e h = cc
has_it (Marked m) (Operator n) e h = let k : m ≡ n = cc in ap Marked k
has_it (Marked m) CaseWord e h = cc
has_it (Whole t) o e h = absurd (h t refl o (let k : t ≡ opening_token o = cc in k))

-- it is begun by its first byte
abbrev Begins : Opening → Lexer → Type 0
Begins o l = (x : Option Token) × (lex l (first_of o) ≡ Some (after_first o, x))

-- a word that had begun has no token more
no_more : (l : Lexer) (u : List ℕ) (o : Option Token) (ws : List Token) → l ≡ InWord u → last l ≡ Some o → ws ≡ emitted o [] → ws ≡ [] → ⊥
no_more l u None ws e f g h = let k : Some (Some (Identifier u)) ≡ Some None = sym (ap last e) ∙ f in cc
no_more l u (Some t) ws e f g h = let k : t ∷ [] ≡ [] = sym g ∙ h in cc

begins_mark : (m : Mark) (t : List ℕ) → mark_text m ≡ t → (l : Lexer) (ws : List Token) → lexing t l ≡ Some (ws, Marked m) → (y : Option Token) × (lex l (head_of t) ≡ Some (Marked (first_mark m), y))
begins_mark m [] i l ws e = absurd (some_text m i)
begins_mark m (c ∷ []) i l ws e = let p = lexing_parts c [] l ws (Marked m) e in (p.1, p.3 ∙ ap (λ y. stepped y p.1) (ap (state_in l) p.4) ∙ ap (λ k. stepped (Marked k) p.1) (sym (one_byte m c i)))
begins_mark m (c ∷ d ∷ []) i l ws e =
    let p = lexing_parts c (d ∷ []) l ws (Marked m) e in
    let q = lexing_parts d [] p.0 p.2 (Marked m) p.4 in
    let r : lex p.0 d ≡ Some (Marked m, q.1) = q.3 ∙ ap (λ y. stepped y q.1) (ap (state_in l) q.4) in
    elim (came p.0 d (Marked m) q.1 r) [
      | inl k ↦ (p.1, p.3 ∙ ap (λ y. stepped y p.1) (k.1 ∙ ap Marked (same_text k.0 (first_mark m) (append_cancel_right (mark_text k.0) (c ∷ []) (d ∷ []) (sym k.2 ∙ i) ∙ sym (first_text m c d i)))))
      | inr k ↦ absurd (let z : c ∷ d ∷ [] ≡ d ∷ [] = sym i ∙ k in cc)
    ]
begins_mark m (c ∷ d ∷ f ∷ t) i l ws e = absurd (no_three m c d f t i)

begins_at : (o : Opening) (l : Lexer) (ws : List Token) (x : Option Token) → lexing (opening_text o) l ≡ Some (ws, after_all o) → last l ≡ Some x → ws ≡ emitted x [] → Begins o l
begins_at Parenthesis l ws x e f g = let p = lexing_parts 40 [] l ws (Marked Open) e in (p.1, p.3 ∙ ap (λ y. stepped y p.1) (ap (state_in l) p.4))
begins_at Brace l ws x e f g = let p = lexing_parts 123 [] l ws (Marked OpenBrace) e in (p.1, p.3 ∙ ap (λ y. stepped y p.1) (ap (state_in l) p.4))
begins_at BlockWord l ws x e f g = elim (word_came (codes "begin") l ws (codes "begin") e) [
  | inl k ↦ absurd (no_more l k.0 x ws k.1 f g k.3)
  | inr k ↦ elim k [ inl j ↦ absurd (omega (arith, j)) | inr j ↦ j.1 ]
]
begins_at IfWord l ws x e f g = elim (word_came (codes "if") l ws (codes "if") e) [
  | inl k ↦ absurd (no_more l k.0 x ws k.1 f g k.3)
  | inr k ↦ elim k [ inl j ↦ absurd (omega (arith, j)) | inr j ↦ j.1 ]
]
begins_at (Operator m) l ws x e f g = begins_mark m (mark_text m) refl l ws e
begins_at CaseWord l ws x e f g = elim (word_came (codes "case") l ws (codes "case") e) [
  | inl k ↦ absurd (no_more l k.0 x ws k.1 f g k.3)
  | inr k ↦ elim k [ inl j ↦ absurd (omega (arith, j)) | inr j ↦ j.1 ]
]

-- within it each byte goes on with it, and only the first may end a token
abbrev pub StepsOn : List ℕ → Lexer → ℕ → Type 0
StepsOn w l c = (m : Lexer) × (y : Option Token) × (lex l c ≡ Some (m, y)) × Small m × ((w ≡ []) ⊎ (y ≡ None))

word_on : (d : ℕ) (w v : List ℕ) (c : ℕ) (u : List ℕ) (l m : Lexer) (us : List Token) (x : Option Token) → list_all in_identifier w ≡ true → length w ≤ 63 → lex l d ≡ Some (InWord (d ∷ []), x) → d ∷ w ≡ v ++ (c ∷ u) → lexing v l ≡ Some (us, m) → StepsOn v m c
word_on d w [] c u l m us x h n e f k = let i : c ≡ d = cc in let j : m ≡ l = sym (ap (state_in l) k) in (InWord (d ∷ []), x, subst (λ y. lex m y ≡ Some (InWord (d ∷ []), x)) (sym i) (subst (λ y. lex y d ≡ Some (InWord (d ∷ []), x)) (sym j) e), (refl, λ most h. refl), inl refl)
word_on d w (a ∷ v) c u l m us x h n e f k =
    let i : a ≡ d = cc in
    let j : w ≡ v ++ (c ∷ u) = cc in
    let p = lexing_parts a v l us m k in
    let s : lex l a ≡ Some (InWord (d ∷ []), x) = subst (λ y. lex l y ≡ Some (InWord (d ∷ []), x)) (sym i) e in
    let q : p.0 ≡ InWord (d ∷ []) = ap (lexer_in l) (sym p.3 ∙ s) in
    let r = parts v c u (subst (λ y. list_all in_identifier y ≡ true) j h) in
    let t : lexing v (InWord (d ∷ [])) ≡ Some (p.2, m) = subst (λ y. lexing v y ≡ Some (p.2, m)) q p.4 in
    let z : InWord (d ∷ v) ≡ m = ap (state_in l) (sym (run_on v (d ∷ []) r.0) ∙ t) in
    let g : length v + 1 ≤ 63 = let b : length w ≡ length v + suc (length u) = ap length j ∙ length-append v (c ∷ u) in omega (arith, n, b) in
    (InWord ((d ∷ v) ++ (c ∷ [])), None, subst (λ y. lex y c ≡ Some (InWord ((d ∷ v) ++ (c ∷ [])), None)) z (word_step (d ∷ v) c r.1), (short v g, λ most h. refl), inr refl)
  where
    parts : (v : List ℕ) (c : ℕ) (u : List ℕ) → list_all in_identifier (v ++ (c ∷ u)) ≡ true → (list_all in_identifier v ≡ true) × (in_identifier c ≡ true)
    parts [] c u h = (refl, (and_parts (in_identifier c) (list_all in_identifier u) h).0)
    parts (b ∷ v) c u h = let p = and_parts (in_identifier b) (list_all in_identifier (v ++ (c ∷ u))) h in let q = parts v c u p.1 in (and_from (in_identifier b) (list_all in_identifier v) p.0 q.0, q.1)

    short : (v : List ℕ) → length v + 1 ≤ 63 → nat_le (length ((d ∷ v) ++ (c ∷ []))) 64 ≡ true
    short v g = le-leb (length ((d ∷ v) ++ (c ∷ []))) 64 (let b : length ((d ∷ v) ++ (c ∷ [])) ≡ suc (length v) + 1 = length-append (d ∷ v) (c ∷ []) in omega (arith, g, b))

mark_on : (d : ℕ) (k : Mark) (v : List ℕ) (c : ℕ) (u : List ℕ) (l m : Lexer) (us : List Token) (x : Option Token) → lex l d ≡ Some (Marked k, x) → d ∷ [] ≡ v ++ (c ∷ u) → lexing v l ≡ Some (us, m) → StepsOn v m c
mark_on d k [] c u l m us x e f h = let i : c ≡ d = cc in let j : m ≡ l = sym (ap (state_in l) h) in (Marked k, x, subst (λ y. lex m y ≡ Some (Marked k, x)) (sym i) (subst (λ y. lex y d ≡ Some (Marked k, x)) (sym j) e), (refl, λ most h. refl), inl refl)
mark_on d k (a ∷ v) c u l m us x e f h = absurd (nothing v (let j : [] ≡ v ++ (c ∷ u) = cc in j))
  where
    nothing : (v : List ℕ) → [] ≡ v ++ (c ∷ u) → ⊥
    nothing [] e = cc
    nothing (b ∷ v) e = cc

marks_on : (m : Mark) (t : List ℕ) → mark_text m ≡ t → (v : List ℕ) (c : ℕ) (u : List ℕ) (l n : Lexer) (us : List Token) (x : Option Token) → lex l (head_of t) ≡ Some (Marked (first_mark m), x) → t ≡ v ++ (c ∷ u) → lexing v l ≡ Some (us, n) → StepsOn v n c
marks_on m [] i v c u l n us x b e h = absurd (some_text m i)
marks_on m (d ∷ []) i v c u l n us x b e h = mark_on d (first_mark m) v c u l n us x b e h
marks_on m (d ∷ f ∷ []) i [] c u l n us x b e h = let j : c ≡ d = cc in let k : n ≡ l = sym (ap (state_in l) h) in (Marked (first_mark m), x, subst (λ y. lex n y ≡ Some (Marked (first_mark m), x)) (sym j) (subst (λ y. lex y d ≡ Some (Marked (first_mark m), x)) (sym k) b), (refl, λ most h. refl), inl refl)
marks_on m (d ∷ f ∷ []) i (a ∷ []) c u l n us x b e h =
    let j : a ≡ d = cc in
    let k : c ≡ f = cc in
    let p = lexing_parts a [] l us n h in
    let r : p.0 ≡ Marked (first_mark m) = ap (lexer_in l) (sym p.3 ∙ subst (λ y. lex l y ≡ Some (Marked (first_mark m), x)) (sym j) b) in
    let z : Marked (first_mark m) ≡ n = sym r ∙ ap (state_in l) p.4 in
    (Marked m, None, subst (λ y. lex y c ≡ Some (Marked m, None)) z (subst (λ y. lex (Marked (first_mark m)) y ≡ Some (Marked m, None)) (sym k) (grows_to m d f i)), (refl, λ most h. refl), inr refl)
marks_on m (d ∷ f ∷ []) i (a ∷ g ∷ v) c u l n us x b e h = absurd (nothing v (let j : [] ≡ v ++ (c ∷ u) = cc in j))
  where
    nothing : (v : List ℕ) → [] ≡ v ++ (c ∷ u) → ⊥
    nothing [] e = cc
    nothing (b ∷ v) e = cc
marks_on m (d ∷ f ∷ g ∷ t) i v c u l n us x b e h = absurd (no_three m d f g t i)

pub steps_on : (o : Opening) (v : List ℕ) (c : ℕ) (u : List ℕ) (l m : Lexer) (us : List Token) → Begins o l → opening_text o ≡ v ++ (c ∷ u) → lexing v l ≡ Some (us, m) → StepsOn v m c
steps_on Parenthesis v c u l m us b e h = mark_on 40 Open v c u l m us b.0 b.1 e h
steps_on Brace v c u l m us b e h = mark_on 123 OpenBrace v c u l m us b.0 b.1 e h
steps_on BlockWord v c u l m us b e h = word_on 98 (codes "egin") v c u l m us b.0 refl (omega arith) b.1 e h
steps_on IfWord v c u l m us b e h = word_on 105 (codes "f") v c u l m us b.0 refl (omega arith) b.1 e h
steps_on (Operator k) v c u l m us b e h = marks_on k (mark_text k) refl v c u l m us b.0 b.1 e h
steps_on CaseWord v c u l m us b e h = word_on 99 (codes "ase") v c u l m us b.0 refl (omega arith) b.1 e h

-- ---- where it stands

-- the tokens of bytes, and where the lexer is behind them
pub ends_in : (ts : List Token) (p : List ℕ) → Lexed ts p → (us : List Token) × (l : Lexer) × (o : Option Token) × (lexing p (InGap Between) ≡ Some (us, l)) × (last l ≡ Some o) × (ts ≡ us ++ emitted o [])
ends_in ts p h = go (lexing p (InGap Between)) refl (unread_to p (InGap Between) [] ts (subst (λ (x : List ℕ). Lexed ts x) (sym (append-nil p)) h))
  where
    go : (s : Option (List Token × Lexer)) → lexing p (InGap Between) ≡ s → Holds s (λ s. (us : List Token) × (ts ≡ s.0 ++ us) × unread s.1 [] us) → (us : List Token) × (l : Lexer) × (o : Option Token) × (lexing p (InGap Between) ≡ Some (us, l)) × (last l ≡ Some o) × (ts ≡ us ++ emitted o [])
    go None e k = absurd k
    go (Some s) e k = by (last s.1) refl ((lexes.ends s.1 k.0).0 k.2)
      where
        by : (o : Option (Option Token)) → last s.1 ≡ o → Holds o (λ x. k.0 ≡ emitted x []) → (us : List Token) × (l : Lexer) × (o : Option Token) × (lexing p (InGap Between) ≡ Some (us, l)) × (last l ≡ Some o) × (ts ≡ us ++ emitted o [])
        by None f j = absurd j
        by (Some x) f j = (s.0, s.1, x, e, f, k.1 ∙ ap (λ (y : List Token). s.0 ++ y) j)

same_end : (a b : List Token) (x y : Token) → a ++ (x ∷ []) ≡ b ++ (y ∷ []) → (a ≡ b) × (x ≡ y)
same_end [] [] x y e = (refl, let k : x ≡ y = cc in k)
same_end [] (d ∷ []) x y e = cc
same_end [] (d ∷ f ∷ b) x y e = cc
same_end (d ∷ []) [] x y e = cc
same_end (d ∷ f ∷ a) [] x y e = cc
same_end (c ∷ a) (d ∷ b) x y e = let i : c ≡ d = cc in let k : a ++ (x ∷ []) ≡ b ++ (y ∷ []) = cc in let r = same_end a b x y k in (ap (λ z. z ∷ a) i ∙ ap (λ (z : List Token). d ∷ z) r.0, r.1)

-- An opening that is a token of its own behind p, whose tokens are ts: behind its bytes the lexer has it, and its first
-- byte begins it.
pub record Landed (p : List ℕ) (ts : List Token) (o : Opening) : Type 0 where
  pub read : List Token
  pub lexer : Lexer
  pub before : lexing p (InGap Between) ≡ Some (read, lexer)
  pub begins : Begins o lexer
  pub behind_it : lexing (p ++ opening_text o) (InGap Between) ≡ Some (ts, after_all o)

plain_mark : (m : Mark) → (c : ℕ) × (w : List ℕ) × (mark_text m ≡ c ∷ w) × (list_all (λ d. not (is_gap d)) (c ∷ w) ≡ true)
plain_mark TwoEquals = (61, 61 ∷ [], refl, refl)
plain_mark BangEquals = (33, 61 ∷ [], refl, refl)
plain_mark LessEquals = (60, 61 ∷ [], refl, refl)
plain_mark TwoLess = (60, 60 ∷ [], refl, refl)
plain_mark GreaterEquals = (62, 61 ∷ [], refl, refl)
plain_mark TwoGreater = (62, 62 ∷ [], refl, refl)
plain_mark TwoAmpersands = (38, 38 ∷ [], refl, refl)
plain_mark TwoBars = (124, 124 ∷ [], refl, refl)
plain_mark m = (head_of (mark_text m), [], refl, refl)

plain_text : (o : Opening) → (c : ℕ) × (w : List ℕ) × (opening_text o ≡ c ∷ w) × (list_all (λ d. not (is_gap d)) (c ∷ w) ≡ true)
plain_text Parenthesis = (40, [], refl, refl)
plain_text Brace = (123, [], refl, refl)
plain_text BlockWord = (98, codes "egin", refl, refl)
plain_text IfWord = (105, codes "f", refl, refl)
plain_text (Operator m) = plain_mark m
plain_text CaseWord = (99, codes "ase", refl, refl)

pub lands : (p : List ℕ) (ts : List Token) (o : Opening) → Lexed ts p → Lexed (ts ++ (opening_token o ∷ [])) (p ++ opening_text o) → Landed p ts o
lands p ts o h k =
    let a = ends_in ts p h in
    let b = ends_in (ts ++ (opening_token o ∷ [])) (p ++ opening_text o) k in
    let s = lexing_split p (opening_text o) (InGap Between) b.0 b.1 b.3 in
    let same = sym s.3 ∙ a.3 in
    let i : s.0 ≡ a.0 = ap tokens_in same in
    let j : s.1 ≡ a.1 = ap (state_in a.1) same in
    let tokens : a.0 ++ (s.2 ++ emitted b.2 []) ≡ a.0 ++ (emitted a.2 [] ++ (opening_token o ∷ [])) = sym (append_assoc a.0 s.2 (emitted b.2 [])) ∙ ap (λ (x : List Token). (x ++ s.2) ++ emitted b.2 []) (sym i) ∙ ap (λ (x : List Token). x ++ emitted b.2 []) (sym s.5) ∙ sym b.5 ∙ ap (λ (x : List Token). x ++ (opening_token o ∷ [])) a.5 ∙ append_assoc a.0 (emitted a.2 []) (opening_token o ∷ []) in
    go a.0 a.1 a.2 b.0 b.1 b.2 s.2 a.3 a.4 a.5 b.3 b.4 (subst (λ x. lexing (opening_text o) x ≡ Some (s.2, b.1)) j s.4) (s.5 ∙ ap (λ (x : List Token). x ++ s.2) i) (append_cancel_left a.0 (s.2 ++ emitted b.2 []) (emitted a.2 [] ++ (opening_token o ∷ [])) tokens)
  where
    go : (us : List Token) (l : Lexer) (x : Option Token) (vs : List Token) (m : Lexer) (y : Option Token) (ws : List Token) → lexing p (InGap Between) ≡ Some (us, l) → last l ≡ Some x → ts ≡ us ++ emitted x [] → lexing (p ++ opening_text o) (InGap Between) ≡ Some (vs, m) → last m ≡ Some y → lexing (opening_text o) l ≡ Some (ws, m) → vs ≡ us ++ ws → ws ++ emitted y [] ≡ emitted x [] ++ (opening_token o ∷ []) → Landed p ts o
    go us l x vs m None ws before f t e g w v n = absurd (no_gap x f n)
      where
        gap : (l ≡ InGap Line) × (ws ≡ [])
        gap = let c = plain_text o in gap_came c.1 c.0 l ws m c.3 (subst (λ (x : List ℕ). lexing x l ≡ Some (ws, m)) c.2 w) g

        no_gap : (x : Option Token) → last l ≡ Some x → ws ++ [] ≡ emitted x [] ++ (opening_token o ∷ []) → ⊥
        no_gap None f n = let k : [] ≡ opening_token o ∷ [] = sym gap.1 ∙ sym (append-nil ws) ∙ n in cc
        no_gap (Some t) f n = let k : Some None ≡ Some (Some t) = sym (ap last gap.0) ∙ f in cc
    go us l x vs m (Some y) ws before f t e g w v n = record {
      read = us;
      lexer = l;
      before = before;
      begins = begins_at o l ws x (w ∙ ap (made ws) at_end) f r.0;
      behind_it = e ∙ ap (λ z. made z m) (v ∙ ap (λ (z : List Token). us ++ z) r.0 ∙ sym t) ∙ ap (made ts) at_end;
    }
      where
        r : (ws ≡ emitted x []) × (y ≡ opening_token o)
        r = same_end ws (emitted x []) y (opening_token o) n

        at_end : m ≡ after_all o
        at_end =
            let c = plain_text o in
            let z = last_step c.1 c.0 l ws m (subst (λ (x : List ℕ). lexing x l ≡ Some (ws, m)) c.2 w) in
            has_it m o (g ∙ ap (λ x. Some (Some x)) r.1) (λ q i. came z.0 z.1 (Whole q) z.2 (z.3 ∙ ap (λ x. stepped x z.2) i))
