-- Which tokens the reader has read, and where the token began that it reads now.
use Rattle.verilog_text.specs.Reading.{start}
use Rattle.verilog_tree.specs.Grammar.{Style}
use Rattle.verilog_tree.specs.Spells.{bounded}
use Rattle.std.proofs.Common.{◌≡◌, ℕ, ◌+◌, ◌*◌, Bool, true, false, List, [], ◌∷◌, ◌++◌, length, Option, Some, None, refl, sym, ap, subst, ◌∙◌, if◌then◌else◌, ◌==◌, append-nil}
use Rattle.std.proofs.lemmas.Bool.{eqb-true}
use Rattle.std.proofs.lemmas.List.{append_assoc}
use Rattle.bist_text.specs.Lexed.{Both, then as and_then}
use Rattle.bist_text.specs.inner.Lexed.{emitted}
use Rattle.bist_text.specs.Machine.{Holds}
use Rattle.verilog_tree.specs.declared.tokens.Base.{Base}
use Rattle.verilog_tree.specs.declared.tokens.Mark.{Mark}
use Rattle.verilog_tree.specs.declared.tokens.Mark.TheVariants.{Open, Close, OpenBracket, CloseBracket, OpenBrace, CloseBrace, Comma, Semicolon, Colon, At, Question, Equals, LessEquals, Plus, Minus, Ampersand, Bar, Caret, Tilde, Bang, TwoEquals, BangEquals, Less, Greater, GreaterEquals, TwoAmpersands, TwoBars, TwoLess, TwoGreater, FullStop}
use Rattle.verilog_tree.specs.declared.tokens.Within.TheVariants.{Between, Slash, Line, Block, Star}
use Rattle.verilog_tree.specs.Tokens.{Token, Identifier, Number, Unused, Sign, is_space, is_query, mark_text, mark_of, lengthened, Start, AWord, ANumber, AMark, NoToken, start_of, start_mark, Lexed, spoils, growth_of}
use Rattle.bist_text.specs.Identifiers.{is_digit, begins_identifier, in_identifier}
use Rattle.verilog_tree.specs.Words.{digit_value, radix, base_of, is_digit_of}
use Rattle.verilog_text.specs.Answering.{Taking, Leads, Refused, OneTooMany, taking, take_token, Move, Goes, Stops, is_between, while_live, gone, within, ended, stuck_at, stuck, read_on, lexed, byte_move}
use Rattle.verilog_text.specs.Expected.{live, name_fits, number_fits, most_of, taken}
use Rattle.verilog_text.specs.Lexing.{Lexer, InGap, InWord, InNumber, Quoted, Lettered, InDigits, Marked, Whole, literal, begin_token, begin, with_token, silent, lettered, grow, lex, last}
use Rattle.verilog_text.specs.Openings.{Opening, Parenthesis, Brace, BlockWord, IfWord, CaseWord, opening_token, Operator}
use Rattle.verilog_text.specs.Places.{State, AtItem, Begin}
use Rattle.verilog_text.specs.Steps.{step}
use Rattle.verilog_text.proofs.LexerLaws.{by_test, lexes}
use Rattle.verilog_text.proofs.LexingOn.{lexing, emitted_on, lexed_on}
use Rattle.verilog_text.proofs.Moving.{emits}
use Rattle.verilog_text.proofs.Parsing.{parse, parse_on}

-- ---- one byte more

abbrev pub tokens_in : Option (List Token × Lexer) → List Token
tokens_in None = []
tokens_in (Some s) = s.0

abbrev pub state_in : Lexer → Option (List Token × Lexer) → Lexer
state_in l None = l
state_in l (Some s) = s.1

-- the same behind a byte that may have ended a token
abbrev pub adding : Option Token → Option (List Token × Lexer) → Option (List Token × Lexer)
adding o p = and_then p (λ s. Some (emitted o s.0, s.1))

abbrev pub behind : List ℕ → Option (Lexer × Option Token) → Option (List Token × Lexer)
behind b p = and_then p (λ r. adding r.1 (lexing b r.0))

pub lexing_on : (b : List ℕ) (l m : Lexer) (ts : List Token) (c : ℕ) (n : Lexer) (o : Option Token) → lexing b l ≡ Some (ts, m) → lex m c ≡ Some (n, o) → lexing (b ++ (c ∷ [])) l ≡ Some (ts ++ emitted o [], n)
lexing_on [] l m ts c n o e h =
    let k : [] ≡ ts = ap tokens_in e in
    let j : l ≡ m = ap (state_in l) e in
    ap (behind []) (subst (λ x. lex x c ≡ Some (n, o)) (sym j) h) ∙ ap (λ (x : List Token). Some (x ++ emitted o [], n)) k
lexing_on (d ∷ b) l m ts c n o e h = go (lex l d) e (λ y us k. lexing_on b y m us c n o k h)
  where
    go : (p : Option (Lexer × Option Token)) → behind b p ≡ Some (ts, m) → ((y : Lexer) (us : List Token) → lexing b y ≡ Some (us, m) → lexing (b ++ (c ∷ [])) y ≡ Some (us ++ emitted o [], n)) → behind (b ++ (c ∷ [])) p ≡ Some (ts ++ emitted o [], n)
    go None e f = cc
    go (Some r) e f = inner (lexing b r.0) refl e
      where
        inner : (p : Option (List Token × Lexer)) → lexing b r.0 ≡ p → adding r.1 p ≡ Some (ts, m) → adding r.1 (lexing (b ++ (c ∷ [])) r.0) ≡ Some (ts ++ emitted o [], n)
        inner None k e = cc
        inner (Some s) k e =
            let u : emitted r.1 s.0 ≡ ts = ap tokens_in e in
            let v : s.1 ≡ m = ap (state_in l) e in
            ap (adding r.1) (f r.0 s.0 (k ∙ ap last_in v)) ∙ ap (λ (x : List Token). Some (x, n)) (emitted_on r.1 s.0 (emitted o [])) ∙ ap (λ (x : List Token). Some (x ++ emitted o [], n)) u
          where
            last_in : Lexer → Option (List Token × Lexer)
            last_in x = Some (s.0, x)

-- the tokens of bytes that may end there
pub lexed_end : (b : List ℕ) (l : Lexer) (ts : List Token) (o : Option Token) → lexing b (InGap Between) ≡ Some (ts, l) → last l ≡ Some o → Lexed (ts ++ emitted o []) b
lexed_end b l ts o e h = subst (λ (x : List ℕ). Lexed (ts ++ emitted o []) x) (append-nil b) (lexed_on b (InGap Between) l ts [] (emitted o []) e ((lexes.ends l (emitted o [])).1 (subst (λ (p : Option (Option Token)). Holds p (λ x. emitted o [] ≡ emitted x [])) (sym h) refl)))

-- ---- the mark that a byte begins

pick : (b : Bool) (m n : Mark) (c : ℕ) (o : Option Mark) → (b ≡ true → mark_text m ≡ c ∷ []) → (o ≡ Some n → mark_text n ≡ c ∷ []) → (if b then Some m else o) ≡ Some n → mark_text n ≡ c ∷ []
pick true m n c o f g h = let k : m ≡ n = cc in subst (λ x. mark_text x ≡ c ∷ []) k (f refl)
pick false m n c o f g h = g h

is_byte : (c d : ℕ) → (c == d) ≡ true → (d ∷ []) ≡ (c ∷ [])
is_byte c d e = ap (λ x. x ∷ []) (sym (eqb-true c d e))

mark_byte : (c : ℕ) (n : Mark) → mark_of c ≡ Some n → mark_text n ≡ c ∷ []
mark_byte c n h = pick (c == 40) Open n c _ (is_byte c 40) (pick (c == 41) Close n c _ (is_byte c 41) (pick (c == 91) OpenBracket n c _ (is_byte c 91) (pick (c == 93) CloseBracket n c _ (is_byte c 93) (pick (c == 123) OpenBrace n c _ (is_byte c 123) (pick (c == 125) CloseBrace n c _ (is_byte c 125) (pick (c == 44) Comma n c _ (is_byte c 44) (pick (c == 59) Semicolon n c _ (is_byte c 59) (pick (c == 58) Colon n c _ (is_byte c 58) (pick (c == 64) At n c _ (is_byte c 64) (pick (c == 63) Question n c _ (is_byte c 63) (pick (c == 61) Equals n c _ (is_byte c 61) (pick (c == 43) Plus n c _ (is_byte c 43) (pick (c == 45) Minus n c _ (is_byte c 45) (pick (c == 38) Ampersand n c _ (is_byte c 38) (pick (c == 124) Bar n c _ (is_byte c 124) (pick (c == 94) Caret n c _ (is_byte c 94) (pick (c == 126) Tilde n c _ (is_byte c 126) (pick (c == 33) Bang n c _ (is_byte c 33) (pick (c == 60) Less n c _ (is_byte c 60) (pick (c == 62) Greater n c _ (is_byte c 62) (pick (c == 46) FullStop n c None (is_byte c 46) (λ e. cc)))))))))))))))))))))) h

-- ---- where a token began

-- it is no opening
abbrev pub NoOpening : Token → Type 0
NoOpening t = (o : Opening) → t ≡ opening_token o → ⊥

-- the bytes of what is begun, and the tokens before it
abbrev pub Begun : Lexer → List Token → List ℕ → List ℕ → Type 0
Begun (InWord w) ts front own = Lexed ts front × (own ≡ w)
Begun (Marked m) ts front own = Lexed ts front × (own ≡ mark_text m)
Begun (Whole t) ts front own = NoOpening t
Begun l ts front own = Unit {0}

-- what a byte begins
begins : (s : Start) (c : ℕ) (l : Lexer) (ts : List Token) (p : List ℕ) → ((m : Mark) → s ≡ AMark m → mark_text m ≡ c ∷ []) → Lexed ts p → begin_token s c ≡ Some l → Begun l ts p (c ∷ [])
begins AWord c l ts p f h e = let k : InWord (c ∷ []) ≡ l = cc in subst (λ x. Begun x ts p (c ∷ [])) k (h, refl)
begins ANumber c l ts p f h e = let k : InNumber false (digit_value c) ≡ l = cc in subst (λ x. Begun x ts p (c ∷ [])) k tt
begins (AMark m) c l ts p f h e = let k : Marked m ≡ l = cc in subst (λ x. Begun x ts p (c ∷ [])) k (h, sym (f m refl))
begins NoToken c l ts p f h e = cc

pub start_bytes : (c : ℕ) (m : Mark) → start_of c ≡ AMark m → mark_text m ≡ c ∷ []
start_bytes c m = by_test (λ t. (if t then AWord else if is_digit c then ANumber else start_mark (mark_of c)) ≡ AMark m → mark_text m ≡ c ∷ []) (begins_identifier c) (λ e f. cc) (λ e. by_test (λ t. (if t then ANumber else start_mark (mark_of c)) ≡ AMark m → mark_text m ≡ c ∷ []) (is_digit c) (λ e f. cc) (λ e. marks (mark_of c) refl))
  where
    marks : (o : Option Mark) → mark_of c ≡ o → start_mark o ≡ AMark m → mark_text m ≡ c ∷ []
    marks None k f = cc
    marks (Some n) k f = let j : n ≡ m = cc in subst (λ x. mark_text x ≡ c ∷ []) j (mark_byte c n k)

pub new_begun : (c : ℕ) (l : Lexer) (ts : List Token) (p : List ℕ) → Lexed ts p → begin c ≡ Some l → Begun l ts p (c ∷ [])
new_begun c l ts p h = by_test (λ t. (if t then Some (InGap Between) else if c == 47 then Some (InGap Slash) else begin_token (start_of c) c) ≡ Some l → Begun l ts p (c ∷ [])) (is_space c) (λ e f. let k : InGap Between ≡ l = cc in subst (λ x. Begun x ts p (c ∷ [])) k tt) (λ e. by_test (λ t. (if t then Some (InGap Slash) else begin_token (start_of c) c) ≡ Some l → Begun l ts p (c ∷ [])) (c == 47) (λ e f. let k : InGap Slash ≡ l = cc in subst (λ x. Begun x ts p (c ∷ [])) k tt) (λ e f. begins (start_of c) c l ts p (start_bytes c) h f))

-- ---- a byte that goes on with it

abbrev lexer_of : Lexer → Option (Lexer × Option Token) → Lexer
lexer_of l None = l
lexer_of l (Some r) = r.0

abbrev pub token_of : Option (Lexer × Option Token) → Option Token
token_of None = None
token_of (Some r) = r.1

-- where the step that is silent leads
abbrev Silent : Lexer → List Token → List ℕ → List ℕ → Option (Lexer × Option Token) → Type 0
Silent l ts front own o = (m : Lexer) → o ≡ Some (m, None) → Begun m ts front own

to : (l m : Lexer) (ts : List Token) (front own : List ℕ) → Begun m ts front own → Silent l ts front own (Some (m, None))
to l m ts front own h n e = subst (λ x. Begun x ts front own) (ap (lexer_of l) e) h

nowhere : (l : Lexer) (ts : List Token) (front own : List ℕ) → Silent l ts front own None
nowhere l ts front own n e = cc

loud : (l : Lexer) (ts : List Token) (front own : List ℕ) (t : Token) (o : Option Lexer) → Silent l ts front own (with_token t o)
loud l ts front own t None n e = cc
loud l ts front own t (Some m) n e = let k : Some t ≡ None = ap token_of e in cc

-- the byte that makes a mark longer is its last
longer_by : (m k n : Mark) (c d : ℕ) (b : Bool) (o : Option Mark) → (b ≡ true → c ≡ d) → mark_text k ≡ mark_text m ++ (d ∷ []) → (o ≡ Some n → mark_text n ≡ mark_text m ++ (c ∷ [])) → (if b then Some k else o) ≡ Some n → mark_text n ≡ mark_text m ++ (c ∷ [])
longer_by m k n c d true o f t g e = let i : k ≡ n = cc in subst (λ x. mark_text x ≡ mark_text m ++ (c ∷ [])) i (t ∙ ap (λ (x : ℕ). mark_text m ++ (x ∷ [])) (sym (f refl)))
longer_by m k n c d false o f t g e = g e

pub longer_text : (m n : Mark) (c : ℕ) → lengthened m c ≡ Some n → mark_text n ≡ mark_text m ++ (c ∷ [])
longer_text Equals n c = longer_by Equals TwoEquals n c 61 (c == 61) None (eqb-true c 61) refl (λ e. cc)
longer_text Bang n c = longer_by Bang BangEquals n c 61 (c == 61) None (eqb-true c 61) refl (λ e. cc)
longer_text Less n c = longer_by Less LessEquals n c 61 (c == 61) _ (eqb-true c 61) refl (longer_by Less TwoLess n c 60 (c == 60) None (eqb-true c 60) refl (λ e. cc))
longer_text Greater n c = longer_by Greater GreaterEquals n c 61 (c == 61) _ (eqb-true c 61) refl (longer_by Greater TwoGreater n c 62 (c == 62) None (eqb-true c 62) refl (λ e. cc))
longer_text Ampersand n c = longer_by Ampersand TwoAmpersands n c 38 (c == 38) None (eqb-true c 38) refl (λ e. cc)
longer_text Bar n c = longer_by Bar TwoBars n c 124 (c == 124) None (eqb-true c 124) refl (λ e. cc)
longer_text m n c = λ e. cc

pub queried : NoOpening Unused
queried Parenthesis e = cc
queried Brace e = cc
queried BlockWord e = cc
queried IfWord e = cc
queried CaseWord e = cc
queried (Operator m) e = cc

goes_on : (l : Lexer) (c : ℕ) (ts : List Token) (front own : List ℕ) → is_between l ≡ false → Begun l ts front own → Silent l ts front (own ++ (c ∷ [])) (lex l c)
goes_on (InGap Between) c ts front own n h = cc
goes_on (InGap Slash) c ts front own n h = by_test (λ t. Silent (InGap Slash) ts front (own ++ (c ∷ [])) (if t then Some (InGap Line, None) else if c == 42 then Some (InGap Block, None) else None)) (c == 47) (λ e. to (InGap Slash) (InGap Line) ts front _ tt) (λ e. by_test (λ t. Silent (InGap Slash) ts front (own ++ (c ∷ [])) (if t then Some (InGap Block, None) else None)) (c == 42) (λ e. to (InGap Slash) (InGap Block) ts front _ tt) (λ e. nowhere (InGap Slash) ts front _))
goes_on (InGap Line) c ts front own n h = by_test (λ t. Silent (InGap Line) ts front (own ++ (c ∷ [])) (if t then Some (InGap Between, None) else Some (InGap Line, None))) (c == 10) (λ e. to (InGap Line) (InGap Between) ts front _ tt) (λ e. to (InGap Line) (InGap Line) ts front _ tt)
goes_on (InGap Block) c ts front own n h = by_test (λ t. Silent (InGap Block) ts front (own ++ (c ∷ [])) (if t then Some (InGap Star, None) else Some (InGap Block, None))) (c == 42) (λ e. to (InGap Block) (InGap Star) ts front _ tt) (λ e. to (InGap Block) (InGap Block) ts front _ tt)
goes_on (InGap Star) c ts front own n h = by_test (λ t. Silent (InGap Star) ts front (own ++ (c ∷ [])) (if t then Some (InGap Between, None) else if c == 42 then Some (InGap Star, None) else Some (InGap Block, None))) (c == 47) (λ e. to (InGap Star) (InGap Between) ts front _ tt) (λ e. by_test (λ t. Silent (InGap Star) ts front (own ++ (c ∷ [])) (if t then Some (InGap Star, None) else Some (InGap Block, None))) (c == 42) (λ e. to (InGap Star) (InGap Star) ts front _ tt) (λ e. to (InGap Star) (InGap Block) ts front _ tt))
goes_on (InWord w) c ts front own n h = by_test (λ t. Silent (InWord w) ts front (own ++ (c ∷ [])) (if t then Some (InWord (w ++ (c ∷ [])), None) else with_token (Identifier w) (begin c))) (in_identifier c) (λ e. to (InWord w) (InWord (w ++ (c ∷ []))) ts front _ (h.0, ap (λ (x : List ℕ). x ++ (c ∷ [])) h.1)) (λ e. loud (InWord w) ts front _ (Identifier w) (begin c))
goes_on (InNumber long v) c ts front own n h = by_test (λ t. Silent (InNumber long v) ts front (own ++ (c ∷ [])) (if t then Some (InNumber true (v * 10 + digit_value c), None) else if c == 39 then Some (Quoted v, None) else with_token (Number long v) (begin c))) (is_digit c) (λ e. to (InNumber long v) (InNumber true (v * 10 + digit_value c)) ts front _ tt) (λ e. by_test (λ t. Silent (InNumber long v) ts front (own ++ (c ∷ [])) (if t then Some (Quoted v, None) else with_token (Number long v) (begin c))) (c == 39) (λ e. to (InNumber long v) (Quoted v) ts front _ tt) (λ e. loud (InNumber long v) ts front _ (Number long v) (begin c)))
goes_on (Quoted v) c ts front own n h = go (base_of c)
  where
    go : (o : Option Base) → Silent (Quoted v) ts front (own ++ (c ∷ [])) (lettered v o)
    go None = nowhere (Quoted v) ts front _
    go (Some base) = to (Quoted v) (Lettered v base) ts front _ tt
goes_on (Lettered v base) c ts front own n h = by_test (λ t. Silent (Lettered v base) ts front (own ++ (c ∷ [])) (if t then Some (InDigits v base (digit_value c), None) else None)) (is_digit_of base c) (λ e. to (Lettered v base) (InDigits v base (digit_value c)) ts front _ tt) (λ e. nowhere (Lettered v base) ts front _)
goes_on (InDigits v base x) c ts front own n h = by_test (λ t. Silent (InDigits v base x) ts front (own ++ (c ∷ [])) (if t then Some (InDigits v base (x * radix base + digit_value c), None) else if c == 95 then Some (InDigits v base x, None) else if is_query base c then Some (Whole Unused, None) else with_token (literal v x) (begin c))) (is_digit_of base c) (λ e. to (InDigits v base x) (InDigits v base (x * radix base + digit_value c)) ts front _ tt) (λ e. by_test (λ t. Silent (InDigits v base x) ts front (own ++ (c ∷ [])) (if t then Some (InDigits v base x, None) else if is_query base c then Some (Whole Unused, None) else with_token (literal v x) (begin c))) (c == 95) (λ e. to (InDigits v base x) (InDigits v base x) ts front _ tt) (λ e. by_test (λ t. Silent (InDigits v base x) ts front (own ++ (c ∷ [])) (if t then Some (Whole Unused, None) else with_token (literal v x) (begin c))) (is_query base c) (λ e. to (InDigits v base x) (Whole Unused) ts front _ queried) (λ e. loud (InDigits v base x) ts front _ (literal v x) (begin c))))
goes_on (Marked m) c ts front own n h = go (lengthened m c) (spoils m c) refl
  where
    go : (o : Option Mark) (p : Bool) → lengthened m c ≡ o → Silent (Marked m) ts front (own ++ (c ∷ [])) (grow m c (growth_of o p))
    go (Some k) p e = to (Marked m) (Marked k) ts front _ (h.0, ap (λ (x : List ℕ). x ++ (c ∷ [])) h.1 ∙ sym (longer_text m k c e))
    go None true e = to (Marked m) (Whole Unused) ts front _ queried
    go None false e = loud (Marked m) ts front _ (Sign m) (begin c)
goes_on (Whole t) c ts front own n h = loud (Whole t) ts front _ t (begin c)

module _ (style : Style) where
  -- ---- the reader behind some bytes

  -- The tokens that end in the bytes p, where the one that is read began, and that they are those of the state.
  pub record Pending (p : List ℕ) (q : Both State Lexer) (k : ℕ) : Type 0 where
    pub tokens : List Token
    pub front : List ℕ
    pub own : List ℕ
    pub split : p ≡ front ++ own
    pub at : k ≡ length front
    pub made : lexing p (InGap Between) ≡ Some (tokens, q.lexer)
    pub parsed : parse bounded tokens (AtItem (Begin style)) ≡ Some q.parser
    pub begun : Begun q.lexer tokens front own

  pub at_start : Pending [] (start style) 0
  at_start = record { tokens = []; front = []; own = []; split = refl; at = refl; made = refl; parsed = refl; begun = tt }

  abbrev place : State → Lexer → Both State Lexer
  place s l = record { parser = s; lexer = l }

  -- where a move goes
  abbrev pub To : List ℕ → ℕ → ℕ → Move → Type 0
  To p k i (Goes z fresh) = Pending p z (if fresh then i else k)
  To p k i (Stops f) = Unit {0}

  while : (p : List ℕ) (k i : ℕ) (b : Bool) (m : Move) → (b ≡ true → To p k i m) → To p k i (while_live b m)
  while p k i true m f = f refl
  while p k i false m f = tt

  inside : (p : List ℕ) (k i : ℕ) (a b : Bool) (m : Move) → To p k i m → To p k i (within a b m)
  inside p k i true true m h = h
  inside p k i true false m h = tt
  inside p k i false b m h = tt

  pub moves_on : (p : List ℕ) (q : Both State Lexer) (k c : ℕ) → Pending p q k → To (p ++ (c ∷ [])) k (length p) (byte_move q c)
  moves_on p q k c h = go (lex q.lexer c) refl
    where
      ended_to : (l : Lexer) (t : Token) (o : Option State) (b : Bool) → lex q.lexer c ≡ Some (l, Some t) → step bounded q.parser t ≡ o → To (p ++ (c ∷ [])) k (length p) (ended (taking o b) l)
      ended_to l t None true e f = tt
      ended_to l t None false e f = tt
      ended_to l t (Some s) b e f =
          let m = emits q.lexer c l t e in
          while (p ++ (c ∷ [])) k (length p) (live s l) (gone s l true) (λ x. record {
            tokens = h.tokens ++ (t ∷ []);
            front = p;
            own = c ∷ [];
            split = refl;
            at = refl;
            made = lexing_on p (InGap Between) q.lexer h.tokens c l (Some t) h.made e;
            parsed = parse_on bounded h.tokens t (AtItem (Begin style)) q.parser s h.parsed f;
            begun = new_begun c l (h.tokens ++ (t ∷ [])) p (lexed_end p q.lexer h.tokens (Some t) h.made m.1) m.0;
          })

      silent_to : (l : Lexer) (b : Bool) → lex q.lexer c ≡ Some (l, None) → is_between q.lexer ≡ b → To (p ++ (c ∷ [])) k (length p) (gone q.parser l b)
      silent_to l true e f = record {
        tokens = h.tokens;
        front = p;
        own = c ∷ [];
        split = refl;
        at = refl;
        made = subst (λ (x : List Token). lexing (p ++ (c ∷ [])) (InGap Between) ≡ Some (x, l)) (append-nil h.tokens) (lexing_on p (InGap Between) q.lexer h.tokens c l None h.made e);
        parsed = h.parsed;
        begun = new_begun c l h.tokens p (subst (λ (x : List Token). Lexed x p) (append-nil h.tokens) (lexed_end p q.lexer h.tokens None h.made (gap_ends q.lexer f))) (gap_begins q.lexer f e);
      }
        where
          gap_ends : (m : Lexer) → is_between m ≡ true → last m ≡ Some None
          gap_ends (InGap Between) f = refl
          gap_ends (InGap Slash) f = cc
          gap_ends (InGap Line) f = cc
          gap_ends (InGap Block) f = cc
          gap_ends (InGap Star) f = cc
          gap_ends m f = cc

          gap_begins : (m : Lexer) → is_between m ≡ true → lex m c ≡ Some (l, None) → begin c ≡ Some l
          gap_begins (InGap Between) f e = by (begin c) e
            where
              by : (o : Option Lexer) → silent o ≡ Some (l, None) → o ≡ Some l
              by None e = cc
              by (Some x) e = ap (λ y. Some (lexer_of l y)) e
          gap_begins (InGap Slash) f e = cc
          gap_begins (InGap Line) f e = cc
          gap_begins (InGap Block) f e = cc
          gap_begins (InGap Star) f e = cc
          gap_begins m f e = cc
      silent_to l false e f = record {
        tokens = h.tokens;
        front = h.front;
        own = h.own ++ (c ∷ []);
        split = ap (λ (x : List ℕ). x ++ (c ∷ [])) h.split ∙ append_assoc h.front h.own (c ∷ []);
        at = h.at;
        made = subst (λ (x : List Token). lexing (p ++ (c ∷ [])) (InGap Between) ≡ Some (x, l)) (append-nil h.tokens) (lexing_on p (InGap Between) q.lexer h.tokens c l None h.made e);
        parsed = h.parsed;
        begun = goes_on q.lexer c h.tokens h.front h.own f h.begun l e;
      }

      on : (l : Lexer) (t : Option Token) → lex q.lexer c ≡ Some (l, t) → To (p ++ (c ∷ [])) k (length p) (read_on q l t)
      on l None e = while (p ++ (c ∷ [])) k (length p) (live q.parser l) _ (λ x. inside (p ++ (c ∷ [])) k (length p) (name_fits l) (number_fits (most_of q.parser) l) (gone q.parser l (is_between q.lexer)) (silent_to l (is_between q.lexer) e refl))
      on l (Some t) e = ended_to l t (step bounded q.parser t) (taken q.parser t) e refl

      no_where : (o : Option (Option Token)) → To (p ++ (c ∷ [])) k (length p) (stuck q.parser o)
      no_where None = tt
      no_where (Some None) = tt
      no_where (Some (Some t)) = by (take_token q.parser t)
        where
          by : (x : Taking) → To (p ++ (c ∷ [])) k (length p) (stuck_at x)
          by (Leads s) = tt
          by Refused = tt
          by OneTooMany = tt

      go : (o : Option (Lexer × Option Token)) → lex q.lexer c ≡ o → To (p ++ (c ∷ [])) k (length p) (lexed q o)
      go None e = no_where (last q.lexer)
      go (Some r) e = on r.0 r.1 e
