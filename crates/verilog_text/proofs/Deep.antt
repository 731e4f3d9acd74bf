-- What the reader's L3 says: the token that ends is an opening too many.
use Rattle.verilog_tree.specs.declared.tokens.Mark.{Mark}
use Rattle.verilog_tree.specs.Grammar.{Style, unlimited}
use Rattle.std.proofs.Common.{◌≡◌, ℕ, ◌+◌, ◌<◌, Bool, true, false, List, [], ◌∷◌, ◌++◌, length, take, drop, Option, Some, None, refl, sym, ap, subst, ◌∙◌, arith, if◌then◌else◌, codes, append_assoc, append-nil}
use Rattle.std.proofs.lemmas.List.{length-append}
use Rattle.bist_text.specs.Grammar.{word}
use Rattle.bist_text.specs.Lexed.{Both}
use Rattle.bist_text.specs.Machine.{Holds}
use Rattle.verilog_tree.specs.declared.tokens.Mark.TheVariants.{Open, OpenBrace}
use Rattle.verilog_tree.specs.declared.tokens.Within.TheVariants.{Between, Slash, Line, Block, Star}
use Rattle.verilog_tree.specs.Spells.{Derives, bounded}
use Rattle.verilog_tree.specs.Plain.{ModuleTree}
use Rattle.verilog_tree.specs.Tokens.{Token, Identifier, mark_text, Lexed, stops, whether, Growth, Longer, Spoiled, Complete, growth, Unused, Sign}
use Rattle.bist_text.specs.Identifiers.{in_identifier}
use Rattle.verilog_tree.specs.declared.fault.ReadFault.TheVariants as R
use Rattle.verilog_text.specs.declared.fault.ByteFault.TheVariants.{TooDeep}
use Rattle.verilog_text.specs.Answering.{Taking, Leads, Refused, OneTooMany, taking, take_token, Stops, is_between, while_live, gone, within, ended, stuck_at, stuck, read_on, lexed, byte_move, Faulty, value_answer, last_answer, end_answer}
use Rattle.verilog_text.specs.Expected.{is_step, live, name_fits, number_fits, most_of, taken}
use Rattle.verilog_text.specs.inner.Following.{rest}
use Rattle.verilog_text.specs.Lexing.{Lexer, InGap, InWord, InNumber, Quoted, Lettered, InDigits, Marked, Whole, begin, with_token, lex, last, grow}
use Rattle.verilog_text.specs.Openings.{Opening, Parenthesis, Brace, BlockWord, IfWord, CaseWord, opening_text, opening_token, opening_goes_on, BeginsText, IsDeep, Operator, limit_of, grows}
use Rattle.verilog_text.specs.Places.{State, AtExpr, AtStmt, AtItem, Begin, IfRead, CaseRead}
use Rattle.verilog_text.specs.Steps.{step, value}
use Rattle.verilog_text.proofs.Alive.{HasRoom, alive}
use Rattle.verilog_text.proofs.GrammarPieces.{begins_file}
use Rattle.verilog_text.proofs.Limits.{no_limit}
use Rattle.verilog_text.proofs.Moving.{emits}
use Rattle.verilog_text.proofs.Parsing.{parse, parse_to, parse_from, parse_wider, parse_on, enough, too_many, few_enough}
use Rattle.verilog_text.proofs.Pending.{lexed_end, Begun, Pending, token_of}

-- ---- an opening that is read

pub opening_read : (l : Lexer) (o : Opening) (ts : List Token) (front own : List ℕ) → last l ≡ Some (Some (opening_token o)) → Begun l ts front own → Lexed ts front × (own ≡ opening_text o)
opening_read (InGap Between) o ts front own e h = cc
opening_read (InGap Slash) o ts front own e h = cc
opening_read (InGap Line) o ts front own e h = cc
opening_read (InGap Block) o ts front own e h = cc
opening_read (InGap Star) o ts front own e h = cc
opening_read (InWord w) Parenthesis ts front own e h = cc
opening_read (InWord w) Brace ts front own e h = cc
opening_read (InWord w) BlockWord ts front own e h = (h.0, h.1 ∙ (let k : w ≡ codes "begin" = cc in k))
opening_read (InWord w) IfWord ts front own e h = (h.0, h.1 ∙ (let k : w ≡ codes "if" = cc in k))
opening_read (InWord w) (Operator m) ts front own e h = cc
opening_read (InWord w) CaseWord ts front own e h = (h.0, h.1 ∙ (let k : w ≡ codes "case" = cc in k))
opening_read (InNumber b n) Parenthesis ts front own e h = cc
opening_read (InNumber b n) Brace ts front own e h = cc
opening_read (InNumber b n) BlockWord ts front own e h = cc
opening_read (InNumber b n) IfWord ts front own e h = cc
opening_read (InNumber b n) (Operator m) ts front own e h = cc
opening_read (InNumber b n) CaseWord ts front own e h = cc
opening_read (Quoted n) o ts front own e h = cc
opening_read (Lettered n base) o ts front own e h = cc
opening_read (InDigits n base v) Parenthesis ts front own e h = cc
opening_read (InDigits n base v) Brace ts front own e h = cc
opening_read (InDigits n base v) BlockWord ts front own e h = cc
opening_read (InDigits n base v) IfWord ts front own e h = cc
opening_read (InDigits n base v) (Operator m) ts front own e h = cc
opening_read (InDigits n base v) CaseWord ts front own e h = cc
opening_read (Marked m) Parenthesis ts front own e h = (h.0, let k : m ≡ Open = cc in h.1 ∙ ap mark_text k)
opening_read (Marked m) Brace ts front own e h = (h.0, let k : m ≡ OpenBrace = cc in h.1 ∙ ap mark_text k)
opening_read (Marked m) BlockWord ts front own e h = cc
opening_read (Marked m) IfWord ts front own e h = cc
opening_read (Marked m) (Operator n) ts front own e h = (h.0, let k : m ≡ n = cc in h.1 ∙ ap mark_text k)
opening_read (Marked m) CaseWord ts front own e h = cc
opening_read (Whole t) o ts front own e h = absurd (h o (let k : t ≡ opening_token o = cc in k))

-- a word ends where no letter follows
word_ends : (l : Lexer) (c : ℕ) (o : Opening) (w : List ℕ) (ts : List Token) (front own : List ℕ) → opening_token o ≡ Identifier w → last l ≡ Some (Some (Identifier w)) → Begun l ts front own → ((m : Lexer) → lex l c ≡ Some (m, None) → ⊥) → in_identifier c ≡ false
word_ends (InGap Between) c o w ts front own i e h f = cc
word_ends (InGap Slash) c o w ts front own i e h f = cc
word_ends (InGap Line) c o w ts front own i e h f = cc
word_ends (InGap Block) c o w ts front own i e h f = cc
word_ends (InGap Star) c o w ts front own i e h f = cc
word_ends (InWord v) c o w ts front own i e h f = by (in_identifier c) refl
  where
    by : (b : Bool) → in_identifier c ≡ b → in_identifier c ≡ false
    by true k = absurd (f (InWord (v ++ (c ∷ []))) (ap (λ b. if b then Some (InWord (v ++ (c ∷ [])), None) else with_token (Identifier v) (begin c)) k))
    by false k = k
word_ends (InNumber b n) c o w ts front own i e h f = cc
word_ends (Quoted n) c o w ts front own i e h f = cc
word_ends (Lettered n base) c o w ts front own i e h f = cc
word_ends (InDigits n base v) c o w ts front own i e h f = cc
word_ends (Marked m) c o w ts front own i e h f = cc
word_ends (Whole t) c o w ts front own i e h f = absurd (h o (let k : t ≡ Identifier w = cc in k ∙ sym i))

-- so does a mark where no byte makes it another token
mark_ends : (l : Lexer) (c : ℕ) (n : Mark) (ts : List Token) (front own : List ℕ) → last l ≡ Some (Some (Sign n)) → Begun l ts front own → ((m : Lexer) → lex l c ≡ Some (m, None) → ⊥) → grows (growth n c) ≡ false
mark_ends (InGap Between) c n ts front own e h f = cc
mark_ends (InGap Slash) c n ts front own e h f = cc
mark_ends (InGap Line) c n ts front own e h f = cc
mark_ends (InGap Block) c n ts front own e h f = cc
mark_ends (InGap Star) c n ts front own e h f = cc
mark_ends (InWord v) c n ts front own e h f = cc
mark_ends (InNumber b i) c n ts front own e h f = cc
mark_ends (Quoted i) c n ts front own e h f = cc
mark_ends (Lettered i base) c n ts front own e h f = cc
mark_ends (InDigits i base v) c n ts front own e h f = cc
mark_ends (Marked m) c n ts front own e h f = let k : m ≡ n = cc in subst (λ x. grows (growth x c) ≡ false) k (by (growth m c) refl)
  where
    by : (g : Growth) → growth m c ≡ g → grows g ≡ false
    by (Longer k) i = absurd (f (Marked k) (ap (grow m c) i))
    by Spoiled i = absurd (f (Whole Unused) (ap (grow m c) i))
    by Complete i = refl
mark_ends (Whole t) c n ts front own e h f = absurd (h (Operator n) (let k : t ≡ Sign n = cc in k))

-- it ends where no byte makes it longer
pub not_longer : (l : Lexer) (o : Opening) (ts : List Token) (front own : List ℕ) (c : ℕ) → last l ≡ Some (Some (opening_token o)) → Begun l ts front own → ((m : Lexer) → lex l c ≡ Some (m, None) → ⊥) → opening_goes_on o c ≡ false
not_longer l Parenthesis ts front own c e h f = refl
not_longer l Brace ts front own c e h f = refl
not_longer l BlockWord ts front own c e h f = word_ends l c BlockWord (codes "begin") ts front own refl e h f
not_longer l IfWord ts front own c e h f = word_ends l c IfWord (codes "if") ts front own refl e h f
not_longer l (Operator m) ts front own c e h f = mark_ends l c m ts front own e h f
not_longer l CaseWord ts front own c e h f = word_ends l c CaseWord (codes "case") ts front own refl e h f

-- ---- what stands there

-- the text of a mark, and what is behind it
mark_here : (m : Mark) (K : List ℕ → Type 0) (more : List ℕ) → K more → word (mark_text m) K (mark_text m ++ more)
mark_here Open K more h = h
mark_here m K more h = h

pub mark_long : (m : Mark) → 0 < length (mark_text m)
mark_long Open = omega arith
mark_long m = omega arith

take_of : (a b : List ℕ) → take (length a) (a ++ b) ≡ a
take_of [] b = refl
take_of (c ∷ a) b = ap (λ x. c ∷ x) (take_of a b)

drop_of : (a b : List ℕ) → drop (length a) (a ++ b) ≡ b
drop_of [] b = refl
drop_of (c ∷ a) b = drop_of a b

here : (o : Opening) (more : List ℕ) → stops (opening_goes_on o) (λ r. Unit {0}) more → word (opening_text o) (stops (opening_goes_on o) (λ r. Unit {0})) (opening_text o ++ more)
here Parenthesis more h = h
here Brace more h = h
here BlockWord more h = h
here IfWord more h = h
here CaseWord more h = h
here (Operator m) more h = mark_here m (stops (opening_goes_on (Operator m)) (λ r. Unit {0})) more h

-- without limits there is always room
pub room_free : (s : State) → HasRoom unlimited s
room_free (AtExpr p) = tt
room_free (AtStmt (IfRead r q x)) = (q + 1, refl)
room_free (AtStmt (CaseRead r q x)) = (q + 1, refl)
room_free (AtStmt p) = tt
room_free (AtItem p) = (0 + 1, refl)

step_there : (o : Option State) → is_step o ≡ true → (z : State) × (o ≡ Some z)
step_there None e = cc
step_there (Some z) e = (z, refl)

module _ (style : Style) where
  -- tokens that the parser takes begin a text
  begins_text : (ts : List Token) (z : State) → parse unlimited ts (AtItem (Begin style)) ≡ Some z → BeginsText style unlimited ts
  begins_text ts z e =
      let a = alive unlimited z (room_free z) in
      (a.1, a.2, (begins_file unlimited style (ts ++ a.1) a.2).0 (parse_from unlimited ts a.1 (AtItem (Begin style)) a.2 (subst (λ (o : Option State). Holds o (λ y. rest unlimited y a.1 a.2)) (sym e) a.6)))

  long : (o : Opening) → 0 < length (opening_text o)
  long Parenthesis = omega arith
  long Brace = omega arith
  long BlockWord = omega arith
  long IfWord = omega arith
  long CaseWord = omega arith
  long (Operator m) = mark_long m

  -- the token that has just been read is an opening too many
  pub deep_token : (p more : List ℕ) (q : Both State Lexer) (k : ℕ) (t : Token) → (Pending style) p q k → last q.lexer ≡ Some (Some t) → take_token q.parser t ≡ OneTooMany → ((o : Opening) → t ≡ opening_token o → stops (opening_goes_on o) (λ r. Unit {0}) more) → IsDeep style (p ++ more) k × (k < length p)
  deep_token p more q k t h e f g =
      let n = no_room (step bounded q.parser t) (taken q.parser t) refl refl f in
      let w = too_many q.parser t n.0 n.1 in
      found w.0 w.1 w.2 n.0
    where
      no_room : (o : Option State) (b : Bool) → step bounded q.parser t ≡ o → taken q.parser t ≡ b → taking o b ≡ OneTooMany → (taken q.parser t ≡ true) × (step bounded q.parser t ≡ None)
      no_room (Some z) b e f h = cc
      no_room None true e f h = (f, e)
      no_room None false e f h = cc

      found : (o : Opening) → t ≡ opening_token o → ((ts : List Token) (v : ModuleTree) → rest (limit_of o) q.parser (t ∷ ts) v → ⊥) → taken q.parser t ≡ true → IsDeep style (p ++ more) k × (k < length p)
      found o i d n =
          let r = opening_read q.lexer o h.tokens h.front h.own (e ∙ ap (λ x. Some (Some x)) i) h.begun in
          let whole : p ++ more ≡ h.front ++ (opening_text o ++ more) = ap (λ (x : List ℕ). x ++ more) h.split ∙ append_assoc h.front h.own more ∙ ap (λ (x : List ℕ). h.front ++ (x ++ more)) r.1 in
          let before : take k (p ++ more) ≡ h.front = ap (λ x. take k x) whole ∙ ap (λ (n : ℕ). take n (h.front ++ (opening_text o ++ more))) h.at ∙ take_of h.front (opening_text o ++ more) in
          let behind : drop k (p ++ more) ≡ opening_text o ++ more = ap (λ x. drop k x) whole ∙ ap (λ (n : ℕ). drop n (h.front ++ (opening_text o ++ more))) h.at ∙ drop_of h.front (opening_text o ++ more) in
          let same : h.tokens ++ (t ∷ []) ≡ h.tokens ++ (opening_token o ∷ []) = ap (λ x. h.tokens ++ (x ∷ [])) i in
          let sizes : length h.front + length (opening_text o) ≡ length p = sym (ap length h.split ∙ length-append h.front h.own ∙ ap (λ (x : List ℕ). length h.front + length x) r.1) in
          let free = step_there (step unlimited q.parser t) n in (
            record {
              tokens = h.tokens;
              opening = o;
              front = subst (λ (x : List ℕ). Lexed h.tokens x) (sym before) r.0;
              stands = subst (λ (x : List ℕ). word (opening_text o) (stops (opening_goes_on o) (λ r. Unit {0})) x) (sym behind) (here o more (g o i));
              whole = subst (λ (x : List ℕ). Lexed (h.tokens ++ (opening_token o ∷ [])) (x ++ opening_text o)) (sym before) (subst (λ (x : List ℕ). Lexed (h.tokens ++ (opening_token o ∷ [])) x) (h.split ∙ ap (λ (x : List ℕ). h.front ++ x) r.1) (subst (λ (x : List Token). Lexed x p) same (lexed_end p q.lexer h.tokens (Some t) h.made e)));
              begins = subst (λ (x : List Token). BeginsText style unlimited x) same (begins_text (h.tokens ++ (t ∷ [])) free.0 (parse_on unlimited h.tokens t (AtItem (Begin style)) q.parser free.0 (parse_wider bounded unlimited (no_limit bounded) (λ n k. refl) h.tokens (AtItem (Begin style)) q.parser h.parsed) free.1));
              deep = λ b. refuted b.0 b.1 b.2;
            },
            let m = long o in let j : k ≡ length h.front = h.at in omega (arith, sizes, m, j),
          )
        where
          refuted : (ts : List Token) (mo : ModuleTree) → Derives style (limit_of o) ((h.tokens ++ (opening_token o ∷ [])) ++ ts) mo → ⊥
          refuted ts mo x =
              let a : rest (limit_of o) (AtItem (Begin style)) (h.tokens ++ (t ∷ ts)) mo = subst (λ (y : List Token). rest (limit_of o) (AtItem (Begin style)) y mo) (append_assoc h.tokens (opening_token o ∷ []) ts ∙ ap (λ y. h.tokens ++ (y ∷ ts)) (sym i)) ((begins_file (limit_of o) style ((h.tokens ++ (opening_token o ∷ [])) ++ ts) mo).1 x) in
              d ts mo (subst (λ (y : Option State). Holds y (λ z. rest (limit_of o) z (t ∷ ts) mo)) (parse_wider bounded (limit_of o) (enough o) (few_enough o) h.tokens (AtItem (Begin style)) q.parser h.parsed) (parse_to (limit_of o) h.tokens (t ∷ ts) (AtItem (Begin style)) mo a))

  -- ---- at a byte, and at the end

  -- the token that ends there
  abbrev pub IsEnding : Both State Lexer → Type 0
  IsEnding q = (t : Token) × (last q.lexer ≡ Some (Some t)) × (take_token q.parser t ≡ OneTooMany)

  stuck_deep : (q : Both State Lexer) (o : Option (Option Token)) → last q.lexer ≡ o → stuck q.parser o ≡ Stops TooDeep → IsEnding q
  stuck_deep q None e h = cc
  stuck_deep q (Some None) e h = cc
  stuck_deep q (Some (Some t)) e h = (t, e, only (take_token q.parser t) h)
    where
      only : (x : Taking) → stuck_at x ≡ Stops TooDeep → x ≡ OneTooMany
      only (Leads z) h = cc
      only Refused h = cc
      only OneTooMany h = refl

  pub deep_byte : (q : Both State Lexer) (c : ℕ) → byte_move q c ≡ Stops TooDeep → IsEnding q × ((m : Lexer) → lex q.lexer c ≡ Some (m, None) → ⊥)
  deep_byte q c h = go (lex q.lexer c) refl h
    where
      tokens : (o : Option (Lexer × Option Token)) (t : Token) (l m : Lexer) → o ≡ Some (l, Some t) → o ≡ Some (m, None) → ⊥
      tokens o t l m e f = let k : Some t ≡ None = sym (ap token_of e) ∙ ap token_of f in cc

      nothing : (o : Option (Lexer × Option Token)) (m : Lexer) → o ≡ None → o ≡ Some (m, None) → ⊥
      nothing o m e f = cc

      silent : (a b d : Bool) (l : Lexer) (fresh : Bool) → while_live a (within b d (gone q.parser l fresh)) ≡ Stops TooDeep → ⊥
      silent true true true l fresh e = cc
      silent true true false l fresh e = cc
      silent true false d l fresh e = cc
      silent false b d l fresh e = cc

      only : (x : Taking) (l : Lexer) → ended x l ≡ Stops TooDeep → x ≡ OneTooMany
      only (Leads z) l e = absurd (by (live z l) e)
        where
          by : (b : Bool) → while_live b (gone z l true) ≡ Stops TooDeep → ⊥
          by true e = cc
          by false e = cc
      only Refused l e = cc
      only OneTooMany l e = refl

      on : (l : Lexer) (t : Option Token) → lex q.lexer c ≡ Some (l, t) → read_on q l t ≡ Stops TooDeep → IsEnding q × ((m : Lexer) → lex q.lexer c ≡ Some (m, None) → ⊥)
      on l None e h = absurd (silent (live q.parser l) (name_fits l) (number_fits (most_of q.parser) l) l (is_between q.lexer) h)
      on l (Some t) e h = ((t, (emits q.lexer c l t e).1, only (take_token q.parser t) l h), λ m k. tokens (lex q.lexer c) t l m e k)

      go : (o : Option (Lexer × Option Token)) → lex q.lexer c ≡ o → lexed q o ≡ Stops TooDeep → IsEnding q × ((m : Lexer) → lex q.lexer c ≡ Some (m, None) → ⊥)
      go None e h = (stuck_deep q (last q.lexer) refl h, λ m k. nothing (lex q.lexer c) m e k)
      go (Some r) e h = on r.0 r.1 e h

  -- the byte that ends it
  pub deep_at : (p : List ℕ) (c : ℕ) (more : List ℕ) (q : Both State Lexer) (k : ℕ) → (Pending style) p q k → byte_move q c ≡ Stops TooDeep → IsDeep style (p ++ (c ∷ more)) k × (k < length p)
  deep_at p c more q k h e =
      let d = deep_byte q c e in
      deep_token p (c ∷ more) q k d.0.0 h d.0.1 d.0.2 (λ o i. subst (λ (b : Bool). whether b ⊥ (Unit {0})) (sym (not_longer q.lexer o h.tokens h.front h.own c (d.0.1 ∙ ap (λ x. Some (Some x)) i) h.begun d.1)) tt)

  -- the end
  pub deep_end : (p : List ℕ) (q : Both State Lexer) (k n : ℕ) → (Pending style) p q k → end_answer q.parser (last q.lexer) k ≡ Faulty (R.TooDeep n) → (n ≡ k) × IsDeep style p k × (k < length p)
  deep_end p q k n h e = go (last q.lexer) refl e
    where
      valued : (o : Option ModuleTree) → value_answer o ≡ Faulty (R.TooDeep n) → ⊥
      valued None e = cc
      valued (Some v) e = cc

      go : (o : Option (Option Token)) → last q.lexer ≡ o → end_answer q.parser o k ≡ Faulty (R.TooDeep n) → (n ≡ k) × IsDeep style p k × (k < length p)
      go None f e = cc
      go (Some None) f e = absurd (valued (value q.parser) e)
      go (Some (Some t)) f e = by (take_token q.parser t) refl e
        where
          by : (x : Taking) → take_token q.parser t ≡ x → last_answer x k ≡ Faulty (R.TooDeep n) → (n ≡ k) × IsDeep style p k × (k < length p)
          by (Leads z) g e = absurd (valued (value z) e)
          by Refused g e = cc
          by OneTooMany g e = let d = deep_token p [] q k t h f g (λ o i. tt) in (let j : k ≡ n = cc in sym j, subst (λ (x : List ℕ). IsDeep style x k) (append-nil p) d.0, d.1)
