-- The lexer's laws.
use Rattle.std.proofs.Common.{◌≡◌, ℕ, ◌+◌, ◌*◌, ◌==◌, Bool, true, false, List, [], ◌∷◌, ◌++◌, Option, Some, None, refl, ◌↔◌, ◌⊎◌, subst, sym, ap, if◌then◌else◌}
use Rattle.bist_text.proofs.Pieces.{at_byte, also, skip, stay, neither, same, never}
use Rattle.bist_text.specs.inner.Lexed.{emitted, Lexes}
use Rattle.bist_text.specs.Machine.{Holds}
use Rattle.verilog_tree.specs.Tokens.{gap, Token, Identifier, Number, Based, Unused, Sign, Start, AWord, ANumber, AMark, NoToken, start_of, is_query, Growth, Longer, Spoiled, Complete, growth, grown, behind_mark, begun, first, Lexed}
use Rattle.bist_text.specs.Identifiers.{is_digit, in_identifier}
use Rattle.verilog_tree.specs.Words.{digit_value, radix, is_digit_of, base_of}
use Rattle.verilog_tree.specs.declared.tokens.Base.{Base}
use Rattle.verilog_tree.specs.declared.tokens.Mark.{Mark}
use Rattle.verilog_tree.specs.declared.tokens.Within.TheVariants.{Between, Slash, Line, Block, Star}
use Rattle.verilog_tree.specs.declared.tokens.Within.{Within}
use Rattle.verilog_text.specs.Lexing.{Lexer, InGap, InWord, InNumber, Quoted, Lettered, InDigits, Marked, Whole, literal, begin_token, begin, with_token, silent, lettered, grow, lex, last}
use Rattle.verilog_text.specs.inner.Lexing.{unread}

pub by_test : (P : Bool → Type 0) (t : Bool) → (t ≡ true → P true) → (t ≡ false → P false) → P t
by_test P true f g = f refl
by_test P false f g = g refl

-- what a step of the lexer leaves
abbrev pub After : List Token → List ℕ → Lexer × Option Token → Type 0
After ts b r = (us : List Token) × (ts ≡ emitted r.1 us) × unread r.0 b us

quiet : (ts : List Token) (b : List ℕ) (l : Lexer) → unread l b ts ↔ After ts b (l, None)
quiet ts b l = (λ h. (ts, refl, h), λ h. subst (λ x. unread l b x) (sym h.1) h.2)

silent_holds : (ts : List Token) (b : List ℕ) (o : Option Lexer) → Holds o (λ l. unread l b ts) ↔ Holds (silent o) (After ts b)
silent_holds ts b None = same
silent_holds ts b (Some l) = quiet ts b l

-- where no white space begins
first_begins : (ts : List Token) (c : ℕ) (b : List ℕ) → first ts (c ∷ b) ↔ Holds (begin_token (start_of c) c) (λ l. unread l b ts)
first_begins [] c b = none (start_of c)
  where
    none : (s : Start) → ⊥ ↔ Holds (begin_token s c) (λ l. unread l b [])
    none AWord = same
    none ANumber = same
    none (AMark m) = same
    none NoToken = same
first_begins (t ∷ us) c b = some (start_of c) t
  where
    some : (s : Start) (t : Token) → begun s c t (Lexed us) b ↔ Holds (begin_token s c) (λ l. unread l b (t ∷ us))
    some AWord (Identifier w) = same
    some AWord (Number l n) = same
    some AWord (Based x) = same
    some AWord Unused = same
    some AWord (Sign m) = same
    some ANumber t = same
    some (AMark m) t = same
    some NoToken t = same

-- what begins with a byte, where white space may stand
begins : (ts : List Token) (c : ℕ) (b : List ℕ) → gap Between (first ts) (c ∷ b) ↔ Holds (begin c) (λ l. unread l b ts)
begins ts c b = at_byte P c 32 (blank 32 (first_begins ts 32 b).0) (λ n1. at_byte P c 9 (blank 9 (first_begins ts 9 b).0) (λ n2. at_byte P c 10 (blank 10 (first_begins ts 10 b).0) (λ n3. at_byte P c 12 (blank 12 (first_begins ts 12 b).0) (λ n4. at_byte P c 13 (blank 13 (first_begins ts 13 b).0) (λ n5. at_byte P c 47 (also (skip (first_begins ts 47 b).0) (skip (λ z. z))) (λ n6. simp (n1, n2, n3, n4, n5, n6) (also (stay (neither (λ z. z) (λ z. z))) (first_begins ts c b))))))))
  where
    P : ℕ → Type 0
    P x = gap Between (first ts) (x ∷ b) ↔ Holds (begin x) (λ l. unread l b ts)

    blank : (x : ℕ) → (first ts (x ∷ b) → ⊥) → (first ts (x ∷ b) ⊎ (gap Between (first ts) b ⊎ ⊥)) ↔ gap Between (first ts) b
    blank x f = also (skip f) (stay (λ z. z))

-- a token ends where another may begin
token_ends : (t : Token) (ts : List Token) (c : ℕ) (b : List ℕ) → ((us : List Token) × (ts ≡ t ∷ us) × Lexed us (c ∷ b)) ↔ Holds (with_token t (begin c)) (After ts b)
token_ends t ts c b = also (λ h. (h.0, h.1, (begins h.0 c b).0 h.2), λ h. (h.0, h.1, (begins h.0 c b).1 h.2)) (go (begin c))
  where
    go : (o : Option Lexer) → ((us : List Token) × (ts ≡ t ∷ us) × Holds o (λ l. unread l b us)) ↔ Holds (with_token t o) (After ts b)
    go None = never (λ h. h.2) (λ h. h)
    go (Some l) = same

-- the tokens, of which the first is t
abbrev Ends : Token → List Token → (List Token → Type 0) → Type 0
Ends t ts P = (us : List Token) × (ts ≡ t ∷ us) × P us

no_tokens : (t : Token) (P : List Token → Type 0) → Ends t [] P → ⊥
no_tokens t P h = let e : [] ≡ t ∷ h.0 = h.1 in cc

one_ends : (t x : Token) (us : List Token) (P : List Token → Type 0) → ((t ≡ x) × P us) ↔ Ends t (x ∷ us) P
one_ends t x us P = (λ h. (us, ap (λ (y : Token). y ∷ us) (sym h.0), h.1), λ h. let e : x ∷ us ≡ t ∷ h.0 = h.1 in let i : us ≡ h.0 = cc in (let j : t ≡ x = cc in j, subst P (sym i) h.2))

other_ends : (t x : Token) (us : List Token) (P : List Token → Type 0) → (t ≡ x → ⊥) → Ends t (x ∷ us) P → ⊥
other_ends t x us P f h = f (let e : x ∷ us ≡ t ∷ h.0 = h.1 in let j : t ≡ x = cc in j)

-- of a byte that a test tells, where the state goes on in each case
abbrev Goes : Lexer → Option (Lexer × Option Token) → ℕ → List ℕ → List Token → Type 0
Goes l o c b ts = unread l (c ∷ b) ts ↔ Holds o (After ts b)

word_goes : (w : List ℕ) (ts : List Token) (c : ℕ) (b : List ℕ) → Goes (InWord w) (lex (InWord w) c) c b ts
word_goes w ts c b = by_test (λ t. Goes (InWord w) (if t then Some (InWord (w ++ (c ∷ [])), None) else with_token (Identifier w) (begin c)) c b ts) (in_identifier c) (λ l. also (more l ts) (quiet ts b (InWord (w ++ (c ∷ []))))) (λ l. also (done l ts) (token_ends (Identifier w) ts c b))
  where
    more : in_identifier c ≡ true → (ts : List Token) → unread (InWord w) (c ∷ b) ts ↔ unread (InWord (w ++ (c ∷ []))) b ts
    more l [] = same
    more l (Identifier v ∷ us) = rw l same
    more l (_ ∷ us) = same

    done : in_identifier c ≡ false → (ts : List Token) → unread (InWord w) (c ∷ b) ts ↔ Ends (Identifier w) ts (λ us. Lexed us (c ∷ b))
    done l [] = never (λ z. z) (no_tokens (Identifier w) (λ us. Lexed us (c ∷ b)))
    done l (Identifier v ∷ us) = also (rw l (λ h. (ap Identifier h.0, h.1), λ h. (let e : Identifier w ≡ Identifier v = h.0 in let k : w ≡ v = cc in k, h.1))) (one_ends (Identifier w) (Identifier v) us (λ us. Lexed us (c ∷ b)))
    done l (x ∷ us) = never (λ z. z) (other_ends (Identifier w) x us (λ us. Lexed us (c ∷ b)) (λ e. cc))

number_goes : (long : Bool) (n : ℕ) (ts : List Token) (c : ℕ) (b : List ℕ) → Goes (InNumber long n) (lex (InNumber long n) c) c b ts
number_goes long n ts c b = at_byte (λ x. Goes (InNumber long n) (lex (InNumber long n) x) x b ts) c 39 (also (quote ts) (quiet ts b (Quoted n))) (λ q. by_test (λ t. Goes (InNumber long n) (if t then Some (InNumber true (n * 10 + digit_value c), None) else if c == 39 then Some (Quoted n, None) else with_token (Number long n) (begin c)) c b ts) (is_digit c) (λ l. also (more l ts) (quiet ts b (InNumber true (n * 10 + digit_value c)))) (λ l. rw q (also (done q l ts) (token_ends (Number long n) ts c b))))
  where
    quote : (ts : List Token) → unread (InNumber long n) (39 ∷ b) ts ↔ unread (Quoted n) b ts
    quote [] = same
    quote (Number l m ∷ us) = never (λ h. h.2) (λ z. z)
    quote (Based x ∷ us) = same
    quote (Unused ∷ us) = same
    quote (Identifier w ∷ us) = same
    quote (Sign m ∷ us) = same

    more : is_digit c ≡ true → (ts : List Token) → unread (InNumber long n) (c ∷ b) ts ↔ unread (InNumber true (n * 10 + digit_value c)) b ts
    more l [] = same
    more l (t ∷ us) = rw l same

    done : (c == 39) ≡ false → is_digit c ≡ false → (ts : List Token) → unread (InNumber long n) (c ∷ b) ts ↔ Ends (Number long n) ts (λ us. Lexed us (c ∷ b))
    done q l [] = never (λ z. z) (no_tokens (Number long n) (λ us. Lexed us (c ∷ b)))
    done q l (Number k m ∷ us) = also (rw l (rw q (λ h. (let e : long ≡ k = h.0 in let f : n ≡ m = h.1 in cc, h.2), λ h. (let e : Number long n ≡ Number k m = h.0 in let j : long ≡ k = cc in j, let e : Number long n ≡ Number k m = h.0 in let j : n ≡ m = cc in j, h.1)))) (one_ends (Number long n) (Number k m) us (λ us. Lexed us (c ∷ b)))
    done q l (Based x ∷ us) = never (λ h. rw (l, q) at h) (other_ends (Number long n) (Based x) us (λ us. Lexed us (c ∷ b)) (λ e. cc))
    done q l (Unused ∷ us) = never (λ h. rw (l, q) at h) (other_ends (Number long n) Unused us (λ us. Lexed us (c ∷ b)) (λ e. cc))
    done q l (x ∷ us) = never (λ h. rw l at h) (other_ends (Number long n) x us (λ us. Lexed us (c ∷ b)) (λ e. cc))

quoted_goes : (n : ℕ) (ts : List Token) (c : ℕ) (b : List ℕ) → Goes (Quoted n) (lex (Quoted n) c) c b ts
quoted_goes n ts c b = also (to ts) (go (base_of c))
  where
    Base_at : Option Base → List Token → Type 0
    Base_at o ts = Holds o (λ base. unread (Lettered n base) b ts)

    to : (ts : List Token) → unread (Quoted n) (c ∷ b) ts ↔ Base_at (base_of c) ts
    to [] = nothing (base_of c)
      where
        nothing : (o : Option Base) → ⊥ ↔ Base_at o []
        nothing None = same
        nothing (Some base) = same
    to (Based x ∷ us) = same
    to (Unused ∷ us) = same
    to (t ∷ us) = nothing (base_of c)
      where
        nothing : (o : Option Base) → ⊥ ↔ Base_at o (t ∷ us)
        nothing None = same
        nothing (Some base) = same

    go : (o : Option Base) → Base_at o ts ↔ Holds (lettered n o) (After ts b)
    go None = same
    go (Some base) = quiet ts b (Lettered n base)

lettered_goes : (n : ℕ) (base : Base) (ts : List Token) (c : ℕ) (b : List ℕ) → Goes (Lettered n base) (lex (Lettered n base) c) c b ts
lettered_goes n base ts c b = by_test (λ t. Goes (Lettered n base) (if t then Some (InDigits n base (digit_value c), None) else None) c b ts) (is_digit_of base c) (λ l. also (more l ts) (quiet ts b (InDigits n base (digit_value c)))) (λ l. never (nothing l ts) (λ z. z))
  where
    more : is_digit_of base c ≡ true → (ts : List Token) → unread (Lettered n base) (c ∷ b) ts ↔ unread (InDigits n base (digit_value c)) b ts
    more l [] = same
    more l (t ∷ us) = rw l same

    nothing : is_digit_of base c ≡ false → (ts : List Token) → unread (Lettered n base) (c ∷ b) ts → ⊥
    nothing l [] h = h
    nothing l (Based x ∷ us) h = rw l at h
    nothing l (Unused ∷ us) h = rw l at h
    nothing l (t ∷ us) h = h

digits_goes : (n : ℕ) (base : Base) (v : ℕ) (ts : List Token) (c : ℕ) (b : List ℕ) → Goes (InDigits n base v) (lex (InDigits n base v) c) c b ts
digits_goes n base v ts c b = by_test (λ t. Goes (InDigits n base v) (if t then Some (InDigits n base (v * radix base + digit_value c), None) else if c == 95 then Some (InDigits n base v, None) else if is_query base c then Some (Whole Unused, None) else with_token (literal n v) (begin c)) c b ts) (is_digit_of base c) (λ l. also (more l ts) (quiet ts b (InDigits n base (v * radix base + digit_value c)))) (λ l. by_test (λ t. Goes (InDigits n base v) (if t then Some (InDigits n base v, None) else if is_query base c then Some (Whole Unused, None) else with_token (literal n v) (begin c)) c b ts) (c == 95) (λ u. also (low l u ts) (quiet ts b (InDigits n base v))) (λ u. by_test (λ t. Goes (InDigits n base v) (if t then Some (Whole Unused, None) else with_token (literal n v) (begin c)) c b ts) (is_query base c) (λ q. also (asked l u q ts) (quiet ts b (Whole Unused))) (λ q. also (done l u q ts) (token_ends (literal n v) ts c b))))
  where
    more : is_digit_of base c ≡ true → (ts : List Token) → unread (InDigits n base v) (c ∷ b) ts ↔ unread (InDigits n base (v * radix base + digit_value c)) b ts
    more l [] = same
    more l (t ∷ us) = rw l same

    low : is_digit_of base c ≡ false → (c == 95) ≡ true → (ts : List Token) → unread (InDigits n base v) (c ∷ b) ts ↔ unread (InDigits n base v) b ts
    low l u [] = same
    low l u (t ∷ us) = rw l (rw u same)

    asked : is_digit_of base c ≡ false → (c == 95) ≡ false → is_query base c ≡ true → (ts : List Token) → unread (InDigits n base v) (c ∷ b) ts ↔ unread (Whole Unused) b ts
    asked l u q [] = same
    asked l u q (Based x ∷ us) = rw l (rw u (rw q (never (λ h. h.1) (λ h. let e : Unused ≡ Based x = h.0 in cc))))
    asked l u q (Unused ∷ us) = rw l (rw u (rw q (λ h. (refl, h), λ h. h.1)))
    asked l u q (t ∷ us) = never (λ h. h) (λ h. let e : Unused ≡ t = h.0 in cc)

    done : is_digit_of base c ≡ false → (c == 95) ≡ false → is_query base c ≡ false → (ts : List Token) → unread (InDigits n base v) (c ∷ b) ts ↔ Ends (literal n v) ts (λ us. Lexed us (c ∷ b))
    done l u q [] = never (λ z. z) (no_tokens (literal n v) (λ us. Lexed us (c ∷ b)))
    done l u q (Based x ∷ us) = also (rw l (rw u (rw q (λ h. (ap Based h.0, h.1), λ h. (let e : literal n v ≡ Based x = h.0 in cc, h.1))))) (one_ends (literal n v) (Based x) us (λ us. Lexed us (c ∷ b)))
    done l u q (Unused ∷ us) = never (λ h. rw (l, u, q) at h) (other_ends (literal n v) Unused us (λ us. Lexed us (c ∷ b)) (λ e. cc))
    done l u q (t ∷ us) = never (λ h. h) (other_ends (literal n v) t us (λ us. Lexed us (c ∷ b)) (λ e. cc))

marked_goes : (m : Mark) (ts : List Token) (c : ℕ) (b : List ℕ) → Goes (Marked m) (lex (Marked m) c) c b ts
marked_goes m ts c b = also (two ts) (which (growth m c))
  where
    Two : Growth → List Token → Type 0
    Two g [] = ⊥
    Two g (t ∷ us) = grown g (λ k. behind_mark k t (Lexed us) b) m t (Lexed us) c b

    two : (ts : List Token) → unread (Marked m) (c ∷ b) ts ↔ Two (growth m c) ts
    two [] = same
    two (t ∷ us) = same

    longer : (k : Mark) (ts : List Token) → Two (Longer k) ts ↔ unread (Marked k) b ts
    longer k [] = same
    longer k (t ∷ us) = same

    spoiled : (ts : List Token) → Two Spoiled ts ↔ unread (Whole Unused) b ts
    spoiled [] = same
    spoiled (t ∷ us) = same

    alone : (ts : List Token) → Two Complete ts ↔ Ends (Sign m) ts (λ us. Lexed us (c ∷ b))
    alone [] = never (λ z. z) (no_tokens (Sign m) (λ us. Lexed us (c ∷ b)))
    alone (t ∷ us) = one_ends (Sign m) t us (λ us. Lexed us (c ∷ b))

    which : (g : Growth) → Two g ts ↔ Holds (grow m c g) (After ts b)
    which (Longer k) = also (longer k ts) (quiet ts b (Marked k))
    which Spoiled = also (spoiled ts) (quiet ts b (Whole Unused))
    which Complete = also (alone ts) (token_ends (Sign m) ts c b)

whole_goes : (t : Token) (ts : List Token) (c : ℕ) (b : List ℕ) → Goes (Whole t) (lex (Whole t) c) c b ts
whole_goes t ts c b = also (go ts) (token_ends t ts c b)
  where
    go : (ts : List Token) → unread (Whole t) (c ∷ b) ts ↔ Ends t ts (λ us. Lexed us (c ∷ b))
    go [] = never (λ z. z) (no_tokens t (λ us. Lexed us (c ∷ b)))
    go (x ∷ us) = one_ends t x us (λ us. Lexed us (c ∷ b))

gap_goes : (m : Within) (ts : List Token) (c : ℕ) (b : List ℕ) → Goes (InGap m) (lex (InGap m) c) c b ts
gap_goes Between ts c b = also (begins ts c b) (silent_holds ts b (begin c))
gap_goes Slash ts c b = at_byte (λ x. Goes (InGap Slash) (lex (InGap Slash) x) x b ts) c 47 (also (stay (λ z. z)) (quiet ts b (InGap Line))) (λ n. at_byte (λ x. Goes (InGap Slash) (lex (InGap Slash) x) x b ts) c 42 (also (skip (λ z. z)) (quiet ts b (InGap Block))) (λ k. simp (n, k) (never (neither (λ z. z) (λ z. z)) (λ z. z))))
gap_goes Line ts c b = at_byte (λ x. Goes (InGap Line) (lex (InGap Line) x) x b ts) c 10 (also (stay (λ z. z)) (quiet ts b (InGap Between))) (λ n. simp n (also (skip (λ z. z)) (quiet ts b (InGap Line))))
gap_goes Block ts c b = at_byte (λ x. Goes (InGap Block) (lex (InGap Block) x) x b ts) c 42 (also (stay (λ z. z)) (quiet ts b (InGap Star))) (λ n. simp n (also (skip (λ z. z)) (quiet ts b (InGap Block))))
gap_goes Star ts c b = at_byte (λ x. Goes (InGap Star) (lex (InGap Star) x) x b ts) c 47 (also (stay (neither (λ z. z) (λ z. z))) (quiet ts b (InGap Between))) (λ n. at_byte (λ x. Goes (InGap Star) (lex (InGap Star) x) x b ts) c 42 (also (skip (λ z. z)) (also (stay (λ z. z)) (quiet ts b (InGap Star)))) (λ k. simp (n, k) (also (skip (λ z. z)) (also (skip (λ z. z)) (quiet ts b (InGap Block))))))

pub lex_goes : (l : Lexer) (c : ℕ) (b : List ℕ) (ts : List Token) → Goes l (lex l c) c b ts
lex_goes (InGap m) c b ts = gap_goes m ts c b
lex_goes (InWord w) c b ts = word_goes w ts c b
lex_goes (InNumber long n) c b ts = number_goes long n ts c b
lex_goes (Quoted n) c b ts = quoted_goes n ts c b
lex_goes (Lettered n base) c b ts = lettered_goes n base ts c b
lex_goes (InDigits n base v) c b ts = digits_goes n base v ts c b
lex_goes (Marked m) c b ts = marked_goes m ts c b
lex_goes (Whole t) c b ts = whole_goes t ts c b

-- no token is left, where the text ends
first_ends : (ts : List Token) → first ts [] ↔ (ts ≡ [])
first_ends [] = (λ h. refl, λ h. tt)
first_ends (t ∷ us) = never (λ z. z) (λ e. cc)

-- the last token, where the text ends
last_ends : (t : Token) (x : Token) (us : List Token) → ((t ≡ x) × Lexed us []) ↔ (x ∷ us ≡ t ∷ [])
last_ends t x us = (λ h. let e : us ≡ [] = (first_ends us).0 h.1 in let k : t ≡ x = h.0 in cc, λ e. (let k : t ≡ x = cc in k, (first_ends us).1 (let k : us ≡ [] = cc in k)))

other_last : (t x : Token) (us : List Token) → (t ≡ x → ⊥) → x ∷ us ≡ t ∷ [] → ⊥
other_last t x us f e = f (let k : t ≡ x = cc in k)

pub lex_ends : (l : Lexer) (ts : List Token) → unread l [] ts ↔ Holds (last l) (λ o. ts ≡ emitted o [])
lex_ends (InGap Between) ts = first_ends ts
lex_ends (InGap Line) ts = first_ends ts
lex_ends (InGap Slash) ts = same
lex_ends (InGap Block) ts = same
lex_ends (InGap Star) ts = same
lex_ends (InWord w) [] = never (λ z. z) (λ e. cc)
lex_ends (InWord w) (Identifier v ∷ us) = also (λ h. (ap Identifier h.0, h.1), λ h. (let e : Identifier w ≡ Identifier v = h.0 in let k : w ≡ v = cc in k, h.1)) (last_ends (Identifier w) (Identifier v) us)
lex_ends (InWord w) (x ∷ us) = never (λ z. z) (other_last (Identifier w) x us (λ e. cc))
lex_ends (InNumber l n) [] = never (λ z. z) (λ e. cc)
lex_ends (InNumber l n) (Number k m ∷ us) = also (λ h. (let e : l ≡ k = h.0 in let f : n ≡ m = h.1 in cc, h.2), λ h. (let e : Number l n ≡ Number k m = h.0 in let j : l ≡ k = cc in j, let e : Number l n ≡ Number k m = h.0 in let j : n ≡ m = cc in j, h.1)) (last_ends (Number l n) (Number k m) us)
lex_ends (InNumber l n) (x ∷ us) = never (λ z. z) (other_last (Number l n) x us (λ e. cc))
lex_ends (Quoted n) [] = same
lex_ends (Quoted n) (Based x ∷ us) = same
lex_ends (Quoted n) (Unused ∷ us) = same
lex_ends (Quoted n) (x ∷ us) = same
lex_ends (Lettered n base) [] = same
lex_ends (Lettered n base) (Based x ∷ us) = same
lex_ends (Lettered n base) (Unused ∷ us) = same
lex_ends (Lettered n base) (x ∷ us) = same
lex_ends (InDigits n base v) [] = never (λ z. z) (λ e. cc)
lex_ends (InDigits n base v) (Based x ∷ us) = also (λ h. (ap Based h.0, h.1), λ h. (let e : literal n v ≡ Based x = h.0 in cc, h.1)) (last_ends (literal n v) (Based x) us)
lex_ends (InDigits n base v) (x ∷ us) = never (λ z. z) (other_last (literal n v) x us (λ e. cc))
lex_ends (Marked m) [] = never (λ z. z) (λ e. cc)
lex_ends (Marked m) (x ∷ us) = last_ends (Sign m) x us
lex_ends (Whole t) [] = never (λ z. z) (λ e. cc)
lex_ends (Whole t) (x ∷ us) = last_ends t x us

pub lexes : Lexes lex last unread
lexes = record { ends = λ l ts. lex_ends l ts; goes = λ l c b ts. lex_goes l c b ts }
