-- A byte's move is a step of the machine within all limits.
use Rattle.std.proofs.Common.{◌≡◌, ℕ, ◌+◌, ◌*◌, ◌≤◌, ◌&&◌, Bool, true, false, ◌==◌, [], ◌∷◌, ◌++◌, Option, Some, None, refl, sym, ap, subst, ◌∙◌, arith, if◌then◌else◌, nat_le}
use Rattle.std.proofs.lemmas.Bool.{le-leb, leb-true, and_parts, and_from}
use Rattle.bist_text.specs.Lexed.{Both, advance, then as and_then, only_if}
use Rattle.verilog_tree.specs.declared.tokens.Base.{Base}
use Rattle.verilog_tree.specs.declared.tokens.Mark.{Mark}
use Rattle.verilog_tree.specs.declared.tokens.Within.TheVariants.{Between, Slash, Line, Block, Star}
use Rattle.verilog_tree.specs.Formed.{is_place}
use Rattle.verilog_tree.specs.Spells.{all_limits, keeps, bounded}
use Rattle.verilog_tree.specs.Tokens.{Token, Identifier, Number, Based, Unused, Sign, is_space, is_query, mark_of, Start, AWord, ANumber, AMark, NoToken, start_of, start_mark, Growth, Longer, Spoiled, Complete, growth}
use Rattle.bist_text.specs.Identifiers.{is_digit, begins_identifier, in_identifier}
use Rattle.verilog_tree.specs.Words.{digit_value, radix, base_of, is_digit_of}
use Rattle.verilog_text.specs.Answering.{Taking, Leads, Refused, OneTooMany, taking, take_token, Move, Goes, Stops, is_between, while_live, gone, arrive, within, ended, stuck_at, stuck, read_on, lexed, byte_move}
use Rattle.verilog_text.specs.inner.Expected.{Numbers, AllNumbers, ZeroAlone, NoNumber, numbers, taken_as}
use Rattle.verilog_text.specs.Expected.{is_step, taken, most_of, live, name_fits, number_fits, live_in}
use Rattle.verilog_text.specs.Lexing.{Lexer, InGap, InWord, InNumber, Quoted, Lettered, InDigits, Marked, Whole, literal, begin_token, begin, with_token, silent, lettered, grow, lex, last}
use Rattle.verilog_text.specs.Places.{State}
use Rattle.verilog_text.specs.Reading.{step_in, byte_step}
use Rattle.verilog_text.specs.Steps.{step}
use Rattle.verilog_text.proofs.Complete.{most_low}
use Rattle.verilog_text.proofs.Expectations.{number_taken}
use Rattle.verilog_text.proofs.LexerLaws.{by_test}
use Rattle.verilog_text.proofs.Limits.{without_limit}

-- ---- a token that a byte ends

-- what a byte leads to where it ends a token
abbrev pub Emits : Lexer → ℕ → Option (Lexer × Option Token) → Type 0
Emits l c o = (m : Lexer) (t : Token) → o ≡ Some (m, Some t) → (begin c ≡ Some m) × (last l ≡ Some (Some t))

abbrev token_in : Option (Lexer × Option Token) → Option Token
token_in None = None
token_in (Some r) = r.1

abbrev lexer_in : Lexer → Option (Lexer × Option Token) → Lexer
lexer_in l None = l
lexer_in l (Some r) = r.0

never_token : {A : Type 0} (t : Token) → None ≡ Some t → A
never_token t e = cc

some_token : (u t : Token) → Some u ≡ Some t → u ≡ t
some_token u t e = cc

quiet : (l : Lexer) (c : ℕ) (x : Lexer) → Emits l c (Some (x, None))
quiet l c x m t e = never_token t (ap token_in e)

nothing : (l : Lexer) (c : ℕ) → Emits l c None
nothing l c m t e = cc

silently : (l : Lexer) (c : ℕ) (o : Option Lexer) → Emits l c (silent o)
silently l c None = nothing l c
silently l c (Some x) = quiet l c x

-- a token that ends where another may begin
tokenwise : (l : Lexer) (c : ℕ) (u : Token) → last l ≡ Some (Some u) → Emits l c (with_token u (begin c))
tokenwise l c u h = go (begin c) refl
  where
    go : (o : Option Lexer) → begin c ≡ o → Emits l c (with_token u o)
    go None e m t f = cc
    go (Some x) e m t f = (e ∙ ap Some (ap (lexer_in x) f), h ∙ ap (λ y. Some (Some y)) (some_token u t (ap token_in f)))

pub emits : (l : Lexer) (c : ℕ) → Emits l c (lex l c)
emits (InGap Between) c = silently (InGap Between) c (begin c)
emits (InGap Slash) c = by_test (λ t. Emits (InGap Slash) c (if t then Some (InGap Line, None) else if c == 42 then Some (InGap Block, None) else None)) (c == 47) (λ e. quiet (InGap Slash) c _) (λ e. by_test (λ t. Emits (InGap Slash) c (if t then Some (InGap Block, None) else None)) (c == 42) (λ e. quiet (InGap Slash) c _) (λ e. nothing (InGap Slash) c))
emits (InGap Line) c = by_test (λ t. Emits (InGap Line) c (if t then Some (InGap Between, None) else Some (InGap Line, None))) (c == 10) (λ e. quiet (InGap Line) c _) (λ e. quiet (InGap Line) c _)
emits (InGap Block) c = by_test (λ t. Emits (InGap Block) c (if t then Some (InGap Star, None) else Some (InGap Block, None))) (c == 42) (λ e. quiet (InGap Block) c _) (λ e. quiet (InGap Block) c _)
emits (InGap Star) c = by_test (λ t. Emits (InGap Star) c (if t then Some (InGap Between, None) else if c == 42 then Some (InGap Star, None) else Some (InGap Block, None))) (c == 47) (λ e. quiet (InGap Star) c _) (λ e. by_test (λ t. Emits (InGap Star) c (if t then Some (InGap Star, None) else Some (InGap Block, None))) (c == 42) (λ e. quiet (InGap Star) c _) (λ e. quiet (InGap Star) c _))
emits (InWord w) c = by_test (λ t. Emits (InWord w) c (if t then Some (InWord (w ++ (c ∷ [])), None) else with_token (Identifier w) (begin c))) (in_identifier c) (λ e. quiet (InWord w) c _) (λ e. tokenwise (InWord w) c (Identifier w) refl)
emits (InNumber long n) c = by_test (λ t. Emits (InNumber long n) c (if t then Some (InNumber true (n * 10 + digit_value c), None) else if c == 39 then Some (Quoted n, None) else with_token (Number long n) (begin c))) (is_digit c) (λ e. quiet (InNumber long n) c _) (λ e. by_test (λ t. Emits (InNumber long n) c (if t then Some (Quoted n, None) else with_token (Number long n) (begin c))) (c == 39) (λ e. quiet (InNumber long n) c _) (λ e. tokenwise (InNumber long n) c (Number long n) refl))
emits (Quoted n) c = go (base_of c)
  where
    go : (o : Option Base) → Emits (Quoted n) c (lettered n o)
    go None = nothing (Quoted n) c
    go (Some base) = quiet (Quoted n) c (Lettered n base)
emits (Lettered n base) c = by_test (λ t. Emits (Lettered n base) c (if t then Some (InDigits n base (digit_value c), None) else None)) (is_digit_of base c) (λ e. quiet (Lettered n base) c _) (λ e. nothing (Lettered n base) c)
emits (InDigits n base v) c = by_test (λ t. Emits (InDigits n base v) c (if t then Some (InDigits n base (v * radix base + digit_value c), None) else if c == 95 then Some (InDigits n base v, None) else if is_query base c then Some (Whole Unused, None) else with_token (literal n v) (begin c))) (is_digit_of base c) (λ e. quiet (InDigits n base v) c _) (λ e. by_test (λ t. Emits (InDigits n base v) c (if t then Some (InDigits n base v, None) else if is_query base c then Some (Whole Unused, None) else with_token (literal n v) (begin c))) (c == 95) (λ e. quiet (InDigits n base v) c _) (λ e. by_test (λ t. Emits (InDigits n base v) c (if t then Some (Whole Unused, None) else with_token (literal n v) (begin c))) (is_query base c) (λ e. quiet (InDigits n base v) c _) (λ e. tokenwise (InDigits n base v) c (literal n v) refl)))
emits (Marked m) c = go (growth m c)
  where
    go : (g : Growth) → Emits (Marked m) c (grow m c g)
    go (Longer k) = quiet (Marked m) c (Marked k)
    go Spoiled = quiet (Marked m) c (Whole Unused)
    go Complete = tokenwise (Marked m) c (Sign m) refl
emits (Whole t) c = tokenwise (Whole t) c t refl

-- ---- what is new is within the limits

abbrev pub Small : Lexer → Type 0
Small l = (name_fits l ≡ true) × ((most : ℕ) → 63 ≤ most → number_fits most l ≡ true)

digit_small : (c : ℕ) → is_digit c ≡ true → digit_value c ≤ 9
digit_small c h = let p = and_parts (nat_le 48 c) (nat_le c 57) h in go (nat_le c 57) p.1 refl (leb-true c 57 p.1)
  where
    go : (t : Bool) → t ≡ true → nat_le c 57 ≡ t → c ≤ 57 → digit_value c ≤ 9
    go true e f k = rw f (omega (arith, k))
    go false e f k = cc

new_small : (s : Start) (c : ℕ) (l : Lexer) → (s ≡ ANumber → is_digit c ≡ true) → begin_token s c ≡ Some l → Small l
new_small AWord c l d e = let k : InWord (c ∷ []) ≡ l = cc in subst Small k (refl, λ most h. refl)
new_small ANumber c l d e = let k : InNumber false (digit_value c) ≡ l = cc in subst Small k (refl, λ most h. let p = digit_small c (d refl) in le-leb (digit_value c) most (omega (arith, p, h)))
new_small (AMark m) c l d e = let k : Marked m ≡ l = cc in subst Small k (refl, λ most h. refl)
new_small NoToken c l d e = cc

starts_number : (c : ℕ) → start_of c ≡ ANumber → is_digit c ≡ true
starts_number c = by_test (λ t. (if t then AWord else if is_digit c then ANumber else start_mark (mark_of c)) ≡ ANumber → is_digit c ≡ true) (begins_identifier c) (λ e f. cc) (λ e. other (is_digit c) refl)
  where
    marks : (o : Option Mark) → start_mark o ≡ ANumber → is_digit c ≡ true
    marks None f = cc
    marks (Some m) f = cc

    other : (t : Bool) → is_digit c ≡ t → (if t then ANumber else start_mark (mark_of c)) ≡ ANumber → is_digit c ≡ true
    other true e f = e
    other false e f = marks (mark_of c) f

pub begun_small : (c : ℕ) (l : Lexer) → begin c ≡ Some l → Small l
begun_small c l = by_test (λ t. (if t then Some (InGap Between) else if c == 47 then Some (InGap Slash) else begin_token (start_of c) c) ≡ Some l → Small l) (is_space c) (λ e f. let k : InGap Between ≡ l = cc in subst Small k (refl, λ most h. refl)) (λ e. by_test (λ t. (if t then Some (InGap Slash) else begin_token (start_of c) c) ≡ Some l → Small l) (c == 47) (λ e f. let k : InGap Slash ≡ l = cc in subst Small k (refl, λ most h. refl)) (λ e f. new_small (start_of c) c l (starts_number c) f))

-- ---- a token that ends keeps the limits, or is not taken

abbrev pub Fitting : State → Lexer → Type 0
Fitting s l = (name_fits l ≡ true) × (number_fits (most_of s) l ≡ true)

no_step : (s : State) (t : Token) → taken s t ≡ false → step bounded s t ≡ None
no_step s t h = go (step bounded s t) refl
  where
    go : (o : Option State) → step bounded s t ≡ o → o ≡ None
    go None e = refl
    go (Some q) e = let k : taken s t ≡ true = ap is_step (without_limit bounded s t q e) in let j : true ≡ false = sym k ∙ h in cc

kept_step : (s : State) (t : Token) → keeps all_limits t ≡ true → step_in all_limits s t ≡ step bounded s t
kept_step s t h = ap (λ b. if b then step bounded s t else None) h

number_step : (s : State) (long : Bool) (n : ℕ) → nat_le n (most_of s) ≡ true → step_in all_limits s (Number long n) ≡ step bounded s (Number long n)
number_step s long n h = go (taken s (Number false 0)) refl
  where
    no_number : (k : Numbers) → taken_as k false 0 ≡ false → taken_as k long n ≡ false
    no_number AllNumbers e = cc
    no_number ZeroAlone e = cc
    no_number NoNumber e = refl

    go : (t : Bool) → taken s (Number false 0) ≡ t → step_in all_limits s (Number long n) ≡ step bounded s (Number long n)
    go true e = kept_step s (Number long n) (let m : most_of s ≡ 63 = ap (λ b. if b then 63 else 64) e in let p = leb-true n (most_of s) h in le-leb n 63 (omega (arith, p, m)))
    go false e =
        let none : step bounded s (Number long n) ≡ None = no_step s (Number long n) (number_taken s long n ∙ no_number (numbers s) (sym (number_taken s false 0) ∙ e)) in
        ap (λ o. if is_place n then o else None) none ∙ none_either (is_place n) ∙ sym none
      where
        none_either : (b : Bool) → (if b then (let x : Option State = None in x) else None) ≡ None
        none_either true = refl
        none_either false = refl

pub same_step : (s : State) (l : Lexer) (t : Token) → Fitting s l → last l ≡ Some (Some t) → step_in all_limits s t ≡ step bounded s t
same_step s (InGap Between) t f e = cc
same_step s (InGap Line) t f e = cc
same_step s (InGap Slash) t f e = cc
same_step s (InGap Block) t f e = cc
same_step s (InGap Star) t f e = cc
same_step s (InWord w) t f e = let k : Identifier w ≡ t = cc in subst (λ x. step_in all_limits s x ≡ step bounded s x) k (kept_step s (Identifier w) f.0)
same_step s (InNumber long n) t f e = let k : Number long n ≡ t = cc in subst (λ x. step_in all_limits s x ≡ step bounded s x) k (number_step s long n f.1)
same_step s (Quoted n) t f e = cc
same_step s (Lettered n base) t f e = cc
same_step s (InDigits n base v) t f e = let k : literal n v ≡ t = cc in subst (λ x. step_in all_limits s x ≡ step bounded s x) k (kept_step s (literal n v) f.1)
same_step s (Marked m) t f e = let k : Sign m ≡ t = cc in subst (λ x. step_in all_limits s x ≡ step bounded s x) k refl
same_step s (Whole u) t f e = let k : u ≡ t = cc in subst (λ x. step_in all_limits s x ≡ step bounded s x) k (whole u f)
  where
    whole : (u : Token) → Fitting s (Whole u) → step_in all_limits s u ≡ step bounded s u
    whole (Identifier w) f = kept_step s (Identifier w) f.0
    whole (Number l n) f = kept_step s (Number l n) f.1
    whole (Based x) f = kept_step s (Based x) f.1
    whole Unused f = refl
    whole (Sign m) f = refl

-- ---- a byte

-- a state that may go on, within all limits
abbrev pub Sound : Both State Lexer → Type 0
Sound q = live_in all_limits q.parser q.lexer ≡ true

pub sound_parts : (q : Both State Lexer) → Sound q → (live q.parser q.lexer ≡ true) × Fitting q.parser q.lexer
sound_parts q h =
    let p = and_parts (live q.parser q.lexer && name_fits q.lexer) (number_fits (most_of q.parser) q.lexer) h in
    let r = and_parts (live q.parser q.lexer) (name_fits q.lexer) p.0 in
    (r.0, (r.1, p.1))

-- a move is a step to a sound state, or there is none
abbrev pub Agrees : Move → Option (Both State Lexer) → Type 0
Agrees (Goes z fresh) o = (o ≡ Some z) × Sound z
Agrees (Stops f) o = o ≡ None

abbrev place : State → Lexer → Both State Lexer
place s l = record { parser = s; lexer = l }

-- a state whose parts pass or fail
arrives : (s : State) (l : Lexer) (fresh a b d : Bool) → live s l ≡ a → name_fits l ≡ b → number_fits (most_of s) l ≡ d → Agrees (while_live a (within b d (gone s l fresh))) (only_if ((a && b) && d) (place s l))
arrives s l fresh true true true e f g = (refl, and_from _ _ (and_from _ _ e f) g)
arrives s l fresh true true false e f g = refl
arrives s l fresh true false true e f g = refl
arrives s l fresh true false false e f g = refl
arrives s l fresh false true true e f g = refl
arrives s l fresh false true false e f g = refl
arrives s l fresh false false true e f g = refl
arrives s l fresh false false false e f g = refl

-- behind a token
behind : (s : State) (l : Lexer) → Small l → Agrees (arrive s l true) (only_if (live_in all_limits s l) (place s l))
behind s l k = go (live s l) (name_fits l) (number_fits (most_of s) l) refl refl refl
  where
    go : (a b d : Bool) → live s l ≡ a → name_fits l ≡ b → number_fits (most_of s) l ≡ d → Agrees (while_live a (gone s l true)) (only_if ((a && b) && d) (place s l))
    go true true true e f g = (refl, and_from _ _ (and_from _ _ e f) g)
    go true true false e f g = let h : true ≡ false = sym (k.1 (most_of s) (most_low s)) ∙ g in cc
    go true false d e f g = let h : true ≡ false = sym k.0 ∙ f in cc
    go false b d e f g = refl

ends_token : (s : State) (l : Lexer) (t : Token) (o : Option State) → step bounded s t ≡ o → Small l → Agrees (ended (taking o (taken s t)) l) (and_then o (λ z. only_if (live_in all_limits z l) (place z l)))
ends_token s l t (Some z) e k = behind z l k
ends_token s l t None e k = go (taken s t)
  where
    go : (b : Bool) → Agrees (ended (taking None b) l) None
    go true = refl
    go false = refl

stuck_stops : (s : State) (o : Option (Option Token)) → Agrees (stuck s o) None
stuck_stops s None = refl
stuck_stops s (Some None) = refl
stuck_stops s (Some (Some t)) = go (take_token s t)
  where
    go : (k : Taking) → Agrees (stuck_at k) None
    go (Leads z) = refl
    go Refused = refl
    go OneTooMany = refl

pub move_agrees : (q : Both State Lexer) (c : ℕ) → Sound q → Agrees (byte_move q c) (byte_step all_limits q c)
move_agrees q c h = go (lex q.lexer c) refl
  where
    fits : Fitting q.parser q.lexer
    fits = (sound_parts q h).1

    go : (o : Option (Lexer × Option Token)) → lex q.lexer c ≡ o → Agrees (lexed q o) (and_then o (λ r. and_then (advance (step_in all_limits) q.parser r.1) (λ s. only_if (live_in all_limits s r.0) (place s r.0))))
    go None e = stuck_stops q.parser (last q.lexer)
    go (Some r) e = on r.0 r.1 e
      where
        on : (l : Lexer) (t : Option Token) → lex q.lexer c ≡ Some (l, t) → Agrees (read_on q l t) (and_then (advance (step_in all_limits) q.parser t) (λ s. only_if (live_in all_limits s l) (place s l)))
        on l None e = arrives q.parser l (is_between q.lexer) (live q.parser l) (name_fits l) (number_fits (most_of q.parser) l) refl refl refl
        on l (Some t) e =
            let k = emits q.lexer c l t e in
            subst (λ (o : Option State). Agrees (ended (take_token q.parser t) l) (and_then o (λ s. only_if (live_in all_limits s l) (place s l)))) (sym (same_step q.parser q.lexer t fits k.1)) (ends_token q.parser l t (step bounded q.parser t) refl (begun_small c l k.0))
