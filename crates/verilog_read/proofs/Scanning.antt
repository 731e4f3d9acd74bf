-- What the lexer's answer says of the byte.
use Rattle.std.proofs.Common.{◌≡◌, ℕ, ◌^◌, ◌<◌, ◌≤◌, ◌+◌, ◌||◌, ◌&&◌, List, [], ◌∷◌, ◌++◌, drop, nat_eq, sym, Bool, true, false, Option, Some, None, Result, Ok, Err, refl, ap, subst, ◌∙◌, arith, length, nat_le, nat_lt}
use Rattle.std.proofs.lemmas.Bool.{le-leb, lt-ltb, and_from, leb-true, ltb-true, and_parts, or_from}
use Rattle.std.proofs.lemmas.Bool.Decides.{Decides-eqb}
use Rattle.std.proofs.lemmas.List.{length-append}
use Rattle.std.proofs.lemmas.Slice.Eq.{starts_is}
use Rattle.std.specs.List.{starts_with, list_all}
use Rattle.bist_text.specs.Identifiers.{in_identifier}
use Rattle.bist_text.specs.Lexed.{Both}
use Rattle.bist_text.specs.Machine.{Holds}
use Rattle.verilog_tree.specs.Formed.{is_width, is_literal}
use Rattle.verilog_tree.specs.Tokens.{Token, Identifier, Number, Based, Unused, Sign}
use Rattle.verilog_read.specs.declared.lexer.LexFault.{LexFault}
use Rattle.verilog_read.specs.declared.lexer.LexFault.TheVariants as L
use Rattle.verilog_read.specs.declared.lexer.LexStep.{LexStep}
use Rattle.verilog_text.specs.declared.fault.ByteFault.TheVariants.{LongName, OutOfRange}
use Rattle.verilog_text.specs.Answering.{Move, Stops, while_live, within, read_on, lexed, byte_move}
use Rattle.verilog_text.specs.inner.Answering.{read_within}
use Rattle.verilog_read.specs.inner.Told.{Scanned}
use Rattle.verilog_text.specs.inner.Expected.{Numbers, AllNumbers, ZeroAlone, NoNumber, numbers, taken_as}
use Rattle.verilog_text.specs.Expected.{words, takes_names, taken, takes_literals, some_begins, live, most_of, name_fits, number_fits}
use Rattle.verilog_read.specs.inner.Lexemes.{lexer_of, tokens_of, Fits, IsLong, IsLarge, IsWrong, IsSize, Scans}
use Rattle.verilog_text.specs.Lexing.{Lexer, InWord, InNumber, Quoted, Lettered, InDigits, Whole, lex}
use Rattle.verilog_text.specs.Places.{State}
use Rattle.verilog_text.proofs.Expectations.{number_taken}
use Rattle.verilog_text.proofs.Extends.{all_words, words_are}

size_is : (n : ℕ) → IsSize n → is_width n ≡ true
size_is n h = and_from (nat_le 1 n) (nat_le n 64) (le-leb 1 n h.0) (le-leb n 64 h.1)

-- a state within the limits, by tests
pub names_fit : (most : ℕ) (l : Lexer) → Fits most l → name_fits l ≡ true
names_fit most (InWord w) h = le-leb (length w) 64 h
names_fit most (Whole (Sign m)) h = refl
names_fit most (Whole Unused) h = refl
names_fit most (Whole (Identifier w)) h = absurd h
names_fit most (Whole (Number l n)) h = absurd h
names_fit most (Whole (Based x)) h = absurd h
names_fit most l h = refl

pub numbers_fit : (most : ℕ) (l : Lexer) → Fits most l → number_fits most l ≡ true
numbers_fit most (InNumber long n) h = le-leb n most h
numbers_fit most (Quoted n) h = size_is n h
numbers_fit most (Lettered n base) h = size_is n h
numbers_fit most (InDigits n base v) h = and_from (is_width n) (nat_lt v (2 ^ n)) (size_is n (h.positive, h.narrow)) (lt-ltb v (2 ^ n) h.fits)
numbers_fit most (Whole (Sign m)) h = refl
numbers_fit most (Whole Unused) h = refl
numbers_fit most (Whole (Identifier w)) h = absurd h
numbers_fit most (Whole (Number l n)) h = absurd h
numbers_fit most (Whole (Based x)) h = absurd h
numbers_fit most l h = refl

-- a test that can't hold
pub fails : (t : Bool) → (t ≡ true → ⊥) → t ≡ false
fails true f = absurd (f refl)
fails false f = refl

pub long_names : (l : Lexer) → IsLong l → name_fits l ≡ false
long_names (InWord w) h = fails (nat_le (length w) 64) (λ e. let k = leb-true (length w) 64 e in omega (arith, k, h))
long_names l h = absurd h

pub large_names : (most : ℕ) (l : Lexer) → IsLarge most l → name_fits l ≡ true
large_names most (InNumber true n) h = refl
large_names most (InNumber false n) h = absurd h
large_names most l h = absurd h

pub large_numbers : (most : ℕ) (l : Lexer) → IsLarge most l → number_fits most l ≡ false
large_numbers most (InNumber true n) h = fails (nat_le n most) (λ e. let k = leb-true n most e in omega (arith, k, h))
large_numbers most (InNumber false n) h = absurd h
large_numbers most l h = absurd h

pub wrong_names : (l : Lexer) → IsWrong l → name_fits l ≡ true
wrong_names (Quoted n) h = refl
wrong_names (InDigits n base v) h = refl
wrong_names l h = absurd h

width_size : (n : ℕ) → is_width n ≡ true → IsSize n
width_size n e = let p = and_parts (nat_le 1 n) (nat_le n 64) e in (leb-true 1 n p.0, leb-true n 64 p.1)

pub wrong_numbers : (most : ℕ) (l : Lexer) → IsWrong l → number_fits most l ≡ false
wrong_numbers most (Quoted n) h = fails (is_width n) (λ e. h (width_size n e))
wrong_numbers most (InDigits n base v) h = fails (is_literal (record { width = n; value = v })) (λ e. let p = and_parts (is_width n) (nat_lt v (2 ^ n)) e in let q = width_size n p.0 in h (record { positive = q.0; narrow = q.1; fits = ltb-true v (2 ^ n) p.1 }))
wrong_numbers most l h = absurd h

-- a word of more than 64 bytes begins no reserved word
long_begins : (w : List ℕ) (ws : List (List ℕ)) → 64 < length w → all_words ws ≡ true → some_begins w ws ≡ false
long_begins w [] h e = refl
long_begins w (v ∷ vs) h e =
    let p = and_parts (list_all in_identifier v && nat_le (length v) 63) (all_words vs) e in
    let q = and_parts (list_all in_identifier v) (nat_le (length v) 63) p.0 in
    or_from (starts_with nat_eq v w) (some_begins w vs) (fails (starts_with nat_eq v w) (λ k.
    let whole : v ≡ w ++ drop (length w) v = (starts_is (λ x y. Decides-eqb x y) v w (starts_with nat_eq v w) refl).0 k in
    let same : length v ≡ length w + length (drop (length w) v) = ap length whole ∙ length-append w (drop (length w) v) in
    let short : length v ≤ 63 = leb-true (length v) 63 q.1 in omega (arith, h, same, short)))
    (long_begins w vs h p.1)

-- a long word goes on where names come
pub long_live : (s : State) (l : Lexer) → IsLong l → live s l ≡ takes_names s
long_live s (InWord w) h = ap (λ b. takes_names s || b) (long_begins w (words s) h (words_are s)) ∙ or_false (takes_names s)
  where
    or_false : (b : Bool) → (b || false) ≡ b
    or_false true = refl
    or_false false = refl
long_live s l h = absurd h

pub large_live : (s : State) (most : ℕ) (l : Lexer) → IsLarge most l → live s l ≡ (taken s (Number true 0) || takes_literals s)
large_live s most (InNumber true n) h = ap (λ b. b || takes_literals s) (number_taken s true n ∙ alike (numbers s) ∙ sym (number_taken s true 0))
  where
    alike : (k : Numbers) → taken_as k true n ≡ taken_as k true 0
    alike AllNumbers = refl
    alike ZeroAlone = refl
    alike NoNumber = refl
large_live s most (InNumber false n) h = absurd h
large_live s most l h = absurd h

pub wrong_live : (s : State) (l : Lexer) → IsWrong l → live s l ≡ takes_literals s
wrong_live s (Quoted n) h = refl
wrong_live s (InDigits n base v) h = refl
wrong_live s l h = absurd h

within_is : (a b : Bool) (m : Move) → a ≡ true → b ≡ true → within a b m ≡ m
within_is true true m e f = refl
within_is true false m e f = cc
within_is false b m e f = cc

within_long : (a b : Bool) (m : Move) → a ≡ false → within a b m ≡ Stops LongName
within_long true b m e = cc
within_long false b m e = refl

within_out : (a b : Bool) (m : Move) → a ≡ true → b ≡ false → within a b m ≡ Stops OutOfRange
within_out true true m e f = cc
within_out true false m e f = refl
within_out false b m e f = cc

on_fits : (q : Both State Lexer) (l : Lexer) (t : Option Token) → Fits (most_of q.parser) l → read_on q l t ≡ read_within q l t
on_fits q l None h = ap (while_live (live q.parser l)) (within_is (name_fits l) (number_fits (most_of q.parser) l) _ (names_fit (most_of q.parser) l h) (numbers_fit (most_of q.parser) l h))
on_fits q l (Some t) h = refl

-- where a limit stops what is begun, if it can go on
stops : (a b : Bool) (m n : Move) → a ≡ b → m ≡ n → while_live a m ≡ while_live b n
stops a b m n e f = ap (λ x. while_live x m) e ∙ ap (while_live b) f

long_stops : (q : Both State Lexer) (o : Option (Lexer × Option Token)) → Holds o (λ r. (r.1 ≡ None) × IsLong r.0) → lexed q o ≡ while_live (takes_names q.parser) (Stops LongName)
long_stops q None h = absurd h
long_stops q (Some r) h = ap (λ t. read_on q r.0 t) h.0 ∙ stops _ _ _ _ (long_live q.parser r.0 h.1) (within_long (name_fits r.0) (number_fits (most_of q.parser) r.0) _ (long_names r.0 h.1))

large_stops : (q : Both State Lexer) (o : Option (Lexer × Option Token)) → Holds o (λ r. (r.1 ≡ None) × IsLarge (most_of q.parser) r.0) → lexed q o ≡ while_live (taken q.parser (Number true 0) || takes_literals q.parser) (Stops OutOfRange)
large_stops q None h = absurd h
large_stops q (Some r) h = ap (λ t. read_on q r.0 t) h.0 ∙ stops _ _ _ _ (large_live q.parser (most_of q.parser) r.0 h.1) (within_out (name_fits r.0) (number_fits (most_of q.parser) r.0) _ (large_names (most_of q.parser) r.0 h.1) (large_numbers (most_of q.parser) r.0 h.1))

wrong_stops : (q : Both State Lexer) (o : Option (Lexer × Option Token)) → Holds o (λ r. (r.1 ≡ None) × IsWrong r.0) → lexed q o ≡ while_live (takes_literals q.parser) (Stops OutOfRange)
wrong_stops q None h = absurd h
wrong_stops q (Some r) h = ap (λ t. read_on q r.0 t) h.0 ∙ stops _ _ _ _ (wrong_live q.parser r.0 h.1) (within_out (name_fits r.0) (number_fits (most_of q.parser) r.0) _ (wrong_names r.0 h.1) (wrong_numbers (most_of q.parser) r.0 h.1))

pub scanned : (q : Both State Lexer) (c most : ℕ) (r : Result LexStep LexFault) → most ≡ most_of q.parser → Scans most most (lex q.lexer c) r → Scanned q (byte_move q c) r
scanned q c most r e s = go r (subst (λ m. Scans m m (lex q.lexer c) r) e s)
  where
    go : (r : Result LexStep LexFault) → Scans (most_of q.parser) (most_of q.parser) (lex q.lexer c) r → Scanned q (byte_move q c) r
    go (Ok r) s = ap (lexed q) s.0 ∙ on_fits q (lexer_of r.lexer) (tokens_of r.token) s.1
    go (Err L.Unexpected) s = ap (lexed q) s
    go (Err L.LongName) s = long_stops q (lex q.lexer c) s
    go (Err L.LargeNumber) s = large_stops q (lex q.lexer c) s
    go (Err L.WrongLiteral) s = wrong_stops q (lex q.lexer c) s
