-- What is live goes on to a text: the token that is begun can be ended so that it is taken and keeps the limits.
use Rattle.std.proofs.Common.{◌≡◌, ℕ, zero, suc, ◌+◌, ◌^◌, ◌<◌, ◌≤◌, Bool, true, false, not, ◌||◌, ◌&&◌, ◌==◌, List, [], ◌∷◌, ◌++◌, Option, Some, None, refl, sym, ap, subst, ◌∙◌, ◌⊎◌, inl, inr, arith, codes, length, drop, nat_eq, nat_le, nat_lt, if◌then◌else◌, append_assoc, append-nil}
use Rattle.std.specs.List.{starts_with, list_all}
use Rattle.std.specs.Str.{bytes_eq}
use Rattle.std.proofs.lemmas.Bool.{and_parts, and_from, or_cases, or_left, or_right, or_from, le-leb, leb-true, lt-ltb, eqb-true}
use Rattle.std.proofs.lemmas.Bool.Decides.{Decides-eqb}
use Rattle.std.proofs.lemmas.List.{length-append}
use Rattle.std.proofs.lemmas.Nat.{pow_pos}
use Rattle.std.proofs.lemmas.Slice.Eq.{bytes_eq-Decides, starts_is}
use Rattle.bist_bits.specs.Vector.{Vector}
use Rattle.bist_text.specs.Grammar.{are_bytes}
use Rattle.bist_text.specs.inner.Lexed.{Decides, emitted}
use Rattle.bist_text.specs.Lexed.{then as and_then}
use Rattle.bist_text.specs.Machine.{Holds}
use Rattle.bist_text.specs.ReservedWords.{is_among, reserved_words}
use Rattle.bist_text.proofs.Bytes.{are_bytes-append}
use Rattle.verilog_tree.specs.declared.tokens.Base.{Base}
use Rattle.verilog_tree.specs.declared.tokens.Base.TheVariants.{Binary, Octal, Decimal, Hexadecimal}
use Rattle.verilog_tree.specs.declared.tokens.Mark.{Mark}
use Rattle.verilog_tree.specs.declared.tokens.Mark.TheVariants.{Open, Equals, Bang, Less, Greater, Ampersand, Bar, TwoEquals, BangEquals, LessEquals, TwoLess, GreaterEquals, TwoGreater, TwoAmpersands, TwoBars}
use Rattle.verilog_tree.specs.declared.tokens.Within.TheVariants.{Between, Slash, Line, Block, Star}
use Rattle.verilog_tree.specs.Formed.{is_place, is_width, is_literal}
use Rattle.verilog_tree.specs.Plain.{ModuleTree}
use Rattle.verilog_tree.specs.Spells.{Limits, keeps, all_keep, all_limits, short_names, small_numbers}
use Rattle.verilog_tree.specs.Tokens.{Token, Identifier, Number, Based, Unused, Sign}
use Rattle.bist_text.specs.Identifiers.{in_identifier}
use Rattle.verilog_tree.specs.Grammar.{unlimited}
use Rattle.verilog_text.specs.inner.Expected.{Numbers, AllNumbers, ZeroAlone, NoNumber, numbers, taken_as}
use Rattle.verilog_text.specs.Expected.{else_behind, words_behind, with_else, place_words, words, takes_names, is_step, taken, takes_literals, some_begins, some_taken, longer_marks, live, most_of, name_fits, number_fits, live_in}
use Rattle.verilog_text.specs.inner.Following.{rest}
use Rattle.verilog_text.specs.Lexing.{Lexer, InGap, InWord, InNumber, Quoted, Lettered, InDigits, Marked, Whole, with_token, begin}
use Rattle.verilog_text.specs.inner.Lexing.{unread}
use Rattle.verilog_text.specs.Places.{Around, InAlways, InBlock, InThen, InElse, InArm, InDefault, StmtPlace, WantStmt, IfRead, CaseRead, DefaultRead, HaveStmt, ItemPlace, Begin, WantPort, InputRead, OutputRead, WantItem, ClockOpen, State, AtExpr, AtStmt, AtItem}
use Rattle.verilog_text.specs.Places as L
use Rattle.verilog_text.specs.inner.Reading.{rest_in}
use Rattle.verilog_text.specs.Steps.{step}
use Rattle.verilog_text.proofs.Alive.{HasRoom, alive}
use Rattle.verilog_text.proofs.Complete.{most_literal, complete}
use Rattle.verilog_text.proofs.Expectations.{word_taken, literals_alike, number_taken}
use Rattle.verilog_text.proofs.ItemLaws.{parse_goes}
use Rattle.verilog_text.proofs.LexingOn.{lexing, lexed_on}

-- ---- words

-- letters, and a blank
word_lexing : (u w : List ℕ) → list_all in_identifier u ≡ true → lexing (u ++ (32 ∷ [])) (InWord w) ≡ Some (Identifier (w ++ u) ∷ [], InGap Between)
word_lexing [] w h = ap (λ x. Some (Identifier x ∷ [], InGap Between)) (sym (append-nil w))
word_lexing (c ∷ u) w h =
    let p = and_parts (in_identifier c) (list_all in_identifier u) h in
    let more : lexing (u ++ (32 ∷ [])) (InWord (w ++ (c ∷ []))) ≡ Some (Identifier ((w ++ (c ∷ [])) ++ u) ∷ [], InGap Between) = word_lexing u (w ++ (c ∷ [])) p.1 in
    ap (λ b. and_then (if b then Some (InWord (w ++ (c ∷ [])), None) else with_token (Identifier w) (begin c)) (λ r. and_then (lexing (u ++ (32 ∷ [])) r.0) (λ s. Some (emitted r.1 s.0, s.1)))) p.0
    ∙ ap (λ o. and_then o (λ s. Some (emitted (let n : Option Token = None in n) s.0, s.1))) more
    ∙ ap (λ x. Some (Identifier x ∷ [], InGap Between)) (append_assoc w (c ∷ []) u)

-- words of the lists are identifiers, of at most 63 bytes
abbrev pub all_words : List (List ℕ) → Bool
all_words [] = true
all_words (w ∷ ws) = (list_all in_identifier w && nat_le (length w) 63) && all_words ws

else_words : (b : Bool) (ws : List (List ℕ)) → all_words ws ≡ true → all_words (with_else b ws) ≡ true
else_words true ws e = e
else_words false ws e = e

behind_words : (a : Around) → all_words (words_behind a) ≡ true
behind_words (InThen r c a) = behind_words a
behind_words (InElse r c s a) = behind_words a
behind_words (InAlways h c) = refl
behind_words (InBlock r old a) = refl
behind_words (InArm r x as' ls a) = refl
behind_words (InDefault r x as' a) = refl

pub words_are : (s : State) → all_words (words s) ≡ true
words_are (AtExpr p) = refl
words_are (AtStmt (HaveStmt q s a)) = else_words (else_behind a) (words_behind a) (behind_words a)
words_are (AtStmt (WantStmt q a)) = refl
words_are (AtStmt (DefaultRead r q x as' a)) = refl
words_are (AtStmt (L.Block p r old a)) = refl
words_are (AtStmt p) = refl
words_are (AtItem p) = item_words_are p
  where
    item_words_are : (p : ItemPlace) → all_words (place_words p) ≡ true
    item_words_are (Begin y) = refl
    item_words_are p = refl

all_behind : (w u : List ℕ) → list_all in_identifier (w ++ u) ≡ true → list_all in_identifier u ≡ true
all_behind [] u h = h
all_behind (c ∷ w) u h = all_behind w u (and_parts (in_identifier c) (list_all in_identifier (w ++ u)) h).1

-- a word of the list that begins with w
record Longer (w : List ℕ) (ws : List (List ℕ)) : Type 0 where
  more : List ℕ
  listed : is_among (w ++ more) ws ≡ true
  letters : list_all in_identifier more ≡ true
  short : length (w ++ more) ≤ 63

begins_longer : (w : List ℕ) (ws : List (List ℕ)) → all_words ws ≡ true → some_begins w ws ≡ true → Longer w ws
begins_longer w [] a h = cc
begins_longer w (v ∷ vs) a h =
    let p = and_parts (list_all in_identifier v && nat_le (length v) 63) (all_words vs) a in
    let q = and_parts (list_all in_identifier v) (nat_le (length v) 63) p.0 in
    elim (or_cases (starts_with nat_eq v w) (some_begins w vs) h) [
      | inl e ↦ let whole : v ≡ w ++ drop (length w) v = (starts_is (λ x y. Decides-eqb x y) v w (starts_with nat_eq v w) refl).0 e in record {
        more = drop (length w) v;
        listed = or_left (bytes_eq (w ++ drop (length w) v) v) (is_among (w ++ drop (length w) v) vs) ((bytes_eq-Decides (w ++ drop (length w) v) v).1 (sym whole));
        letters = all_behind w (drop (length w) v) (subst (λ x. list_all in_identifier x ≡ true) whole q.0);
        short = subst (λ (x : List ℕ). length x ≤ 63) whole (leb-true (length v) 63 q.1);
      }
      | inr e ↦ let k = begins_longer w vs p.1 e in record { more = k.more; listed = or_right (bytes_eq (w ++ k.more) v) (is_among (w ++ k.more) vs) k.listed; letters = k.letters; short = k.short }
    ]

-- no reserved word ends in $, and each has at most 63 bytes
abbrev no_dollar : List ℕ → Bool
no_dollar [] = true
no_dollar (c ∷ w) = not (c == 36) && no_dollar w

abbrev all_dollarless : List (List ℕ) → Bool
all_dollarless [] = true
all_dollarless (w ∷ ws) = (no_dollar w && nat_le (length w) 63) && all_dollarless ws

dollar_ends : (w : List ℕ) → no_dollar (w ++ (36 ∷ [])) ≡ false
dollar_ends [] = refl
dollar_ends (c ∷ w) = go (not (c == 36)) (dollar_ends w)
  where
    go : (b : Bool) → no_dollar (w ++ (36 ∷ [])) ≡ false → (b && no_dollar (w ++ (36 ∷ []))) ≡ false
    go true e = e
    go false e = refl

fails : (t : Bool) → (t ≡ true → ⊥) → t ≡ false
fails true f = absurd (f refl)
fails false f = refl

dollar_free : (w : List ℕ) (ws : List (List ℕ)) → all_dollarless ws ≡ true → is_among (w ++ (36 ∷ [])) ws ≡ false
dollar_free w [] h = refl
dollar_free w (v ∷ vs) h =
    let p = and_parts (no_dollar v && nat_le (length v) 63) (all_dollarless vs) h in
    let q = and_parts (no_dollar v) (nat_le (length v) 63) p.0 in
    or_from (bytes_eq (w ++ (36 ∷ [])) v) (is_among (w ++ (36 ∷ [])) vs)
    (fails (bytes_eq (w ++ (36 ∷ [])) v) (λ e. let k : w ++ (36 ∷ []) ≡ v = (bytes_eq-Decides (w ++ (36 ∷ [])) v).0 e in let j : true ≡ false = sym q.0 ∙ ap no_dollar (sym k) ∙ dollar_ends w in cc))
    (dollar_free w vs p.1)

reserved_short : (w : List ℕ) (ws : List (List ℕ)) → all_dollarless ws ≡ true → is_among w ws ≡ true → length w ≤ 63
reserved_short w [] h e = cc
reserved_short w (v ∷ vs) h e =
    let p = and_parts (no_dollar v && nat_le (length v) 63) (all_dollarless vs) h in
    let q = and_parts (no_dollar v) (nat_le (length v) 63) p.0 in
    elim (or_cases (bytes_eq w v) (is_among w vs) e) [
      | inl k ↦ subst (λ (x : List ℕ). length x ≤ 63) (sym ((bytes_eq-Decides w v).0 k)) (leb-true (length v) 63 q.1)
      | inr k ↦ reserved_short w vs p.1 k
    ]

-- a name that begins with w, no longer than 64 bytes where w isn't
record ANameOf (w : List ℕ) : Type 0 where
  more : List ℕ
  free : is_among (w ++ more) reserved_words ≡ false
  letters : list_all in_identifier more ≡ true
  short : length w ≤ 64 → length (w ++ more) ≤ 64

name_of : (w : List ℕ) → ANameOf w
name_of w = go (is_among w reserved_words) refl
  where
    go : (b : Bool) → is_among w reserved_words ≡ b → ANameOf w
    go false e = record { more = []; free = subst (λ x. is_among x reserved_words ≡ false) (sym (append-nil w)) e; letters = refl; short = λ h. subst (λ (x : List ℕ). length x ≤ 64) (sym (append-nil w)) h }
    go true e = record { more = 36 ∷ []; free = dollar_free w reserved_words refl; letters = refl; short = λ h. let k : length w ≤ 63 = reserved_short w reserved_words refl e in let j : length (w ++ (36 ∷ [])) ≡ length w + 1 = length-append w (36 ∷ []) in omega (arith, k, j) }

-- ---- tokens

step_some : (o : Option State) → is_step o ≡ true → (q : State) × (o ≡ Some q)
step_some None h = cc
step_some (Some q) h = (q, refl)

-- without a limit there is room for each opening
roomy : (s : State) → HasRoom unlimited s
roomy (AtExpr p) = tt
roomy (AtStmt (IfRead r q a)) = (q + 1, refl)
roomy (AtStmt (CaseRead r q a)) = (q + 1, refl)
roomy (AtStmt (WantStmt q a)) = tt
roomy (AtStmt p) = stmt p
  where
    stmt : (p : StmtPlace) → HasRoom unlimited (AtStmt p)
    stmt (IfRead r q a) = (q + 1, refl)
    stmt (CaseRead r q a) = (q + 1, refl)
    stmt p = tt
roomy (AtItem p) = (1, refl)

module _ (names_kept numbers_kept : Bool) where
  -- limits of tokens alone
  abbrev pub limits : Limits
  limits = record { names = names_kept; numbers = numbers_kept; counts = unlimited }

  kept_or : (b t : Bool) → t ≡ true → (not b || t) ≡ true
  kept_or true t e = e
  kept_or false t e = refl

  pub all_kept : (t : Token) → keeps all_limits t ≡ true → keeps limits t ≡ true
  all_kept (Identifier w) k = kept_or names_kept (nat_le (length w) 64) k
  all_kept (Number l n) k = kept_or numbers_kept (is_place n) k
  all_kept (Based x) k = kept_or numbers_kept (is_literal x) k
  all_kept Unused k = refl
  all_kept (Sign m) k = refl

  all_kept_on : (ts : List Token) → all_keep all_limits ts ≡ true → all_keep limits ts ≡ true
  all_kept_on [] k = refl
  all_kept_on (t ∷ ts) k = let p = and_parts (keeps all_limits t) (all_keep all_limits ts) k in and_from (keeps limits t) (all_keep limits ts) (all_kept t p.0) (all_kept_on ts p.1)

  -- some bytes go on so that the tokens are taken
  abbrev pub GoesOn : State → Lexer → Type 0
  GoesOn s l = (b : List ℕ) × (ts : List Token) × (v : ModuleTree) × (are_bytes b ≡ true) × unread l b ts × (all_keep limits ts ≡ true) × rest unlimited s ts v

  -- white space that these bytes end
  in_gap : (s : State) (l : Lexer) (w : List ℕ) → lexing w l ≡ Some ([], InGap Between) → are_bytes w ≡ true → GoesOn s l
  in_gap s l w e f = let h = alive unlimited s (roomy s) in (w ++ h.0, h.1, h.2, are_bytes-append w h.0 f h.3, lexed_on w l (InGap Between) [] h.0 h.1 e h.5, all_kept_on h.1 h.4, h.6)

  -- a token that these bytes end
  with_end : (s : State) (l : Lexer) (w : List ℕ) (t : Token) → lexing w l ≡ Some (t ∷ [], InGap Between) → are_bytes w ≡ true → keeps limits t ≡ true → taken s t ≡ true → GoesOn s l
  with_end s l w t e f k g =
      let q = step_some (step unlimited s t) g in
      let h = alive unlimited q.0 (roomy q.0) in (
        w ++ h.0,
        t ∷ h.1,
        h.2,
        are_bytes-append w h.0 f h.3,
        lexed_on w l (InGap Between) (t ∷ []) h.0 h.1 e h.5,
        and_from (keeps limits t) (all_keep limits h.1) k (all_kept_on h.1 h.4),
        (parse_goes unlimited s t h.1 h.2).1 (subst (λ (o : Option State). Holds o (λ z. rest unlimited z h.1 h.2)) (sym q.1) h.6),
      )

  letter_byte : (c : ℕ) → in_identifier c ≡ true → nat_lt c 256 ≡ true
  letter_byte c h = lt-ltb c 256 (elim (or_cases (((nat_le 97 c && nat_le c 122) || (nat_le 65 c && nat_le c 90)) || (c == 95) || (nat_le 48 c && nat_le c 57)) (c == 36) h) [
    | inl x ↦ elim (or_cases (((nat_le 97 c && nat_le c 122) || (nat_le 65 c && nat_le c 90)) || (c == 95)) (nat_le 48 c && nat_le c 57) x) [
      | inl y ↦ elim (or_cases ((nat_le 97 c && nat_le c 122) || (nat_le 65 c && nat_le c 90)) (c == 95) y) [
        | inl z ↦ elim (or_cases (nat_le 97 c && nat_le c 122) (nat_le 65 c && nat_le c 90) z) [
          | inl w ↦ below c 97 122 w (omega arith)
          | inr w ↦ below c 65 90 w (omega arith)
        ]
        | inr z ↦ is_byte c 95 z (omega arith)
      ]
      | inr y ↦ below c 48 57 y (omega arith)
    ]
    | inr x ↦ is_byte c 36 x (omega arith)
  ])
    where
      below : (c low high : ℕ) → (nat_le low c && nat_le c high) ≡ true → high < 256 → c < 256
      below c low high e k = let p = leb-true c high (and_parts (nat_le low c) (nat_le c high) e).1 in omega (arith, p, k)

      is_byte : (c d : ℕ) → (c == d) ≡ true → d < 256 → c < 256
      is_byte c d e k = let p = eqb-true c d e in omega (arith, p, k)

  letters_bytes : (u : List ℕ) → list_all in_identifier u ≡ true → are_bytes (u ++ (32 ∷ [])) ≡ true
  letters_bytes [] h = refl
  letters_bytes (c ∷ u) h = let p = and_parts (in_identifier c) (list_all in_identifier u) h in and_from (nat_lt c 256) (are_bytes (u ++ (32 ∷ []))) (letter_byte c p.0) (letters_bytes u p.1)

  -- parts of what is live
  if_true : (b t : Bool) → (if b then t else true) ≡ true → b ≡ true → t ≡ true
  if_true true t h e = h
  if_true false t h e = cc

  abbrev Live : State → Lexer → Type 0
  Live s l = (live s l ≡ true) × ((names_kept ≡ true) → name_fits l ≡ true) × ((numbers_kept ≡ true) → number_fits (most_of s) l ≡ true)

  live_parts : (s : State) (l : Lexer) → live_in limits s l ≡ true → Live s l
  live_parts s l h =
      let p = and_parts (live s l && (if names_kept then name_fits l else true)) (if numbers_kept then number_fits (most_of s) l else true) h in
      let r = and_parts (live s l) (if names_kept then name_fits l else true) p.0 in
      (r.0, if_true names_kept (name_fits l) r.1, if_true numbers_kept (number_fits (most_of s) l) p.1)

  kept_where : (b t : Bool) → (b ≡ true → t ≡ true) → (not b || t) ≡ true
  kept_where true t f = f refl
  kept_where false t f = refl

  in_word : (s : State) (w : List ℕ) → Live s (InWord w) → GoesOn s (InWord w)
  in_word s w h = elim (or_cases (takes_names s) (some_begins w (words s)) h.0) [
    | inl e ↦ let n = name_of w in with_end s (InWord w) (n.more ++ (32 ∷ [])) (Identifier (w ++ n.more)) (word_lexing n.more w n.letters) (letters_bytes n.more n.letters)
        (kept_where names_kept (nat_le (length (w ++ n.more)) 64) (λ k. le-leb (length (w ++ n.more)) 64 (n.short (leb-true (length w) 64 (h.1 k)))))
        (word_taken s (w ++ n.more) ∙ or_right (is_among (w ++ n.more) (words s)) (takes_names s && not (is_among (w ++ n.more) reserved_words)) (and_from (takes_names s) (not (is_among (w ++ n.more) reserved_words)) e (ap not n.free)))
    | inr e ↦ let n = begins_longer w (words s) (words_are s) e in with_end s (InWord w) (n.more ++ (32 ∷ [])) (Identifier (w ++ n.more)) (word_lexing n.more w n.letters) (letters_bytes n.more n.letters)
        (kept_where names_kept (nat_le (length (w ++ n.more)) 64) (λ k. le-leb (length (w ++ n.more)) 64 (let p = n.short in omega (arith, p))))
        (word_taken s (w ++ n.more) ∙ or_left (is_among (w ++ n.more) (words s)) (takes_names s && not (is_among (w ++ n.more) reserved_words)) n.listed)
  ]

  -- a number that is taken stands in brackets
  most_number : (s : State) (long : Bool) (n : ℕ) → taken s (Number long n) ≡ true → most_of s ≡ 63
  most_number s long n h = ap (λ t. if t then 63 else 64) (number_taken s false 0 ∙ go (numbers s) (sym (number_taken s long n) ∙ h))
    where
      go : (k : Numbers) → taken_as k long n ≡ true → taken_as k false 0 ≡ true
      go AllNumbers e = refl
      go ZeroAlone e = refl
      go NoNumber e = cc

  literal_of : (s : State) (x : Vector) → takes_literals s ≡ true → taken s (Based x) ≡ true
  literal_of s x h = literals_alike s x ∙ h

  zero_fits : (n : ℕ) → is_width n ≡ true → is_literal (record { width = n; value = 0 }) ≡ true
  zero_fits n h = and_from (is_width n) (nat_lt 0 (2 ^ n)) h (lt-ltb 0 (2 ^ n) (pow_pos n))

  width_of : (n : ℕ) → 1 ≤ n → n ≤ 64 → is_width n ≡ true
  width_of n h k = and_from (nat_le 1 n) (nat_le n 64) (le-leb 1 n h) (le-leb n 64 k)

  in_number : (s : State) (long : Bool) (n : ℕ) → Live s (InNumber long n) → GoesOn s (InNumber long n)
  in_number s long n h = elim (or_cases (taken s (Number long n)) (takes_literals s) h.0) [
    | inl e ↦ with_end s (InNumber long n) (32 ∷ []) (Number long n) refl refl (kept_where numbers_kept (is_place n) (λ k. let p = leb-true n (most_of s) (h.2 k) in let m = most_number s long n e in le-leb n 63 (omega (arith, p, m)))) e
    | inr e ↦ sizes n e (λ k. let p = leb-true n (most_of s) (h.2 k) in let m = most_literal s e in omega (arith, p, m))
  ]
    where
      sizes : (n : ℕ) → takes_literals s ≡ true → (numbers_kept ≡ true → n ≤ 64) → GoesOn s (InNumber long n)
      sizes zero e f = with_end s (InNumber long zero) (codes "1'h0 ") (Based (record { width = 1; value = 0 })) refl refl (kept_or numbers_kept (is_literal (record { width = 1; value = 0 })) refl) e
      sizes (suc n) e f = with_end s (InNumber long (suc n)) (codes "'h0 ") (Based (record { width = suc n; value = 0 })) refl refl (kept_where numbers_kept (is_literal (record { width = suc n; value = 0 })) (λ k. let p = f k in zero_fits (suc n) (width_of (suc n) (omega arith) p))) (literal_of s (record { width = suc n; value = 0 }) e)

  first_digit : (n : ℕ) (base : Base) → lexing (codes "0 ") (Lettered n base) ≡ Some (Based (record { width = n; value = 0 }) ∷ [], InGap Between)
  first_digit n Binary = refl
  first_digit n Octal = refl
  first_digit n Decimal = refl
  first_digit n Hexadecimal = refl

  no_digit : (n : ℕ) (base : Base) (v : ℕ) → lexing (32 ∷ []) (InDigits n base v) ≡ Some (Based (record { width = n; value = v }) ∷ [], InGap Between)
  no_digit n Binary v = refl
  no_digit n Octal v = refl
  no_digit n Decimal v = refl
  no_digit n Hexadecimal v = refl

  one_mark : (m : Mark) → lexing (32 ∷ []) (Marked m) ≡ Some (Sign m ∷ [], InGap Between)
  one_mark Open = refl
  one_mark m = refl

  longer : (s : State) (m : Mark) → some_taken s (longer_marks m) ≡ true → GoesOn s (Marked m)
  longer s Equals h = one (or_cases (taken s (Sign TwoEquals)) false h)
    where
      one : ((taken s (Sign TwoEquals) ≡ true) ⊎ (false ≡ true)) → GoesOn s (Marked Equals)
      one (inl e) = with_end s (Marked Equals) (codes "= ") (Sign TwoEquals) refl refl refl e
      one (inr e) = cc
  longer s Bang h = one (or_cases (taken s (Sign BangEquals)) false h)
    where
      one : ((taken s (Sign BangEquals) ≡ true) ⊎ (false ≡ true)) → GoesOn s (Marked Bang)
      one (inl e) = with_end s (Marked Bang) (codes "= ") (Sign BangEquals) refl refl refl e
      one (inr e) = cc
  longer s Less h = two (or_cases (taken s (Sign LessEquals)) (taken s (Sign TwoLess) || false) h)
    where
      one : ((taken s (Sign TwoLess) ≡ true) ⊎ (false ≡ true)) → GoesOn s (Marked Less)
      one (inl e) = with_end s (Marked Less) (codes "< ") (Sign TwoLess) refl refl refl e
      one (inr e) = cc

      two : ((taken s (Sign LessEquals) ≡ true) ⊎ ((taken s (Sign TwoLess) || false) ≡ true)) → GoesOn s (Marked Less)
      two (inl e) = with_end s (Marked Less) (codes "= ") (Sign LessEquals) refl refl refl e
      two (inr e) = one (or_cases (taken s (Sign TwoLess)) false e)
  longer s Greater h = two (or_cases (taken s (Sign GreaterEquals)) (taken s (Sign TwoGreater) || false) h)
    where
      one : ((taken s (Sign TwoGreater) ≡ true) ⊎ (false ≡ true)) → GoesOn s (Marked Greater)
      one (inl e) = with_end s (Marked Greater) (codes "> ") (Sign TwoGreater) refl refl refl e
      one (inr e) = cc

      two : ((taken s (Sign GreaterEquals) ≡ true) ⊎ ((taken s (Sign TwoGreater) || false) ≡ true)) → GoesOn s (Marked Greater)
      two (inl e) = with_end s (Marked Greater) (codes "= ") (Sign GreaterEquals) refl refl refl e
      two (inr e) = one (or_cases (taken s (Sign TwoGreater)) false e)
  longer s Ampersand h = one (or_cases (taken s (Sign TwoAmpersands)) false h)
    where
      one : ((taken s (Sign TwoAmpersands) ≡ true) ⊎ (false ≡ true)) → GoesOn s (Marked Ampersand)
      one (inl e) = with_end s (Marked Ampersand) (codes "& ") (Sign TwoAmpersands) refl refl refl e
      one (inr e) = cc
  longer s Bar h = one (or_cases (taken s (Sign TwoBars)) false h)
    where
      one : ((taken s (Sign TwoBars) ≡ true) ⊎ (false ≡ true)) → GoesOn s (Marked Bar)
      one (inl e) = with_end s (Marked Bar) (codes "| ") (Sign TwoBars) refl refl refl e
      one (inr e) = cc
  longer s m h = cc

  whole_kept : (t : Token) → ((names_kept ≡ true) → keeps short_names t ≡ true) → ((numbers_kept ≡ true) → keeps small_numbers t ≡ true) → keeps limits t ≡ true
  whole_kept (Identifier w) f g = kept_where names_kept (nat_le (length w) 64) f
  whole_kept (Number l n) f g = kept_where numbers_kept (is_place n) g
  whole_kept (Based x) f g = kept_where numbers_kept (is_literal x) g
  whole_kept Unused f g = refl
  whole_kept (Sign m) f g = refl

  pub goes_on : (s : State) (l : Lexer) → live_in limits s l ≡ true → GoesOn s l
  goes_on s (InGap Between) h = in_gap s (InGap Between) [] refl refl
  goes_on s (InGap Slash) h = in_gap s (InGap Slash) (codes "**/") refl refl
  goes_on s (InGap Line) h = in_gap s (InGap Line) (10 ∷ []) refl refl
  goes_on s (InGap Block) h = in_gap s (InGap Block) (codes "*/") refl refl
  goes_on s (InGap Star) h = in_gap s (InGap Star) (codes "/") refl refl
  goes_on s (InWord w) h = in_word s w (live_parts s (InWord w) h)
  goes_on s (InNumber long n) h = in_number s long n (live_parts s (InNumber long n) h)
  goes_on s (Quoted n) h = let p = live_parts s (Quoted n) h in with_end s (Quoted n) (codes "h0 ") (Based (record { width = n; value = 0 })) refl refl (kept_where numbers_kept (is_literal (record { width = n; value = 0 })) (λ k. zero_fits n (p.2 k))) (literal_of s (record { width = n; value = 0 }) p.0)
  goes_on s (Lettered n base) h = let p = live_parts s (Lettered n base) h in with_end s (Lettered n base) (codes "0 ") (Based (record { width = n; value = 0 })) (first_digit n base) refl (kept_where numbers_kept (is_literal (record { width = n; value = 0 })) (λ k. zero_fits n (p.2 k))) (literal_of s (record { width = n; value = 0 }) p.0)
  goes_on s (InDigits n base v) h = let p = live_parts s (InDigits n base v) h in with_end s (InDigits n base v) (32 ∷ []) (Based (record { width = n; value = v })) (no_digit n base v) refl (kept_where numbers_kept (is_literal (record { width = n; value = v })) p.2) (literal_of s (record { width = n; value = v }) p.0)
  goes_on s (Marked m) h = let p = live_parts s (Marked m) h in elim (or_cases (taken s (Sign m)) (some_taken s (longer_marks m)) p.0) [ inl e ↦ with_end s (Marked m) (32 ∷ []) (Sign m) (one_mark m) refl refl e | inr e ↦ longer s m e ]
  goes_on s (Whole t) h = let p = live_parts s (Whole t) h in with_end s (Whole t) (32 ∷ []) t refl refl (whole_kept t p.1 p.2) p.0

-- what is live goes on, and what goes on is live
pub decides : (names_kept numbers_kept : Bool) → Decides (live_in (limits names_kept numbers_kept)) unread (rest_in (limits names_kept numbers_kept))
decides a b = record {
  sound = λ s l h. let g = goes_on a b s l h in (g.0, g.1, g.2, g.3, g.4, (g.5, g.6));
  complete = λ s l x ts v u r. complete (limits a b) s l x ts v u r.0 r.1;
}
