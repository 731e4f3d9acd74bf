-- The pieces of a text: bytes that are tokens within the limits, of which a set of lists of tokens holds.
use Rattle.std.proofs.Common.{◌≡◌, ℕ, zero, suc, ◌+◌, ◌-◌, ◌==◌, ◌&&◌, not, nat_lt, nat_le, length, Bool, true, false, List, [], ◌∷◌, ◌++◌, Some, None, refl, inl, inr, subst, sym, append_assoc, append-nil, if◌then◌else◌, arith}
use Rattle.std.specs.List.{list_all}
use Rattle.std.specs.Str.{bytes_eq}
use Rattle.std.proofs.lemmas.Bool.{lt-ltb}
use Rattle.std.proofs.lemmas.Bool.Decides.{nat_tests}
use Rattle.std.proofs.lemmas.Slice.Eq.{bytes_eq-Decides}
use Rattle.bist_text.specs.Grammar.{when}
use Rattle.bist_text.specs.Machine.{Holds}
use Rattle.bist_text.specs.ReservedWords.{is_among, reserved_words}
use Rattle.verilog_tree.specs.declared.tokens.Mark.{Mark}
use Rattle.verilog_tree.specs.declared.tokens.Mark.TheVariants.{LessEquals, TwoEquals, BangEquals, GreaterEquals, TwoAmpersands, TwoBars, TwoLess, TwoGreater}
use Rattle.verilog_tree.specs.Grammar.{sign, keyword, name, inside}
use Rattle.verilog_tree.specs.Spells.{all_limits, all_keep, bounded}
use Rattle.verilog_tree.specs.Tokens.{Token, Identifier, Sign, run, whether, Start, AWord, start_of, begun, mark_text, Growth, Longer, Spoiled, Complete, growth, grown, behind_mark, Lexed}
use Rattle.bist_text.specs.Identifiers.{begins_identifier, in_identifier, is_identifier}
use Rattle.verilog_tree.specs.Words.{is_name}
use Rattle.verilog_emit.specs.Printed.{margin}
use Rattle.verilog_emit.specs.Written.{is_text_byte}

-- the bytes are those of a text and tokens within the limits, and K holds of the tokens
pub record Spelt (K : List Token → Type 0) (b : List ℕ) : Type 0 where
  pub tokens : List Token
  pub lexed : Lexed tokens b
  pub kept : all_keep all_limits tokens ≡ true
  pub bare : list_all is_text_byte b ≡ true
  pub meant : K tokens

pub both : (a b : Bool) → (a && b) ≡ true → (a ≡ true) × (b ≡ true)
both true b h = (refl, h)
both false b h = cc

-- the same bytes, grouped otherwise
pub grouped : (K : List Token → Type 0) (a b : List ℕ) → a ≡ b → Spelt K b → Spelt K a
grouped K a b e h = subst (λ (x : List ℕ). Spelt K x) (sym e) h

-- ---- white space

pub blank : (K : List Token → Type 0) (r : List ℕ) → Spelt K r → Spelt K (32 ∷ r)
blank K r h = record { tokens = h.tokens; lexed = inr (inl h.lexed); kept = h.kept; bare = h.bare; meant = h.meant }

pub line_feed : (K : List Token → Type 0) (r : List ℕ) → Spelt K r → Spelt K (10 ∷ r)
line_feed K r h = record { tokens = h.tokens; lexed = inr (inl h.lexed); kept = h.kept; bare = h.bare; meant = h.meant }

pub margined : (depth : ℕ) (K : List Token → Type 0) (r : List ℕ) → Spelt K r → Spelt K (margin depth ++ r)
margined zero K r h = h
margined (suc depth) K r h = grouped K (margin (suc depth) ++ r) (margin depth ++ (32 ∷ 32 ∷ r)) (append_assoc (margin depth) (32 ∷ 32 ∷ []) r) (margined depth K (32 ∷ 32 ∷ r) (blank K (32 ∷ r) (blank K r h)))

-- ---- marks

abbrev is_complete : Growth → Bool
is_complete Complete = true
is_complete (Longer k) = false
is_complete Spoiled = false

-- no byte follows that makes another token of the mark
abbrev pub is_alone : Mark → List ℕ → Bool
is_alone m [] = true
is_alone m (c ∷ r) = is_complete (growth m c)

-- and no byte does so of most marks
pub plain_alone : (m : Mark) (r : List ℕ) → ((c : ℕ) → growth m c ≡ Complete) → is_alone m r ≡ true
plain_alone m [] e = refl
plain_alone m (c ∷ r) e = subst (λ g. is_complete g ≡ true) (sym (e c)) refl

mark_on : (m : Mark) (K : List ℕ → Type 0) (r : List ℕ) → is_alone m r ≡ true → K r → behind_mark m (Sign m) K r
mark_on m K [] a h = (refl, h)
mark_on m K (c ∷ r) a h = go (growth m c) refl
  where
    go : (g : Growth) → growth m c ≡ g → grown g (λ k. behind_mark k (Sign m) K r) m (Sign m) K c r
    go Complete e = (refl, h)
    go (Longer k) e = let f : false ≡ true = subst (λ g. is_complete g ≡ true) e a in cc
    go Spoiled e = let f : false ≡ true = subst (λ g. is_complete g ≡ true) e a in cc

lexed_mark : (m : Mark) (us : List Token) (r : List ℕ) → is_alone m r ≡ true → Lexed us r → Lexed (Sign m ∷ us) (mark_text m ++ r)
lexed_mark LessEquals us r a h = inl (mark_on LessEquals (Lexed us) r a h)
lexed_mark TwoEquals us r a h = inl (mark_on TwoEquals (Lexed us) r a h)
lexed_mark BangEquals us r a h = inl (mark_on BangEquals (Lexed us) r a h)
lexed_mark GreaterEquals us r a h = inl (mark_on GreaterEquals (Lexed us) r a h)
lexed_mark TwoAmpersands us r a h = inl (mark_on TwoAmpersands (Lexed us) r a h)
lexed_mark TwoBars us r a h = inl (mark_on TwoBars (Lexed us) r a h)
lexed_mark TwoLess us r a h = inl (mark_on TwoLess (Lexed us) r a h)
lexed_mark TwoGreater us r a h = inl (mark_on TwoGreater (Lexed us) r a h)
lexed_mark m us r a h = inl (mark_on m (Lexed us) r a h)

same_bytes : (w : List ℕ) → bytes_eq w w ≡ true
same_bytes w = (bytes_eq-Decides w w).1 refl

mark_bare : (m : Mark) (r : List ℕ) → list_all is_text_byte r ≡ true → list_all is_text_byte (mark_text m ++ r) ≡ true
mark_bare LessEquals r h = h
mark_bare m r h = h

pub mark : (m : Mark) (K : List Token → Type 0) (r : List ℕ) → is_alone m r ≡ true → Spelt K r → Spelt (sign m K) (mark_text m ++ r)
mark m K r a h = record { tokens = Sign m ∷ h.tokens; lexed = lexed_mark m h.tokens r a h.lexed; kept = h.kept; bare = mark_bare m r h.bare; meant = subst (λ t. when t (K h.tokens)) (sym (same_bytes (mark_text m))) h.meant }

-- ---- words

-- nothing, or a byte that lengthens no word, number or literal
abbrev pub is_apart : List ℕ → Bool
is_apart [] = true
is_apart (c ∷ r) = not (in_identifier c) && not (c == 39) && not (c == 63)

pub refused : (t : Bool) → not t ≡ true → t ≡ false
refused false e = refl
refused true e = cc

pub no_letter : (c : ℕ) (r : List ℕ) → is_apart (c ∷ r) ≡ true → in_identifier c ≡ false
no_letter c r p = refused (in_identifier c) (both (not (in_identifier c)) (not (c == 39)) (both (not (in_identifier c) && not (c == 39)) (not (c == 63)) p).0).0

run_on : (w v : List ℕ) (K : List ℕ → List ℕ → Type 0) (r : List ℕ) → list_all in_identifier w ≡ true → is_apart r ≡ true → K (v ++ w) r → run in_identifier v K (w ++ r)
run_on [] v K [] a p h = subst (λ (x : List ℕ). K x []) (append-nil v) h
run_on [] v K (c ∷ r) a p h = let z : in_identifier c ≡ false = no_letter c r p in rw z (subst (λ (x : List ℕ). K x (c ∷ r)) (append-nil v) h)
run_on (c ∷ w) v K r a p h = let q : (in_identifier c ≡ true) × (list_all in_identifier w ≡ true) = both (in_identifier c) (list_all in_identifier w) a in subst (λ t. whether t (run in_identifier (v ++ (c ∷ [])) K (w ++ r)) (K v (c ∷ (w ++ r)))) (sym q.0) (run_on w (v ++ (c ∷ [])) K r q.1 p (subst (λ (x : List ℕ). K x r) (sym (append_assoc v (c ∷ []) w)) h))

word_start : (c : ℕ) → begins_identifier c ≡ true → start_of c ≡ AWord
word_start c e = rw e refl

lexed_word : (w : List ℕ) (us : List Token) (r : List ℕ) → is_identifier w ≡ true → is_apart r ≡ true → Lexed us r → Lexed (Identifier w ∷ us) (w ++ r)
lexed_word [] us r i p h = cc
lexed_word (c ∷ w) us r i p h = let q : (begins_identifier c ≡ true) × (list_all in_identifier w ≡ true) = both (begins_identifier c) (list_all in_identifier w) i in inl (subst (λ (s : Start). begun s c (Identifier (c ∷ w)) (Lexed us) (w ++ r)) (sym (word_start c q.0)) (run_on w (c ∷ []) (λ v b. (v ≡ c ∷ w) × Lexed us b) r q.1 p (refl, h)))

bare_in_words : (c : ℕ) → in_identifier c ≡ true → is_text_byte c ≡ true
bare_in_words c e = grind (arith, nat_tests)

rest_bare : (w r : List ℕ) → list_all in_identifier w ≡ true → list_all is_text_byte r ≡ true → list_all is_text_byte (w ++ r) ≡ true
rest_bare [] r a h = h
rest_bare (c ∷ w) r a h = let q = both (in_identifier c) (list_all in_identifier w) a in rw (bare_in_words c q.0) (rest_bare w r q.1 h)

word_bare : (w r : List ℕ) → is_identifier w ≡ true → list_all is_text_byte r ≡ true → list_all is_text_byte (w ++ r) ≡ true
word_bare [] r i h = cc
word_bare (c ∷ w) r i h = let q = both (begins_identifier c) (list_all in_identifier w) i in rw (bare_in_words c (rw q.0 refl)) (rest_bare w r q.1 h)

-- a reserved word: none has more than 64 bytes
pub reserved : (w : List ℕ) (K : List Token → Type 0) (r : List ℕ) → (is_identifier w && nat_le (length w) 64) ≡ true → is_apart r ≡ true → Spelt K r → Spelt (keyword w K) (w ++ r)
reserved w K r i p h = let q : (is_identifier w ≡ true) × (nat_le (length w) 64 ≡ true) = both (is_identifier w) (nat_le (length w) 64) i in record {
  tokens = Identifier w ∷ h.tokens;
  lexed = lexed_word w h.tokens r q.0 p h.lexed;
  kept = rw q.1 h.kept;
  bare = word_bare w r q.0 h.bare;
  meant = subst (λ t. when t (K h.tokens)) (sym (same_bytes w)) h.meant;
}

pub name_is : (n : List ℕ) → is_name n ≡ true → is_identifier n ≡ true
name_is n e = (both (is_identifier n) (not (is_among n reserved_words)) (both (is_identifier n && not (is_among n reserved_words)) (nat_le (length n) 64) e).0).0

-- a name
pub named : (n : List ℕ) (K : List Token → Type 0) (r : List ℕ) → is_name n ≡ true → is_apart r ≡ true → Spelt K r → Spelt (name n K) (n ++ r)
named n K r i p h =
    let q : ((is_identifier n && not (is_among n reserved_words)) ≡ true) × (nat_le (length n) 64 ≡ true) = both (is_identifier n && not (is_among n reserved_words)) (nat_le (length n) 64) i in
    let s : (is_identifier n ≡ true) × (not (is_among n reserved_words) ≡ true) = both (is_identifier n) (not (is_among n reserved_words)) q.0 in record {
      tokens = Identifier n ∷ h.tokens;
      lexed = lexed_word n h.tokens r s.0 p h.lexed;
      kept = rw q.1 h.kept;
      bare = word_bare n r s.0 h.bare;
      meant = (refl, refused (is_among n reserved_words) s.1, h.meant);
    }

-- ---- openings

pub sum_inside : (d k : ℕ) → d + k ≡ 64 → nat_lt 0 k ≡ true → d + 1 + (k - 1) ≡ 64
sum_inside d zero e h = cc
sum_inside d (suc k) e h = omega arith

-- inside of an opening that has d open round it, where j more may be open
pub opened : (d j : ℕ) (K : ℕ → List Token → Type 0) (r : List ℕ) → d + 1 + j ≡ 64 → Spelt (K (d + 1)) r → Spelt (inside bounded d K) r
opened d j K r e h = record {
  tokens = h.tokens;
  lexed = h.lexed;
  kept = h.kept;
  bare = h.bare;
  meant = let below : nat_lt d 64 ≡ true = lt-ltb d 64 (omega arith) in subst (λ t. Holds (if t then Some (d + 1) else None) (λ f. K f h.tokens)) (sym below) h.meant;
}
