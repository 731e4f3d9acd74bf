-- The readers of the parts of a line are right byte by byte, where what reads on behind them is.
use Rattle.bist_text.proofs.keyed.Common.{Bool, Class, Continues, Holds, List, None, Option, Read, Some, Word, [], all_fit, and_from, and_parts, ap, are_apart, are_bytes, arith, at_bool, back, behind_of, by_byte, by_letter, byte, byte_of, comment, comment_of, end_of, eq-eqb, eqb-true, false, front_of, gap, gap_of, gap_off, gap_on, if◌then◌else◌, inl, inr, is_blank, is_word, key_from, key_of, later, left, length, letters_of, many_none, nat_lt, no_letters, onward, refl, same, slice_get, space, space_off, space_on, spaced, spell, spell_alive, spell_ends, spell_law, stands, stuck, subst, suc, sym, tail, tail_blank, tail_other, took, true, when_false, when_holds, when_true, word, word_of, zero-le, ℕ, ◌++◌, ◌==◌, ◌↔◌, ◌∙◌, ◌∷◌, ◌≡◌, ◌≤◌, ◌⊎◌}
use Rattle.bist_text.proofs.Pieces.{also}
use Rattle.bist_text.specs.declared.keywords.Letters.{Letters}
use Rattle.bist_text.specs.declared.keywords.Spelled.{Spelled}
use Rattle.bist_text.specs.declared.keywords.Spelled.TheVariants.{More, Whole}
use Rattle.bist_text.specs.Keywords.{front_of as letters_in}
use Rattle.bist_text.proofs.Bytes.{are_bytes-append}
use Rattle.bist_text.proofs.keyed.Told.{Behind, Never, AtEnd, Told, told_alive, told_iff, told_from, end_iff}

-- a reader is right of each text of at most n bytes
abbrev pub Hears : {V : Type 0} → ℕ → (List ℕ → V → Type 0) → (List ℕ → Read V) → Type 0
Hears n G r = (b : List ℕ) → length b ≤ n → Told G b (r b)

pub fewer : {V : Type 0} (m n : ℕ) (G : List ℕ → V → Type 0) (r : List ℕ → Read V) → m ≤ n → Hears n G r → Hears m G r
fewer m n G r l h b i = h b (omega arith)

-- no text begins with a byte of the class
abbrev pub Shuns : {V : Type 0} → (ℕ → Bool) → (List ℕ → V → Type 0) → Type 0
Shuns {V} p G = (c : ℕ) (b : List ℕ) (v : V) → p c ≡ true → G (c ∷ b) v → ⊥

pub alive : {V : Type 0} (n : ℕ) (G : List ℕ → V → Type 0) (r : List ℕ → Read V) → Hears n G r → Continues G []
alive n G r h = told_alive G [] (r []) (h [] zero-le)

-- ---- blanks

abbrev pub Space : {V : Type 0} → (List ℕ → V → Type 0) → List ℕ → V → Type 0
Space G b v = space (λ x. G x v) b

abbrev pub Gap : {V : Type 0} → (List ℕ → V → Type 0) → List ℕ → V → Type 0
Gap G b v = gap (λ x. G x v) b

space_alive : {V : Type 0} (G : List ℕ → V → Type 0) → Continues G [] → Continues (Space G) []
space_alive G a = (a.0, a.1, a.2, many_none is_blank (λ x. G x a.1) a.0 a.3)

pub space_told : {V : Type 0} (n : ℕ) (G : List ℕ → V → Type 0) (r : List ℕ → Read V) → Shuns is_blank G → Hears n G r → Hears n (Space G) (λ b. r (spaced b))
space_told n G r f h [] l = let t = h [] zero-le in (space_alive G t.0, end_iff G (Space G) (r []) (λ v. same) t.1)
space_told n G r f h (c ∷ b) l =
    at_bool (λ t. Told (Space G) (c ∷ b) (r (if t then spaced b else c ∷ b))) (is_blank c)
    (λ e. (
      space_alive G (alive n G r h),
      inr (told_iff (Space G) (Behind c (Space G)) b (r (spaced b)) (λ x v. back (space_on (λ y. G y v) c x e (f c x v e))) (space_told n G r f h b (omega arith))),
    ))
    (λ e. told_from G (Space G) c b (r (c ∷ b)) (space_alive G (alive n G r h)) (λ x v. back (space_off (λ y. G y v) c x e)) (h (c ∷ b) l))

gap_alive : {V : Type 0} (G : List ℕ → V → Type 0) → Continues G [] → Continues (Gap G) []
gap_alive G a = (32 ∷ a.0, a.1, and_from true (are_bytes a.0) refl a.2, many_none is_blank (λ x. G x a.1) a.0 a.3)

pub gap_told : {V : Type 0} (n : ℕ) (G : List ℕ → V → Type 0) (r : List ℕ → Read V) → Shuns is_blank G → Hears n G r → Hears (suc n) (Gap G) (λ b. onward (gap_of b) (λ _ x. r x))
gap_told n G r f h [] l = (gap_alive G (alive n G r h), (refl, λ w k. k))
gap_told n G r f h (c ∷ b) l =
    at_bool (λ t. Told (Gap G) (c ∷ b) (onward (if t then took tt (spaced b) else stuck (c ∷ b)) (λ _ x. r x))) (is_blank c)
    (λ e. (gap_alive G (alive n G r h), inr (told_iff (Space G) (Behind c (Gap G)) b (r (spaced b)) (λ x v. back (gap_on (λ y. G y v) c x e)) (space_told n G r f h b (omega arith)))))
    (λ e. (gap_alive G (alive n G r h), inl (λ x v k. gap_off (λ y. G y v) c x e k, refl)))

-- ---- a byte

abbrev pub Byte : {V : Type 0} → ℕ → (List ℕ → V → Type 0) → List ℕ → V → Type 0
Byte d G b v = byte d (λ x. G x v) b

byte_alive : {V : Type 0} (d : ℕ) (G : List ℕ → V → Type 0) → nat_lt d 256 ≡ true → Continues G [] → Continues (Byte d G) []
byte_alive d G n a = (d ∷ a.0, a.1, and_from (nat_lt d 256) (are_bytes a.0) n a.2, (when_true (d == d) (G a.0 a.1) (eq-eqb d d refl)).1 a.3)

pub byte_told : {V : Type 0} (n d : ℕ) (G : List ℕ → V → Type 0) (r : List ℕ → Read V) → nat_lt d 256 ≡ true → Hears n G r → Hears (suc n) (Byte d G) (λ b. onward (byte_of d b) (λ _ x. r x))
byte_told n d G r s h [] l = (byte_alive d G s (alive n G r h), (refl, λ w k. k))
byte_told n d G r s h (c ∷ b) l =
    at_bool (λ t. Told (Byte d G) (c ∷ b) (onward (if t then took tt b else stuck (c ∷ b)) (λ _ x. r x))) (c == d)
    (λ e. (byte_alive d G s (alive n G r h), inr (told_iff G (Behind c (Byte d G)) b (r b) (λ x v. back (when_true (c == d) (G x v) e)) (h b (omega arith)))))
    (λ e. (byte_alive d G s (alive n G r h), inl (λ x v k. when_false (c == d) (G x v) e k, refl)))

-- ---- the end of a line

-- blanks and a comment, behind what says v
abbrev pub Ends : {V : Type 0} → V → List ℕ → V → Type 0
Ends v b w = (w ≡ v) × tail b

any_told : {V : Type 0} (v : V) (b : List ℕ) → Told (λ x w. w ≡ v) b (took v [])
any_told v [] = (([], v, refl, refl), (refl, λ w k. k))
any_told v (c ∷ b) = (([], v, refl, refl), inr (any_told v b))

comment_alive : {V : Type 0} (v : V) → Continues (λ x w. (w ≡ v) × comment x) []
comment_alive v = ([], v, refl, (refl, tt))

-- nothing or a comment
abbrev pub Remark : {V : Type 0} → V → List ℕ → V → Type 0
Remark v b w = (w ≡ v) × comment b

pub remark_told : {V : Type 0} (n : ℕ) (v : V) → Hears n (Remark v) (λ b. onward (comment_of b) (λ _ x. took v x))
remark_told n v [] l = (comment_alive v, ((refl, tt), λ w k. k.0))
remark_told {V} n v (c ∷ b) l =
    at_bool (λ t. Told (Remark v) (c ∷ b) (onward (if t then took tt [] else stuck (c ∷ b)) (λ _ x. took v x))) (c == 35)
    (λ f. (comment_alive v, inr (told_iff (λ x w. w ≡ v) (Behind c (Remark v)) b (took v []) (λ x w. (λ k. (k, (when_true (c == 35) (Unit {0}) f).1 tt), λ k. k.0)) (any_told v b))))
    (λ f. (comment_alive v, inl (λ x w k. when_false (c == 35) (Unit {0}) f k.1, refl)))

ends_alive : {V : Type 0} (v : V) → Continues (Ends v) []
ends_alive v = ([], v, refl, (refl, tt))

pub ends_told : {V : Type 0} (n : ℕ) (v : V) → Hears n (Ends v) (λ b. onward (end_of b) (λ _ x. took v x))
ends_told n v [] l = (ends_alive v, ((refl, tt), λ w k. k.0))
ends_told {V} n v (c ∷ b) l =
    at_bool (λ t. Told (Ends v) (c ∷ b) (onward (comment_of (if t then spaced b else c ∷ b)) (λ _ x. took v x))) (is_blank c)
    (λ e. (ends_alive v, inr (told_iff (Ends v) (Behind c (Ends v)) b (onward (end_of b) (λ _ x. took v x)) (λ x w. on c x w e) (ends_told n v b (omega arith)))))
    (λ e. told_from (Remark v) (Ends v) c b (onward (comment_of (c ∷ b)) (λ _ x. took v x)) (ends_alive v)
    (λ x w. (let t = tail_other c x e in (λ k. (k.0, t.1 k.1), λ k. (k.0, t.0 k.1)))) (remark_told n v (c ∷ b) l))
  where
    on : (c : ℕ) (x : List ℕ) (w : V) → is_blank c ≡ true → Ends v x w ↔ Ends v (c ∷ x) w
    on c x w e = (let t = tail_blank c x e in (λ k. (k.0, t.1 k.1), λ k. (k.0, t.0 k.1)))

-- ---- words

-- any number of bytes that fit, and what follows such a word
abbrev pub Front : {V : Type 0} → Class → (List ℕ → List ℕ → V → Type 0) → List ℕ → V → Type 0
Front fits G b v = (w : List ℕ) × (all_fit fits w ≡ true) × word w (λ x. G w x v) b

abbrev pub Words : {V : Type 0} → Class → (List ℕ → List ℕ → V → Type 0) → List ℕ → V → Type 0
Words fits G b v = (w : List ℕ) × (is_word fits w ≡ true) × word w (λ x. G w x v) b

-- what follows a word doesn't begin as a word goes on
abbrev pub Parted : {V : Type 0} → Class → (List ℕ → List ℕ → V → Type 0) → Type 0
Parted {V} fits G = (n c : ℕ) (w b : List ℕ) (v : V) → fits n c ≡ true → G w (c ∷ b) v → ⊥

front_alive : {V : Type 0} (fits : Class) (G : List ℕ → List ℕ → V → Type 0) → Continues (G []) [] → Continues (Front fits G) []
front_alive fits G a = (a.0, a.1, a.2, ([], refl, a.3))

front_on : {V : Type 0} (fits : Class) (G : List ℕ → List ℕ → V → Type 0) (c : ℕ) (x : List ℕ) (v : V) → (G [] (c ∷ x) v → ⊥) → fits 0 c ≡ true
    → Front (later fits) (λ w. G (c ∷ w)) x v ↔ Front fits G (c ∷ x) v
front_on {V} fits G c x v f e = (
  λ h. (c ∷ h.0, and_from (fits 0 c) (all_fit (later fits) h.0) e h.1, (when_true (c == c) (word h.0 (λ y. G (c ∷ h.0) y v) x) (eq-eqb c c refl)).1 h.2),
  λ h. to h.0 h.1 h.2,
)
  where
    to : (w : List ℕ) → all_fit fits w ≡ true → word w (λ y. G w y v) (c ∷ x) → Front (later fits) (λ w. G (c ∷ w)) x v
    to [] a k = absurd (f k)
    to (d ∷ w) a k =
        let q = when_holds (c == d) (word w (λ y. G (d ∷ w) y v) x) k in
        (w, (and_parts (fits 0 d) (all_fit (later fits) w) a).1, subst (λ (d : ℕ). word w (λ y. G (d ∷ w) y v) x) (sym (eqb-true c d q.0)) q.1)

front_off : {V : Type 0} (fits : Class) (G : List ℕ → List ℕ → V → Type 0) (c : ℕ) (x : List ℕ) (v : V) → fits 0 c ≡ false → G [] (c ∷ x) v ↔ Front fits G (c ∷ x) v
front_off {V} fits G c x v e = (λ h. ([], refl, h), λ h. to h.0 h.1 h.2)
  where
    to : (w : List ℕ) → all_fit fits w ≡ true → word w (λ y. G w y v) (c ∷ x) → G [] (c ∷ x) v
    to [] a k = k
    to (d ∷ w) a k =
        let q = when_holds (c == d) (word w (λ y. G (d ∷ w) y v) x) k in
        let i : fits 0 c ≡ true = ap (fits 0) (eqb-true c d q.0) ∙ (and_parts (fits 0 d) (all_fit (later fits) w) a).0 in
        (let z : ⊥ = cc in absurd z)

front_end : {V : Type 0} (fits : Class) (G : List ℕ → List ℕ → V → Type 0) (v : V) → G [] [] v ↔ Front fits G [] v
front_end {V} fits G v = (λ h. ([], refl, h), λ h. to h.0 h.2)
  where
    to : (w : List ℕ) → word w (λ y. G w y v) [] → G [] [] v
    to [] k = k
    to (d ∷ w) k = absurd k

pub front_told : {V : Type 0} (n : ℕ) (fits : Class) (G : List ℕ → List ℕ → V → Type 0) (r : List ℕ → List ℕ → Read V) → Parted fits G
    → ((w : List ℕ) → all_fit fits w ≡ true → Hears n (G w) (r w)) → Hears n (Front fits G) (λ b. r (front_of fits b) (behind_of fits b))
front_told n fits G r f h [] l = let t = h [] refl [] zero-le in (front_alive fits G t.0, end_iff (G []) (Front fits G) (r [] []) (λ v. front_end fits G v) t.1)
front_told n fits G r f h (c ∷ b) l =
    at_bool (λ t. Told (Front fits G) (c ∷ b) (r (if t then c ∷ front_of (later fits) b else []) (if t then behind_of (later fits) b else c ∷ b))) (fits 0 c)
    (λ e. (
      front_alive fits G (alive n (G []) (r []) (h [] refl)),
      inr (told_iff (Front (later fits) (λ w. G (c ∷ w))) (Behind c (Front fits G)) b (r (c ∷ front_of (later fits) b) (behind_of (later fits) b))
          (λ x v. front_on fits G c x v (f 0 c [] x v e) e)
          (front_told n (later fits) (λ w. G (c ∷ w)) (λ w. r (c ∷ w)) (λ m d w y v i k. f (suc m) d (c ∷ w) y v i k) (λ w a. h (c ∷ w) (and_from (fits 0 c) (all_fit (later fits) w) e a)) b (omega arith))),
    ))
    (λ e. told_from (G []) (Front fits G) c b (r [] (c ∷ b)) (front_alive fits G (alive n (G []) (r []) (h [] refl))) (λ x v. front_off fits G c x v e) (h [] refl (c ∷ b) l))

-- a byte that begins a word
pub record Begun (fits : Class) : Type 0 where
  pub first : ℕ
  pub fitting : fits 0 first ≡ true
  pub small : nat_lt first 256 ≡ true

word_alive : {V : Type 0} (fits : Class) (G : List ℕ → List ℕ → V → Type 0) (s : Begun fits) → Continues (G (s.first ∷ [])) [] → Continues (Words fits G) []
word_alive fits G s a = (
  s.first ∷ a.0,
  a.1,
  and_from (nat_lt s.first 256) (are_bytes a.0) s.small a.2,
  (s.first ∷ [], and_from (fits 0 s.first) true s.fitting refl, (when_true (s.first == s.first) (G (s.first ∷ []) a.0 a.1) (eq-eqb s.first s.first refl)).1 a.3),
)

-- what follows a word of some bytes
abbrev Later : {V : Type 0} → (List ℕ → List ℕ → V → Type 0) → List ℕ → List ℕ → V → Type 0
Later G [] x v = ⊥
Later G (c ∷ w) x v = G (c ∷ w) x v

words_front : {V : Type 0} (fits : Class) (G : List ℕ → List ℕ → V → Type 0) (x : List ℕ) (v : V) → Front fits (Later G) x v ↔ Words fits G x v
words_front {V} fits G x v = (λ h. from h.0 h.1 h.2, λ h. to h.0 h.1 h.2)
  where
    from : (w : List ℕ) → all_fit fits w ≡ true → word w (λ y. Later G w y v) x → Words fits G x v
    from [] a k = absurd k
    from (c ∷ w) a k = (c ∷ w, a, k)

    to : (w : List ℕ) → is_word fits w ≡ true → word w (λ y. G w y v) x → Front fits (Later G) x v
    to [] a k = (let z : ⊥ = cc in absurd z)
    to (c ∷ w) a k = (c ∷ w, a, k)

word_on : {V : Type 0} (fits : Class) (G : List ℕ → List ℕ → V → Type 0) (c : ℕ) (x : List ℕ) (v : V) → fits 0 c ≡ true → Front (later fits) (λ w. G (c ∷ w)) x v ↔ Words fits G (c ∷ x) v
word_on fits G c x v e = also (front_on fits (Later G) c x v (λ h. h) e) (words_front fits G (c ∷ x) v)

pub word_never : {V : Type 0} (fits : Class) (G : List ℕ → List ℕ → V → Type 0) (c : ℕ) → fits 0 c ≡ false → Never c (Words fits G)
word_never fits G c e x v h = (front_off fits (Later G) c x v e).1 ((words_front fits G (c ∷ x) v).1 h)

pub word_none : {V : Type 0} (fits : Class) (G : List ℕ → List ℕ → V → Type 0) (v : V) → Words fits G [] v → ⊥
word_none fits G v h = (front_end fits (Later G) v).1 ((words_front fits G [] v).1 h)

pub word_told : {V : Type 0} (n : ℕ) (fits : Class) (G : List ℕ → List ℕ → V → Type 0) (r : List ℕ → List ℕ → Read V) → Begun fits → Parted (later fits) G
    → ((w : List ℕ) → is_word fits w ≡ true → Hears n (G w) (r w)) → Hears (suc n) (Words fits G) (λ b. onward (word_of fits b) r)
word_told {V} n fits G r s f h b l = go b l
  where
    lives : Continues (Words fits G) []
    lives = word_alive fits G s (alive n (G (s.first ∷ [])) (r (s.first ∷ [])) (h (s.first ∷ []) (and_from (fits 0 s.first) true s.fitting refl)))

    go : (b : List ℕ) → length b ≤ suc n → Told (Words fits G) b (onward (word_of fits b) r)
    go [] l = (lives, (refl, λ w k. word_none fits G w k))
    go (c ∷ b) l =
        at_bool (λ t. Told (Words fits G) (c ∷ b) (onward (if t then took (c ∷ front_of (later fits) b) (behind_of (later fits) b) else stuck (c ∷ b)) r)) (fits 0 c)
        (λ e. (
          lives,
          inr (told_iff (Front (later fits) (λ w. G (c ∷ w))) (Behind c (Words fits G)) b (r (c ∷ front_of (later fits) b) (behind_of (later fits) b))
              (λ x v. word_on fits G c x v e)
              (front_told n (later fits) (λ w. G (c ∷ w)) (λ w. r (c ∷ w)) (λ m d w y v i k. f m d (c ∷ w) y v i k) (λ w a. h (c ∷ w) (and_from (fits 0 c) (all_fit (later fits) w) e a)) b (omega arith))),
        ))
        (λ e. (lives, inl (word_never fits G c e, refl)))

-- ---- by the next byte

abbrev pub Either : {V : Type 0} → (List ℕ → V → Type 0) → (List ℕ → V → Type 0) → List ℕ → V → Type 0
Either G H b v = G b v ⊎ H b v

-- one of two, of which the first begins with a byte of a class, and the second with none
pub either_told : {V : Type 0} (n : ℕ) (p : ℕ → Bool) (G H : List ℕ → V → Type 0) (r s : List ℕ → Read V) (o : Read V)
    → ((c : ℕ) → p c ≡ false → Never c G) → ((c : ℕ) → p c ≡ true → Never c H) → AtEnd (Either G H) o → Hears n G r → Hears n H s → Hears n (Either G H) (by_byte p r s o)
either_told {V} n p G H r s o f g e h k b l = go b l
  where
    lives : Continues (Either G H) []
    lives = let a = alive n G r h in (a.0, a.1, a.2, inl a.3)

    go : (b : List ℕ) → length b ≤ n → Told (Either G H) b (by_byte p r s o b)
    go [] l = (lives, e)
    go (c ∷ b) l =
        at_bool (λ t. Told (Either G H) (c ∷ b) (if t then r (c ∷ b) else s (c ∷ b))) (p c)
        (λ e. told_from G (Either G H) c b (r (c ∷ b)) lives (λ x v. (inl, elim [ inl y ↦ y | inr y ↦ absurd (g c e x v y) ])) (h (c ∷ b) l))
        (λ e. told_from H (Either G H) c b (s (c ∷ b)) lives (λ x v. (inr, elim [ inl y ↦ absurd (f c e x v y) | inr y ↦ y ])) (k (c ∷ b) l))

-- ---- words of a table

-- what follows a word of a table, of which these letters are read
abbrev pub Keys : {N V : Type 0} → List (Word N) → List ℕ → (N → List ℕ → V → Type 0) → List ℕ → V → Type 0
Keys {N} ws ls G b v = (n : N) × stands ws n (λ x. G n x v) (ls ++ b)

nothing : (t : Bool) → ◌≡◌ {A = List ℕ} (if t then [] else []) []
nothing true = refl
nothing false = refl

module _ {N V : Type 0} (n : ℕ) (ws : List (Word N)) (fine : are_apart ws ≡ true) (u : Word N) (first : slice_get ws 0 ≡ Some u) (G : N → List ℕ → V → Type 0) (r : N → List ℕ → Read V)
    (h : (k : N) → Hears n (G k) (r k)) where
  -- one more letter
  by_law : (ls : List ℕ) (s : Option (Spelled N)) (c : ℕ) (b : List ℕ) → length b ≤ n → Continues (Keys ws ls G) []
      → ((n : N) (K : List ℕ → Type 0) (x : List ℕ) → stands ws n K (ls ++ c ∷ x) ↔ Holds s (λ q. left ws q n K x))
      → ((q : Letters) → Told (Keys ws (letters_of ws q) G) b (onward (key_from ws q b) r)) → Told (Keys ws ls G) (c ∷ b) (onward (by_letter s c b (λ q. key_from ws q b)) r)
  by_law ls None c b l a law more = (a, inl (λ x v k. (law k.0 (λ y. G k.0 y v) x).0 k.1, refl))
  by_law ls (Some (More q)) c b l a law more = (
    a,
    inr (told_iff (Keys ws (letters_of ws q) G) (Behind c (Keys ws ls G)) b (onward (key_from ws q b) r)
        (λ x v. (λ k. (k.0, (law k.0 (λ y. G k.0 y v) x).1 k.1), λ k. (k.0, (law k.0 (λ y. G k.0 y v) x).0 k.1))) (more q)),
  )
  by_law ls (Some (Whole m)) c b l a law more = (
    a,
    inr (told_iff (G m) (Behind c (Keys ws ls G)) b (r m b)
        (λ x v. (λ k. (m, (law m (λ y. G m y v) x).1 (refl, k)), λ k. (let z = (law k.0 (λ y. G k.0 y v) x).0 k.1 in subst (λ (n : N). G n x v) z.0 z.1))) (h m b l)),
  )

  lives : (q : Letters) → Continues (Keys ws (letters_of ws q) G) []
  lives q =
      let g : (k : N) → Continues (G k) [] = λ k. alive n (G k) (r k) (h k) in
      let a = spell_alive ws fine u first (λ n x. G n x (g n).1) (λ n. (g n).0) (λ n. (g n).3) q in
      (a.1 ++ (g a.0).0, (g a.0).1, are_bytes-append a.1 (g a.0).0 a.2 (g a.0).2, (a.0, a.3))

  from_told : (b : List ℕ) (q : Letters) → length b ≤ suc n → Told (Keys ws (letters_of ws q) G) b (onward (key_from ws q b) r)
  from_told [] q l = (lives q, (refl, λ v k. spell_ends ws fine q k.0 (λ y. G k.0 y v) k.1))
  from_told (c ∷ b) q l = by_law (letters_of ws q) (spell ws q c) c b (omega arith) (lives q) (λ m K x. spell_law ws fine q m K c x) (λ p. from_told b p (omega arith))

  nothing_read : letters_of ws no_letters ≡ []
  nothing_read = ap (λ o. letters_in o 0) first ∙ nothing (nat_lt 0 (length u.text))

  pub key_told : Hears (suc n) (Keys ws [] G) (λ b. onward (key_of ws b) r)
  key_told b l = subst (λ ls. Told (Keys ws ls G) b (onward (key_of ws b) r)) nothing_read (from_told b no_letters l)
