-- The words of a list are taken as the grammar says.
use Rattle.memory_desc.proofs.Common.{choice_shortens, Behind, Continues, IsNext, List, None, Read, Remark, Shortens, Some, Told, [], ap, arith, at_bool, by_item, digits_value, fits_of, gap_off, gap_on, hex_word_of, if◌then◌else◌, inl, inr, is_blank, is_hex, length, longer, more_words, next_word_of, no_item, one_item, onward, refl, remark_of, remark_told, run_is, same, space, spaced, spaced_shorter, spaced_word_of, stuck, subst, suc, sym, tail, tail_blank, tail_other, told_from, told_iff, took, true, word_of, word_shortens, ℕ, ◌&&◌, ◌∷◌, ◌≡◌}
use Rattle.bist_text.specs.declared.keyed_lines.WordKind.TheVariants.{Word as HexWord}
use Rattle.bist_text.proofs.Carried.{Said}
use Rattle.bist_text.proofs.LineStops.{gap_stops, tail_stops}
use Rattle.bist_text.proofs.keyed.Listed.{Begins, IsItem, by_first, choice_told}
use Rattle.bist_text.proofs.keyed.PartLaws.{Either, Ends, Hears, word_never, word_none}
use Rattle.bist_text.proofs.keyed.Taken.{Takes, hex_digits, value_taken}
use Rattle.memory_desc.specs.LineText.{hex_word, is_word}
use Rattle.bist_text.specs.keyed.Parts.{hex_number_of}

pub hex_taken : {A V : Type 0} {n : ℕ} {f : ℕ → A → V} {T : ℕ → A → List ℕ → Type 0} {r : ℕ → List ℕ → Read V} → ((w : ℕ) → Takes n is_hex (f w) (T w) (r w))
    → Takes n is_blank (λ (q : ℕ × A). f q.0 q.1) (λ q. hex_word q.0 (T q.0 q.1)) (λ b. onward (hex_number_of b) r)
hex_taken t = value_taken 16 is_word hex_digits (run_is is_hex 16) t

pub hex_begins : {A : Type 0} (T : ℕ → A → List ℕ → Type 0) → Begins is_hex (λ (q : ℕ × A). hex_word q.0 (T q.0 q.1))
hex_begins T = record {
  only = λ q c b e h. word_never (fits_of HexWord) (λ w y (_ : Unit {0}). T q.0 q.1 y) c (ap (λ t. t && true) e) b tt (h.0, (run_is is_hex 16 h.0).1 h.1, h.3);
  some = λ q h. word_none (fits_of HexWord) (λ w y (_ : Unit {0}). T q.0 q.1 y) tt (h.0, (run_is is_hex 16 h.0).1 h.1, h.3);
  hash_no = refl;
}

-- ---- further words

pub word_item : IsItem is_hex (λ ws. more_words ws tail) next_word_of
word_item = record { ends = λ b. same; some = λ w ws h. h; shuns = shuns; step = step }
  where
    shuns : (ws : List ℕ) (c : ℕ) (b : List ℕ) → is_hex c ≡ true → more_words ws tail (c ∷ b) → ⊥
    shuns [] = tail_stops is_hex hex_digits.plain
    shuns (w ∷ ws) = gap_stops is_hex (hex_word w (more_words ws tail)) hex_digits.plain

    Next : {V : Type 0} → (List ℕ → V) → List ℕ → V → Type 0
    Next f = Either (Said (λ (q : ℕ × List ℕ). f (q.0 ∷ q.1)) (λ q. more_words (q.0 ∷ q.1) tail)) (Ends (f []))

    alive : {V : Type 0} (f : List ℕ → V) → Continues (Next f) []
    alive f = ([], f [], refl, inr (refl, tt))

    step : {V : Type 0} (n : ℕ) (f : List ℕ → V) (k : ℕ → List ℕ → Read V) → ((w : ℕ) → Takes n is_hex (λ ws. f (w ∷ ws)) (λ ws. more_words ws tail) (k w))
        → Hears (suc n) (Next f) (λ b. onward (next_word_of b) (λ o x. by_item o (took (f []) x) (λ w. k w x)))
    step n f k t [] l = (alive f, (inr (refl, tt), λ v h. elim h [ inl a ↦ absurd a.2 | inr a ↦ a.0 ]))
    step {V} n f k t (c ∷ b) l =
        at_bool (λ t. is_blank c ≡ t → Told (Next f) (c ∷ b) (onward (if t then spaced_word_of (if t then spaced b else c ∷ b) else remark_of None (c ∷ b)) (λ o x. by_item o (took (f []) x) (λ w. k w x)))) (is_blank c)
        (λ e _. (
          alive f,
          inr (told_iff (Either (Said (λ (q : ℕ × List ℕ). f (q.0 ∷ q.1)) (λ q. space (hex_word q.0 (more_words q.1 tail)))) (Ends (f []))) (Behind c (Next f)) b (onward (spaced_word_of (spaced b)) (λ o x. by_item o (took (f []) x) (λ w. k w x)))
              (λ x v. (
                elim [ inl h ↦ inl (h.0, h.1, (gap_on (hex_word h.0.0 (more_words h.0.1 tail)) c x e).1 h.2) | inr h ↦ inr (h.0, (tail_blank c x e).1 h.1) ],
                elim [ inl h ↦ inl (h.0, h.1, (gap_on (hex_word h.0.0 (more_words h.0.1 tail)) c x e).0 h.2) | inr h ↦ inr (h.0, (tail_blank c x e).0 h.1) ],
              ))
              (subst (Told (Either (Said (λ (q : ℕ × List ℕ). f (q.0 ∷ q.1)) (λ q. space (hex_word q.0 (more_words q.1 tail)))) (Ends (f []))) b)
              (sym (by_first is_hex hex_word_of (λ x. onward (hex_number_of x) k) (f []) k (spaced b) (λ y. one_item (hex_number_of y) (f []) k)))
              (choice_told (f []) (hex_begins (λ w ws. more_words ws tail)) (hex_taken t) b (omega arith)))),
        ))
        (λ e _. told_from (Remark (f [])) (Next f) c b (onward (remark_of None (c ∷ b)) (λ o x. by_item o (took (f []) x) (λ w. k w x))) (alive f)
        (λ x v. (
          λ h. inr (h.0, (tail_other c x e).1 h.1),
          elim [ inl h ↦ absurd (gap_off (hex_word h.0.0 (more_words h.0.1 tail)) c x e h.2) | inr h ↦ (h.0, (tail_other c x e).0 h.1) ],
        ))
        (subst (Told (Remark (f [])) (c ∷ b)) (sym (no_item (f []) k (c ∷ b))) (remark_told (suc n) (f []) (c ∷ b) l))) refl

-- ---- all words to the end of the line

hex_shortens : (b : List ℕ) → Shortens (length b) (hex_word_of b)
hex_shortens b = go (word_of (fits_of HexWord) b) (word_shortens (fits_of HexWord) b)
  where
    go : (o : Read (List ℕ)) → Shortens (length b) (onward o (λ w x. took (Some w) x)) → Shortens (length b) (onward (onward o (λ ds x. took (digits_value 16 ds) x)) (λ w x. took (Some w) x))
    go (took w x) h = h
    go (stuck x) h = tt

pub word_next : IsNext next_word_of
word_next = record {
  none = refl;
  shorter = λ b.
      choice_shortens (length b) is_blank (λ x. spaced_word_of (spaced x)) b (omega arith)
      (λ y l. choice_shortens (length b) is_hex hex_word_of (spaced y) (let less = spaced_shorter y in omega arith) (λ z i. longer (length z) (length b) (hex_word_of z) i (hex_shortens z)));
}
