-- The terms of a row are taken as the grammar says.
use Rattle.memory_desc.proofs.Common.{choice_shortens, digits_value, Behind, IsNext, List, Read, Shortens, Shorter, Some, Term, Told, [], Continues, inl, and_from, apart, are_bytes, arith, at_bool, at_byte, byte_of, constant, false, fits_of, if◌then◌else◌, index_bit, inr, is_blank, is_caret, is_digit, length, made_shorter, marked_term_of, more_terms, next_term_of, no_mark, one_item, onward, onward_on, refl, same, some_shortens, space, spaced, spaced_shorter, stuck, subst, sym, tail, term_of, told_iff, took, true, weaker, when_false, word_of, ℕ, Number, ◌==◌, ◌↔◌, ◌∷◌, ◌≡◌, ◌≤◌}
use Rattle.std.proofs.Common.{zero-le}
use Rattle.bist_text.specs.keyed.Numbers.{number}
use Rattle.bist_text.specs.keyed.Parts.{number_of, by_item}
use Rattle.bist_text.proofs.Carried.{Said}
use Rattle.bist_text.proofs.LineStops.{tail_stops}
use Rattle.bist_text.proofs.keyed.Listed.{IsItem, by_first, choice_told}
use Rattle.bist_text.proofs.keyed.PartLaws.{Either, Ends}
use Rattle.bist_text.proofs.keyed.Taken.{Takes, byte_taken, digits, number_taken, space_taken}
use Rattle.bist_text.proofs.keyed.Told.{told_alive}
use Rattle.memory_desc.specs.LineText.{term}

-- ---- a term

pub term_taken : {A V : Type 0} {n : ℕ} {f : Term → A → V} {T : Term → A → List ℕ → Type 0} {r : Term → List ℕ → Read V} → ((t : Term) → Takes n is_digit (f t) (T t) (r t))
    → Takes n is_blank (λ (q : Term × A). f q.0 q.1) (λ q. term q.0 (T q.0 q.1)) (λ b. onward (term_of b) r)
term_taken {A} {V} {n} {f} {T} {r} t = record { told = told; shuns = λ q c b e h. never q.0 q.1 c b (apart is_blank c 112 e refl) (apart is_blank c 48 e refl) (apart is_blank c 49 e refl) h }
  where
    G : List ℕ → V → Type 0
    G = Said (λ (q : Term × A). f q.0 q.1) (λ q. term q.0 (T q.0 q.1))

    never : (s : Term) (a : A) (c : ℕ) (b : List ℕ) → (c == 112) ≡ false → (c == 48) ≡ false → (c == 49) ≡ false → term s (T s a) (c ∷ b) → ⊥
    never (index_bit m) a c b i j k h = when_false (c == 112) (number m (T (index_bit m) a) b) i h
    never (constant true) a c b i j k h = when_false (c == 49) (T (constant true) a b) k h
    never (constant false) a c b i j k h = when_false (c == 48) (T (constant false) a b) j h

    none : (s : Term) (a : A) → term s (T s a) [] → ⊥
    none (index_bit m) a h = h
    none (constant true) a h = h
    none (constant false) a h = h

    index : (x : List ℕ) (v : V) → Said (λ (q : ℕ × A). f (index_bit q.0) q.1) (λ q. number q.0 (T (index_bit q.0) q.1)) x v ↔ G (112 ∷ x) v
    index x v = (λ h. ((index_bit h.0.0, h.0.1), h.1, h.2), λ h. to h.0.0 h.0.1 h.1 h.2)
      where
        to : (s : Term) (a : A) → v ≡ f s a → term s (T s a) (112 ∷ x) → Said (λ (q : ℕ × A). f (index_bit q.0) q.1) (λ q. number q.0 (T (index_bit q.0) q.1)) x v
        to (index_bit m) a e h = ((m, a), e, h)
        to (constant true) a e h = absurd h
        to (constant false) a e h = absurd h

    zero : (x : List ℕ) (v : V) → Said (f (constant false)) (T (constant false)) x v ↔ G (48 ∷ x) v
    zero x v = (λ h. ((constant false, h.0), h.1, h.2), λ h. to h.0.0 h.0.1 h.1 h.2)
      where
        to : (s : Term) (a : A) → v ≡ f s a → term s (T s a) (48 ∷ x) → Said (f (constant false)) (T (constant false)) x v
        to (index_bit m) a e h = absurd h
        to (constant true) a e h = absurd h
        to (constant false) a e h = (a, e, h)

    one : (x : List ℕ) (v : V) → Said (f (constant true)) (T (constant true)) x v ↔ G (49 ∷ x) v
    one x v = (λ h. ((constant true, h.0), h.1, h.2), λ h. to h.0.0 h.0.1 h.1 h.2)
      where
        to : (s : Term) (a : A) → v ≡ f s a → term s (T s a) (49 ∷ x) → Said (f (constant true)) (T (constant true)) x v
        to (index_bit m) a e h = absurd h
        to (constant true) a e h = (a, e, h)
        to (constant false) a e h = absurd h

    alive : Continues G []
    alive = let a = told_alive (Said (f (constant false)) (T (constant false))) [] (r (constant false) []) ((t (constant false)).told [] zero-le) in (48 ∷ a.0, a.1, and_from true (are_bytes a.0) refl a.2, (zero a.0 a.1).0 a.3)

    told : (b : List ℕ) → length b ≤ n → Told G b (onward (term_of b) r)
    told [] l = (alive, (refl, λ v h. none h.0.0 h.0.1 h.2))
    told (c ∷ b) l =
        at_byte (λ c. Told G (c ∷ b) (onward (term_of (c ∷ b)) r)) c 112 (
          alive,
          inr (told_iff (Said (λ (q : ℕ × A). f (index_bit q.0) q.1) (λ q. number q.0 (T (index_bit q.0) q.1))) (Behind 112 G) b (onward (onward (number_of b) (λ m x. took (index_bit m) x)) r) index
              (subst (Told (Said (λ (q : ℕ × A). f (index_bit q.0) q.1) (λ q. number q.0 (T (index_bit q.0) q.1))) b) (sym (onward_on (number_of b) (λ m x. took (index_bit m) x) r)) ((number_taken (λ m. t (index_bit m))).told b (omega arith)))),
        )
        (λ i. at_byte (λ c. (c == 112) ≡ false → Told G (c ∷ b) (onward (term_of (c ∷ b)) r)) c 48
        (λ _. (alive, inr (told_iff (Said (f (constant false)) (T (constant false))) (Behind 48 G) b (r (constant false) b) zero ((t (constant false)).told b (omega arith)))))
        (λ j i. at_byte (λ c. (c == 112) ≡ false → (c == 48) ≡ false → Told G (c ∷ b) (onward (term_of (c ∷ b)) r)) c 49
        (λ _ _. (alive, inr (told_iff (Said (f (constant true)) (T (constant true))) (Behind 49 G) b (r (constant true) b) one ((t (constant true)).told b (omega arith)))))
        (λ k i j. (alive, inl (λ x v h. never h.0.0 h.0.1 c x i j k h.2, (rw i (rw j (rw k refl)))))) i j) i)

-- ---- further terms

pub term_item : IsItem is_digit (λ ts. more_terms ts tail) next_term_of
term_item = record {
  ends = λ b. same;
  some = λ t ts h. h;
  shuns = shuns;
  step = λ n f k t b l.
      subst (Told (Either (Said (λ (q : Term × List Term). f (q.0 ∷ q.1)) (λ q. more_terms (q.0 ∷ q.1) tail)) (Ends (f []))) b)
      (sym (by_first is_caret marked_term_of (λ x. onward (byte_of 94 x) (λ _ x. onward (term_of (spaced x)) k)) (f []) k (spaced b) (λ y. marked (f []) k (byte_of 94 y))))
      (choice_told (f []) (record { only = λ q c b e h. when_false (c == 94) (space (term q.0 (more_terms q.1 tail)) b) e h; some = λ q h. h; hash_no = refl }) (byte_taken 94 refl refl (space_taken (term_taken t))) b l);
}
  where
    shuns : (ts : List Term) (c : ℕ) (b : List ℕ) → is_digit c ≡ true → more_terms ts tail (c ∷ b) → ⊥
    shuns [] c b e h = tail_stops is_digit digits.plain c b e h
    shuns (t ∷ ts) c b e h = no_mark is_digit c 94 (space (term t (more_terms ts tail))) b digits.plain e refl h

    marked : {V : Type 0} (v : V) (k : Term → List ℕ → Read V) (o : Read (Unit {0})) → onward (onward o (λ _ x. onward (term_of (spaced x)) (λ t x. took (Some t) x))) (λ o x. by_item o (took v x) (λ t. k t x))
        ≡ onward o (λ _ x. onward (term_of (spaced x)) k)
    marked v k (took u x) = one_item (term_of (spaced x)) v k
    marked v k (stuck x) = refl

-- ---- all terms to the end of the line

term_shorter : (b : List ℕ) → Shorter (length b) (term_of b)
term_shorter [] = tt
term_shorter (c ∷ b) =
    at_bool (λ t. Shorter (length (c ∷ b)) (if t then onward (number_of b) (λ n x. took (index_bit n) x) else if c == 48 then took (constant false) b else if c == 49 then took (constant true) b else stuck (c ∷ b))) (c == 112)
    (λ e. weaker (length b) (length (c ∷ b)) (onward (number_of b) (λ n x. took (index_bit n) x)) (omega arith) (subst (Shorter (length b)) (sym (onward_on (word_of (fits_of Number) b) (λ ds x. took (digits_value 10 ds) x) (λ n x. took (index_bit n) x))) (made_shorter (fits_of Number) (λ ds. index_bit (digits_value 10 ds)) b)))
    (λ e. at_bool (λ t. Shorter (length (c ∷ b)) (if t then took (constant false) b else if c == 49 then took (constant true) b else stuck (c ∷ b))) (c == 48)
    (λ f. omega arith)
    (λ f. at_bool (λ t. Shorter (length (c ∷ b)) (if t then took (constant true) b else stuck (c ∷ b))) (c == 49) (λ g. omega arith) (λ g. tt)))

pub term_next : IsNext next_term_of
term_next = record { none = refl; shorter = λ b. choice_shortens (length b) is_caret marked_term_of (spaced b) (spaced_shorter b) (marked (length b)) }
  where
    marked : (n : ℕ) (y : List ℕ) → length y ≤ n → Shortens n (marked_term_of y)
    marked n [] l = tt
    marked n (c ∷ y) l =
        at_bool (λ t. Shortens n (onward (if t then took tt y else stuck (c ∷ y)) (λ _ x. onward (term_of (spaced x)) (λ t x. took (Some t) x)))) (c == 94)
        (λ e. (let less = spaced_shorter y in some_shortens (length (spaced y)) n (term_of (spaced y)) (term_shorter (spaced y)) (omega arith))) (λ e. tt)
