-- What a term is read as, by its first byte; and that behind the last term or word of a line its end is read.
use Rattle.memory_desc.proofs.Common.{Bool, List, None, Option, Read, [], ap, arith, at_bool, by_byte, constant, drop, end_of, false, get_or, if◌then◌else◌, index_bit, is_blank, length, next_word_of, onward, refl, remark_of, spaced, spaced_word_of, stuck, sym, take, take_all, term_of, took, true, ℕ, ◌-◌, ◌∙◌, ◌∷◌, ◌≡◌, ◌≤◌}
use Rattle.bist_text.specs.keyed.Parts.{comment_of, number_of}

abbrev pub Rest : List ℕ → List ℕ
Rest b = take (length b - 1) (drop 1 b)

pub rest_is : (c : ℕ) (b : List ℕ) → Rest (c ∷ b) ≡ b
rest_is c b = take_all (length (c ∷ b) - 1) b (omega arith)

-- what a term that begins with p is read as
index_of : (c : ℕ) (b : List ℕ) → c ≡ 112 → term_of (c ∷ b) ≡ onward (number_of (Rest (c ∷ b))) (λ n x. took (index_bit n) x)
index_of c b e = ap (λ (c : ℕ). term_of (c ∷ b)) e ∙ ap (λ (x : List ℕ). onward (number_of x) (λ n x. took (index_bit n) x)) (sym (rest_is c b))

pub index_took : (b x : List ℕ) (n : ℕ) → 1 ≤ length b → get_or b 0 0 ≡ 112 → number_of (Rest b) ≡ took n x → term_of b ≡ took (index_bit n) x
index_took [] x n l e h = absurd (omega arith)
index_took (c ∷ b) x n l e h = index_of c b e ∙ ap (λ o. onward o (λ n x. took (index_bit n) x)) h

pub index_stuck : (b x : List ℕ) → 1 ≤ length b → get_or b 0 0 ≡ 112 → number_of (Rest b) ≡ stuck x → term_of b ≡ stuck x
index_stuck [] x l e h = absurd (omega arith)
index_stuck (c ∷ b) x l e h = index_of c b e ∙ ap (λ o. onward o (λ n x. took (index_bit n) x)) h

pub zero_took : (b : List ℕ) → 1 ≤ length b → get_or b 0 0 ≡ 48 → term_of b ≡ took (constant false) (Rest b)
zero_took [] l e = absurd (omega arith)
zero_took (c ∷ b) l e = ap (λ (c : ℕ). term_of (c ∷ b)) e ∙ ap (λ (x : List ℕ). took (constant false) x) (sym (rest_is c b))

pub one_took : (b : List ℕ) → 1 ≤ length b → get_or b 0 0 ≡ 49 → term_of b ≡ took (constant true) (Rest b)
one_took [] l e = absurd (omega arith)
one_took (c ∷ b) l e = ap (λ (c : ℕ). term_of (c ∷ b)) e ∙ ap (λ (x : List ℕ). took (constant true) x) (sym (rest_is c b))

-- ---- behind an item: blanks, and the end of the line

spaced_twice : (b : List ℕ) → spaced (spaced b) ≡ spaced b
spaced_twice [] = refl
spaced_twice (c ∷ b) = at_bool (λ t. spaced (if t then spaced b else c ∷ b) ≡ (if t then spaced b else c ∷ b)) (is_blank c) (λ e. spaced_twice b) (λ e. ap (λ (t : Bool). if t then spaced b else c ∷ b) e)

pub over : {A : Type 0} (p : ℕ → Bool) (r : List ℕ → Read (Option A)) (a b : List ℕ) (o : Read (Unit {0})) → b ≡ spaced a → 1 ≤ length b → p (get_or b 0 0) ≡ false → end_of b ≡ o
    → by_byte p r (remark_of None) (took None []) (spaced a) ≡ onward o (λ _ x. took None x)
over {A} p r a b o e l f h = ap choice (sym e) ∙ go b l f ∙ ap (λ o. onward o (λ _ x. took None x)) (ap comment_of (sym (ap spaced e ∙ spaced_twice a ∙ sym e)) ∙ h)
  where
    choice : List ℕ → Read (Option A)
    choice = by_byte p r (remark_of None) (took None [])

    go : (b : List ℕ) → 1 ≤ length b → p (get_or b 0 0) ≡ false → choice b ≡ remark_of None b
    go [] l f = absurd (omega arith)
    go (c ∷ b) l f = ap (λ (t : Bool). if t then r (c ∷ b) else remark_of None (c ∷ b)) f

-- behind a blank comes a word, or the end of the line
pub behind_blank : (b : List ℕ) → 1 ≤ length b → is_blank (get_or b 0 0) ≡ true → next_word_of b ≡ spaced_word_of (spaced b)
behind_blank [] l e = absurd (omega arith)
behind_blank (c ∷ b) l e = ap (λ (t : Bool). if t then spaced_word_of (spaced (c ∷ b)) else remark_of None (c ∷ b)) e
