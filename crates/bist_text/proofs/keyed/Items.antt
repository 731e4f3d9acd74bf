-- Items one after another, where each takes a byte at least.
use Rattle.bist_text.proofs.keyed.Common.{Bool, by_byte, Class, List, None, Option, Read, Some, [], ap, arith, at_bool, behind_of, by_item, comment_of, front_of, if◌then◌else◌, is_blank, items_from, items_of, later, length, onward, refl, remark_of, spaced, stuck, suc, sym, took, word_of, zero, zero-le, ℕ, ◌-◌, ◌<◌, ◌==◌, ◌∙◌, ◌∷◌, ◌≡◌, ◌≤◌}

pub onward_on : {A B C : Type 0} (o : Read A) (f : A → List ℕ → Read B) (g : B → List ℕ → Read C) → onward (onward o f) g ≡ onward o (λ a x. onward (f a x) g)
onward_on (took a x) f g = refl
onward_on (stuck x) f g = refl

-- what is made of a value, back to the value
pub made_of : {A B : Type 0} (f : A → B) (o : Read A) (v : B) (x : List ℕ) → onward o (λ a x. took (f a) x) ≡ took v x → (a : A) × (o ≡ took a x) × (v ≡ f a)
made_of f (took a y) v x e = (let here : y ≡ x = cc in let there : f a ≡ v = cc in (a, ap (took a) here, sym there))
made_of f (stuck y) v x e = (let z : ⊥ = cc in absurd z)

-- no item, and an item, with what is made of them
pub no_item : {A V : Type 0} (v : V) (k : A → List ℕ → Read V) (b : List ℕ) → onward (remark_of None b) (λ o x. by_item o (took v x) (λ a. k a x)) ≡ remark_of v b
no_item v k b = onward_on (comment_of b) (λ _ x. took None x) (λ o x. by_item o (took v x) (λ a. k a x))

pub one_item : {A V : Type 0} (o : Read A) (v : V) (k : A → List ℕ → Read V) → onward (onward o (λ a x. took (Some a) x)) (λ o x. by_item o (took v x) (λ a. k a x)) ≡ onward o k
one_item (took a x) v k = refl
one_item (stuck x) v k = refl

-- ---- what is left is shorter

pub spaced_shorter : (b : List ℕ) → length (spaced b) ≤ length b
spaced_shorter [] = zero-le
spaced_shorter (c ∷ b) =
    at_bool (λ t. length (if t then spaced b else c ∷ b) ≤ length (c ∷ b)) (is_blank c) (λ e. (let l = spaced_shorter b in omega arith)) (λ e. omega arith)

pub behind_shorter : (fits : Class) (b : List ℕ) → length (behind_of fits b) ≤ length b
behind_shorter fits [] = zero-le
behind_shorter fits (c ∷ b) =
    at_bool (λ t. length (if t then behind_of (later fits) b else c ∷ b) ≤ length (c ∷ b)) (fits 0 c) (λ e. (let l = behind_shorter (later fits) b in omega arith)) (λ e. omega arith)

-- nothing is longer behind a reader
abbrev pub Shorter : {A : Type 0} → ℕ → Read A → Type 0
Shorter n (took a x) = length x ≤ n
Shorter n (stuck x) = Unit {0}

pub weaker : {A : Type 0} (m n : ℕ) (o : Read A) → m ≤ n → Shorter m o → Shorter n o
weaker m n (took a x) l h = omega arith
weaker m n (stuck x) l h = tt

pub made_shorter : {A : Type 0} (fits : Class) (f : List ℕ → A) (b : List ℕ) → Shorter (length b) (onward (word_of fits b) (λ w x. took (f w) x))
made_shorter fits f [] = tt
made_shorter fits f (c ∷ b) =
    at_bool (λ t. Shorter (length (c ∷ b)) (onward (if t then took (c ∷ front_of (later fits) b) (behind_of (later fits) b) else stuck (c ∷ b)) (λ w x. took (f w) x))) (fits 0 c)
    (λ e. (let l = behind_shorter (later fits) b in omega arith)) (λ e. tt)

-- an item takes a byte
abbrev pub Shortens : {A : Type 0} → ℕ → Read (Option A) → Type 0
Shortens n (took None x) = Unit {0}
Shortens n (took (Some a) x) = length x < n
Shortens n (stuck x) = Unit {0}

pub longer : {A : Type 0} (m n : ℕ) (o : Read (Option A)) → m ≤ n → Shortens m o → Shortens n o
longer m n (took None x) l h = tt
longer m n (took (Some a) x) l h = (let small : length x < m = h in omega arith)
longer m n (stuck x) l h = tt

pub some_shortens : {A : Type 0} (m n : ℕ) (o : Read A) → Shorter m o → m < n → Shortens n (onward o (λ a x. took (Some a) x))
some_shortens m n (took a x) h l = (let small : length x ≤ m = h in omega arith)
some_shortens m n (stuck x) h l = tt

pub remark_shortens : (A : Type 0) (n : ℕ) (b : List ℕ) → Shortens {A = A} n (remark_of None b)
remark_shortens A n [] = tt
remark_shortens A n (c ∷ b) = at_bool (λ t. Shortens {A = A} n (onward (if t then took tt [] else stuck (c ∷ b)) (λ _ x. took None x))) (c == 35) (λ e. tt) (λ e. tt)

-- a next item by the next byte, where there is one
pub choice_shortens : {A : Type 0} (n : ℕ) (p : ℕ → Bool) (m : List ℕ → Read (Option A)) (b : List ℕ) → length b ≤ n → ((y : List ℕ) → length y ≤ n → Shortens n (m y))
    → Shortens n (by_byte p m (remark_of None) (took None []) b)
choice_shortens n p m [] l h = tt
choice_shortens {A} n p m (c ∷ b) l h = at_bool (λ t. Shortens n (if t then m (c ∷ b) else remark_of None (c ∷ b))) (p c) (λ e. h (c ∷ b) l) (λ e. remark_shortens A n (c ∷ b))

pub word_shortens : (fits : Class) (b : List ℕ) → Shortens (length b) (onward (word_of fits b) (λ w x. took (Some w) x))
word_shortens fits [] = tt
word_shortens fits (c ∷ b) =
    at_bool (λ t. Shortens (length (c ∷ b)) (onward (if t then took (c ∷ front_of (later fits) b) (behind_of (later fits) b) else stuck (c ∷ b)) (λ w x. took (Some w) x))) (fits 0 c)
    (λ e. (let l = behind_shorter (later fits) b in omega arith)) (λ e. tt)

-- ---- items

-- a reader of the next item: each takes a byte, and there is none in nothing
pub record IsNext {A : Type 0} (next : List ℕ → Read (Option A)) : Type 0 where
  pub none : next [] ≡ took None []
  pub shorter : (b : List ℕ) → Shortens (length b) (next b)

module _ {A : Type 0} (next : List ℕ → Read (Option A)) (is_next : IsNext next) where
  -- Where there is room for xs many items xs bytes, there is room enough.
  enough : {V : Type 0} (m n : ℕ) (f : List A → V) (b : List ℕ) → length b ≤ m → length b ≤ n → items_from next m f b ≡ items_from next n f b
  enough zero zero f b l k = refl
  enough zero (suc n) f [] l k = sym (ap (λ o. onward o (λ o x. by_item o (took (f []) x) (λ a. items_from next n (λ xs. f (a ∷ xs)) x))) is_next.none)
  enough zero (suc n) f (c ∷ b) l k = absurd (omega arith)
  enough (suc m) zero f [] l k = ap (λ o. onward o (λ o x. by_item o (took (f []) x) (λ a. items_from next m (λ xs. f (a ∷ xs)) x))) is_next.none
  enough (suc m) zero f (c ∷ b) l k = absurd (omega arith)
  enough {V} (suc m) (suc n) f b l k = go (next b) (is_next.shorter b) (λ a x i j. enough m n (λ xs. f (a ∷ xs)) x i j)
    where
      go : (o : Read (Option A)) → Shortens (length b) o
          → ((a : A) (x : List ℕ) → length x ≤ m → length x ≤ n → items_from next m (λ xs. f (a ∷ xs)) x ≡ items_from next n (λ xs. f (a ∷ xs)) x)
          → onward o (λ o x. by_item o (took (f []) x) (λ a. items_from next m (λ xs. f (a ∷ xs)) x)) ≡ onward o (λ o x. by_item o (took (f []) x) (λ a. items_from next n (λ xs. f (a ∷ xs)) x))
      go (took None x) s h = refl
      go (took (Some a) x) s h = (let small : length x < length b = s in h a x (omega arith) (omega arith))
      go (stuck x) s h = refl

  -- what is made of items is made of them all
  made : (n : ℕ) {V : Type 0} (f : List A → V) (b : List ℕ) → items_from next n f b ≡ onward (items_from next n (λ xs. xs) b) (λ xs x. took (f xs) x)
  made zero f b = refl
  made (suc n) {V} f b = go (next b) (λ a x. made n (λ xs. f (a ∷ xs)) x) (λ a x. made n (λ xs. a ∷ xs) x)
    where
      go : (o : Read (Option A))
          → ((a : A) (x : List ℕ) → items_from next n (λ xs. f (a ∷ xs)) x ≡ onward (items_from next n (λ xs. xs) x) (λ xs x. took (f (a ∷ xs)) x))
          → ((a : A) (x : List ℕ) → items_from next n (λ xs. a ∷ xs) x ≡ onward (items_from next n (λ xs. xs) x) (λ xs x. took (a ∷ xs) x))
          → onward o (λ o x. by_item o (took (f []) x) (λ a. items_from next n (λ xs. f (a ∷ xs)) x))
          ≡ onward (onward o (λ o x. by_item o (took [] x) (λ a. items_from next n (λ xs. a ∷ xs) x))) (λ xs x. took (f xs) x)
      go (took None x) h k = refl
      go (took (Some a) x) h k =
          h a x ∙ sym (ap (λ o. onward o (λ xs x. took (f xs) x)) (k a x) ∙ onward_on (items_from next n (λ xs. xs) x) (λ xs x. took (a ∷ xs) x) (λ xs x. took (f xs) x))
      go (stuck x) h k = refl

  pub items_made : {V : Type 0} (f : List A → V) (b : List ℕ) → onward (items_of next b) (λ xs x. took (f xs) x) ≡ items_from next (length b) f b
  items_made f b = sym (made (length b) f b)

  by_next : {V : Type 0} (f : List A → V) (b : List ℕ) (o : Read (Option A)) → next b ≡ o
      → onward (items_of next b) (λ xs x. took (f xs) x) ≡ onward o (λ o x. by_item o (took (f []) x) (λ a. items_from next (length b - 1) (λ xs. f (a ∷ xs)) x))
  by_next f b o e =
      items_made f b ∙ enough (length b) (suc (length b - 1)) f b (omega arith) (omega arith)
      ∙ ap (λ o. onward o (λ o x. by_item o (took (f []) x) (λ a. items_from next (length b - 1) (λ xs. f (a ∷ xs)) x))) e

  pub next_shorter : (b x : List ℕ) (a : A) → next b ≡ took (Some a) x → length x < length b
  next_shorter b x a e = go (next b) e (is_next.shorter b)
    where
      go : (o : Read (Option A)) → o ≡ took (Some a) x → Shortens (length b) o → length x < length b
      go (took None y) e s = (let z : ⊥ = cc in absurd z)
      go (took (Some d) y) e s = (let here : y ≡ x = cc in let same : length y ≡ length x = ap length here in let small : length y < length b = s in omega arith)
      go (stuck y) e s = (let z : ⊥ = cc in absurd z)

  -- one more
  pub items_on : {V : Type 0} (f : List A → V) (b x : List ℕ) (a : A) → next b ≡ took (Some a) x
      → onward (items_of next b) (λ xs x. took (f xs) x) ≡ onward (items_of next x) (λ xs x. took (f (a ∷ xs)) x)
  items_on f b x a e =
      let small = next_shorter b x a e in
      by_next f b (took (Some a) x) e ∙ enough (length b - 1) (length x) (λ xs. f (a ∷ xs)) x (omega arith) (omega arith) ∙ sym (items_made (λ xs. f (a ∷ xs)) x)

  -- no more
  pub items_end : {V : Type 0} (f : List A → V) (b x : List ℕ) → next b ≡ took None x → onward (items_of next b) (λ xs x. took (f xs) x) ≡ took (f []) x
  items_end f b x e = by_next f b (took None x) e

  pub items_stuck : {V : Type 0} (f : List A → V) (b x : List ℕ) → next b ≡ stuck x → onward (items_of next b) (λ xs x. took (f xs) x) ≡ stuck x
  items_stuck f b x e = by_next f b (stuck x) e
