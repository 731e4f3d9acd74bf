-- What rightly judged items say of a list, and that a report says it in one way. An item is what was judged, a test says whether it is covered.
use Rattle.std.proofs.Common.{◌≡◌, ◌+◌, ◌≤◌, ◌<◌, inl, inr, ℕ, zero, suc, Bool, true, false, cond, ◌&&◌, nat_lt, List, [], ◌∷◌, ◌++◌, length, map, slice_index_or, refl, ap, ap₂, sym, subst, ◌∙◌, zero-add, arith}
use Rattle.std.specs.List.{filter, flat_map, AllByRecursion}
use Rattle.std.specs.Prelude.{count_by}
use Rattle.std.proofs.lemmas.List.{map-append, length-map}
use Rattle.std.proofs.lemmas.List.Sums.{sum_by-cons}
use Rattle.std.proofs.lemmas.Bool.Decides.{nat_tests}
use Rattle.report_lines.specs.Listed.{CountsOf, SomeLacks, AreLinesOf, IsVerdictLine, escape_line}

-- what a right verdict says: the item has the property where it is covered, and else it has it not
abbrev pub Tells : {A : Type 0} → (A → Type 0) → A → Bool → Type 0
Tells {A} P x true = P x
Tells {A} P x false = P x → ⊥

-- ---- counts

pub one_more : {A : Type 0} (P : A → Type 0) (x : A) (xs : List A) (b : Bool) (n : ℕ) → Tells P x b → CountsOf P xs n → CountsOf P (x ∷ xs) (cond b 1 0 + n)
one_more P x xs true n h rest = inl (h, n, rest, refl)
one_more P x xs false n h rest = inr (h, subst (CountsOf P xs) (sym (zero-add n)) rest)

-- and where the item counts only if it is one of some
filtered : {A : Type 0} (P : A → Type 0) (x : A) (xs : List A) (b d : Bool) (n : ℕ) → Tells P x d → CountsOf P xs n
    → CountsOf P (cond b (x ∷ xs) xs) (cond (b && d) 1 0 + n)
filtered P x xs true d n h rest = one_more P x xs d n h rest
filtered P x xs false d n h rest = subst (CountsOf P xs) (sym (zero-add n)) rest

module _ {A J : Type 0} (P : A → Type 0) (item : J → A) (covered : J → Bool) (Right : J → Type 0) (tells : (j : J) → Right j → Tells P (item j) (covered j)) where
  pub counted : (js : List J) → AllByRecursion Right js → CountsOf P (map item js) (count_by covered js)
  counted [] h = refl
  counted (j ∷ js) h =
      subst (CountsOf P (map item (j ∷ js))) (sym (sum_by-cons (λ k. cond (covered k) 1 0) j js))
      (one_more P (item j) (map item js) (covered j) (count_by covered js) (tells j h.0) (counted js h.1))

  -- of those that pass a test
  pub counted_among : (t : A → Bool) (js : List J) → AllByRecursion Right js
      → CountsOf P (filter t (map item js)) (count_by (λ j. t (item j) && covered j) js)
  counted_among t [] h = refl
  counted_among t (j ∷ js) h =
      subst (CountsOf P (filter t (map item (j ∷ js)))) (sym (sum_by-cons (λ k. cond (t (item k) && covered k) 1 0) j js))
      (filtered P (item j) (filter t (map item js)) (t (item j)) (covered j) (count_by (λ k. t (item k) && covered k) js) (tells j h.0) (counted_among t js h.1))

-- how many pass a test, counted among what was judged
pub size_of : {A J : Type 0} (item : J → A) (t : A → Bool) (js : List J) → count_by (λ j. t (item j)) js ≡ count_by t (map item js)
size_of item t [] = refl
size_of item t (j ∷ js) =
    sum_by-cons (λ k. cond (t (item k)) 1 0) j js ∙ ap (λ n. cond (t (item j)) 1 0 + n) (size_of item t js)
    ∙ sym (sum_by-cons (λ x. cond (t x) 1 0) (item j) (map item js))

-- ---- whether one lacks the property

behind : {A : Type 0} (P : A → Type 0) (x : A) (xs : List A) (b : Bool) → P x → SomeLacks P xs b → SomeLacks P (x ∷ xs) b
behind P x xs true d h = (h.0, (suc h.1.0, omega (arith, h.1.1), h.1.2), h.2)
behind P x xs false d h = (d, h)

lt_more : (m n : ℕ) → nat_lt (1 + m) (suc n) ≡ nat_lt m n
lt_more m n = grind (arith, nat_tests)

lt_here : (m n : ℕ) → m ≤ n → nat_lt m (suc n) ≡ true
lt_here m n h = grind (arith, nat_tests)

-- there are no more of them than items
pub at_most : {A : Type 0} (P : A → Type 0) (xs : List A) (n : ℕ) → CountsOf P xs n → n ≤ length xs
at_most P [] n h = omega (arith, h)
at_most P (x ∷ xs) n (inl (p, k, rest, is)) = let few : k ≤ length xs = at_most P xs k rest in omega (arith, few, is)
at_most P (x ∷ xs) n (inr (never, rest)) = let few : n ≤ length xs = at_most P xs n rest in omega (arith, few)

-- one lacks it exactly where fewer have it than there are
pub lacks_where : {A : Type 0} (P : A → Type 0) (xs : List A) (n : ℕ) → CountsOf P xs n → SomeLacks P xs (nat_lt n (length xs))
lacks_where P [] n h = subst (λ k. SomeLacks P [] (nat_lt k 0)) (sym h) tt
lacks_where P (x ∷ xs) n (inl (p, k, rest, is)) =
    subst (λ m. SomeLacks P (x ∷ xs) (nat_lt m (suc (length xs)))) (sym is)
    (subst (SomeLacks P (x ∷ xs)) (sym (lt_more k (length xs))) (behind P x xs (nat_lt k (length xs)) p (lacks_where P xs k rest)))
lacks_where P (x ∷ xs) n (inr (never, rest)) =
    subst (SomeLacks P (x ∷ xs)) (sym (lt_here n (length xs) (at_most P xs n rest))) (x, (0, omega arith, refl), never)

-- the same of judged items
pub some_lacks : {A J : Type 0} (P : A → Type 0) (item : J → A) (covered : J → Bool) (Right : J → Type 0) → ((j : J) → Right j → Tells P (item j) (covered j))
    → (js : List J) → AllByRecursion Right js → SomeLacks P (map item js) (nat_lt (count_by covered js) (length js))
some_lacks P item covered Right tells js h =
    subst (λ n. SomeLacks P (map item js) (nat_lt (count_by covered js) n)) (length-map js item)
    (lacks_where P (map item js) (count_by covered js) (counted P item covered Right tells js h))

-- ---- lines

pub lines_of : {A J : Type 0} (IsLine : A → List ℕ → Type 0) (item : J → A) (line : J → List ℕ) (Right : J → Type 0)
    → ((j : J) → Right j → IsLine (item j) (line j)) → (js : List J) → AllByRecursion Right js → AreLinesOf IsLine (map item js) (flat_map line js)
lines_of IsLine item line Right is [] h = refl
lines_of IsLine item line Right is (j ∷ js) h = (line j, flat_map line js, is j h.0, lines_of IsLine item line Right is js h.1, refl)

-- lines that need no judging
pub plain_lines : {A : Type 0} (IsLine : A → List ℕ → Type 0) (line : A → List ℕ) → ((x : A) → IsLine x (line x)) → (xs : List A) → AreLinesOf IsLine xs (flat_map line xs)
plain_lines IsLine line is [] = refl
plain_lines IsLine line is (x ∷ xs) = (line x, flat_map line xs, is x, plain_lines IsLine line is xs, refl)

-- ---- items that are judged one after another

all_behind : {J : Type 0} (Right : J → Type 0) (js : List J) (j : J) → AllByRecursion Right js → Right j → AllByRecursion Right (js ++ j ∷ [])
all_behind Right [] j h right = (right, tt)
all_behind Right (k ∷ ks) j h right = (h.0, all_behind Right ks j h.1 right)

pub one_judged : {A J : Type 0} (item : J → A) (Right : J → Type 0) (xs : List A) (js : List J) (j : J) → AllByRecursion Right js → map item js ≡ xs → Right j
    → AllByRecursion Right (js ++ j ∷ []) × (map item (js ++ j ∷ []) ≡ xs ++ item j ∷ [])
one_judged item Right xs js j each order right = (all_behind Right js j each right, map-append item js (j ∷ []) ∙ ap (λ l. l ++ item j ∷ []) order)

-- ---- a report says it in one way

pub counts_one : {A : Type 0} (P : A → Type 0) (xs : List A) (m n : ℕ) → CountsOf P xs m → CountsOf P xs n → m ≡ n
counts_one P [] m n h i = h ∙ sym i
counts_one P (x ∷ xs) m n (inl (p, k, a, is)) (inl (q, l, b, it)) = is ∙ ap (λ (z : ℕ). 1 + z) (counts_one P xs k l a b) ∙ sym it
counts_one P (x ∷ xs) m n (inl h) (inr i) = absurd (i.0 h.0)
counts_one P (x ∷ xs) m n (inr h) (inl i) = absurd (h.0 i.0)
counts_one P (x ∷ xs) m n (inr h) (inr i) = counts_one P xs m n h.1 i.1

-- where an item has one escape, it has one line
pub line_one : (item : List ℕ) (Detected : Type 0) (IsEscape : List ℕ → Type 0) → ((s t : List ℕ) → IsEscape s → IsEscape t → s ≡ t)
    → (s t : List ℕ) → IsVerdictLine item Detected IsEscape s → IsVerdictLine item Detected IsEscape t → s ≡ t
line_one item Detected IsEscape escape_one s t (inl (d, is)) (inl (e, it)) = is ∙ sym it
line_one item Detected IsEscape escape_one s t (inl (d, is)) (inr (never, y, g, it)) = absurd (never d)
line_one item Detected IsEscape escape_one s t (inr (never, x, f, is)) (inl (d, it)) = absurd (never d)
line_one item Detected IsEscape escape_one s t (inr (never, x, f, is)) (inr (nor, y, g, it)) = is ∙ ap (escape_line item) (escape_one x y f g) ∙ sym it

pub lines_one : {A : Type 0} (IsLine : A → List ℕ → Type 0) → ((x : A) (s t : List ℕ) → IsLine x s → IsLine x t → s ≡ t)
    → (xs : List A) (s t : List ℕ) → AreLinesOf IsLine xs s → AreLinesOf IsLine xs t → s ≡ t
lines_one IsLine one [] s t is it = is ∙ sym it
lines_one IsLine one (x ∷ xs) s t (a, b, f, g, is) (c, d, h, k, it) =
    is ∙ ap₂ (λ (y z : List ℕ). y ++ z) (one x a c f h) (lines_one IsLine one xs b d g k) ∙ sym it

all_hold : {A : Type 0} (P : A → Type 0) (xs : List A) (x : A) (k : ℕ) → AllByRecursion P xs → k < length xs → slice_index_or xs k x ≡ x → P x
all_hold P [] x k h below is = absurd (omega (arith, below))
all_hold P (y ∷ ys) x zero h below is = subst P is h.0
all_hold P (y ∷ ys) x (suc k) h below is = all_hold P ys x k h.1 (omega (arith, below)) is

pub lacks_one : {A : Type 0} (P : A → Type 0) (xs : List A) (b c : Bool) → SomeLacks P xs b → SomeLacks P xs c → b ≡ c
lacks_one P xs true true h i = refl
lacks_one P xs false false h i = refl
lacks_one P xs true false h i = absurd (h.2 (all_hold P xs h.0 h.1.0 i h.1.1 h.1.2))
lacks_one P xs false true h i = absurd (i.2 (all_hold P xs i.0 i.1.0 h i.1.1 i.1.2))
