-- One element of a list of lists after another.
use Rattle.std.proofs.Common.{◌≡◌, ℕ, suc, ◌+◌, ◌-◌, ◌<◌, List, [], ◌∷◌, ◌++◌, length, slice_get, Some, refl, sym, ◌∙◌, ap, ap₂, arith, flat_map}
use Rattle.microcode.specs.Rows.{rows, rest_of}

-- within a list
pub goes_on : {A : Type 0} (F : ℕ → List A) (n x : ℕ) (left more : List A) (s : A) → left ≡ s ∷ more
    → rest_of F n x left ≡ s ∷ rest_of F n x more
goes_on F n x left more s e = ap (λ l. rest_of F n x l) e

-- from the end of a list into the next one
pub carries : {A : Type 0} (F : ℕ → List A) (n x : ℕ) (left : List A) (s : A) → left ≡ s ∷ [] → x + 1 < n
    → rest_of F n x left ≡ s ∷ rest_of F n (x + 1) (F (x + 1))
carries F n x left s e h =
    let more : n - (x + 1) ≡ suc (n - (x + 1 + 1)) = omega arith in
    ap (λ l. rest_of F n x l) e ∙ ap (λ m. s ∷ rows F (x + 1) m) more

-- at the end of the last list
pub ends : {A : Type 0} (F : ℕ → List A) (n x : ℕ) (left : List A) (s : A) → left ≡ s ∷ [] → x + 1 ≡ n
    → rest_of F n x left ≡ s ∷ []
ends F n x left s e h =
    let none : n - (x + 1) ≡ 0 = omega arith in
    ap (λ l. rest_of F n x l) e ∙ ap (λ m. s ∷ rows F (x + 1) m) none

-- all are left at the beginning
pub starts : {A : Type 0} (F : ℕ → List A) (n : ℕ) (left : List A) → 0 < n → F 0 ≡ left → rows F 0 n ≡ rest_of F n 0 left
starts F n left h e =
    let all : n ≡ suc (n - (0 + 1)) = omega arith in
    ap (λ m. rows F 0 m) all ∙ ap (λ l. l ++ rows F (0 + 1) (n - (0 + 1))) e

-- a list for each element of a list
pub rows_are : {X A : Type 0} (F : ℕ → List A) (g : X → List A) (xs : List X) (i : ℕ)
    → ((k : ℕ) (x : X) → slice_get xs k ≡ Some x → F (i + k) ≡ g x) → rows F i (length xs) ≡ flat_map g xs
rows_are F g [] i h = refl
rows_are F g (x ∷ xs) i h =
    let here : i + 0 ≡ i = omega arith in
    ap₂ (λ a b. a ++ b) (sym (ap F here) ∙ h 0 x refl)
    (rows_are F g xs (i + 1) (λ k y e. let there : i + 1 + k ≡ i + suc k = omega arith in ap F there ∙ h (suc k) y e))
