-- Choices among leaves.
use Rattle.std.proofs.Common.{◌≡◌, ℕ, zero, suc, ◌+◌, ◌*◌, ◌/◌, ◌%◌, ◌^◌, ◌<◌, ◌≤◌, cond, not, List, [], ◌∷◌, length, take, drop, map, refl, sym, ap, ◌∙◌, subst, arith, inl, inr}
use Rattle.std.specs.Prelude.{slice_index_or}
use Rattle.std.proofs.Math.Nat.{mod-eq_of_lt}
use Rattle.std.proofs.lemmas.Nat.{mod-pow-add, pow_pos, pow-add, mod_below}
use Rattle.std.proofs.lemmas.List.{length-drop}
use Rattle.std.proofs.lemmas.Bool.Decides.{eqb_tells, leb_tells}
use Rattle.verilog_tree.specs.Plain.{Expression, Net, BitSelect}
use Rattle.verilog_tree.specs.Meaning.{Env, truth, value, width}
use Rattle.rtl_layout.specs.Build.{choose, bit_of, leaf, below, pick}

-- the value of a bit of a name
pub bit_of_is : (ws : List ℕ → ℕ) (e : Env) (n : List ℕ) (w i : ℕ) → e n < 2 ^ w → i < w → value ws e (bit_of n w i) ≡ e n / 2 ^ i % 2
bit_of_is ws e n w i h k =
    elim (eqb_tells w 1) [
      | inl q ↦
          let one = q.1 in
          let none : i ≡ 0 = omega arith in
          let small : e n < 2 ^ 1 = subst (λ v. e n < 2 ^ v) one h in
          ap (λ t. value ws e (cond t (Net n) (BitSelect n i))) q.0 ∙ lone (e n) i none small
      | inr q ↦ ap (λ t. value ws e (cond t (Net n) (BitSelect n i))) q.0
    ]
  where
    lone : (v i : ℕ) → i ≡ 0 → v < 2 ^ 1 → v ≡ v / 2 ^ i % 2
    lone v i z s = rw z (omega arith)

-- the leaves behind the first k, and the first k
pub leaf_drop : (k r j : ℕ) (xs : List Expression) → j ≡ k + r → leaf (drop k xs) r ≡ leaf xs j
leaf_drop zero r j xs e = let same : r ≡ j = omega arith in ap (leaf xs) same
leaf_drop (suc k) r zero xs e = absurd (omega arith)
leaf_drop (suc k) r (suc j) [] e = refl
leaf_drop (suc k) r (suc j) (x ∷ xs) e = leaf_drop k r j xs (omega arith)

pub leaf_take : (k r : ℕ) (xs : List Expression) → r < k → leaf (take k xs) r ≡ leaf xs r
leaf_take zero r xs h = absurd (omega arith)
leaf_take (suc k) r [] h = refl
leaf_take (suc k) zero (x ∷ xs) h = refl
leaf_take (suc k) (suc r) (x ∷ xs) h = leaf_take k r xs (omega arith)

pub length_take : (k : ℕ) (xs : List Expression) → k ≤ length xs → length (take k xs) ≡ k
length_take zero xs h = refl
length_take (suc k) [] h = absurd (omega arith)
length_take (suc k) (x ∷ xs) h = ap suc (length_take k xs (omega arith))

-- a number's low bits, by its bit i and those below
low_split : (u i : ℕ) → u % 2 ^ suc i ≡ (u / 2 ^ i % 2) * 2 ^ i + u % 2 ^ i
low_split u i = let m : suc i ≡ 1 + i = omega arith in ap (λ k. u % 2 ^ k) m ∙ mod-pow-add u 1 i

pub double : (i : ℕ) → 2 ^ suc i ≡ 2 ^ i + 2 ^ i
double i = let m : suc i ≡ 1 + i = omega arith in ap (λ k. 2 ^ k) m ∙ pow-add 2 1 i ∙ (let t : 2 ^ 1 * 2 ^ i ≡ 2 ^ i + 2 ^ i = omega arith in t)

module _ (ws : List ℕ → ℕ) (e : Env) (n : List ℕ) (w : ℕ) (fits : e n < 2 ^ w) where
  pub below_is : (i : ℕ) (xs : List Expression) → i ≤ w → length xs ≤ 2 ^ i → e n % 2 ^ i < length xs → value ws e (below n w i xs) ≡ value ws e (leaf xs (e n % 2 ^ i))
  below_is zero xs h l k = let z : 0 ≡ e n % 2 ^ 0 = omega arith in ap (λ j. value ws e (leaf xs j)) z
  below_is (suc i) xs h l k =
      elim (leb_tells (length xs) (2 ^ i)) [
        | inl q ↦
            let few = q.1 in
            let none : e n / 2 ^ i % 2 ≡ 0 = grind (arith, s, b, mod_below) in
            let same : e n % 2 ^ i ≡ e n % 2 ^ suc i = omega (arith, s, ap (λ v. v * 2 ^ i) none) in
            ap (λ t. value ws e (cond t (below n w i xs) rest)) q.0
            ∙ below_is i xs (omega arith) few (omega arith)
            ∙ ap (λ j. value ws e (leaf xs j)) same
        | inr q ↦
            let many = q.1 in
            ap (λ t. value ws e (cond t (below n w i xs) rest)) q.0
            ∙ ap (λ v. cond (truth v) (value ws e (below n w i (drop (2 ^ i) xs))) (value ws e (below n w i (take (2 ^ i) xs)))) (bit_of_is ws e n w i fits (omega arith))
            ∙ elim (eqb_tells (e n / 2 ^ i % 2) 0) [
              | inl z ↦
                  let same : e n % 2 ^ i ≡ e n % 2 ^ suc i = omega (arith, s, ap (λ v. v * 2 ^ i) z.1) in
                  let lower : e n % 2 ^ i < 2 ^ i = mod_below (e n) (2 ^ i) (pow_pos i) in
                  let size = length_take (2 ^ i) xs (omega arith) in
                  ap (λ t. cond (not t) (value ws e (below n w i (drop (2 ^ i) xs))) (value ws e (below n w i (take (2 ^ i) xs)))) z.0
                  ∙ below_is i (take (2 ^ i) xs) (omega arith) (omega arith) (omega arith)
                  ∙ ap (λ x. value ws e x) (leaf_take (2 ^ i) (e n % 2 ^ i) xs lower)
                  ∙ ap (λ j. value ws e (leaf xs j)) same
              | inr z ↦
                  let other = z.1 in
                  let two : e n / 2 ^ i % 2 < 2 = mod_below (e n / 2 ^ i) 2 (omega arith) in
                  let one : e n / 2 ^ i % 2 ≡ 1 = omega arith in
                  let same : e n % 2 ^ suc i ≡ 2 ^ i + e n % 2 ^ i = s ∙ ap (λ v. v * 2 ^ i + e n % 2 ^ i) one ∙ (let t : 1 * 2 ^ i + e n % 2 ^ i ≡ 2 ^ i + e n % 2 ^ i = omega arith in t) in
                  let size = length-drop (2 ^ i) xs in
                  ap (λ t. cond (not t) (value ws e (below n w i (drop (2 ^ i) xs))) (value ws e (below n w i (take (2 ^ i) xs)))) z.0
                  ∙ below_is i (drop (2 ^ i) xs) (omega arith) (omega (arith, double i)) (omega arith)
                  ∙ ap (λ x. value ws e x) (leaf_drop (2 ^ i) (e n % 2 ^ i) (e n % 2 ^ suc i) xs same)
            ]
      ]
    where
      s : e n % 2 ^ suc i ≡ (e n / 2 ^ i % 2) * 2 ^ i + e n % 2 ^ i
      s = low_split (e n) i

      b : e n / 2 ^ i % 2 < 2
      b = mod_below (e n / 2 ^ i) 2 (omega arith)

      rest : Expression
      rest = choose (bit_of n w i) (below n w i (drop (2 ^ i) xs)) (below n w i (take (2 ^ i) xs))

pub pick_is : (ws : List ℕ → ℕ) (e : Env) (n : List ℕ) (w : ℕ) (xs : List Expression) → length xs ≤ 2 ^ w → e n < length xs → value ws e (pick n w xs) ≡ value ws e (leaf xs (e n))
pick_is ws e n w xs h k =
    let fits : e n < 2 ^ w = omega arith in
    let same : e n % 2 ^ w ≡ e n = mod-eq_of_lt fits in
    below_is ws e n w fits w xs (omega arith) h (subst (λ v. v < length xs) (sym same) k) ∙ ap (λ j. value ws e (leaf xs j)) same

-- all leaves have the width k
abbrev pub AllWide : (List ℕ → ℕ) → ℕ → List Expression → Type 0
AllWide ws k xs = (j : ℕ) → j < length xs → width ws (leaf xs j) ≡ k

pub below_wide : (ws : List ℕ → ℕ) (n : List ℕ) (w k i : ℕ) (xs : List Expression) → 0 < length xs → AllWide ws k xs → width ws (below n w i xs) ≡ k
below_wide ws n w k zero xs h a = a 0 h
below_wide ws n w k (suc i) xs h a =
    elim (leb_tells (length xs) (2 ^ i)) [
      | inl q ↦ ap (λ t. width ws (cond t (below n w i xs) (choose (bit_of n w i) (below n w i (drop (2 ^ i) xs)) (below n w i (take (2 ^ i) xs))))) q.0 ∙ below_wide ws n w k i xs h a
      | inr q ↦
          let more = q.1 in
          let size = length-drop (2 ^ i) xs in
          ap (λ t. width ws (cond t (below n w i xs) (choose (bit_of n w i) (below n w i (drop (2 ^ i) xs)) (below n w i (take (2 ^ i) xs))))) q.0
          ∙ below_wide ws n w k i (drop (2 ^ i) xs) (omega arith) (λ j l. ap (width ws) (leaf_drop (2 ^ i) j (2 ^ i + j) xs refl) ∙ a (2 ^ i + j) (omega arith))
    ]

-- ---- leaves made from a table

pub leaf_map : {A : Type 0} (f : A → Expression) (d : A) (xs : List A) (k : ℕ) → k < length xs → leaf (map f xs) k ≡ f (slice_index_or xs k d)
leaf_map f d [] k h = absurd (omega arith)
leaf_map f d (x ∷ xs) zero h = refl
leaf_map f d (x ∷ xs) (suc k) h = leaf_map f d xs k (omega arith)

pub length_map : {A : Type 0} (f : A → Expression) (xs : List A) → length (map f xs) ≡ length xs
length_map f [] = refl
length_map f (x ∷ xs) = ap suc (length_map f xs)

-- a choice among what a table gives
pub pick_of : {A : Type 0} (ws : List ℕ → ℕ) (e : Env) (n : List ℕ) (w : ℕ) (f : A → Expression) (d : A) (xs : List A) (k : ℕ)
    → length xs ≤ 2 ^ w → e n ≡ k → k < length xs → value ws e (pick n w (map f xs)) ≡ value ws e (f (slice_index_or xs k d))
pick_of ws e n w f d xs k fits held below =
    let size = length_map f xs in
    pick_is ws e n w (map f xs) (omega arith) (omega arith)
    ∙ ap (λ j. value ws e (leaf (map f xs) j)) held
    ∙ ap (λ x. value ws e x) (leaf_map f d xs k below)
