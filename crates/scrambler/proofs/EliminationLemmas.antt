-- Elimination, one row after another. It keeps as many vectors as the matrix has rows, so that each row dealt with
-- takes 1 of its own vector and 0 of every other. They begin as the unit vectors.
use Rattle.std.proofs.Common.{◌⊎◌, ◌≡◌, ◌≢◌, ℕ, suc, ◌+◌, ◌*◌, ◌%◌, ◌^◌, ◌<◌, ◌≤◌, refl, sym, ◌∙◌, ap, subst, arith, bit_xor, inl, inr}
use Rattle.std.proofs.Math.Nat.{mul-zero, mul-one}
use Rattle.std.proofs.Math.Pow.{pow-lt}
use Rattle.std.proofs.lemmas.Bool.{cases_lt}
use Rattle.std.proofs.lemmas.Nat.{xor_lt, pow_pos}
use Rattle.std.proofs.lemmas.Nat.Bits.{same_from_bits_below, bit_at-lt, bit_at-pow_same, bit_at-pow_other, bit_at-zero}
use Rattle.std.specs.Int.{bit_at}
use Rattle.std.specs.Int.Bits.{xor_self, xor_assoc, xor_zero_l, xor_zero_r}
use Rattle.scrambler.specs.Linear.{dot, number, combination}
use Rattle.scrambler.specs.Reduced.{Reduced}
use Rattle.scrambler.specs.inner.Reduced.{SwapsAt, ClearsBy}
use Rattle.scrambler.proofs.LinearLemmas.{dot_below, dot_comm, dot-zero, dot_xor, dot_xor_left, dot-scaled, dot-unit, number-below, bit_at-number, number_same, number-bits, number-zero, combination-below, dot-combination, scaled}

dot_scaled_right : (r b v : ℕ) → b < 2 → dot r (b * v) ≡ b * dot r v
dot_scaled_right r b v h = dot_comm r (b * v) ∙ dot-scaled b v r h ∙ ap (λ (n : ℕ). b * n) (dot_comm v r)

-- ---- the beginning

pub zero_bits : (w r : ℕ) → r < 2 ^ w → ((l : ℕ) → l < w → bit_at r l ≡ 0) → r ≡ 0
zero_bits w r h z = same_from_bits_below w r 0 h (pow_pos w) (λ i p. z i p ∙ sym (bit_at-zero i))

pub units_are_reduced : (w : ℕ) (row source : ℕ → ℕ) → ((l : ℕ) → l < w → source l ≡ 2 ^ l) → ((l : ℕ) → l < w → 2 ^ l < 2 ^ w) → Reduced w 0 row source
units_are_reduced w row source units small =
    record {
      own = λ j l p. absurd (omega arith);
      separates = λ r h z. zero_bits w r h (λ l p. sym (ap (dot r) (units l p) ∙ dot-unit r l) ∙ z l p);
      fits = λ l p. subst (λ (x : ℕ). x < 2 ^ w) (sym (units l p)) (small l p);
    }

-- ---- sums of two equal things

pub even_sum : (a b : ℕ) → a ≡ b → (a + b) % 2 ≡ 0
even_sum a b e = omega arith

pub equal_from_xor : (a b : ℕ) → bit_xor a b ≡ 0 → a ≡ b
equal_from_xor a b e =
    sym (xor_zero_r a) ∙ ap (bit_xor a) (sym (xor_self b)) ∙ sym (xor_assoc a b b) ∙ ap (λ (x : ℕ). bit_xor x b) e ∙ xor_zero_l b

unit_turned : (i l : ℕ) → bit_at (2 ^ i) l ≡ bit_at (2 ^ l) i
unit_turned i l =
    elim (cases_lt i l) [
      | inl p ↦ let n : l ≢ i = omega arith in let m : i ≢ l = omega arith in bit_at-pow_other i l n ∙ sym (bit_at-pow_other l i m)
      | inr p ↦ elim (cases_lt l i) [
        | inl q ↦ let n : l ≢ i = omega arith in let m : i ≢ l = omega arith in bit_at-pow_other i l n ∙ sym (bit_at-pow_other l i m)
        | inr q ↦ let e : i ≡ l = omega arith in subst (λ (x : ℕ). bit_at (2 ^ i) x ≡ bit_at (2 ^ x) i) e refl
      ]
    ]

-- what a combination of rows takes of a vector
takes_own : (w i n : ℕ) (row source : ℕ → ℕ) (set l : ℕ) → Reduced w i row source → n ≤ i → l < w → l < n
    → dot (combination row n set) (source l) ≡ bit_at set l
takes_own w i n row source set l r h p q =
    dot-combination row n set (source l)
    ∙ ap (dot set) (number_same (λ j. dot (row j) (source l)) (bit_at (2 ^ l)) n (λ j b. r.own j l (omega arith) p ∙ unit_turned j l)
    ∙ number-bits (2 ^ l) n (pow-lt q))
    ∙ dot-unit set l

takes_none : (w i n : ℕ) (row source : ℕ → ℕ) (set l : ℕ) → Reduced w i row source → n ≤ i → l < w → n ≤ l
    → dot (combination row n set) (source l) ≡ 0
takes_none w i n row source set l r h p q =
    dot-combination row n set (source l)
    ∙ ap (dot set) (number-zero (λ j. dot (row j) (source l)) n
    (λ j b. r.own j l (omega arith) p ∙ (let other : l ≢ j = omega arith in bit_at-pow_other j l other)))
    ∙ dot-zero set

-- ---- a row that takes 0 of the vectors that are left is a combination of the rows before it

-- which rows
abbrev pub named : (ℕ → ℕ) → ℕ → ℕ → ℕ
named source i r = number (λ l. dot (source l) r) i

pub named-below : (source : ℕ → ℕ) (i r : ℕ) → named source i r < 2 ^ i
named-below source i r = number-below (λ l. dot (source l) r) i (λ l _. dot_below (source l) r)

pub spanned : (w i : ℕ) (row source : ℕ → ℕ) (r : ℕ) → Reduced w i row source → i ≤ w → r < 2 ^ w
    → ((j : ℕ) → j < i → row j < 2 ^ w) → ((l : ℕ) → i ≤ l → l < w → dot r (source l) ≡ 0)
    → combination row i (named source i r) ≡ r
spanned w i row source r red h small rows rest =
    let set = named source i r in
    let sum = combination row i set in
    let difference : bit_xor r sum ≡ 0 =
    red.separates (bit_xor r sum) (xor_lt w r sum small (combination-below row i set w rows))
    (λ l p. dot_xor_left r sum (source l) ∙ even_sum (dot r (source l)) (dot sum (source l))
    (elim (cases_lt l i) [
      | inl q ↦ dot_comm r (source l) ∙ sym (bit_at-number (λ k. dot (source k) r) i l (λ k _. dot_below (source k) r) q)
          ∙ sym (takes_own w i i row source set l red (omega arith) p q)
      | inr q ↦ rest l q p ∙ sym (takes_none w i i row source set l red (omega arith) p q)
    ])) in
    sym (equal_from_xor r sum difference)

-- ---- a row that was dealt with is no combination of the rows before it

pub independent : (w i : ℕ) (row source : ℕ → ℕ) (j set : ℕ) → Reduced w i row source → i ≤ w → j < i
    → combination row j set ≡ row j → ⊥
independent w i row source j set red h p e =
    let one : dot (row j) (source j) ≡ 1 = red.own j j p (omega arith) ∙ bit_at-pow_same j in
    let none : dot (combination row j set) (source j) ≡ 0 = takes_none w i j row source set j red (omega arith) (omega arith) (omega arith) in
    let same : dot (combination row j set) (source j) ≡ dot (row j) (source j) = ap (λ (x : ℕ). dot x (source j)) e in
    absurd (omega arith)

-- ---- one more row

same_place : (i l : ℕ) → (l ≡ i) ⊎ (l ≢ i)
same_place i l =
    elim (cases_lt i l) [
      | inl p ↦ inr (omega arith)
      | inr p ↦ elim (cases_lt l i) [ inl q ↦ inr (omega arith) | inr q ↦ inl (omega arith) ]
    ]

-- after a swap, each vector is one of the old ones
swapped : (i p w l : ℕ) (old new : ℕ → ℕ) → SwapsAt i p w old new → i < w → p < w → l < w
    → (P : ℕ → ℕ → Type 0) → P i p → P p i → (l ≢ i → l ≢ p → P l l) → (k : ℕ) × (k < w) × (new l ≡ old k) × P l k
swapped i p w l old new s hi hp hl P a b c =
    elim (same_place i l) [
      | inl e ↦ (p, hp, ap new e ∙ s.first, subst (λ (x : ℕ). P x p) (sym e) a)
      | inr n ↦ elim (same_place p l) [
        | inl e ↦ (i, hi, ap new e ∙ s.second, subst (λ (x : ℕ). P x i) (sym e) b)
        | inr m ↦ (l, hl, s.others l n m, c n m)
      ]
    ]

pub swap_keeps : (w i p : ℕ) (row old new : ℕ → ℕ) → Reduced w i row old → SwapsAt i p w old new → i < w → i ≤ p → p < w → Reduced w i row new
swap_keeps w i p row old new red s hi ip hp =
    record {
      own = λ j l a b.
          let k = swapped i p w l old new s hi hp b (λ x y. bit_at (2 ^ j) y ≡ bit_at (2 ^ j) x)
          (let m : p ≢ j = omega arith in let n : i ≢ j = omega arith in bit_at-pow_other j p m ∙ sym (bit_at-pow_other j i n))
          (let m : p ≢ j = omega arith in let n : i ≢ j = omega arith in bit_at-pow_other j i n ∙ sym (bit_at-pow_other j p m))
          (λ _ _. refl) in
          ap (dot (row j)) k.2 ∙ red.own j k.0 a k.1 ∙ k.3;
      separates = λ r h z. red.separates r h (λ l b.
          elim (same_place i l) [
            | inl e ↦ ap (λ (x : ℕ). dot r (old x)) e ∙ ap (dot r) (sym s.second) ∙ z p hp
            | inr n ↦ elim (same_place p l) [
              | inl e ↦ ap (λ (x : ℕ). dot r (old x)) e ∙ ap (dot r) (sym s.first) ∙ z i hi
              | inr m ↦ ap (dot r) (sym (s.others l n m)) ∙ z l b
            ]
          ]);
      fits = λ l b.
          let k = swapped i p w l old new s hi hp b (λ x y. Unit {0}) tt tt (λ _ _. tt) in
          subst (λ (x : ℕ). x < 2 ^ w) (sym k.2) (red.fits k.0 k.1);
    }

-- the row i takes 1 of its own vector once that is put in its place
pub clear_keeps : (w i : ℕ) (row old new : ℕ → ℕ) → Reduced w i row old → ClearsBy i w (row i) old new → i < w
    → dot (row i) (old i) ≡ 1 → Reduced w (suc i) row new
clear_keeps w i row old new red c hi one =
    record {
      own = λ j l a b.
          elim (same_place i l) [
            | inl e ↦ ap (λ (x : ℕ). dot (row j) (new x)) e ∙ ap (dot (row j)) c.kept ∙ own_of_i j a
                ∙ ap (bit_at (2 ^ j)) (sym e)
            | inr n ↦ ap (dot (row j)) (c.cleared l b n) ∙ dot_xor (row j) (old l) (dot (row i) (old l) * old i)
                ∙ own_of_other j l a b n
          ];
      separates = λ r h z. red.separates r h (λ l b.
          let at_i : dot r (old i) ≡ 0 = ap (dot r) (sym c.kept) ∙ z i hi in
          elim (same_place i l) [
            | inl e ↦ ap (λ (x : ℕ). dot r (old x)) e ∙ at_i
            | inr n ↦
                let taken = dot_scaled_right r (dot (row i) (old l)) (old i) (dot_below (row i) (old l)) in
                let sum = ap (dot r) (sym (c.cleared l b n)) ∙ z l b in
                let split = dot_xor r (old l) (dot (row i) (old l) * old i) in
                let nothing : dot (row i) (old l) * dot r (old i) ≡ 0 = ap (λ (x : ℕ). dot (row i) (old l) * x) at_i ∙ mul-zero (dot (row i) (old l)) in
                let small = dot_below r (old l) in
                omega arith
          ]);
      fits = λ l b.
          elim (same_place i l) [
            | inl e ↦ subst (λ (x : ℕ). x < 2 ^ w) (sym (ap new e ∙ c.kept)) (red.fits i hi)
            | inr n ↦ subst (λ (x : ℕ). x < 2 ^ w) (sym (c.cleared l b n))
                (xor_lt w (old l) (dot (row i) (old l) * old i) (red.fits l b)
                (scaled (λ (x : ℕ). x < 2 ^ w) (dot (row i) (old l)) (old i) (dot_below (row i) (old l)) (pow_pos w) (red.fits i hi)))
          ];
    }
  where
    own_of_i : (j : ℕ) → j < suc i → dot (row j) (old i) ≡ bit_at (2 ^ j) i
    own_of_i j a =
        elim (cases_lt j i) [
          | inl p ↦ red.own j i p hi
          | inr p ↦ let e : i ≡ j = omega arith in subst (λ (x : ℕ). dot (row x) (old i) ≡ bit_at (2 ^ x) i) e (one ∙ sym (bit_at-pow_same i))
        ]

    own_of_other : (j l : ℕ) → j < suc i → l < w → l ≢ i
        → (dot (row j) (old l) + dot (row j) (dot (row i) (old l) * old i)) % 2 ≡ bit_at (2 ^ j) l
    own_of_other j l a b n =
        let taken = dot_scaled_right (row j) (dot (row i) (old l)) (old i) (dot_below (row i) (old l)) in
        elim (cases_lt j i) [
          | inl p ↦
              let other : i ≢ j = omega arith in
              let zero_of_i : dot (row j) (old i) ≡ 0 = red.own j i p hi ∙ bit_at-pow_other j i other in
              let nothing : dot (row i) (old l) * dot (row j) (old i) ≡ 0 =
              ap (λ (x : ℕ). dot (row i) (old l) * x) zero_of_i ∙ mul-zero (dot (row i) (old l)) in
              let own = red.own j l p b in
              let small = bit_at-lt (2 ^ j) l in
              omega arith
          | inr p ↦
              let e : i ≡ j = omega arith in
              let whole : dot (row i) (old l) * dot (row i) (old i) ≡ dot (row i) (old l) =
              ap (λ (x : ℕ). dot (row i) (old l) * x) one ∙ mul-one (dot (row i) (old l)) in
              let doubled : (dot (row i) (old l) + dot (row i) (dot (row i) (old l) * old i)) % 2 ≡ 0 =
              even_sum (dot (row i) (old l)) (dot (row i) (dot (row i) (old l) * old i))
              (sym (dot_scaled_right (row i) (dot (row i) (old l)) (old i) (dot_below (row i) (old l)) ∙ whole)) in
              subst (λ (x : ℕ). (dot (row x) (old l) + dot (row x) (dot (row i) (old l) * old i)) % 2 ≡ bit_at (2 ^ x) l) e
              (doubled ∙ sym (bit_at-pow_other i l n))
        ]

-- ---- the end

-- the vectors undo a matrix whose rows are all dealt with
pub undone : (w : ℕ) (row source : ℕ → ℕ) (y : ℕ) → Reduced w w row source → y < 2 ^ w
    → number (λ i. dot (row i) (combination source w y)) w ≡ y
undone w row source y red h =
    number_same (λ i. dot (row i) (combination source w y)) (bit_at y) w
    (λ i p. dot_comm (row i) (combination source w y) ∙ dot-combination source w y (row i)
    ∙ ap (dot y) (number_same (λ l. dot (source l) (row i)) (bit_at (2 ^ i)) w (λ l q. dot_comm (source l) (row i) ∙ red.own i l p q)
    ∙ number-bits (2 ^ i) w (pow-lt p))
    ∙ dot-unit y i)
    ∙ number-bits y w h

-- a vector of which all rows take 0 is 0
kernel : (w : ℕ) (row source : ℕ → ℕ) (x : ℕ) → Reduced w w row source → ((j : ℕ) → j < w → row j < 2 ^ w) → x < 2 ^ w
    → ((j : ℕ) → j < w → dot (row j) x ≡ 0) → x ≡ 0
kernel w row source x red rows h z =
    zero_bits w x h (λ b p.
    let set = named source w (2 ^ b) in
    let unit = spanned w w row source (2 ^ b) red (omega arith) (pow-lt p) rows (λ l q t. absurd (omega arith)) in
    sym (dot-unit x b) ∙ dot_comm x (2 ^ b) ∙ ap (λ (r : ℕ). dot r x) (sym unit) ∙ dot-combination row w set x
    ∙ ap (dot set) (number-zero (λ j. dot (row j) x) w z) ∙ dot-zero set)

-- and no other vector has the same product
pub only_one : (w : ℕ) (row source : ℕ → ℕ) (x z y : ℕ) → Reduced w w row source → ((j : ℕ) → j < w → row j < 2 ^ w)
    → x < 2 ^ w → z < 2 ^ w → number (λ i. dot (row i) x) w ≡ y → number (λ i. dot (row i) z) w ≡ y → z ≡ x
only_one w row source x z y red rows hx hz ex ez =
    equal_from_xor z x
    (kernel w row source (bit_xor z x) red rows (xor_lt w z x hz hx)
    (λ j p. dot_xor (row j) z x ∙ even_sum (dot (row j) z) (dot (row j) x)
    (sym (bit_at-number (λ i. dot (row i) z) w j (λ i _. dot_below (row i) z) p) ∙ ap (λ (n : ℕ). bit_at n j) (ez ∙ sym ex)
    ∙ bit_at-number (λ i. dot (row i) x) w j (λ i _. dot_below (row i) x) p)))

-- ---- a matrix with a dependence has a vector that is no product

pub never : (w : ℕ) (row : ℕ → ℕ) (i set x : ℕ) → i < w → combination row i set ≡ row i → number (λ j. dot (row j) x) w ≡ 2 ^ i → ⊥
never w row i set x p e q =
    let bit : (j : ℕ) → j < w → dot (row j) x ≡ bit_at (2 ^ i) j =
    λ j b. sym (bit_at-number (λ k. dot (row k) x) w j (λ k _. dot_below (row k) x) b) ∙ ap (λ (n : ℕ). bit_at n j) q in
    let one : dot (row i) x ≡ 1 = bit i p ∙ bit_at-pow_same i in
    let none : dot (combination row i set) x ≡ 0 =
    dot-combination row i set x
    ∙ ap (dot set) (number-zero (λ j. dot (row j) x) i (λ j b. bit j (omega arith) ∙ (let other : j ≢ i = omega arith in bit_at-pow_other i j other)))
    ∙ dot-zero set in
    let same : dot (combination row i set) x ≡ dot (row i) x = ap (λ (r : ℕ). dot r x) e in
    absurd (omega arith)
