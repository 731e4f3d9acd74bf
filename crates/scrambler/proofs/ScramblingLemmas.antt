-- What elimination and its vectors say of a scrambling.
use Rattle.std.proofs.Common.{◌≡◌, ℕ, zero, suc, ◌+◌, ◌-◌, ◌*◌, ◌%◌, ◌^◌, ◌<◌, ◌≤◌, List, [], ◌∷◌, length, take, slice_index, refl, sym, ◌∙◌, ap, subst, arith, bit_or, bit_xor, inl, inr}
use Rattle.std.proofs.Math.Path.{ap₂}
use Rattle.std.proofs.Math.Pow.{pow-lt}
use Rattle.std.proofs.Math.Nat.{zero-add, add_comm, zero-mul, one-mul, mul-one, mod-eq_of_lt, pow-suc}
use Rattle.std.proofs.lemmas.Bool.{cases_lt}
use Rattle.std.proofs.lemmas.List.{get_or-take, length-take-le}
use Rattle.std.proofs.lemmas.Nat.{xor_lt, pow_pos, or_shifted}
use Rattle.std.proofs.lemmas.Nat.Bits.{same_from_bits_below, bit_at-lt, bit_at_xor, bit_at-zero, bit_at_cat_low, bit_at_cat_high, bit_at_above}
use Rattle.std.specs.Int.{bit_at}
use Rattle.std.specs.Int.Bits.{xor_self, xor_assoc, xor_zero_r}
use Rattle.scrambler.specs.Linear.{dot, number, combination}
use Rattle.scrambler.specs.Reduced.{Reduced}
use Rattle.scrambler.specs.Scrambling.{Scrambling, IsWithin, IsFull, IsInvertible, IsLeastDependence, matrix_of, row, product, logical, logical_bit, doublings, identity}
use Rattle.scrambler.specs.Undoing.{IsUndone}
use Rattle.scrambler.proofs.LinearLemmas.{dot_below, dot_comm, dot-unit, number-below, bit_at-number, number_same, number-bits, combination-below}
use Rattle.scrambler.proofs.EliminationLemmas.{units_are_reduced, named, named-below, spanned, independent, undone, only_one, never}

-- ---- the rows of the matrix, and the vectors of one bit

pub row-matrix_of : (w : ℕ) (rows : List ℕ) (c i : ℕ) → i < w → row (matrix_of w rows c) i ≡ slice_index rows i
row-matrix_of w rows c i h = get_or-take w rows i 0 h

pub rows_fit : (w : ℕ) (rows : List ℕ) (c : ℕ) → IsWithin w rows c → (i : ℕ) → i < w → row (matrix_of w rows c) i < 2 ^ w
rows_fit w rows c h i p = subst (λ (x : ℕ). x < 2 ^ w) (sym (row-matrix_of w rows c i p)) (h.rows_fit i p)

slice_index-doublings : (x n i : ℕ) → i < n → slice_index (doublings x n) i ≡ x * 2 ^ i
slice_index-doublings x zero i h = absurd (omega arith)
slice_index-doublings x (suc n) zero h = sym (mul-one x)
slice_index-doublings x (suc n) (suc i) h =
    let rest = slice_index-doublings (x + x) n i (omega arith) in
    let twice : (x + x) * 2 ^ i ≡ x * (2 ^ i * 2) = omega arith in
    rest ∙ twice ∙ ap (λ (n : ℕ). x * n) (sym (pow-suc 2 i))

abbrev pub units : List ℕ
units = 1 ∷ 2 ∷ 4 ∷ 8 ∷ 16 ∷ 32 ∷ 64 ∷ 128 ∷ 256 ∷ 512 ∷ 1024 ∷ 2048 ∷ 4096 ∷ 8192 ∷ 16384 ∷ 32768 ∷ []

units_are_doublings : doublings 1 16 ≡ units
units_are_doublings = refl

pub unit_at : (i : ℕ) → i < 16 → slice_index units i ≡ 2 ^ i
unit_at i h = ap (λ (xs : List ℕ). slice_index xs i) (sym units_are_doublings) ∙ slice_index-doublings 1 16 i h ∙ one-mul (2 ^ i)

take-doublings : (x w m : ℕ) → w ≤ m → take w (doublings x m) ≡ doublings x w
take-doublings x zero m h = refl
take-doublings x (suc w) zero h = absurd (omega arith)
take-doublings x (suc w) (suc m) h = ap (λ (xs : List ℕ). x ∷ xs) (take-doublings (x + x) w m (omega arith))

pub units_of : (w : ℕ) → w ≤ 16 → take w units ≡ doublings 1 w
units_of w h = ap (take w) (sym units_are_doublings) ∙ take-doublings 1 w 16 h

pub units_reduced : (w : ℕ) (r : ℕ → ℕ) → w ≤ 16 → Reduced w 0 r (slice_index units)
units_reduced w r h = units_are_reduced w r (slice_index units) (λ l p. unit_at l (omega arith)) (λ l p. pow-lt p)

-- ---- elimination

pub dependence : (w : ℕ) (rows : List ℕ) (c i r : ℕ) (source : ℕ → ℕ) → IsWithin w rows c → Reduced w i (row (matrix_of w rows c)) source
    → i < w → r ≡ slice_index rows i → ((l : ℕ) → i ≤ l → l < w → dot r (source l) ≡ 0)
    → IsLeastDependence (matrix_of w rows c) (bit_or (1 * 2 ^ i % 65536) (number (λ l. dot (source l) r) i))
dependence w rows c i r source within red p e rest =
    let is_row : r ≡ row (matrix_of w rows c) i = e ∙ sym (row-matrix_of w rows c i p) in
    let fits : r < 2 ^ w = subst (λ (x : ℕ). x < 2 ^ w) (sym e) (within.rows_fit i p) in
    let set = named source i r in
    let below = named-below source i r in
    let narrow = within.narrow in
    let small : 1 * 2 ^ i < 65536 = subst (λ (x : ℕ). x < 65536) (sym (one-mul (2 ^ i))) (pow-lt {j = 16} (omega arith)) in
    record {
      last = i;
      others = set;
      in_matrix = p;
      depends = record {
        below = below;
        sum = spanned w i (row (matrix_of w rows c)) source r red (omega arith) fits (λ j q. rows_fit w rows c within j (omega arith)) rest ∙ is_row;
      };
      together = ap (λ (x : ℕ). bit_or x set) (mod-eq_of_lt small) ∙ or_shifted 1 i set below ∙ ap (λ (x : ℕ). x + set) (one-mul (2 ^ i));
      least = λ j other q d. independent w i (row (matrix_of w rows c)) source j other red (omega arith) q d.sum;
    }

pub invertible : (w : ℕ) (rows : List ℕ) (c : ℕ) (source : ℕ → ℕ) → IsWithin w rows c → Reduced w w (row (matrix_of w rows c)) source
    → IsInvertible (matrix_of w rows c)
invertible w rows c source within red y h =
    let m = matrix_of w rows c in
    let x = combination source w y in
    let fits : x < 2 ^ w = combination-below source w y w red.fits in
    let is = undone w (row m) source y red h in
    (x, fits, is, λ z b e. only_one w (row m) source x z y red (rows_fit w rows c within) fits b is e)

pub singular : (m : Scrambling) (d : ℕ) → IsLeastDependence m d → IsInvertible m → ⊥
singular m d dep inv =
    let hit = inv (2 ^ dep.last) (pow-lt dep.in_matrix) in
    never m.width (row m) dep.last dep.others hit.0 dep.in_matrix dep.depends.sum hit.2

-- ---- the rows of a dependence cancel

pub combination_same : (vector : ℕ → ℕ) (n set other : ℕ) → ((i : ℕ) → i < n → bit_at set i ≡ bit_at other i)
    → combination vector n set ≡ combination vector n other
unfolding combination
combination_same vector zero set other h = refl
combination_same vector (suc n) set other h =
    ap₂ (λ (b x : ℕ). bit_xor (b * vector n) x) (h n (omega arith)) (combination_same vector n set other (λ i p. h i (omega arith)))

combination_beyond : (vector : ℕ → ℕ) (m n set : ℕ) → n ≤ m → set < 2 ^ n → combination vector m set ≡ combination vector n set
unfolding combination
combination_beyond vector zero n set h b = let e : n ≡ 0 = omega arith in subst (λ (k : ℕ). combination vector 0 set ≡ combination vector k set) (sym e) refl
combination_beyond vector (suc m) n set h b =
    elim (cases_lt m n) [
      | inl p ↦ let e : suc m ≡ n = omega arith in subst (λ (k : ℕ). combination vector (suc m) set ≡ combination vector k set) e refl
      | inr p ↦ ap (λ (d : ℕ). bit_xor (d * vector m) (combination vector m set)) (bit_at_above set n m b p)
          ∙ ap (λ (x : ℕ). bit_xor x (combination vector m set)) (zero-mul (vector m)) ∙ combination_beyond vector m n set p b
    ]

pub cancel : (m : Scrambling) (d : ℕ) → IsLeastDependence m d → combination (row m) m.width d ≡ 0
unfolding combination
cancel m d dep =
    let i = dep.last in
    let set = dep.others in
    let below : set < 2 ^ i = dep.depends.below in
    let whole : 1 * 2 ^ i + set ≡ d = ap (λ (x : ℕ). x + set) (one-mul (2 ^ i)) ∙ sym dep.together in
    let small : d < 2 ^ suc i = let e = pow-suc 2 i in let t = dep.together in omega arith in
    let inside = dep.in_matrix in
    let low : combination (row m) i d ≡ row m i =
    combination_same (row m) i d set (λ j p. ap (λ (x : ℕ). bit_at x j) (sym whole) ∙ bit_at_cat_low 1 i set j p) ∙ dep.depends.sum in
    let top : bit_at d i ≡ 1 =
    ap (λ (x : ℕ). bit_at x i) (sym whole) ∙ bit_at_cat_high 1 i set i below (omega arith) ∙ ap (bit_at 1) (let z : i - i ≡ 0 = omega arith in z) in
    combination_beyond (row m) m.width (suc i) d (omega arith) small
    ∙ ap₂ bit_xor (ap (λ (b : ℕ). b * row m i) top ∙ one-mul (row m i)) low ∙ xor_self (row m i)

-- ---- addresses

logical_digits : (m : Scrambling) (k i : ℕ) → logical_bit m k i < 2
logical_digits m k i = omega arith

pub logical-below : (m : Scrambling) (k : ℕ) → logical m k < 2 ^ m.width
logical-below m k = number-below (logical_bit m k) m.width (λ i _. logical_digits m k i)

-- the product, plus the constant
pub logical_is : (m : Scrambling) (k : ℕ) → m.constant < 2 ^ m.width → bit_xor (product m k) m.constant ≡ logical m k
logical_is m k h =
    let digits : (i : ℕ) → dot (row m i) k < 2 = λ i. dot_below (row m i) k in
    let fits : product m k < 2 ^ m.width = number-below (λ i. dot (row m i) k) m.width (λ i _. digits i) in
    same_from_bits_below m.width (bit_xor (product m k) m.constant) (logical m k)
    (xor_lt m.width (product m k) m.constant fits h) (logical-below m k)
    (λ i p.
    let left = bit_at_xor (product m k) m.constant i in
    let here = bit_at-number (λ j. dot (row m j) k) m.width i (λ j _. digits j) p in
    let right = bit_at-number (logical_bit m k) m.width i (λ j _. logical_digits m k j) p in
    left ∙ ap (λ (x : ℕ). (x + bit_at m.constant i) % 2) here ∙ ap (λ (x : ℕ). x % 2) (add_comm (dot (row m i) k) (bit_at m.constant i)) ∙ sym right)

-- the same, of the rows as they are kept
pub logical_by_rows : (w : ℕ) (rows vectors : List ℕ) (c k : ℕ) → IsUndone w rows c vectors
    → bit_xor (number (λ i. dot (slice_index rows i) k) w) c ≡ logical (matrix_of w rows c) k
logical_by_rows w rows vectors c k u =
    let m = matrix_of w rows c in
    ap (λ (x : ℕ). bit_xor x c)
    (number_same (λ i. dot (slice_index rows i) k) (λ i. dot (row m i) k) w (λ i p. ap (λ (r : ℕ). dot r k) (sym (row-matrix_of w rows c i p))))
    ∙ logical_is m k u.within.constant_fits

-- the vectors lead back
pub back : (w : ℕ) (rows vectors : List ℕ) (c a : ℕ) → IsUndone w rows c vectors → a < 2 ^ w
    → logical (matrix_of w rows c) (combination (slice_index vectors) w (bit_xor a c)) ≡ a
back w rows vectors c a u h =
    let m = matrix_of w rows c in
    let target : bit_xor a c < 2 ^ w = xor_lt w a c h u.within.constant_fits in
    sym (logical_is m (combination (slice_index vectors) w (bit_xor a c)) u.within.constant_fits)
    ∙ ap (λ (x : ℕ). bit_xor x c) (undone w (row m) (slice_index vectors) (bit_xor a c) u.reduced target)
    ∙ xor_assoc a c c ∙ ap (bit_xor a) (xor_self c) ∙ xor_zero_r a

pub back-below : (w : ℕ) (rows vectors : List ℕ) (c y : ℕ) → IsUndone w rows c vectors → combination (slice_index vectors) w y < 2 ^ w
back-below w rows vectors c y u = combination-below (slice_index vectors) w y w u.reduced.fits

-- two indexes have two addresses
pub only : (w : ℕ) (rows vectors : List ℕ) (c x z a : ℕ) → IsUndone w rows c vectors → x < 2 ^ w → z < 2 ^ w
    → logical (matrix_of w rows c) x ≡ a → logical (matrix_of w rows c) z ≡ a → z ≡ x
only w rows vectors c x z a u hx hz ex ez =
    let m = matrix_of w rows c in
    let plain : (k : ℕ) → logical m k ≡ a → product m k ≡ bit_xor a c =
    λ k e. sym (xor_zero_r (product m k)) ∙ ap (bit_xor (product m k)) (sym (xor_self c)) ∙ sym (xor_assoc (product m k) c c)
    ∙ ap (λ (n : ℕ). bit_xor n c) (logical_is m k u.within.constant_fits ∙ e) in
    only_one w (row m) (slice_index vectors) x z (bit_xor a c) u.reduced (rows_fit w rows c u.within) hx hz (plain x ex) (plain z ez)

-- ---- the identity

pub units_undone : (w : ℕ) → 1 ≤ w → w ≤ 16 → IsUndone w units 0 units
units_undone w p h =
    let small = units_reduced w (row (matrix_of w units 0)) h in
    record {
      within = record {
        positive = p;
        narrow = h;
        rows_fit = λ i q. subst (λ (x : ℕ). x < 2 ^ w) (sym (unit_at i (omega arith))) (pow-lt q);
        constant_fits = pow_pos w;
      };
      reduced = record {
        own = λ j l q r.
            ap₂ dot (row-matrix_of w units 0 j q ∙ unit_at j (omega arith)) (unit_at l (omega arith)) ∙ dot-unit (2 ^ j) l;
        separates = small.separates;
        fits = small.fits;
      };
    }

pub identity_is : (w : ℕ) → w ≤ 16 → matrix_of w units 0 ≡ identity w
identity_is w h = ap (λ (xs : List ℕ). record_of w xs) (units_of w h)
  where
    record_of : ℕ → List ℕ → Scrambling
    record_of w xs = record { width = w; rows = xs; constant = 0 }

pub logical_of_identity : (w k : ℕ) → w ≤ 16 → k < 2 ^ w → logical (matrix_of w units 0) k ≡ k
logical_of_identity w k h p =
    let m = matrix_of w units 0 in
    number_same (logical_bit m k) (bit_at k) w (λ i q.
    let named_bit : dot (row m i) k ≡ bit_at k i =
    ap (λ (r : ℕ). dot r k) (row-matrix_of w units 0 i q ∙ unit_at i (omega arith)) ∙ dot_comm (2 ^ i) k ∙ dot-unit k i in
    let none = bit_at-zero i in
    let small = bit_at-lt k i in
    ap₂ (λ (a b : ℕ). (a + b) % 2) none named_bit ∙ ap (λ (x : ℕ). x % 2) (zero-add (bit_at k i)) ∙ mod-eq_of_lt small)
    ∙ number-bits k w p

-- the first rows of a list that is long enough
pub matrix_is_full : (w : ℕ) (rows : List ℕ) (c : ℕ) → IsWithin w rows c → w ≤ length rows → IsFull (matrix_of w rows c)
matrix_is_full w rows c within long = record {
  count = length-take-le w rows long;
  rows_fit = rows_fit w rows c within;
  constant_fits = within.constant_fits;
}
