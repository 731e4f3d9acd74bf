-- The rows of the scrambling, one after another.
use Rattle.memory_desc.proofs.Common.{IsWithin, Scrambling, get_or-set_other, get_or-set_same, length-set, matrix_of, matrix_said, number-below, slice_index, ◌≢◌, Content, IsSome, content_of, Option, option_map, plain_content, none_at, find, sym, too_wide, Bool, List, MemoryFault, Missing, None, Some, Statement, Term, [], about, add-one, ap, ap₂, arith, bit_or, cases_lt, constant, constant_of, false, from_bool, index_bit, index_bits, inl, inr, is_term_too_wide, leb-false, length, list_any, lit<, missing, missing_row, nat_le, or_else, or_parts, pow-lt, pow_pos, refl, replicate, rows_said, said_there, scramble, slice_set, subst, suc, take, terms_in, terms_said, there, true, unless_there, xor_lt, zero, ℕ, ◌%◌, ◌*◌, ◌++◌, ◌+◌, ◌<◌, ◌^◌, ◌∙◌, ◌∷◌, ◌≡◌, ◌≤◌}
use Rattle.scrambler.specs.Linear.{number}
use Rattle.std.proofs.Math.Seq.{take-suc}
use Rattle.scrambler.proofs.Steps.{product_begun, product_more}
use Rattle.memory_desc.specs.Subjects.{said}
use Rattle.memory_desc.specs.declared.content.Subject.TheVariants.{Row as BitRow}
use Rattle.memory_desc.specs.declared.fault.Field.TheVariants.{Row as RowField}
use Rattle.memory_desc.specs.Described.{is_too_wide}
use Rattle.memory_desc.specs.declared.content.Content.{Content as ReadContent}
use Rattle.memory_desc.specs.declared.fault.MemoryFault.TheVariants.{OutOfRange}
use Rattle.memory_desc.proofs.Within.{Passes, passes}

-- ---- a row

pub terms_fit : (width : ℕ) (ts : List Term) → list_any (is_term_too_wide width) ts ≡ false → index_bits ts < 2 ^ width
terms_fit width [] h = pow_pos width
terms_fit width (index_bit n ∷ ts) h =
    let parts = or_parts (nat_le width n) (list_any (is_term_too_wide width) ts) h in xor_lt width (2 ^ n) (index_bits ts) (pow-lt (leb-false width n parts.0)) (terms_fit width ts parts.1)
terms_fit width (constant b ∷ ts) h = terms_fit width ts h

-- the terms that are said of a bit, and whether there are some
module _ {n : ℕ} (bit : ℕ) (ss : List Statement) (o : Option ReadContent) (e : n ≡ bit) (h : option_map plain_content o ≡ said (BitRow n) ss) where
  row_said : option_map plain_content o ≡ said (BitRow bit) ss
  row_said = h ∙ ap (λ n. said (BitRow n) ss) e

  pub row_there : (c : ReadContent) → o ≡ Some c → IsSome (about (BitRow bit) ss)
  row_there c k = said_there (about (BitRow bit) ss) (plain_content c) (sym row_said ∙ ap (option_map plain_content) k)

  pub terms_are : (c : ReadContent) → o ≡ Some c → terms_in (Some (plain_content c)) ≡ terms_said ss bit
  terms_are c k = ap terms_in (sym (ap (option_map plain_content) k) ∙ row_said)

  pub none_there : o ≡ None → missing (BitRow bit) (RowField bit) ss ≡ Some (Missing (RowField bit))
  none_there k = go (about (BitRow bit) ss) (sym row_said ∙ ap (option_map plain_content) k)
    where
      go : (r : Option Statement) → content_of r ≡ None → unless_there (Missing (RowField bit)) r ≡ Some (Missing (RowField bit))
      go None e = refl
      go (Some s) e = (let z : ⊥ = cc in absurd z)

pub terms_within : (ss : List Statement) (width size bit : ℕ) → too_wide ss width size ≡ None → list_any (is_term_too_wide width) (terms_said ss bit) ≡ false
terms_within ss width size bit h = go (said (BitRow bit) ss) (passes (BitRow bit) (is_too_wide width size) ss (none_at (λ n. OutOfRange n) (find (λ s. is_too_wide width size s.content) ss) h))
  where
    go : (o : Option Content) → Passes (BitRow bit) (is_too_wide width size) o → list_any (is_term_too_wide width) (terms_in o) ≡ false
    go (Some (scramble i ts)) f = (or_parts (nat_le width i) (list_any (is_term_too_wide width) ts) (f (scramble i ts) refl).1).1
    go o f = refl

-- ---- the rows so far

abbrev bit_said : List Statement → ℕ → ℕ
bit_said ss i = from_bool (constant_of (terms_said ss i))

pub record RowsAre (ss : List Statement) (bit : ℕ) (rows : List ℕ) (constants : ℕ) : Type 0 where
  pub there : missing_row ss bit ≡ None
  pub count : length rows ≡ 16
  pub each : (i : ℕ) → i < bit → slice_index rows i ≡ index_bits (terms_said ss i)
  pub constants_are : constants ≡ number (bit_said ss) bit

pub rows_begun : (ss : List Statement) → RowsAre ss 0 (replicate 16 0) 0
rows_begun ss = record { there = refl; count = refl; each = λ i l. absurd (omega arith); constants_are = product_begun (bit_said ss) }

byte_of : (b : Bool) → from_bool b < 2
byte_of false = lit< tt
byte_of true = lit< tt

missing_kept : (ss : List Statement) (k n : ℕ) (fault : MemoryFault) → missing_row ss k ≡ Some fault → k ≤ n → missing_row ss n ≡ Some fault
missing_kept ss k zero fault h l = let z : k ≡ 0 = omega arith in subst (λ (x : ℕ). missing_row ss x ≡ Some fault) z h
missing_kept ss k (suc n) fault h l = elim (cases_lt n k) [
  | inl m ↦ let z : k ≡ suc n = omega arith in subst (λ (x : ℕ). missing_row ss x ≡ Some fault) z h
  | inr m ↦ ap (λ r. or_else r (unless_there (Missing (RowField n)) (about (BitRow n) ss))) (missing_kept ss k n fault h m)
]

pub row_missing : (ss : List Statement) (width bit : ℕ) (fault : MemoryFault) → missing_row ss bit ≡ None → bit < width → missing (BitRow bit) (RowField bit) ss ≡ Some fault
    → missing_row ss width ≡ Some fault
row_missing ss width bit fault h l m = missing_kept ss (suc bit) width fault (ap (λ r. or_else r (missing (BitRow bit) (RowField bit) ss)) h ∙ m) l

-- one more row
pub rows_more : (ss : List Statement) (width bit : ℕ) (rows : List ℕ) (constants names : ℕ) (named : Bool) → bit < width → width ≤ 16 → IsSome (about (BitRow bit) ss)
    → names ≡ index_bits (terms_said ss bit) → named ≡ constant_of (terms_said ss bit) → RowsAre ss bit rows constants
    → RowsAre ss (bit + 1) (slice_set rows bit names) (bit_or constants (from_bool named * 2 ^ bit % 65536))
rows_more ss width bit rows constants names named below narrow given n k s = record {
  there = rw add-one (ap (λ r. or_else r (missing (BitRow bit) (RowField bit) ss)) s.there ∙ there (Missing (RowField bit)) (about (BitRow bit) ss) given);
  count = length-set rows bit names ∙ s.count;
  each = λ i l. elim (cases_lt i bit) [
    | inl q ↦ let other : i ≢ bit = omega arith in get_or-set_other rows bit i names 0 other ∙ s.each i q
    | inr q ↦ let e : bit ≡ i = omega arith in
        subst (λ (i : ℕ). slice_index (slice_set rows bit names) i ≡ index_bits (terms_said ss i)) e (get_or-set_same rows bit names 0 (let sixteen = s.count in omega arith) ∙ n)
  ];
  constants_are =
      ap (λ (b : Bool). bit_or constants (from_bool b * 2 ^ bit % 65536)) k ∙ product_more (bit_said ss) bit constants (λ j. byte_of (constant_of (terms_said ss j))) (omega arith) s.constants_are;
}

-- ---- the whole matrix

taken : (ss : List Statement) (rows : List ℕ) (n : ℕ) → n ≤ length rows → ((i : ℕ) → i < n → slice_index rows i ≡ index_bits (terms_said ss i)) → take n rows ≡ rows_said ss n
taken ss rows zero l f = refl
taken ss rows (suc n) l f =
    take-suc rows n 0 (omega arith) ∙ ap₂ (λ (xs : List ℕ) (x : ℕ). xs ++ x ∷ []) (taken ss rows n (omega arith) (λ i p. f i (omega arith))) (f n (omega arith))

module _ (ss : List Statement) (width bit : ℕ) (rows : List ℕ) (constants : ℕ) (narrow : width ≤ 16) (end : bit ≡ width) (s : RowsAre ss bit rows constants) where
  whole : RowsAre ss width rows constants
  whole = subst (λ n. RowsAre ss n rows constants) end s

  pub matrix_is : (missing_row ss width ≡ None) × (matrix_of width rows constants ≡ matrix_said ss width)
  matrix_is =
      let made : List ℕ → ℕ → Scrambling = λ rows constants. record { width = width; rows = rows; constant = constants } in
      (whole.there, ap₂ made (taken ss rows width (let sixteen = whole.count in omega arith) whole.each) whole.constants_are)

  pub rows_within : (size : ℕ) → too_wide ss width size ≡ None → 1 ≤ width → IsWithin width rows constants
  rows_within size fit some = record {
    positive = some;
    narrow = narrow;
    rows_fit = λ i l. subst (λ (x : ℕ). x < 2 ^ width) (sym (whole.each i l)) (terms_fit width (terms_said ss i) (terms_within ss width size i fit));
    constant_fits = subst (λ (x : ℕ). x < 2 ^ width) (sym whole.constants_are) (number-below (bit_said ss) width (λ i _. byte_of (constant_of (terms_said ss i))));
  }
