-- The elements of a number are a march, and how they are added one after another.
use Rattle.std.proofs.Common.{◌≡◌, ℕ, zero, suc, ◌+◌, ◌-◌, ◌*◌, ◌<◌, ◌≤◌, ◌%◌, ◌==◌, if◌then◌else◌, Bool, true, false, IsTrue, IsOk, OnOk, Result, Ok, Err, Some, List, [], ◌∷◌, ◌++◌, ◌∙◌, inr, take, get_or, length-append, length, refl, sym, ap, arith, append_assoc, append-nil}
use Rattle.std.specs.List.{AllByRecursion}
use Rattle.std.proofs.lemmas.List.{take_more}
use Rattle.std.proofs.lemmas.Grind.{flat_map-append}
use Rattle.march_core.specs.declared.operation.Order.{Order}
use Rattle.march_core.specs.declared.operation.Op.{Op}
use Rattle.march_core.specs.declared.operation.Op.TheVariants.{W0}
use Rattle.march_core.specs.declared.fault.MarchFault.{MarchFault}
use Rattle.march_core.specs.March.{MarchElement, sweep, ops_of, all_ops, IsElement, IsMarch}
use Rattle.march_core.specs.Building.{with_op, last_ops, ends_in_sweep}
use Rattle.march_core.specs.inner.Scan.{scan_of}
use Rattle.march_core.proofs.Consistent.{scan_consistent}
use Rattle.made_inputs.specs.MadeMarch.{next_number, order_for, first_bit, last_bit, read_of, write_of, further_ops, further_element, further, march_c_minus, long_march, made_march}

-- ---- an operation at the end

pub with_op_last : (xs : List MarchElement) (o : Order) (ys : List Op) (op : Op) → with_op (xs ++ sweep o ys ∷ []) op ≡ xs ++ sweep o (ys ++ op ∷ []) ∷ []
with_op_last [] o ys op = refl
with_op_last (x ∷ []) o ys op = refl
with_op_last (x ∷ y ∷ zs) o ys op = ap (λ (l : List MarchElement). x ∷ l) (with_op_last (y ∷ zs) o ys op)

pub last_ops_last : (xs : List MarchElement) (o : Order) (ys : List Op) → last_ops (xs ++ sweep o ys ∷ []) ≡ ys
last_ops_last [] o ys = refl
last_ops_last (x ∷ []) o ys = refl
last_ops_last (x ∷ y ∷ zs) o ys = last_ops_last (y ∷ zs) o ys

pub sweep_last : (xs : List MarchElement) (o : Order) (ys : List Op) → IsTrue (ends_in_sweep (xs ++ sweep o ys ∷ []))
sweep_last [] o ys = refl
sweep_last (x ∷ []) o ys = refl
sweep_last (x ∷ y ∷ zs) o ys = sweep_last (y ∷ zs) o ys

pub all_ops_last : (xs : List MarchElement) (o : Order) (ys : List Op) → all_ops (xs ++ sweep o ys ∷ []) ≡ all_ops xs ++ ys
all_ops_last xs o ys = flat_map-append ops_of xs (sweep o ys ∷ []) ∙ ap (λ (l : List Op). all_ops xs ++ l) (append-nil ys)

-- ---- the further elements

-- an element finds what the one before left, and leaves its own bit
element_scanned : (held first last : Bool) (ops : List Op)
    → scan_of (Some held) (read_of held ∷ write_of first ∷ read_of first ∷ write_of last ∷ ops) ≡ scan_of (Some last) ops
element_scanned false false false ops = refl
element_scanned false false true ops = refl
element_scanned false true false ops = refl
element_scanned false true true ops = refl
element_scanned true false false ops = refl
element_scanned true false true ops = refl
element_scanned true true false ops = refl
element_scanned true true true ops = refl

further_scanned : (n : ℕ) (held : Bool) (x : ℕ) → (end : Bool) × (scan_of (Some held) (all_ops (further n held x)) ≡ Some (Some end))
unfolding further
further_scanned zero held x = (held, refl)
further_scanned (suc n) held x =
    let y = next_number x in
    let rest = further_scanned n (last_bit y) y in
    (rest.0, element_scanned held (first_bit y) (last_bit y) (all_ops (further n (last_bit y) y)) ∙ rest.1)

further_length : (n : ℕ) (held : Bool) (x : ℕ) → length (further n held x) ≡ n
unfolding further
further_length zero held x = refl
further_length (suc n) held x = ap suc (further_length n (last_bit (next_number x)) (next_number x))

further_count : (n : ℕ) (held : Bool) (x : ℕ) → length (all_ops (further n held x)) ≡ 4 * n
unfolding further
further_count zero held x = refl
further_count (suc n) held x = let rest = further_count n (last_bit (next_number x)) (next_number x) in omega (arith, rest)

further_each : (n : ℕ) (held : Bool) (x : ℕ) → AllByRecursion IsElement (further n held x)
unfolding further
further_each zero held x = tt
further_each (suc n) held x = (inr (omega arith, omega arith), further_each n (last_bit (next_number x)) (next_number x))

-- ---- the marches

c_minus_is_march : IsMarch march_c_minus
c_minus_is_march = record {
  some = refl;
  elements_within = omega arith;
  each = (inr (omega arith, omega arith), (inr (omega arith, omega arith), (inr (omega arith, omega arith), (inr (omega arith, omega arith), (inr (omega arith, omega arith), (inr (omega arith, omega arith), tt))))));
  ops_within = omega arith;
  consistent = scan_consistent (all_ops march_c_minus) (Some false) refl;
}

long_is_march : (number : ℕ) → IsMarch (long_march number)
long_is_march number =
    let scanned = further_scanned 58 false number in
    let elements = further_length 58 false number in
    let count = further_count 58 false number in
    record {
      some = refl;
      elements_within = omega (arith, elements);
      each = (inr (omega arith, omega arith), (inr (omega arith, omega arith), (inr (omega arith, omega arith), (inr (omega arith, omega arith), (inr (omega arith, omega arith), (inr (omega arith, omega arith), further_each 58 false number))))));
      ops_within = omega (arith, count);
      consistent = scan_consistent (all_ops (long_march number)) (Some scanned.0) scanned.1;
    }

pub made_is_march : (number : ℕ) → IsMarch (made_march number)
made_is_march number = by_parity (number % 2 == 1)
  where
    by_parity : (odd : Bool) → IsMarch (if odd then march_c_minus else long_march number)
    by_parity true = c_minus_is_march
    by_parity false = long_is_march number

-- ---- the elements that are added

further_first : (n m : ℕ) (held : Bool) (x : ℕ) → n ≡ suc m
    → further n held x ≡ further_element held (next_number x) ∷ further m (last_bit (next_number x)) (next_number x)
unfolding further
further_first n m held x e = ap (λ (k : ℕ). further k held x) e

further_none : (n : ℕ) (held : Bool) (x : ℕ) → n ≡ 0 → further n held x ≡ []
unfolding further
further_none n held x e = ap (λ (k : ℕ). further k held x) e

-- one more element is added
pub further_on : (old new whole : List MarchElement) (i x y : ℕ) (held left : Bool) (o : Order) (ops : List Op) → i < 58 → y ≡ next_number x → o ≡ order_for y
    → ops ≡ further_ops held y → left ≡ last_bit y → new ≡ old ++ sweep o ops ∷ [] → old ++ further (58 - i) held x ≡ whole
    → new ++ further (58 - (i + 1)) left y ≡ whole
further_on old new whole i x y held left o ops below number order operations leaves is before =
    let more : 58 - i ≡ suc (58 - (i + 1)) = omega (arith, below) in
    let rest = further (58 - (i + 1)) left y in
    ap (λ (l : List MarchElement). l ++ rest) is ∙ append_assoc old (sweep o ops ∷ []) rest
    ∙ ap (λ (l : List MarchElement). old ++ l) (sym (first more)) ∙ before
  where
    first : 58 - i ≡ suc (58 - (i + 1)) → further (58 - i) held x ≡ sweep o ops ∷ further (58 - (i + 1)) left y
    first more = rw (leaves, operations, order, number) (further_first (58 - i) (58 - (i + 1)) held x more)

pub further_done : (new whole : List MarchElement) (i x : ℕ) (held : Bool) → 58 ≤ i → new ++ further (58 - i) held x ≡ whole → new ≡ whole
further_done new whole i x held done before =
    sym (append-nil new) ∙ ap (λ (l : List MarchElement). new ++ l) (sym (further_none (58 - i) held x (omega (arith, done)))) ∙ before

-- ---- an element's operations are added

taken_length : (ops : List Op) (i : ℕ) → i < length ops → length (take i ops) ≡ i
taken_length [] i h = absurd (omega (arith, h))
taken_length (o ∷ os) zero h = refl
taken_length (o ∷ os) (suc i) h = ap suc (taken_length os i (omega (arith, h)))

-- there is room for an operation more
pub has_room : (old now : List MarchElement) (o : Order) (ops : List Op) (i : ℕ) → i < length ops → length ops ≤ 16 → length (all_ops old) + length ops ≤ 256
    → now ≡ old ++ sweep o (take i ops) ∷ [] → (length (last_ops now) < 16) × (length (all_ops now) < 256)
has_room old now o ops i below few all is =
    let taken = taken_length ops i below in
    let last : length (last_ops now) ≡ length (take i ops) = ap (λ (l : List MarchElement). length (last_ops l)) is ∙ ap length (last_ops_last old o (take i ops)) in
    let whole : length (all_ops now) ≡ length (all_ops old) + length (take i ops) =
    ap (λ (l : List MarchElement). length (all_ops l)) is ∙ ap length (all_ops_last old o (take i ops)) ∙ length-append (all_ops old) (take i ops) in
    (omega (arith, taken, last, below, few), omega (arith, taken, whole, below, all))

-- an operation that was taken stands behind the others
pub op_added : (old now new : List MarchElement) (o : Order) (ops : List Op) (i : ℕ) → i < length ops
    → now ≡ old ++ sweep o (take i ops) ∷ [] → new ≡ with_op now (get_or ops i W0) → new ≡ old ++ sweep o (take (i + 1) ops) ∷ []
op_added old now new o ops i below is added =
    added ∙ ap (λ (l : List MarchElement). with_op l (get_or ops i W0)) is ∙ with_op_last old o (take i ops) (get_or ops i W0)
    ∙ ap (λ (l : List Op). old ++ sweep o l ∷ []) (sym (take_more ops i W0 below))

pub held : (r : Result (Unit {0}) MarchFault) (P : Type 0) → IsOk r → OnOk r P → P
held (Ok u) P ok h = h
held (Err f) P ok h = cc

pub has : (r : Result (Unit {0}) MarchFault) (u : Unit {0}) → r ≡ Ok u → IsOk r
has (Ok v) u e = refl
has (Err f) u e = cc

pub one_longer : (old new : List MarchElement) (o : Order) (ops : List Op) (i : ℕ) → new ≡ old ++ sweep o ops ∷ [] → length old ≡ 6 + i → length new ≡ 6 + (i + 1)
one_longer old new o ops i is count =
    let longer : length new ≡ length old + 1 = ap length is ∙ length-append old (sweep o ops ∷ []) in
    omega (arith, longer, count)

pub four_more : (old new : List MarchElement) (o : Order) (ops : List Op) (held : Bool) (y i : ℕ) → new ≡ old ++ sweep o ops ∷ [] → ops ≡ further_ops held y
    → length (all_ops old) ≡ 22 + 4 * i → length (all_ops new) ≡ 22 + 4 * (i + 1)
four_more old new o ops held y i is are count =
    let four : length ops ≡ 4 = ap length are in
    let both : length (all_ops new) ≡ length (all_ops old) + length ops =
    ap (λ (l : List MarchElement). length (all_ops l)) is ∙ ap length (all_ops_last old o ops) ∙ length-append (all_ops old) ops in
    omega (arith, four, both, count)
