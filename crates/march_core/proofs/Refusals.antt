-- Elements that are no march are refused in one way.
use Rattle.std.proofs.Common.{◌≡◌, ◌↔◌, ℕ, zero, suc, ◌+◌, ◌<◌, Bool, true, false, not, Some, None, Result, Ok, Err, List, [], ◌∷◌, ◌++◌, ◌⊎◌, inl, inr, take, drop, append_assoc, refl, ap, sym, subst, ◌∙◌, arith, ⊎_elim}
use Rattle.std.specs.List.{slice_get}
use Rattle.march_core.specs.declared.operation.Op.{Op}
use Rattle.march_core.specs.declared.fault.MarchFault.{MarchFault}
use Rattle.march_core.specs.declared.fault.MarchFault.TheVariants.{Unexpected, Truncated, Empty, TooManyElements, TooManyOps, TooManyInAll, ReadBeforeWrite, WrongExpect}
use Rattle.march_core.specs.March.{MarchElement, ops_of, all_ops, ops_at, IsMarch}
use Rattle.march_core.specs.Operation.{HasNoWrite, LastWrites}
use Rattle.march_core.specs.Building.{ops_before, IsReadAfterRightOnes, IsRefused}
use Rattle.march_core.proofs.Consistent.{last_after, last_writes, after_reads}
use Rattle.march_core.proofs.Scanning.{split_list, refused_no_march}

-- what stands before an operation is the beginning of what stands before a later one of its element
later_in_element : (ops : List Op) (j k : ℕ) (read : Op) → slice_get ops j ≡ Some read → j < k → (rest : List Op) × (take k ops ≡ take j ops ++ read ∷ rest)
later_in_element [] j k read e h = cc
later_in_element (o ∷ os) zero zero read e h = absurd (omega arith)
later_in_element (o ∷ os) zero (suc k) read e h = let same : o ≡ read = cc in (take k os, ap (λ x. x ∷ take k os) same)
later_in_element (o ∷ os) (suc j) zero read e h = absurd (omega arith)
later_in_element (o ∷ os) (suc j) (suc k) read e h =
    let r = later_in_element os j k read e (omega arith) in (r.0, ap (λ l. o ∷ l) r.1)

-- and of what stands before those of later elements
later : (es : List MarchElement) (i j m n : ℕ) (read : Op) → slice_get (ops_at es i) j ≡ Some read → (i < m) ⊎ ((i ≡ m) × (j < n))
    → (rest : List Op) × (ops_before es m n ≡ ops_before es i j ++ read ∷ rest)
later [] i j m n read e h = cc
later (x ∷ xs) zero j zero n read e h =
    ⊎_elim (λ (p : 0 < 0). absurd (omega arith)) (λ (p : (0 ≡ 0) × (j < n)). later_in_element (ops_of x) j n read e p.1) h
later (x ∷ xs) zero j (suc m) n read e h =
    let split : ops_of x ≡ take j (ops_of x) ++ read ∷ drop (j + 1) (ops_of x) = split_list (ops_of x) j read e in
    let others = all_ops (take m xs) ++ take n (ops_at xs m) in (
      drop (j + 1) (ops_of x) ++ others,
      append_assoc (ops_of x) (all_ops (take m xs)) (take n (ops_at xs m)) ∙ ap (λ l. l ++ others) split
          ∙ append_assoc (take j (ops_of x)) (read ∷ drop (j + 1) (ops_of x)) others,
    )
later (x ∷ xs) (suc i) j zero n read e h =
    ⊎_elim (λ (p : suc i < 0). absurd (omega arith)) (λ (p : (suc i ≡ 0) × (j < n)). let q = p.0 in absurd (omega arith)) h
later (x ∷ xs) (suc i) j (suc m) n read e h =
    let r = later xs i j m n read e (⊎_elim (λ (p : suc i < suc m). inl (omega arith)) (λ (p : (suc i ≡ suc m) × (j < n)). let q = p.0 in inr (omega arith, p.1)) h) in (
      r.0,
      append_assoc (ops_of x) (all_ops (take m xs)) (take n (ops_at xs m)) ∙ ap (λ l. ops_of x ++ l) r.1
          ∙ sym (append_assoc (ops_of x) (ops_before xs i j) (read ∷ r.0))
          ∙ ap (λ l. l ++ read ∷ r.0) (sym (append_assoc (ops_of x) (all_ops (take i xs)) (take j (ops_at xs i)))),
    )

-- a read that expects a bit, before which another was written last, or none
pub record IsWrongRead (es : List MarchElement) (i j : ℕ) : Type 0 where
  pub bit : Bool
  pub at : IsReadAfterRightOnes es i j bit
  pub wrong : LastWrites (ops_before es i j) bit → ⊥

unwritten : (ops : List Op) (bit : Bool) → HasNoWrite ops → LastWrites ops bit → ⊥
unwritten ops bit none w =
    let a : last_after None ops ≡ None = after_reads None ops none in
    let b : last_after None ops ≡ Some bit = last_writes ops bit w in cc

written_other : (ops : List Op) (bit : Bool) → LastWrites ops (not bit) → LastWrites ops bit → ⊥
written_other ops bit w v = differ bit (sym (last_writes ops bit v) ∙ last_writes ops (not bit) w)
  where
    differ : (b : Bool) → Some b ≡ Some (not b) → ⊥
    differ true e = cc
    differ false e = cc

-- before a wrong read there is no other
not_before : (es : List MarchElement) (i j m n : ℕ) → IsWrongRead es i j → IsWrongRead es m n → (i < m) ⊎ ((i ≡ m) × (j < n)) → ⊥
not_before es i j m n w v h =
    let r = later es i j m n (w.at).read (w.at).is_there h in
    w.wrong ((v.at).right_before (ops_before es i j) (w.at).read r.0 w.bit r.1 (w.at).expects)

-- there is one first wrong read
same_place : (es : List MarchElement) (i j m n : ℕ) → IsWrongRead es i j → IsWrongRead es m n → (i ≡ m) × (j ≡ n)
same_place es i j m n w v =
    let a : (i < m) ⊎ ((i ≡ m) × (j < n)) → ⊥ = not_before es i j m n w v in
    let b : (m < i) ⊎ ((m ≡ i) × (n < j)) → ⊥ = not_before es m n i j v w in
    let i_m : i < m → ⊥ = λ p. a (inl p) in
    let m_i : m < i → ⊥ = λ p. b (inl p) in
    let e : i ≡ m = omega (arith, i_m, m_i) in
    let j_n : j < n → ⊥ = λ p. a (inr (e, p)) in
    let n_j : n < j → ⊥ = λ p. b (inr (sym e, p)) in
    (e, omega (arith, j_n, n_j))

before_write : (es : List MarchElement) (i j : ℕ) → IsRefused es (ReadBeforeWrite i j) → IsWrongRead es i j
before_write es i j (filled, bit, at, none) = record { bit = bit; at = at; wrong = unwritten (ops_before es i j) bit none }

other_bit : (es : List MarchElement) (i j : ℕ) → IsRefused es (WrongExpect i j) → IsWrongRead es i j
other_bit es i j (filled, bit, at, last) = record { bit = bit; at = at; wrong = written_other (ops_before es i j) bit last }

-- before a read something was written last, or nothing
not_both : (es : List MarchElement) (i j : ℕ) → IsRefused es (ReadBeforeWrite i j) → IsRefused es (WrongExpect i j) → ⊥
not_both es i j (filled, bit, at, none) (filled', bit', at', last) = unwritten (ops_before es i j) (not bit') none last

pub refused_once : (es : List MarchElement) (f g : MarchFault) → IsRefused es f → IsRefused es g → f ≡ g
refused_once es Empty Empty p q = refl
refused_once es Empty (ReadBeforeWrite m n) p q = absurd (p q.0)
refused_once es Empty (WrongExpect m n) p q = absurd (p q.0)
refused_once es (ReadBeforeWrite i j) Empty p q = absurd (q p.0)
refused_once es (WrongExpect i j) Empty p q = absurd (q p.0)
refused_once es (ReadBeforeWrite i j) (ReadBeforeWrite m n) p q =
    let e = same_place es i j m n (before_write es i j p) (before_write es m n q) in ap (λ k. ReadBeforeWrite k j) e.0 ∙ ap (ReadBeforeWrite m) e.1
refused_once es (WrongExpect i j) (WrongExpect m n) p q =
    let e = same_place es i j m n (other_bit es i j p) (other_bit es m n q) in ap (λ k. WrongExpect k j) e.0 ∙ ap (WrongExpect m) e.1
refused_once es (ReadBeforeWrite i j) (WrongExpect m n) p q =
    let e = same_place es i j m n (before_write es i j p) (other_bit es m n q) in
    absurd (not_both es i j p (subst (λ k. IsRefused es (WrongExpect k j)) (sym e.0) (subst (λ k. IsRefused es (WrongExpect m k)) (sym e.1) q)))
refused_once es (WrongExpect i j) (ReadBeforeWrite m n) p q =
    let e = same_place es i j m n (other_bit es i j p) (before_write es m n q) in
    absurd (not_both es i j (subst (λ k. IsRefused es (ReadBeforeWrite k j)) (sym e.0) (subst (λ k. IsRefused es (ReadBeforeWrite m k)) (sym e.1) q)) p)
refused_once es (Unexpected k) g p q = absurd p
refused_once es Truncated g p q = absurd p
refused_once es TooManyElements g p q = absurd p
refused_once es (TooManyOps k) g p q = absurd p
refused_once es TooManyInAll g p q = absurd p
refused_once es f (Unexpected k) p q = absurd q
refused_once es f Truncated p q = absurd q
refused_once es f TooManyElements p q = absurd q
refused_once es f (TooManyOps k) p q = absurd q
refused_once es f TooManyInAll p q = absurd q

-- what a builder answers that refuses in this way, or doesn't refuse
pub refuses_so : (A : Type 0) (es : List MarchElement) (fault : MarchFault) → IsRefused es fault
    → (g : MarchFault) → (let r : Result A MarchFault = Err fault in r ≡ Err g) ↔ IsRefused es g
refuses_so A es fault is g = (λ e. let same : fault ≡ g = cc in subst (IsRefused es) same is, λ h. ap (λ f. Err f) (refused_once es fault g is h))

pub refuses_none : (A : Type 0) (es : List MarchElement) (x : A) → IsMarch es
    → (g : MarchFault) → (let r : Result A MarchFault = Ok x in r ≡ Err g) ↔ IsRefused es g
refuses_none A es x march g = (λ e. absurd (cc), λ h. absurd (refused_no_march es g h march))
