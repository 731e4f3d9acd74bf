-- The scan that keeps the last written bit finds exactly the consistent lists.
use Rattle.std.proofs.Common.{◌≡◌, Bool, true, false, cond, Option, Some, None, List, [], ◌∷◌, ◌++◌, ◌⊎◌, inl, inr, refl, ap, ◌∙◌, ⊎_elim}
use Rattle.march_core.specs.declared.operation.Op.{Op}
use Rattle.march_core.specs.declared.operation.Op.TheVariants.{W0, W1, R0, R1}
use Rattle.march_core.specs.Operation.{written_by, expected_by, HasNoWrite, LastWrites, IsConsistent}
use Rattle.march_core.specs.inner.Scan.{after_op, is_right, scan_of}

-- the bit that was written last after these operations
abbrev pub last_after : Option Bool → List Op → Option Bool
last_after last [] = last
last_after last (op ∷ ops) = last_after (after_op last op) ops

-- each read expects the bit that was written last before it
abbrev pub ReadsFrom : Option Bool → List Op → Type 0
ReadsFrom last ops =
    (before : List Op) (op : Op) (after : List Op) (bit : Bool)
    → ops ≡ before ++ op ∷ after → expected_by op ≡ Some bit → last_after last before ≡ Some bit

right_expected : (last : Option Bool) (op : Op) (bit : Bool) → is_right last op ≡ true → expected_by op ≡ Some bit → last ≡ Some bit
right_expected last W0 bit r e = cc
right_expected last W1 bit r e = cc
right_expected None R0 bit r e = cc
right_expected None R1 bit r e = cc
right_expected (Some false) R0 bit r e = e
right_expected (Some true) R0 bit r e = cc
right_expected (Some false) R1 bit r e = cc
right_expected (Some true) R1 bit r e = e

expected_right : (last : Option Bool) (op : Op) → ((bit : Bool) → expected_by op ≡ Some bit → last ≡ Some bit) → is_right last op ≡ true
expected_right last W0 h = refl
expected_right last W1 h = refl
expected_right None R0 h = let e = h false refl in cc
expected_right None R1 h = let e = h true refl in cc
expected_right (Some false) R0 h = refl
expected_right (Some true) R0 h = let e = h false refl in cc
expected_right (Some false) R1 h = let e = h true refl in cc
expected_right (Some true) R1 h = refl

-- a test that chooses Some holds
cond_holds : {A : Type 0} (b : Bool) (x : Option A) (y : A) → cond b x None ≡ Some y → (b ≡ true) × (x ≡ Some y)
cond_holds true x y e = (refl, e)
cond_holds false x y e = cc

pub scan_reads : (last : Option Bool) (ops : List Op) (end : Option Bool) → scan_of last ops ≡ Some end → ReadsFrom last ops
scan_reads last [] end s = λ before op after bit e x. elim before as (λ b. [] ≡ b ++ op ∷ after → last_after last b ≡ Some bit) [ [] ↦ λ n. cc | c ∷ cs ↦ λ n. cc ] e
scan_reads last (o ∷ os) end s = λ before op after bit e x.
    let h = cond_holds (is_right last o) (scan_of (after_op last o) os) end s in
    elim before as (λ b. o ∷ os ≡ b ++ op ∷ after → last_after last b ≡ Some bit) [
      | [] ↦ λ n. let same : o ≡ op = cc in right_expected last o bit h.0 (ap expected_by same ∙ x)
      | c ∷ cs ↦ λ n.
          let same : o ≡ c = cc in
          let rest : os ≡ cs ++ op ∷ after = cc in
          rw (← same) (scan_reads (after_op last o) os end h.1 cs op after bit rest x)
    ] e

pub reads_scan : (last : Option Bool) (ops : List Op) → ReadsFrom last ops → scan_of last ops ≡ Some (last_after last ops)
reads_scan last [] h = refl
reads_scan last (o ∷ os) h =
    let right : is_right last o ≡ true = expected_right last o (λ bit x. h [] o os bit refl x) in
    let rest : scan_of (after_op last o) os ≡ Some (last_after last (o ∷ os)) =
    reads_scan (after_op last o) os (λ before op after bit e x. h (o ∷ before) op after bit (ap (λ l. o ∷ l) e) x) in
    rw right rest

after_write : (last : Option Bool) (op : Op) (bit : Bool) → written_by op ≡ Some bit → after_op last op ≡ Some bit
after_write last W0 bit w = w
after_write last W1 bit w = w
after_write last R0 bit w = cc
after_write last R1 bit w = cc

after_read : (last : Option Bool) (op : Op) → written_by op ≡ None → after_op last op ≡ last
after_read last W0 w = cc
after_read last W1 w = cc
after_read last R0 w = refl
after_read last R1 w = refl

last_after-append : (last : Option Bool) (xs ys : List Op) → last_after last (xs ++ ys) ≡ last_after (last_after last xs) ys
last_after-append last [] ys = refl
last_after-append last (x ∷ xs) ys = last_after-append (after_op last x) xs ys

pub after_reads : (last : Option Bool) (ops : List Op) → HasNoWrite ops → last_after last ops ≡ last
after_reads last [] h = refl
after_reads last (o ∷ os) h = rw (after_read last o h.0) (after_reads last os h.1)

pub last_writes : (ops : List Op) (bit : Bool) → LastWrites ops bit → last_after None ops ≡ Some bit
last_writes ops bit w =
    ap (last_after None) w.split ∙ last_after-append None w.before (w.write ∷ w.after)
    ∙ ap (λ l. last_after l w.after) (after_write (last_after None w.before) w.write bit w.writes) ∙ after_reads (Some bit) w.after w.last

pub writes_last : (last : Option Bool) (ops : List Op) (bit : Bool) → last_after last ops ≡ Some bit
    → LastWrites ops bit ⊎ ((last ≡ Some bit) × HasNoWrite ops)
writes_last last [] bit e = inr (e, tt)
writes_last last (o ∷ os) bit e =
    ⊎_elim
    (λ (w : LastWrites os bit). inl (record { before = o ∷ w.before; write = w.write; after = w.after; split = ap (λ l. o ∷ l) w.split; writes = w.writes; last = w.last }))
    (first_write last o os bit)
    (writes_last (after_op last o) os bit e)
  where
    first_write : (last : Option Bool) (o : Op) (os : List Op) (bit : Bool)
        → (after_op last o ≡ Some bit) × HasNoWrite os
        → LastWrites (o ∷ os) bit ⊎ ((last ≡ Some bit) × HasNoWrite (o ∷ os))
    first_write last W0 os bit h = inl (record { before = []; write = W0; after = os; split = refl; writes = h.0; last = h.1 })
    first_write last W1 os bit h = inl (record { before = []; write = W1; after = os; split = refl; writes = h.0; last = h.1 })
    first_write last R0 os bit h = inr (h.0, (refl, h.1))
    first_write last R1 os bit h = inr (h.0, (refl, h.1))

pub scan_consistent : (ops : List Op) (end : Option Bool) → scan_of None ops ≡ Some end → IsConsistent ops
scan_consistent ops end s = λ before op after bit e x.
    ⊎_elim
    (λ (w : LastWrites before bit). w)
    (λ (n : (None ≡ Some bit) × HasNoWrite before). cc)
    (writes_last None before bit (scan_reads None ops end s before op after bit e x))

pub consistent_scan : (ops : List Op) → IsConsistent ops → scan_of None ops ≡ Some (last_after None ops)
consistent_scan ops h = reads_scan None ops (λ before op after bit e x. last_writes before bit (h before op after bit e x))

pub scan_of-append : (last end : Option Bool) (xs ys : List Op) → scan_of last xs ≡ Some end → scan_of last (xs ++ ys) ≡ scan_of end ys
scan_of-append last end [] ys s = let e : last ≡ end = cc in ap (λ l. scan_of l ys) e
scan_of-append last end (x ∷ xs) ys s =
    let h = cond_holds (is_right last x) (scan_of (after_op last x) xs) end s in
    rw h.0 (scan_of-append (after_op last x) end xs ys h.1)
