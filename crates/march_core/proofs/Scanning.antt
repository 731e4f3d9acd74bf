-- The steps of the scan, and what the read at which it stops tells of the march.
use Rattle.std.proofs.Common.{◌≡◌, ◌+◌, ◌<◌, ℕ, zero, suc, inl, inr, append-nil, Bool, true, false, not, Option, Some, None, List, [], ◌∷◌, ◌++◌, ◌⊎◌, length, take, drop, append_assoc, get_or, refl, ap, sym, ◌∙◌, arith, ⊎_elim}
use Rattle.std.specs.List.{slice_get}
use Rattle.std.specs.Option.{option_eq}
use mathlib.Core.Bool.{beq}
use Rattle.std.proofs.lemmas.List.{take_more, drop_more, take-append-drop}
use Rattle.std.proofs.lemmas.Grind.{flat_map-append}
use Rattle.std.proofs.lemmas.Option.{slice_get_within, get_or_from_slice_get}
use Rattle.march_core.specs.declared.operation.Op.{Op}
use Rattle.march_core.specs.declared.operation.Op.TheVariants.{W0, W1, R0, R1}
use Rattle.march_core.specs.declared.fault.MarchFault.{MarchFault}
use Rattle.march_core.specs.declared.fault.MarchFault.TheVariants.{Unexpected, Truncated, Empty, TooManyElements, TooManyOps, TooManyInAll, ReadBeforeWrite, WrongExpect}
use Rattle.march_core.specs.March.{MarchElement, ops_of, all_ops, ops_at, IsMarch}
use Rattle.march_core.specs.Operation.{written_by, expected_by, HasNoWrite, LastWrites, IsConsistent}
use Rattle.march_core.specs.Building.{ops_before, IsFilled, IsRefused}
use Rattle.march_core.specs.inner.Scan.{is_right, scan_of, StopsAt, refusal_of}
use Rattle.march_core.proofs.Built.{march_filled}
use Rattle.march_core.proofs.Consistent.{last_after, scan_of-append, scan_consistent, consistent_scan, writes_last, last_writes, after_reads}

-- one more operation
pub scan_more : (last held next : Option Bool) (ops : List Op) (i : ℕ) → i < length ops
    → scan_of last (take i ops) ≡ Some held → scan_of held (get_or ops i W0 ∷ []) ≡ Some next → scan_of last (take (i + 1) ops) ≡ Some next
scan_more last held next ops i within before here =
    ap (scan_of last) (take_more ops i W0 within) ∙ scan_of-append last held (take i ops) (get_or ops i W0 ∷ []) before ∙ here

pub write_scanned : (held : Option Bool) (op : Op) (bit : Bool) → Some bit ≡ written_by op → scan_of held (op ∷ []) ≡ Some (Some bit)
write_scanned held W0 bit e = ap Some (sym e)
write_scanned held W1 bit e = ap Some (sym e)
write_scanned held R0 bit e = cc
write_scanned held R1 bit e = cc

pub read_scanned : (held : Option Bool) (op : Op) → None ≡ written_by op → expected_by op ≡ held → scan_of held (op ∷ []) ≡ Some held
read_scanned held W0 e x = cc
read_scanned held W1 e x = cc
read_scanned None R0 e x = cc
read_scanned None R1 e x = cc
read_scanned (Some false) R0 e x = refl
read_scanned (Some true) R0 e x = cc
read_scanned (Some false) R1 e x = cc
read_scanned (Some true) R1 e x = refl

-- the code's test of a read
pub same_expected : (a b : Option Bool) → false ≡ not (option_eq beq a b) → a ≡ b
same_expected None None e = refl
same_expected None (Some b) e = cc
same_expected (Some a) None e = cc
same_expected (Some false) (Some false) e = refl
same_expected (Some false) (Some true) e = cc
same_expected (Some true) (Some false) e = cc
same_expected (Some true) (Some true) e = refl

-- an operation that isn't right is a read that expects a bit, and another one than is held
wrong_expects : (held : Option Bool) (op : Op) → is_right held op ≡ false → (bit : Bool) × (expected_by op ≡ Some bit) × ((held ≡ None) ⊎ (held ≡ Some (not bit)))
wrong_expects held W0 w = cc
wrong_expects held W1 w = cc
wrong_expects None R0 w = (false, refl, inl refl)
wrong_expects None R1 w = (true, refl, inl refl)
wrong_expects (Some false) R0 w = cc
wrong_expects (Some true) R0 w = (false, refl, inr refl)
wrong_expects (Some false) R1 w = (true, refl, inr refl)
wrong_expects (Some true) R1 w = cc

ops_at-get_or : (elements : List MarchElement) (n : ℕ) (d : MarchElement) → n < length elements → ops_at elements n ≡ ops_of (get_or elements n d)
ops_at-get_or [] n d within = absurd (omega arith)
ops_at-get_or (e ∷ es) zero d within = refl
ops_at-get_or (e ∷ es) (suc n) d within = ops_at-get_or es n d (omega arith)

-- one more element
pub all_ops-more : (elements : List MarchElement) (n : ℕ) (d : MarchElement) → n < length elements
    → all_ops (take (n + 1) elements) ≡ all_ops (take n elements) ++ ops_of (get_or elements n d)
all_ops-more elements n d within =
    ap all_ops (take_more elements n d within) ∙ flat_map-append ops_of (take n elements) (get_or elements n d ∷ [])
    ∙ ap (λ l. all_ops (take n elements) ++ l) (append-nil (ops_of (get_or elements n d)))

pub element_scanned : (elements : List MarchElement) (n : ℕ) (d : MarchElement) (ops : List Op) (last next : Option Bool) → n < length elements
    → d ≡ get_or elements n d → ops ≡ ops_of d → scan_of None (all_ops (take n elements)) ≡ Some last → scan_of last ops ≡ Some next
    → scan_of None (all_ops (take (n + 1) elements)) ≡ Some next
element_scanned elements n d ops last next within at is before here =
    ap (scan_of None) (all_ops-more elements n d within) ∙ scan_of-append None last (all_ops (take n elements)) (ops_of (get_or elements n d)) before
    ∙ ap (scan_of last) (ap ops_of (sym at) ∙ sym is) ∙ here

some_after : (bit : Bool) (ops : List Op) → last_after (Some bit) ops ≡ None → ⊥
some_after bit [] e = cc
some_after bit (W0 ∷ ops) e = some_after false ops e
some_after bit (W1 ∷ ops) e = some_after true ops e
some_after bit (R0 ∷ ops) e = some_after bit ops e
some_after bit (R1 ∷ ops) e = some_after bit ops e

no_write : (ops : List Op) → last_after None ops ≡ None → HasNoWrite ops
no_write [] e = tt
no_write (W0 ∷ ops) e = absurd (some_after false ops e)
no_write (W1 ∷ ops) e = absurd (some_after true ops e)
no_write (R0 ∷ ops) e = (refl, no_write ops e)
no_write (R1 ∷ ops) e = (refl, no_write ops e)

last_write : (ops : List Op) (bit : Bool) → last_after None ops ≡ Some bit → LastWrites ops bit
last_write ops bit e =
    ⊎_elim
    (λ (w : LastWrites ops bit). w)
    (λ (n : (None ≡ Some bit) × HasNoWrite ops). cc)
    (writes_last None ops bit e)

-- the refusal of the read at which the scan of an element stops
pub stop_refused : (elements : List MarchElement) (n : ℕ) (d : MarchElement) (ops : List Op) (last held : Option Bool) (number : ℕ) → IsFilled elements
    → n < length elements → d ≡ get_or elements n d → ops ≡ ops_of d → scan_of None (all_ops (take n elements)) ≡ Some last
    → StopsAt last ops number held → IsRefused elements (refusal_of n number held)
stop_refused elements n d ops last held number filled within at is before stops =
    by_held held (wrong_expects held stops.read stops.wrong) (sym (ap Some same_held))
  where
    same : ops_at elements n ≡ ops
    same = ops_at-get_or elements n d within ∙ ap ops_of (sym at) ∙ sym is

    done : List Op
    done = ops_before elements n number

    scanned : scan_of None done ≡ Some held
    scanned =
        ap (λ l. scan_of None (all_ops (take n elements) ++ take number l)) same
        ∙ scan_of-append None last (all_ops (take n elements)) (take number ops) before ∙ stops.reached

    right : IsConsistent done
    right = scan_consistent done held scanned

    same_held : last_after None done ≡ held
    same_held = let s = consistent_scan done right in let t = scanned in cc (s, t)

    by_held : (h : Option Bool) → (bit : Bool) × (expected_by stops.read ≡ Some bit) × ((h ≡ None) ⊎ (h ≡ Some (not bit)))
        → Some h ≡ Some (last_after None done) → IsRefused elements (refusal_of n number h)
    by_held None (bit, expects, e) k =
        (filled, bit, record { read = stops.read; is_there = ap (λ l. slice_get l number) same ∙ stops.is_there; expects = expects; right_before = right }, no_write done (cc))
    by_held (Some b) (bit, expects, e) k = (
      filled,
      bit,
      record { read = stops.read; is_there = ap (λ l. slice_get l number) same ∙ stops.is_there; expects = expects; right_before = right },
      last_write done (not bit) (⊎_elim (λ (n : Some b ≡ None). cc) (λ (s : Some b ≡ Some (not bit)). cc) e),
    )

-- a list at one of its elements
pub split_list : (xs : List Op) (k : ℕ) (x : Op) → slice_get xs k ≡ Some x → xs ≡ take k xs ++ x ∷ drop (k + 1) xs
split_list xs k x e =
    let within : k < length xs = slice_get_within xs k x e in
    let here : get_or xs k x ≡ x = get_or_from_slice_get xs k x x e in
    sym (take-append-drop k xs) ∙ ap (λ l. take k xs ++ l) (drop_more xs k x within ∙ ap (λ y. y ∷ drop (k + 1) xs) here)

-- the operations of a march at one of them
pub split_march : (elements : List MarchElement) (n k : ℕ) (read : Op) → slice_get (ops_at elements n) k ≡ Some read
    → (rest : List Op) × (all_ops elements ≡ ops_before elements n k ++ read ∷ rest)
split_march [] n k read e = cc
split_march (x ∷ xs) zero k read e =
    (drop (k + 1) (ops_of x) ++ all_ops xs, ap (λ l. l ++ all_ops xs) (split_list (ops_of x) k read e) ∙ append_assoc (take k (ops_of x)) (read ∷ drop (k + 1) (ops_of x)) (all_ops xs))
split_march (x ∷ xs) (suc n) k read e =
    let s = split_march xs n k read e in
    (s.0, ap (λ l. (ops_of x) ++ l) s.1 ∙ sym (append_assoc (ops_of x) (ops_before xs n k) (read ∷ s.0)) ∙ ap (λ l. l ++ read ∷ s.0) (sym (append_assoc (ops_of x) (all_ops (take n xs)) (take k (ops_at xs n)))))

-- what is refused is no march
pub refused_no_march : (elements : List MarchElement) (fault : MarchFault) → IsRefused elements fault → IsMarch elements → ⊥
refused_no_march elements Empty refused march = refused (march_filled elements march)
refused_no_march elements (ReadBeforeWrite n k) (filled, bit, r, none) march =
    let s = split_march elements n k r.read r.is_there in
    let w = last_writes (ops_before elements n k) bit (march.consistent (ops_before elements n k) r.read s.0 bit s.1 r.expects) in
    let v = after_reads None (ops_before elements n k) none in cc (w, v)
refused_no_march elements (WrongExpect n k) (filled, bit, r, other) march =
    let s = split_march elements n k r.read r.is_there in
    let w = last_writes (ops_before elements n k) bit (march.consistent (ops_before elements n k) r.read s.0 bit s.1 r.expects) in
    let v = last_writes (ops_before elements n k) (not bit) other in differ bit (sym w ∙ v)
  where
    differ : (b : Bool) → Some b ≡ Some (not b) → ⊥
    differ true e = cc
    differ false e = cc
refused_no_march elements (Unexpected byte) refused march = refused
refused_no_march elements Truncated refused march = refused
refused_no_march elements TooManyElements refused march = refused
refused_no_march elements (TooManyOps n) refused march = refused
refused_no_march elements TooManyInAll refused march = refused
