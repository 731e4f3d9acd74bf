-- What is put at places.
use Rattle.std.proofs.Common.{◌≡◌, ◌≢◌, ℕ, ◌+◌, ◌<◌, ◌≤◌, Bool, true, false, cond, min, nat_lt, ◌⊎◌, inl, inr, List, [], ◌∷◌, ◌++◌, length, take, drop, get_or, slice_set, refl, sym, ap, ◌∙◌, arith, append-nil, append_assoc, length-append, length-set, length-take, take-append-drop}
use Rattle.std.proofs.lemmas.Bool.{cases_lt}
use Rattle.std.proofs.lemmas.Bool.Decides.{nat_tests}
use Rattle.std.proofs.lemmas.List.{get_or-set_same, get_or-set_other, take-set-le, drop_all}
use Rattle.std.proofs.Math.Seq.{set-append_seam}
use Rattle.verilog_code.specs.declared.code.Code.{Code}
use Rattle.verilog_code.specs.Places.{put, put_all, settled}

-- ---- one

pub length_put : {A : Type 0} (vs : List A) (k : ℕ) (v : A) → length (put vs k v) ≡ length vs
length_put vs k v = by_test (nat_lt k (length vs))
  where
    by_test : (t : Bool) → length (cond t (slice_set vs k v) vs) ≡ length vs
    by_test true = length-set vs k v
    by_test false = refl

pub put_within : {A : Type 0} (vs : List A) (k : ℕ) (v : A) → k < length vs → put vs k v ≡ slice_set vs k v
put_within vs k v h = ap (λ (t : Bool). cond t (slice_set vs k v) vs) (let e : nat_lt k (length vs) ≡ true = grind (arith, nat_tests) in e)

pub put_beyond : {A : Type 0} (vs : List A) (k : ℕ) (v : A) → length vs ≤ k → put vs k v ≡ vs
put_beyond vs k v h = ap (λ (t : Bool). cond t (slice_set vs k v) vs) (let e : nat_lt k (length vs) ≡ false = grind (arith, nat_tests) in e)

pub put_here : {A : Type 0} (vs : List A) (k : ℕ) (v z : A) → k < length vs → get_or (put vs k v) k z ≡ v
put_here vs k v z h = ap (λ l. get_or l k z) (put_within vs k v h) ∙ get_or-set_same vs k v z h

pub put_there : {A : Type 0} (vs : List A) (k j : ℕ) (v z : A) → j ≢ k → get_or (put vs k v) j z ≡ get_or vs j z
put_there vs k j v z h = by_test (nat_lt k (length vs))
  where
    by_test : (t : Bool) → get_or (cond t (slice_set vs k v) vs) j z ≡ get_or vs j z
    by_test true = get_or-set_other vs k j v z h
    by_test false = refl

-- ---- several

put_at : {A : Type 0} (a : List A) (y : A) (b : List A) (x : A) → put (a ++ y ∷ b) (length a) x ≡ a ++ x ∷ b
put_at a y b x = put_within (a ++ y ∷ b) (length a) x (let l = length-append a (y ∷ b) in omega (arith, l)) ∙ set-append_seam a y b x

-- in the middle
pub put_middle : {A : Type 0} (a b c xs : List A) → length b ≡ length xs → put_all (length a) xs (a ++ (b ++ c)) ≡ a ++ (xs ++ c)
put_middle a [] c [] l = refl
put_middle a [] c (x ∷ xs) l = absurd (omega arith)
put_middle a (y ∷ b) c [] l = absurd (omega arith)
put_middle a (y ∷ b) c (x ∷ xs) l =
    ap (put_all (length a + 1) xs) (put_at a y (b ++ c) x ∙ sym (append_assoc a (x ∷ []) (b ++ c)))
    ∙ ap (λ (k : ℕ). put_all k xs ((a ++ x ∷ []) ++ (b ++ c))) (sym (length-append a (x ∷ [])))
    ∙ put_middle (a ++ x ∷ []) b c xs (omega (arith, l))
    ∙ append_assoc a (x ∷ []) (xs ++ c)

pub length_put_all : {A : Type 0} (k : ℕ) (xs vs : List A) → length (put_all k xs vs) ≡ length vs
length_put_all k [] vs = refl
length_put_all k (x ∷ xs) vs = length_put_all (k + 1) xs (put vs k x) ∙ length_put vs k x

-- at the front
pub put_front : {A : Type 0} (xs vs : List A) → length xs ≤ length vs → put_all 0 xs vs ≡ xs ++ drop (length xs) vs
put_front xs vs le =
    let n = length xs in
    let l : length (take n vs) ≡ n = length-take n vs ∙ (let e : min n (length vs) ≡ n = omega arith in e) in
    ap (put_all 0 xs) (sym (take-append-drop n vs)) ∙ put_middle [] (take n vs) (drop n vs) xs l

-- over as many
pub put_whole : {A : Type 0} (xs ys : List A) → length xs ≡ length ys → put_all 0 xs ys ≡ xs
put_whole xs ys l = put_front xs ys (omega (arith, l)) ∙ ap (λ k. xs ++ k) (drop_all (length xs) ys (omega (arith, l))) ∙ append-nil xs

-- a list in three parts
pub parted : {A : Type 0} (vs : List A) (r k : ℕ) → take r vs ++ (take k (drop r vs) ++ drop k (drop r vs)) ≡ vs
parted vs r k = ap (λ l. take r vs ++ l) (take-append-drop k (drop r vs)) ∙ take-append-drop r vs

-- ---- what is computed

-- what stands before it stays, and how many values there are
pub settled_keeps : {A : Type 0} (meaning : List A → Code → A) (k j : ℕ) (cs : List Code) (vs : List A) → j ≤ k → take j (settled meaning k cs vs) ≡ take j vs
settled_keeps meaning k j [] vs le = refl
settled_keeps meaning k j (c ∷ cs) vs le = settled_keeps meaning (k + 1) j cs (put vs k (meaning vs c)) (omega arith) ∙ kept (cases_lt k (length vs))
  where
    kept : (k < length vs) ⊎ (length vs ≤ k) → take j (put vs k (meaning vs c)) ≡ take j vs
    kept (inl lt) = ap (take j) (put_within vs k (meaning vs c) lt) ∙ take-set-le j vs k (meaning vs c) le
    kept (inr ge) = ap (take j) (put_beyond vs k (meaning vs c) ge)

pub settled_length : {A : Type 0} (meaning : List A → Code → A) (k : ℕ) (cs : List Code) (vs : List A) → length (settled meaning k cs vs) ≡ length vs
settled_length meaning k [] vs = refl
settled_length meaning k (c ∷ cs) vs = settled_length meaning (k + 1) cs (put vs k (meaning vs c)) ∙ length_put vs k (meaning vs c)
