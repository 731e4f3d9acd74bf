-- The longest run of bytes of a class, and the first byte of one.
use Rattle.std.proofs.Common.{◌≡◌, ℕ, ◌+◌, ◌<◌, suc, Bool, true, false, cond, List, [], ◌∙◌, length, drop, get_or, refl, arith, ap, drop-cons, add-one}
use Rattle.std.specs.List.{prefix_len}

at_head : (p : ℕ → Bool) (b : List ℕ) (i : ℕ) → i < length b → prefix_len p (drop i b) ≡ cond (p (get_or b i 0)) (1 + prefix_len p (drop (suc i) b)) 0
at_head p b i l = ap (prefix_len p) (drop-cons b i 0 l)

-- a byte of the class
pub run_on : (p : ℕ → Bool) (b : List ℕ) (i n : ℕ) → i < length b → p (get_or b i 0) ≡ true → prefix_len p (drop i b) + i ≡ n → prefix_len p (drop (i + 1) b) + (i + 1) ≡ n
run_on p b i n l h e =
    let head : prefix_len p (drop i b) ≡ 1 + prefix_len p (drop (suc i) b) = at_head p b i l ∙ rw h refl in
    rw add-one (omega arith)

-- and one that isn't
pub run_stop : (p : ℕ → Bool) (b : List ℕ) (i n : ℕ) → i < length b → p (get_or b i 0) ≡ false → prefix_len p (drop i b) + i ≡ n → i ≡ n
run_stop p b i n l h e =
    let head : prefix_len p (drop i b) ≡ 0 = at_head p b i l ∙ rw h refl in
    omega arith

pub run_end : (p : ℕ → Bool) (b : List ℕ) (i n : ℕ) → drop i b ≡ [] → prefix_len p (drop i b) + i ≡ n → i ≡ n
run_end p b i n h e = let none : prefix_len p (drop i b) ≡ 0 = rw h refl in omega arith
