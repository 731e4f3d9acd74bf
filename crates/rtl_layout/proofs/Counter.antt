-- Counting up, over plain numbers, and what stepped registers are set to.
use Rattle.std.proofs.Common.{◌≡◌, ◌≢◌, ℕ, ◌+◌, ◌-◌, ◌%◌, ◌^◌, ◌<◌, ◌≤◌, Bool, true, false, cond, ◌&&◌, nat_eq, List, [], ◌∷◌, refl, ap, ◌∙◌, arith, inl, inr, eq-eqb}
use Rattle.std.proofs.Math.Nat.{mod-eq_of_lt}
use Rattle.std.proofs.lemmas.Bool.Decides.{eqb_tells}
use Rattle.verilog_tree.specs.Plain.{Expression}
use Rattle.verilog_tree.specs.Meaning.{Env, truth, bit, value}
use Rattle.rtl_layout.specs.Build.{step_while, counter}
use Rattle.rtl_layout.specs.Layout.{reset}
use Rattle.rtl_layout.specs.Control.{turned}

pub truth_bit : (b : Bool) → truth (bit b) ≡ b
truth_bit true = refl
truth_bit false = refl

-- a choice by a bit
pub by_bit : (b : Bool) (v x y : ℕ) → v ≡ bit b → cond (truth v) x y ≡ cond b x y
by_bit b v x y h = ap (λ u. cond (truth u) x y) h ∙ ap (λ t. cond t x y) (truth_bit b)

-- a choice by 0
pub on_zero : (v x y : ℕ) → v ≡ 0 → cond (truth v) x y ≡ y
on_zero v x y h = ap (λ u. cond (truth u) x y) h

pub on_one : (v x y : ℕ) → v ≡ 1 → cond (truth v) x y ≡ x
on_one v x y h = ap (λ u. cond (truth u) x y) h

-- whether the values of all these are true
abbrev pub all_hold : (List ℕ → ℕ) → Env → List Expression → Bool
all_hold ws e [] = true
all_hold ws e (c ∷ cs) = truth (value ws e c) && all_hold ws e cs

pub step_while_is : (ws : List ℕ → ℕ) (e : Env) (cs : List Expression) (x y : Expression) → value ws e (step_while cs x y) ≡ cond (all_hold ws e cs) (value ws e x) (value ws e y)
step_while_is ws e [] x y = refl
step_while_is ws e (c ∷ cs) x y =
    ap (λ v. cond (truth (value ws e c)) v (value ws e y)) (step_while_is ws e cs x y) ∙ nested (truth (value ws e c)) (all_hold ws e cs) (value ws e x) (value ws e y)
  where
    nested : (a b : Bool) (u v : ℕ) → cond a (cond b u v) v ≡ cond (a && b) u v
    nested true b u v = refl
    nested false b u v = refl

-- one more condition that holds as it should
pub and_bit : (b : Bool) (v : ℕ) (x y : Bool) → v ≡ bit b → x ≡ y → (truth v && x) ≡ (b && y)
and_bit b v x y h k = ap (λ u. truth u && x) h ∙ ap (λ t. t && x) (truth_bit b) ∙ ap (λ t. b && t) k

-- the same where the rest need only hold behind it
pub and_then : (b : Bool) (v : ℕ) (x y : Bool) → v ≡ bit b → (b ≡ true → x ≡ y) → (truth v && x) ≡ (b && y)
and_then true v x y h k = and_bit true v x y h (k refl)
and_then false v x y h k = ap (λ u. truth u && x) h

pub not_equal : (k m : ℕ) → nat_eq k m ≡ false → k ≢ m
not_equal k m h e = let t = eq-eqb k m e in cc

turned_is : (t : Bool) (k m w : ℕ) → (t ≡ false → k ≢ m) → k ≤ m → m < 2 ^ w → cond t 0 ((k + 1) % 2 ^ w) ≡ turned t k
turned_is true k m w h l f = refl
turned_is false k m w h l f = let ne = h refl in let small : k + 1 < 2 ^ w = omega arith in mod-eq_of_lt small

-- The next value of a counter of w bits that ends at m.
pub counter_is : (ws : List ℕ → ℕ) (e : Env) (r : List ℕ) (w : ℕ) (cs : List Expression) (last : List ℕ) (k m : ℕ) → e reset ≡ 0 → ws r ≡ w → e r ≡ k → e last ≡ bit (nat_eq k m) → k ≤ m → m < 2 ^ w
    → value ws e (counter r w cs last) ≡ cond (all_hold ws e cs) (turned (nat_eq k m) k) k
counter_is ws e r w cs last k m z wide held ends below fits =
    on_zero (e reset) _ _ z
    ∙ step_while_is ws e cs _ _
    ∙ ap (λ v. cond (all_hold ws e cs) v (e r)) (by_bit (nat_eq k m) (e last) 0 _ ends ∙ ap (λ v. cond (nat_eq k m) 0 v) (ap (λ j. (e r + 1) % 2 ^ j) wide) ∙ ap (λ v. cond (nat_eq k m) 0 ((v + 1) % 2 ^ w)) held ∙ turned_is (nat_eq k m) k m w (not_equal k m) below fits)
    ∙ ap (λ v. cond (all_hold ws e cs) (turned (nat_eq k m) k) v) held

-- a digit below n that ends at n - 1 stays below n
pub turned_in : (t : Bool) (k n : ℕ) → k < n → cond t (turned (nat_eq k (n - 1)) k) k < n
turned_in false k n h = h
turned_in true k n h =
    elim (eqb_tells k (n - 1)) [
      | inl q ↦ rw q.0 (omega arith)
      | inr q ↦ let ne = q.1 in rw q.0 (omega arith)
    ]
