-- One age more.
use Rattle.std.proofs.Common.{◌≡◌, ℕ, suc, ◌+◌, ◌-◌, ◌<◌, ◌≤◌, Bool, List, [], ◌∷◌, ◌++◌, codes, true, false, refl, sym, ap, ◌∙◌, arith, append_assoc, Result, Ok, Err, OnOk}
use Rattle.verilog_tree.specs.Plain.{Statement, ModuleItem, RegItem}
use Rattle.rtl_layout.specs.Layout.{aged, reads_at, stage_regs, stage_sets}
use Rattle.rtl_layout.specs.inner.Layout.{age_regs, end_age_sets, age_sets}

pub ages_turn : (many : Bool) (w i d : ℕ) (xs ys q : List ModuleItem) → i < d → ys ≡ xs ++ age_regs many w (i + 1) → xs ++ stage_regs many w i (d - i) ≡ q → ys ++ stage_regs many w (i + 1) (d - (i + 1)) ≡ q
ages_turn many w i d xs ys q lt is h =
    let left : suc (d - (i + 1)) ≡ d - i = omega arith in
    let up : i + 1 ≡ suc i = omega arith in
    ap (λ l. l ++ stage_regs many w (i + 1) (d - (i + 1))) is
    ∙ append_assoc xs (age_regs many w (i + 1)) (stage_regs many w (i + 1) (d - (i + 1)))
    ∙ ap (λ k. xs ++ (age_regs many w k ++ stage_regs many w k (d - (i + 1)))) up
    ∙ ap (λ k. xs ++ stage_regs many w i k) left
    ∙ h

-- the registers of the last age, which has no value
pub ages_end : (many : Bool) (w i d : ℕ) (xs ys zs q : List ModuleItem) (r o : List ℕ) → d ≤ i → i ≤ d → r ≡ aged (codes "reads") (d + 1) → o ≡ aged (codes "over") (d + 1)
    → ys ≡ xs ++ RegItem r 1 ∷ [] → zs ≡ ys ++ RegItem o 1 ∷ [] → xs ++ stage_regs many w i (d - i) ≡ q → zs ≡ q
ages_end many w i d xs ys zs q r o low high reads over first then_ h =
    let up : d + 1 ≡ suc i = omega arith in
    let none : 0 ≡ d - i = omega arith in
    then_ ∙ ap (λ l. l ++ RegItem o 1 ∷ []) first
    ∙ append_assoc xs (RegItem r 1 ∷ []) (RegItem o 1 ∷ [])
    ∙ ap (λ n. xs ++ (RegItem n 1 ∷ RegItem o 1 ∷ [])) (reads ∙ ap (λ k. aged (codes "reads") k) up)
    ∙ ap (λ n. xs ++ (RegItem (reads_at (suc i)) 1 ∷ RegItem n 1 ∷ [])) (over ∙ ap (λ k. aged (codes "over") k) up)
    ∙ ap (λ k. xs ++ stage_regs many w i k) none
    ∙ h

next_sets : (many : Bool) (w i n : ℕ) → stage_sets many w i (suc n) ≡ age_sets many w i ++ stage_sets many w (suc i) n
next_sets true w i n = refl
next_sets false w i n = refl

pub sets_turn : (many : Bool) (w i d : ℕ) (xs ys q : List Statement) → i < d → ys ≡ xs ++ age_sets many w i → xs ++ stage_sets many w i (d - i) ≡ q → ys ++ stage_sets many w (i + 1) (d - (i + 1)) ≡ q
sets_turn many w i d xs ys q lt is h =
    let left : suc (d - (i + 1)) ≡ d - i = omega arith in
    let up : i + 1 ≡ suc i = omega arith in
    ap (λ l. l ++ stage_sets many w (i + 1) (d - (i + 1))) is
    ∙ append_assoc xs (age_sets many w i) (stage_sets many w (i + 1) (d - (i + 1)))
    ∙ ap (λ k. xs ++ (age_sets many w i ++ stage_sets many w k (d - (i + 1)))) up
    ∙ ap (λ l. xs ++ l) (sym (next_sets many w i (d - (i + 1))))
    ∙ ap (λ k. xs ++ stage_sets many w i k) left
    ∙ h

-- what the last age takes, which has no value
pub sets_end : {U E : Type 0} (r : Result U E) (many : Bool) (w i d : ℕ) (xs ys q : List Statement) → d ≤ i → i ≤ d → OnOk r (ys ≡ xs ++ end_age_sets d) → xs ++ stage_sets many w i (d - i) ≡ q → OnOk r (ys ≡ q)
sets_end (Ok u) many w i d xs ys q low high then_ h =
    let same : d ≡ i = omega arith in
    let none : 0 ≡ d - i = omega arith in
    then_ ∙ ap (λ k. xs ++ end_age_sets k) same ∙ ap (λ k. xs ++ stage_sets many w i k) none ∙ h
sets_end (Err e) many w i d xs ys q low high then_ h = then_
