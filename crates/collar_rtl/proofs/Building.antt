-- Lists that calls one after another append to.
use Rattle.std.proofs.Common.{◌≡◌, ◌≢◌, ◌+◌, ◌-◌, ℕ, zero, suc, List, [], ◌∷◌, ◌++◌, OnOk, Result, refl, ap, ◌∙◌, arith}
use Rattle.std.proofs.lemmas.List.{append_assoc}
use Rattle.std.proofs.lemmas.Result.{on_ok_weaker}
use Rattle.verilog_tree.specs.Plain.{Statement, SetTo, Conditional, Net, ModuleItem, RegItem, AssignItem}
use Rattle.collar_rtl.specs.Interface.{test, en_at, we_at, addr_at, wdata_at, lit, command_regs, command_sets}

pub appended : {T E X : Type 0} (r : Result T E) (new mid old xs ys zs : List X) → xs ++ ys ≡ zs → mid ≡ old ++ xs → OnOk r (new ≡ mid ++ ys) → OnOk r (new ≡ old ++ zs)
appended r new mid old xs ys zs whole here h =
    on_ok_weaker r (λ (e : new ≡ mid ++ ys). e ∙ ap (λ l. l ++ ys) here ∙ append_assoc old xs ys ∙ ap (λ l. old ++ l) whole) h

regs_of : ℕ → ℕ → ℕ → List ModuleItem
regs_of b a i = RegItem (en_at i) 1 ∷ RegItem (we_at i) 1 ∷ RegItem (addr_at i) a ∷ RegItem (wdata_at i) b ∷ []

pub more_regs : (b a stage left : ℕ) → left ≢ 0
    → (RegItem (en_at (stage + 1)) 1 ∷ RegItem (we_at (stage + 1)) 1 ∷ RegItem (addr_at (stage + 1)) a ∷ RegItem (wdata_at (stage + 1)) b ∷ []) ++ command_regs b a (stage + 1) (left - 1)
    ≡ command_regs b a stage left
unfolding regs_of
more_regs b a stage zero some = absurd (some refl)
more_regs b a stage (suc n) some =
    let on : stage + 1 ≡ suc stage = omega arith in
    let less : suc n - 1 ≡ n = omega arith in
    ap (λ (k : ℕ). regs_of b a k ++ command_regs b a k (suc n - 1)) on ∙ ap (λ (k : ℕ). regs_of b a (suc stage) ++ command_regs b a (suc stage) k) less

sets_of : ℕ → ℕ → List Statement
sets_of i k =
    SetTo (en_at k) (Conditional (Net test) (Net (en_at i)) (lit 1 0)) ∷ SetTo (we_at k) (Net (we_at i)) ∷ SetTo (addr_at k) (Net (addr_at i))
    ∷ SetTo (wdata_at k) (Net (wdata_at i)) ∷ []

pub more_sets : (stage left : ℕ) → left ≢ 0
    → (SetTo (en_at (stage + 1)) (Conditional (Net test) (Net (en_at stage)) (lit 1 0)) ∷ SetTo (we_at (stage + 1)) (Net (we_at stage))
    ∷ SetTo (addr_at (stage + 1)) (Net (addr_at stage)) ∷ SetTo (wdata_at (stage + 1)) (Net (wdata_at stage)) ∷ []) ++ command_sets (stage + 1) (left - 1)
    ≡ command_sets stage left
unfolding sets_of
more_sets stage zero some = absurd (some refl)
more_sets stage (suc n) some =
    let on : stage + 1 ≡ suc stage = omega arith in
    let less : suc n - 1 ≡ n = omega arith in
    ap (λ (k : ℕ). sets_of stage k ++ command_sets k (suc n - 1)) on ∙ ap (λ (k : ℕ). sets_of stage (suc stage) ++ command_sets (suc stage) k) less

pub joined_two : (t u v x t' u' v' x' : List ℕ) → t ≡ t' → u ≡ u' → v ≡ v' → x ≡ x'
    → (AssignItem t (Net u) ∷ []) ++ (AssignItem v (Net x) ∷ []) ≡ AssignItem t' (Net u') ∷ AssignItem v' (Net x') ∷ []
joined_two t u v x t' u' v' x' a b c d =
    ap (λ (n : List ℕ). AssignItem n (Net u) ∷ AssignItem v (Net x) ∷ []) a ∙ ap (λ (n : List ℕ). AssignItem t' (Net n) ∷ AssignItem v (Net x) ∷ []) b
    ∙ ap (λ (n : List ℕ). AssignItem t' (Net u') ∷ AssignItem n (Net x) ∷ []) c ∙ ap (λ (n : List ℕ). AssignItem t' (Net u') ∷ AssignItem v' (Net n) ∷ []) d
