-- Checks in their order have one settled outcome, or one answer, where each of them has.
use Rattle.std.proofs.Common.{◌≡◌, ◌∙◌, Result, Ok, Err, refl, sym, subst, ap, inl, inr}
use Rattle.bist_endings.specs.declared.ending.Refusal.{Refusal}
use Rattle.bist_endings.specs.Then.{Then}
use Rattle.bist_endings.specs.Ending.{Done}
use Rattle.bist_endings.specs.OneOutcome.{IsSettled, IsSettledRefusal, HasOneOutcome, answer_of, HasOneAnswer, RefusesLoop, HasOneAnswerButNames, AreAlike, HasOneValue}

same_value : {A : Type 0} (a b : A) (r s : Result A Refusal) → r ≡ Ok a → s ≡ Ok b → r ≡ s → a ≡ b
same_value a b r s x y e = cc

same_refusal : {A : Type 0} (e f : Refusal) (r s : Result A Refusal) → r ≡ Err e → s ≡ Err f → r ≡ s → e ≡ f
same_refusal e f r s x y h = cc

never_both : {A : Type 0} (a : A) (e : Refusal) (r s : Result A Refusal) → r ≡ Ok a → s ≡ Err e → r ≡ s → ⊥
never_both a e r s x y h = cc

settled_of : {B : Type 0} (r : Result B Refusal) (e : Refusal) → r ≡ Err e → IsSettled r → IsSettledRefusal e
settled_of {B} r e is settled = subst (λ (x : Result B Refusal). IsSettled x) is settled

refused_alike : {B : Type 0} (r s : Result B Refusal) (e d : Refusal) → r ≡ Err e → s ≡ Err d → e ≡ d → r ≡ s
refused_alike r s e d x y h = cc

pub then_one : {A B : Type 0} (first : Result A Refusal → Type 0) (rest : A → Result B Refusal → Type 0)
    → HasOneOutcome first → ((a : A) → HasOneOutcome (rest a)) → HasOneOutcome (Then first rest)
then_one {A} {B} first rest one each r s (Ok a, f, x) (Ok b, g, y) rs ss =
    let same : a ≡ b = same_value a b (Ok a) (Ok b) refl refl (one (Ok a) (Ok b) f g tt tt) in
    each b r s (subst (λ (c : A). rest c r) same x) y rs ss
then_one {A} {B} first rest one each r s (Ok a, f, x) (Err e, g, y) rs ss =
    absurd (never_both a e (Ok a) (Err e) refl refl (one (Ok a) (Err e) f g tt (settled_of s e y ss)))
then_one {A} {B} first rest one each r s (Err e, f, x) (Ok b, g, y) rs ss =
    absurd (never_both b e (Ok b) (Err e) refl refl (sym (one (Err e) (Ok b) f g (settled_of r e x rs) tt)))
then_one {A} {B} first rest one each r s (Err e, f, x) (Err d, g, y) rs ss =
    refused_alike r s e d x y
    (same_refusal {A = A} e d (Err e) (Err d) refl refl (one (Err e) (Err d) f g (settled_of r e x rs) (settled_of s d y ss)))

-- checks with one answer have it whatever the names of loops
pub but_names : {Tells : Type 0} (checks : Result Done Refusal → Type 0) → HasOneAnswer Tells checks → HasOneAnswerButNames Tells checks
but_names checks one r s tells f g rs ss = inl (one r s tells f g rs ss)

-- a check with one outcome has one value
pub outcome_value : {A : Type 0} (check : Result A Refusal → Type 0) → HasOneOutcome check → HasOneValue check
outcome_value {A} check one (Ok a) (Ok b) f g rs ss = same_value a b (Ok a) (Ok b) refl refl (one (Ok a) (Ok b) f g rs ss)
outcome_value {A} check one (Ok a) (Err e) f g rs ss = absurd (never_both a e (Ok a) (Err e) refl refl (one (Ok a) (Err e) f g rs ss))
outcome_value {A} check one (Err e) (Ok b) f g rs ss = absurd (never_both b e (Ok b) (Err e) refl refl (sym (one (Err e) (Ok b) f g rs ss)))
outcome_value {A} check one (Err e) (Err d) f g rs ss =
    inl (ap (λ (x : Refusal). answer_of (Err x)) (same_refusal {A = A} e d (Err e) (Err d) refl refl (one (Err e) (Err d) f g rs ss)))

pub then_value : {A B : Type 0} (first : Result A Refusal → Type 0) (rest : A → Result B Refusal → Type 0)
    → HasOneValue first → ((a : A) → first (Ok a) → HasOneValue (rest a)) → HasOneValue (Then first rest)
then_value {A} {B} first rest one each r s (Ok a, f, x) (Ok b, g, y) rs ss =
    let same : a ≡ b = one (Ok a) (Ok b) f g tt tt in
    each b g r s (subst (λ (c : A). rest c r) same x) y rs ss
then_value {A} {B} first rest one each r s (Ok a, f, x) (Err e, g, y) rs ss = absurd (one (Ok a) (Err e) f g tt (settled_of s e y ss))
then_value {A} {B} first rest one each r s (Err e, f, x) (Ok b, g, y) rs ss = absurd (one (Err e) (Ok b) f g (settled_of r e x rs) tt)
then_value {A} {B} first rest one each r s (Err e, f, x) (Err d, g, y) rs ss =
    subst (λ (z : Result B Refusal). AreAlike z s) (sym x)
    (subst (λ (z : Result B Refusal). AreAlike {A = B} (Err e) z) (sym y) (one (Err e) (Err d) f g (settled_of r e x rs) (settled_of s d y ss)))

pub then_but_names : {A Tells : Type 0} (first : Result A Refusal → Type 0) (rest : A → Result Done Refusal → Type 0)
    → HasOneValue first → ((a : A) → first (Ok a) → HasOneAnswerButNames Tells (rest a)) → HasOneAnswerButNames Tells (Then first rest)
then_but_names {A} first rest one each r s tells (Ok a, f, x) (Ok b, g, y) rs ss =
    let same : a ≡ b = one (Ok a) (Ok b) f g tt tt in
    each b g r s tells (subst (λ (c : A). rest c r) same x) y rs ss
then_but_names {A} first rest one each r s tells (Ok a, f, x) (Err e, g, y) rs ss = absurd (one (Ok a) (Err e) f g tt (settled_of s e y ss))
then_but_names {A} first rest one each r s tells (Err e, f, x) (Ok b, g, y) rs ss = absurd (one (Err e) (Ok b) f g (settled_of r e x rs) tt)
then_but_names {A} first rest one each r s tells (Err e, f, x) (Err d, g, y) rs ss =
    elim (one (Err e) (Err d) f g (settled_of r e x rs) (settled_of s d y ss)) [
      | inl h ↦ inl (ap answer_of x ∙ h ∙ sym (ap answer_of y))
      | inr h ↦ inr (subst (λ (z : Result Done Refusal). RefusesLoop z) (sym x) h.0, subst (λ (z : Result Done Refusal). RefusesLoop z) (sym y) h.1)
    ]
