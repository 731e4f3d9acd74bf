-- Without a pause each command stands right behind the one before it.
use Rattle.std.proofs.Common.{◌≡◌, ℕ, zero, suc, ◌+◌, ◌*◌, ◌≤◌, false, List, [], ◌∷◌, length, Option, Some, None, ◌∙◌, ap, arith, mul-zero}
use Rattle.std.specs.List.{AllByRecursion}
use Rattle.march_core.specs.March.{MarchElement, pause, sweep, is_pause}
use Rattle.memory_desc.specs.Descriptions.{Description}
use Rattle.word_march.specs.Commands.{word_steps, pauses_before, pauses, command_count}
use Rattle.word_march.specs.Laws.{Unpaused}
use Rattle.word_march.specs.inner.Standing.{pause_count}
use Rattle.word_march.proofs.Count.{pauses_are}

fewer : {A : Type 0} (steps : List (Option A)) (j : ℕ) → pauses_before steps j ≤ pauses steps
fewer [] j = omega arith
fewer (None ∷ steps) j = let h = fewer steps j in omega arith
fewer (Some o ∷ steps) zero = omega arith
fewer (Some o ∷ steps) (suc j) = fewer steps j

none_counted : (march : List MarchElement) → AllByRecursion (λ e. is_pause e ≡ false) march → pause_count march ≡ 0
none_counted [] h = omega arith
none_counted (pause ∷ march) h = cc
none_counted (sweep order ops ∷ march) h = none_counted march h.1

pub unbroken_is : (march : List MarchElement) (d : Description) → AllByRecursion (λ e. is_pause e ≡ false) march → Unpaused march d
unbroken_is march d h =
    let none : pauses (word_steps march d) ≡ 0 =
    pauses_are march d ∙ ap (λ (n : ℕ). length d.backgrounds * n) (none_counted march h) ∙ mul-zero (length d.backgrounds) in
    record {
      stands = λ j.
          let few = fewer (word_steps march d) j in
          let before : pauses_before (word_steps march d) j ≡ 0 = omega arith in
          ap (λ (n : ℕ). j + d.pause * n) before ∙ ap (λ (n : ℕ). j + n) (mul-zero d.pause) ∙ omega arith;
      count = ap (λ (n : ℕ). command_count march d + d.pause * n) none ∙ ap (λ (n : ℕ). command_count march d + n) (mul-zero d.pause) ∙ omega arith;
    }
