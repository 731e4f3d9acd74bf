-- How the joint run of a self-test and a chip ends.
use Rattle.std.proofs.Common.{◌≡◌, ◌+◌, ◌<◌, ◌≤◌, ◌^◌, ◌%◌, ℕ, zero, suc, Bool, true, false, Some, List, [], ◌∷◌, All, refl, ap, sym, subst, ◌∙◌, arith}
use Rattle.std.specs.Prelude.{slice_get, IsTrue}
use Rattle.std.proofs.Math.Nat.{mod-eq_of_lt}
use Rattle.std.proofs.lemmas.Option.{slice_get_within}
use Rattle.march_core.specs.March.{MarchElement, IsMarch}
use Rattle.memory_desc.specs.Descriptions.{Description, IsMemory}
use Rattle.word_march.specs.declared.operations.PortOp.{PortOp}
use Rattle.word_march.specs.Commands.{port_ops, command_count, span}
use Rattle.word_march.specs.PortRule.{PortValues, SomeReadDiffers}
use Rattle.word_march.proofs.Words.{commands_fit}
use Rattle.word_device.specs.Ports.{Chip}
use Rattle.word_device.specs.Runs.{answer_to, run_answers, run_word, IsRight, IsWrong, SomeWrong, IsFirstWrong, PassesAlone}
use Rattle.word_device.specs.Joint.{Joined, EndsPassing, returned_word, JointEnds, JointFails, JointPasses, SameFirst}
use Rattle.word_device.proofs.Cycles.{at_within}
use Rattle.word_device.proofs.Marching.{run_fails, run_passes}
use Rattle.word_device.proofs.Joining.{same_words}

command_within : (march : List MarchElement) (d : Description) (j : ℕ) (c : PortOp) → slice_get (port_ops march d) j ≡ Some c → j < command_count march d
command_within march d j c at = slice_get_within (port_ops march d) j c at

-- ---- the first wrong word

right_too : (march : List MarchElement) (d : Description) (f g : ℕ → ℕ) → ((j : ℕ) → j < command_count march d → f j ≡ g j) → (j : ℕ)
    → IsRight march d f j → IsRight march d g j
right_too march d f g same j right c at read = sym (same j (command_within march d j c at)) ∙ right c at read

first_too : (march : List MarchElement) (d : Description) (f g : ℕ → ℕ) → ((j : ℕ) → j < command_count march d → f j ≡ g j) → (j : ℕ)
    → IsFirstWrong march d f j → IsFirstWrong march d g j
first_too march d f g same j first =
    let wrong : IsWrong march d f j = first.wrong in
    record {
      wrong = record {
        command = wrong.command;
        is_command = wrong.is_command;
        is_read = wrong.is_read;
        differs = λ e. wrong.differs (same j (command_within march d j wrong.command wrong.is_command) ∙ e);
      };
      right_before = λ k l. right_too march d f g same k (first.right_before k l);
    }

pub same_first : (march : List MarchElement) (d : Description) → SameFirst march d
same_first march d chip q returned last j joined =
    let there : (k : ℕ) → k < command_count march d → returned_word march d returned k ≡ run_word march d chip k =
    λ k l. same_words march d chip q returned last k joined l in (
      first_too march d (returned_word march d returned) (run_word march d chip) there j,
      first_too march d (run_word march d chip) (returned_word march d returned) (λ k l. sym (there k l)) j,
    )

-- ---- the end

wrong_too : (march : List MarchElement) (d : Description) (f g : ℕ → ℕ) → ((j : ℕ) → j < command_count march d → f j ≡ g j) → SomeWrong march d f
    → SomeWrong march d g
wrong_too march d f g same some =
    let wrong : IsWrong march d f some.0 = some.1 in (
      some.0,
      record {
        command = wrong.command;
        is_command = wrong.is_command;
        is_read = wrong.is_read;
        differs = λ e. wrong.differs (same some.0 (command_within march d some.0 wrong.command wrong.is_command) ∙ e);
      },
    )

-- a read that differs is one whose word is wrong, and it has returned by then
read_is_wrong : (march : List MarchElement) (d : Description) (returned : ℕ → ℕ) (t : ℕ) → SomeReadDiffers march d returned t
    → SomeWrong march d (returned_word march d returned)
read_is_wrong march d returned t s = (s.number, record { command = s.command; is_command = s.is_command; is_read = s.is_read; differs = s.differs })

wrong_is_read : (march : List MarchElement) (d : Description) (returned : ℕ → ℕ) (t : ℕ) → span march d + 1 + d.latency ≤ t
    → SomeWrong march d (returned_word march d returned) → SomeReadDiffers march d returned t
wrong_is_read march d returned t late some =
    let wrong : IsWrong march d (returned_word march d returned) some.0 = some.1 in
    let soon = at_within march d some.0 (command_within march d some.0 wrong.command wrong.is_command) in
    record {
      number = some.0;
      command = wrong.command;
      is_command = wrong.is_command;
      is_read = wrong.is_read;
      before = omega arith;
      differs = wrong.differs;
    }

pub joint_ends : (march : List MarchElement) (d : Description) → JointEnds march d
joint_ends march d chip q returned last joined =
    let late = joined.late in
    let under_way = joined.under_way in
    let here = joined.rule last (omega arith) in
    let fail = here.fail (omega arith) in
    let there : (k : ℕ) → k < command_count march d → returned_word march d returned k ≡ run_word march d chip k =
    λ k l. same_words march d chip q returned last k joined l in
    record {
      done = here.done.1 late;
      fail = (
        λ f. wrong_too march d (returned_word march d returned) (run_word march d chip) there (read_is_wrong march d returned last (fail.0 f)),
        λ s.
            let back = wrong_too march d (run_word march d chip) (returned_word march d returned) (λ k l. sym (there k l)) s in
            fail.1 (wrong_is_read march d returned last late back),
      );
    }

pub joint_fails : (march : List MarchElement) (d : Description) → IsMemory d → JointFails march d
joint_fails march d m chip i q returned last has joined =
    let ends = joint_ends march d chip q returned last joined in
    record { done = ends.done; fail = ends.fail.1 (run_fails march d i chip m has) }

not_true : (b : Bool) → (IsTrue b → ⊥) → b ≡ false
not_true true h = absurd (h refl)
not_true false h = refl

fits_at : (bits : ℕ) (os : List PortOp) → All (λ o. o.word < 2 ^ bits) os → (j : ℕ) (o : PortOp) → slice_get os j ≡ Some o → o.word < 2 ^ bits
fits_at bits [] all j o e = cc
fits_at bits (x ∷ os) all zero o e =
    let same : x ≡ o = cc in
    subst (λ (y : PortOp). y.word < 2 ^ bits) same (all 0 x (omega arith))
fits_at bits (x ∷ os) all (suc j) o e = fits_at bits os (λ k y l. all (suc k) y (omega arith)) j o e

-- the low bits of a right answer are the answer
low_right : (march : List MarchElement) (d : Description) (chip : Chip) → IsMemory d → (j : ℕ)
    → IsRight march d (answer_to march d (run_answers march d chip)) j
    → IsRight march d (run_word march d chip) j
low_right march d chip m j right c at read =
    ap (λ (n : ℕ). n % 2 ^ d.bits) (right c at read) ∙ mod-eq_of_lt (fits_at d.bits (port_ops march d) (commands_fit march d m) j c at)

pub passes_alone : (march : List MarchElement) (d : Description) → IsMarch march → IsMemory d → PassesAlone march d
passes_alone march d is m chip plain j = low_right march d chip m j (run_passes march d chip is m plain j)

-- beside a chip that alone answers each read right a test ends without `fail`
pub joint_rights : (march : List MarchElement) (d : Description) (chip : Chip) (q : ℕ → PortValues) (returned : ℕ → ℕ) (last : ℕ)
    → ((j : ℕ) → IsRight march d (run_word march d chip) j) → Joined march d chip q returned last → EndsPassing march d returned (q last)
joint_rights march d chip q returned last right joined =
    let ends = joint_ends march d chip q returned last joined in
    let there : (k : ℕ) → k < command_count march d → run_word march d chip k ≡ returned_word march d returned k =
    λ k l. sym (same_words march d chip q returned last k joined l) in
    record {
      done = ends.done;
      passes = not_true (q last).fail (λ fail.
          let some = ends.fail.0 fail in
          let wrong : IsWrong march d (run_word march d chip) some.0 = some.1 in
          wrong.differs (right some.0 wrong.command wrong.is_command wrong.is_read));
      right = λ j. right_too march d (run_word march d chip) (returned_word march d returned) there j (right j);
    }

pub joint_passes : (march : List MarchElement) (d : Description) → IsMarch march → IsMemory d → JointPasses march d
joint_passes march d is m chip q returned last plain joined =
    joint_rights march d chip q returned last (passes_alone march d is m chip plain) joined
