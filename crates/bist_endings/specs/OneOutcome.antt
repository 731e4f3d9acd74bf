-- Trusted. Checks that have one settled outcome alone, and commands that have one answer.
use Rattle.std.specs.Prelude.{◌≡◌, ◌⊎◌, ℕ, List, Result, Ok, Err}
use Rattle.verilog_tree.specs.declared.fault.TreeFault.{TreeFault}
use Rattle.bist_endings.specs.declared.ending.Refusal.{Refusal}
use Rattle.bist_endings.specs.declared.ending.InputRefusal.{InputRefusal}
use Rattle.bist_endings.specs.declared.ending.VerilogRefusal.{VerilogRefusal}
use Rattle.bist_endings.specs.Ending.{Done, status_of, found_status, refusal_line}

-- not a refusal of an input that the host's faults choose
abbrev pub IsSettledInput : InputRefusal → Type 0
IsSettledInput (InputRefusal.ReadFailed p) = ⊥
IsSettledInput other = Unit {0}

-- not a refusal that the memory or the host's faults choose
abbrev pub IsSettledRefusal : Refusal → Type 0
IsSettledRefusal Refusal.NoMemory = ⊥
IsSettledRefusal (Refusal.ReadFailed p) = ⊥
IsSettledRefusal (Refusal.Unit unit refusal) = IsSettledInput refusal
IsSettledRefusal other = Unit {0}

-- not an outcome that the memory or the host's faults choose
abbrev pub IsSettled : {A : Type 0} → Result A Refusal → Type 0
IsSettled (Ok value) = Unit {0}
IsSettled (Err refusal) = IsSettledRefusal refusal

-- two settled outcomes that a check allows are the same
abbrev pub HasOneOutcome : {A : Type 0} → (Result A Refusal → Type 0) → Type 0
HasOneOutcome {A} check = (r s : Result A Refusal) → check r → check s → IsSettled r → IsSettled s → r ≡ s

-- the status and the line of an outcome
pub record Answer : Type 0 where
  pub status : ℕ
  pub line : List ℕ

abbrev pub answer_of : Result Done Refusal → Answer
answer_of (Ok done) = record { status = found_status done.found; line = done.line }
answer_of (Err refusal) = record { status = status_of refusal; line = refusal_line refusal }

-- neither is a refusal
abbrev pub AreDone : Result Done Refusal → Result Done Refusal → Type 0
AreDone (Ok done) (Ok other) = Unit {0}
AreDone (Ok done) (Err refusal) = ⊥
AreDone (Err refusal) s = ⊥

-- two settled outcomes that a command's checks allow have the same status and the same line, where the boxes tell enough if neither is a refusal
abbrev pub HasOneAnswer : Type 0 → (Result Done Refusal → Type 0) → Type 0
HasOneAnswer Tells checks =
    (r s : Result Done Refusal) → (AreDone r s → Tells) → checks r → checks s → IsSettled r → IsSettled s → answer_of r ≡ answer_of s

-- a loop of wires, which may be told by the names of another one too
abbrev pub TellsLoop : Refusal → Type 0
TellsLoop (Refusal.Verilog (VerilogRefusal.Tree (TreeFault.Loop names))) = Unit {0}
TellsLoop other = ⊥

abbrev pub RefusesLoop : {A : Type 0} → Result A Refusal → Type 0
RefusesLoop (Ok value) = ⊥
RefusesLoop (Err refusal) = TellsLoop refusal

-- the same, but for the names of a loop of wires: two settled outcomes have the same status and the same line, or both tell a loop
abbrev pub HasOneAnswerButNames : Type 0 → (Result Done Refusal → Type 0) → Type 0
HasOneAnswerButNames Tells checks =
    (r s : Result Done Refusal) → (AreDone r s → Tells) → checks r → checks s → IsSettled r → IsSettled s
    → (answer_of r ≡ answer_of s) ⊎ (RefusesLoop r × RefusesLoop s)

-- what two refusals say: the same status and the same line, or a loop both
abbrev pub SayAlike : Refusal → Refusal → Type 0
SayAlike e d = (answer_of (Err e) ≡ answer_of (Err d)) ⊎ (TellsLoop e × TellsLoop d)

-- the same value, or refusals that say the same
abbrev pub AreAlike : {A : Type 0} → Result A Refusal → Result A Refusal → Type 0
AreAlike (Ok a) (Ok b) = a ≡ b
AreAlike (Ok a) (Err d) = ⊥
AreAlike (Err e) (Ok b) = ⊥
AreAlike (Err e) (Err d) = SayAlike e d

-- two settled outcomes that a check allows have the same value, or say the same
abbrev pub HasOneValue : {A : Type 0} → (Result A Refusal → Type 0) → Type 0
HasOneValue {A} check = (r s : Result A Refusal) → check r → check s → IsSettled r → IsSettled s → AreAlike r s
