-- Public. Which places an expression reads, and what is known of a net whose code reads no place that changed.
use Rattle.std.specs.Prelude.{◌≡◌, ◌≢◌, ℕ, ◌+◌, ◌-◌, ◌%◌, ◌^◌, List, [], ◌∷◌, Some, bit_and, get_or}
use Rattle.std.specs.Int.{bit_at}
use Rattle.verilog_code.specs.declared.code.Code.{Code}
use Rattle.verilog_code.specs.declared.step.Step.{Step}
use Rattle.verilog_code.specs.Code.{meaning}
use Rattle.verilog_code.specs.OpenCode.{open_meaning}

-- the same stands at each place whose bit is among these; places that differ by 64 share one
abbrev pub Alike : {A : Type 0} → A → ℕ → List A → List A → Type 0
Alike z bits vs ws = (p : ℕ) → bit_at bits (p % 64) ≡ 1 → get_or vs p z ≡ get_or ws p z

-- what a code is worth rests on the places with these bits alone
abbrev pub Rests : {A : Type 0} → A → (List A → Code → A) → ℕ → Code → Type 0
Rests {A = A} z worth bits c = (vs ws : List A) → Alike z bits vs ws → worth vs c ≡ worth ws c

pub record Reads (bits : ℕ) (c : Code) : Type 0 where
  pub closed : Rests 0 meaning bits c
  pub when_open : Rests (Some 0) open_meaning bits c

-- each code reads the places with its bits alone, and has a bit
abbrev pub AreReading : List Step → Type 0
AreReading [] = Unit {0}
AreReading (s ∷ ss) = Reads s.reads s.code.value × (bit_and (2 ^ 64 - 1) s.reads ≢ 0) × AreReading ss

-- from place k on stands what the code is worth, where it reads nothing with these bits
abbrev pub Known : {A : Type 0} → A → (List A → Code → A) → ℕ → ℕ → List Step → List A → Type 0
Known z worth k bits [] vs = Unit {0}
Known z worth k bits (s ∷ ss) vs = (bit_and bits s.reads ≡ 0 → get_or vs k z ≡ worth vs s.code.value) × Known z worth (k + 1) bits ss vs
