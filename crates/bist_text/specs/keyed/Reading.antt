-- Public. What readers make of what is left of a line.
use Rattle.std.specs.Prelude.{ℕ, List, [], ◌∷◌, length, ◌-◌, suc}
use Rattle.bist_text.specs.Machine.{Outcome, read, unexpected, truncated}

-- a value and what is then left, or what is left where the line can't go on so: nothing, where it ended too early
pub data Read (A : Type 0) : Type 0 where
  took : A → List ℕ → Read A
  stuck : List ℕ → Read A

abbrev pub onward : {A B : Type 0} → Read A → (A → List ℕ → Read B) → Read B
onward (took a b) f = f a b
onward (stuck b) f = stuck b

-- the refusal of a whole text: the byte where it can't go on
abbrev pub outcome : {V : Type 0} → List ℕ → Read V → Outcome V
outcome b (took v x) = read v
outcome b (stuck []) = truncated
outcome b (stuck (c ∷ y)) = unexpected (length b - suc (length y))
