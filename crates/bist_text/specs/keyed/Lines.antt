-- Public. What a reader makes of a line, by what it makes of what stands behind a first word.
use Rattle.std.specs.Prelude.{ℕ, ◌-◌, suc, List, [], ◌∷◌, length, Option, None, Result, Ok, Err}
use Rattle.bist_text.specs.Keywords.{Word}
use Rattle.bist_text.specs.Machine.{Outcome, read, unexpected, truncated}
use Rattle.bist_text.specs.keyed.Reading.{Read, took, onward}
use Rattle.bist_text.specs.keyed.Parts.{spaced, gap_of, key_of, by_byte, is_hash, remark_of}
use Rattle.bist_text.specs.declared.keyed_lines.LineFault.{LineFault}
use Rattle.bist_text.specs.declared.keyed_lines.LineFault.TheVariants.{Unexpected, Truncated}

abbrev pub keyed_of : {K C : Type 0} → List (Word K) → (K → List ℕ → Read (Option C)) → List ℕ → Read (Option C)
keyed_of words argument_of b = onward (key_of words b) (λ k x. onward (gap_of x) (λ _ x. argument_of k x))

-- a comment or nothing, which says nothing, or a first word of the table and what stands behind it
abbrev pub line_of : {K C : Type 0} → List (Word K) → (K → List ℕ → Read (Option C)) → List ℕ → Read (Option C)
line_of words argument_of b = by_byte is_hash (remark_of None) (keyed_of words argument_of) (took None []) (spaced b)

-- the fault of a line of which this is left where it can't go on
abbrev pub fault_of : List ℕ → List ℕ → LineFault
fault_of b [] = Truncated
fault_of b (c ∷ y) = Unexpected (length b - suc (length y))

abbrev pub answer : {V : Type 0} → Outcome V → Result V LineFault
answer (read v) = Ok v
answer (unexpected i) = Err (Unexpected i)
answer truncated = Err Truncated
