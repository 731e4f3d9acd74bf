-- Inner. For proofs and private contracts alone: the scan of the operations that keeps the bit written last.
use Rattle.std.specs.Prelude.{◌≡◌, ℕ, Bool, true, false, not, if◌then◌else◌, Option, Some, None, List, [], ◌∷◌, take, slice_get}
use Rattle.march_core.specs.declared.fault.MarchFault.{MarchFault}
use Rattle.march_core.specs.declared.fault.MarchFault.TheVariants.{ReadBeforeWrite, WrongExpect}
use Rattle.march_core.specs.declared.operation.Op.{Op}
use Rattle.march_core.specs.declared.operation.Op.TheVariants.{W0, W1, R0, R1}

-- the bit that was written last, after one more operation
abbrev pub after_op : Option Bool → Op → Option Bool
after_op last W0 = Some false
after_op last W1 = Some true
after_op last R0 = last
after_op last R1 = last

-- whether a read expects the bit that was written last
abbrev pub is_right : Option Bool → Op → Bool
is_right last W0 = true
is_right last W1 = true
is_right None R0 = false
is_right None R1 = false
is_right (Some bit) R0 = not bit
is_right (Some bit) R1 = bit

-- the bit that was written last after these operations, where each read is right
abbrev pub scan_of : Option Bool → List Op → Option (Option Bool)
scan_of last [] = Some last
scan_of last (op ∷ ops) = if is_right last op then scan_of (after_op last op) ops else None

-- the first read that isn't right, and the bit that was written last before it
pub record StopsAt (last : Option Bool) (ops : List Op) (number : ℕ) (held : Option Bool) : Type 0 where
  pub read : Op
  pub is_there : slice_get ops number ≡ Some read
  pub reached : scan_of last (take number ops) ≡ Some held
  pub wrong : is_right held read ≡ false

-- the refusal of a wrong read, by what was written last before it
abbrev pub refusal_of : ℕ → ℕ → Option Bool → MarchFault
refusal_of element number None = ReadBeforeWrite element number
refusal_of element number (Some bit) = WrongExpect element number
