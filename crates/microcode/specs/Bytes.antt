-- Public. An instruction as a byte.
use Rattle.std.specs.Prelude.{◌≡◌, ℕ, ◌+◌, ◌*◌, true, false}
use Rattle.std.specs.Int.{from_bool}
use Rattle.microcode.specs.declared.code.Instr.{Instr}

-- a pause is the last of its element, and neither writes nor goes down
pub record IsInstr (i : Instr) : Type 0 where
  pub last : i.pause ≡ true → i.last ≡ true
  pub write : i.pause ≡ true → i.write ≡ false
  pub bit : i.pause ≡ true → i.bit ≡ false
  pub down : i.pause ≡ true → i.down ≡ false

-- pause is bit 4, write bit 3, the data value bit 2, down bit 1 and last bit 0
abbrev pub byte_of : Instr → ℕ
byte_of i = 16 * from_bool i.pause + 8 * from_bool i.write + 4 * from_bool i.bit + 2 * from_bool i.down + from_bool i.last
