use Rattle.std.proofs.Common.{◌≡◌, ◌++◌, length, drop}
use Rattle.bist_text.specs.Numbers.{hex_digits}
use Rattle.bist_text.proofs.numbers.write_hex.Given as goal

-- the digits that are left come before those that stand
abbrev pub invariant-loop-i : goal.invariant-loop-i
invariant-loop-i l = hex_digits l.i l.left ++ drop l.i l.text ≡ hex_digits (length l.text) l.value
