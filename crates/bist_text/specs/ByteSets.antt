-- Public. Sets of bytes.
use Rattle.std.specs.Prelude.{ℕ, ◌-◌, ◌==◌, nat_lt, Bool, if◌then◌else◌}
use Rattle.std.specs.Int.{bit_at}
use Rattle.bist_text.specs.declared.byte_set.ByteSet.{ByteSet}

-- whether a byte is in the set: bit b of the low half, or bit b - 128 of the high one
abbrev pub in_set : ByteSet → ℕ → Bool
in_set set b = (if nat_lt b 128 then bit_at set.low b else bit_at set.high (b - 128)) == 1
