-- Trusted. The words of the subset: names, numbers and literals (IEEE 1364-2005, clause 3).
use Rattle.std.specs.Prelude.{ℕ, ◌-◌, Bool, not, ◌==◌, ◌&&◌, ◌||◌, nat_le, List, length, Option, Some, None, if◌then◌else◌}
use Rattle.bist_text.specs.ReservedWords.{is_among, reserved_words}
use Rattle.bist_text.specs.Identifiers.{is_digit, is_identifier}
use Rattle.verilog_tree.specs.declared.tokens.Base.{Base}
use Rattle.verilog_tree.specs.declared.tokens.Base.TheVariants.{Binary, Octal, Decimal, Hexadecimal}

-- a simple identifier that isn't reserved, of at most 64 bytes
abbrev pub is_name : List ℕ → Bool
is_name w = is_identifier w && not (is_among w reserved_words) && nat_le (length w) 64

abbrev pub radix : Base → ℕ
radix Binary = 2
radix Octal = 8
radix Decimal = 10
radix Hexadecimal = 16

-- the base that a letter names, in lower or upper case
abbrev pub base_of : ℕ → Option Base
base_of c =
    if (c == 98) || (c == 66) then Some Binary else if (c == 111) || (c == 79) then Some Octal
    else if (c == 100) || (c == 68) then Some Decimal else if (c == 104) || (c == 72) then Some Hexadecimal else None

abbrev pub is_digit_of : Base → ℕ → Bool
is_digit_of Binary c = nat_le 48 c && nat_le c 49
is_digit_of Octal c = nat_le 48 c && nat_le c 55
is_digit_of Decimal c = is_digit c
is_digit_of Hexadecimal c = is_digit c || (nat_le 97 c && nat_le c 102) || (nat_le 65 c && nat_le c 70)

-- what a digit is worth
abbrev pub digit_value : ℕ → ℕ
digit_value c = if nat_le c 57 then c - 48 else if nat_le c 70 then c - 55 else c - 87
