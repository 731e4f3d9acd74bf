-- The bytes of a name are ASCII.
use Rattle.memory_desc.proofs.Common.{List, [], and_parts, arith, is_identifier, is_letter, is_name_byte, list_all, nat_tests, suc, true, zero, ℕ, ◌<◌, ◌∷◌, ◌≡◌}
use Rattle.std.specs.Str.{IsAscii}

letter_low : (c : ℕ) → is_letter c ≡ true → c < 128
letter_low c h = grind (arith, nat_tests)

name_byte_low : (c : ℕ) → is_name_byte c ≡ true → c < 128
name_byte_low c h = grind (arith, nat_tests)

name_bytes_ascii : (b : List ℕ) → list_all is_name_byte b ≡ true → IsAscii b
name_bytes_ascii [] h i = omega arith
name_bytes_ascii (c ∷ b) h zero = name_byte_low c (and_parts (is_name_byte c) (list_all is_name_byte b) h).0
name_bytes_ascii (c ∷ b) h (suc i) = name_bytes_ascii b (and_parts (is_name_byte c) (list_all is_name_byte b) h).1 i

pub identifier_ascii : (b : List ℕ) → is_identifier b ≡ true → IsAscii b
identifier_ascii [] h i = omega arith
identifier_ascii (c ∷ b) h zero = letter_low c (and_parts (is_letter c) (list_all is_name_byte b) h).0
identifier_ascii (c ∷ b) h (suc i) = name_bytes_ascii b (and_parts (is_letter c) (list_all is_name_byte b) h).1 i
