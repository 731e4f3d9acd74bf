-- Trusted. Simple identifiers (IEEE 1364-2005, clause 3.7.1).
use Rattle.std.specs.Prelude.{ℕ, Bool, false, ◌==◌, ◌&&◌, ◌||◌, nat_le, List, [], ◌∷◌}
use Rattle.std.specs.List.{list_all}

abbrev pub is_letter : ℕ → Bool
is_letter c = (nat_le 97 c && nat_le c 122) || (nat_le 65 c && nat_le c 90)

abbrev pub is_digit : ℕ → Bool
is_digit c = nat_le 48 c && nat_le c 57

-- a letter or _
abbrev pub begins_identifier : ℕ → Bool
begins_identifier c = is_letter c || (c == 95)

-- a letter, a digit, _ or $
abbrev pub in_identifier : ℕ → Bool
in_identifier c = begins_identifier c || is_digit c || (c == 36)

-- begins with a letter or _, and goes on with letters, digits, _ and $
abbrev pub is_identifier : List ℕ → Bool
is_identifier [] = false
is_identifier (c ∷ w) = begins_identifier c && list_all in_identifier w
