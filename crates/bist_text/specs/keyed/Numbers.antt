-- Trusted. Decimal numbers in lines.
use Rattle.std.specs.Prelude.{◌≡◌, ℕ, ◌&&◌, nat_le, Bool, true, List, length}
use Rattle.std.specs.List.{list_all}
use Rattle.std.specs.Str.Parse.{digits_value}
use Rattle.bist_text.specs.Grammar.{word}
use Rattle.bist_text.specs.Identifiers.{is_digit}

-- one to nine decimal digits
abbrev pub is_number : List ℕ → Bool
is_number ds = list_all is_digit ds && nat_le 1 (length ds) && nat_le (length ds) 9

-- such digits with this value, and then K
abbrev pub number : ℕ → (List ℕ → Type 0) → List ℕ → Type 0
number n K b = (ds : List ℕ) × (is_number ds ≡ true) × (digits_value 10 ds ≡ n) × word ds K b
