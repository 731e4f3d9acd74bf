-- Trusted. Names: simple identifiers of Verilog that the language doesn't keep for itself.
use Rattle.std.specs.Prelude.{ℕ, ◌≤◌, ◌≡◌, true, false, List, length}
use Rattle.bist_text.specs.ReservedWords.{is_among, reserved_words}
pub use Rattle.bist_text.specs.Identifiers.{is_digit, begins_identifier as is_letter, in_identifier as is_name_byte, is_identifier}

-- a name: an identifier of at most 48 bytes that isn't reserved
pub record IsName (name : List ℕ) : Type 0 where
  pub identifier : is_identifier name ≡ true
  pub short : length name ≤ 48
  pub free : is_among name reserved_words ≡ false
