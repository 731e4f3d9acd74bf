-- Trusted. What text a module has, and of which bytes it is.
use Rattle.std.specs.Prelude.{◌≡◌, ℕ, Bool, true, not, ◌==◌, nat_le, ◌&&◌, ◌||◌, List}
use Rattle.verilog_tree.specs.Plain.{ModuleTree}
use Rattle.verilog_tree.specs.Fits.{fits}
use Rattle.verilog_emit.specs.Printed.{printed}

-- The bytes are the text of this module: they are its layout, and the module fits, so that they are no other's.
abbrev pub IsTextOf : List ℕ → ModuleTree → Type 0
IsTextOf bytes mo = (fits mo ≡ true) × (bytes ≡ printed mo)

-- whether a byte is a line feed, a blank or another printable one, and no /, with which alone a comment begins
abbrev pub is_text_byte : ℕ → Bool
is_text_byte c = (c == 10) || (nat_le 32 c && nat_le c 126 && not (c == 47))
