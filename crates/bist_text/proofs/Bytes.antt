-- Lists of numbers that are bytes.
use Rattle.std.proofs.Common.{◌≡◌, ℕ, true, List, [], ◌∷◌, ◌++◌, drop, refl, suc, zero}
use Rattle.std.proofs.lemmas.Bool.{and_parts, and_from}
use Rattle.std.specs.Prelude.{nat_lt}
use Rattle.bist_text.specs.Grammar.{are_bytes}

pub are_bytes-append : (a b : List ℕ) → are_bytes a ≡ true → are_bytes b ≡ true → are_bytes (a ++ b) ≡ true
are_bytes-append [] b h g = g
are_bytes-append (c ∷ a) b h g = let p : (nat_lt c 256 ≡ true) × (are_bytes a ≡ true) = and_parts (nat_lt c 256) (are_bytes a) h in and_from (nat_lt c 256) (are_bytes (a ++ b)) p.0 (are_bytes-append a b p.1 g)

pub are_bytes-drop : (n : ℕ) (b : List ℕ) → are_bytes b ≡ true → are_bytes (drop n b) ≡ true
are_bytes-drop zero b h = h
are_bytes-drop (suc n) [] h = refl
are_bytes-drop (suc n) (c ∷ b) h = let p : (nat_lt c 256 ≡ true) × (are_bytes b ≡ true) = and_parts (nat_lt c 256) (are_bytes b) h in are_bytes-drop n b p.1
