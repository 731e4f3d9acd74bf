-- Words past the greatest of some bits.
use Rattle.memory_desc.proofs.Common.{Bool, List, [], ap, ap₂, arith, cases_lt, inl, inr, le-leb, le-ltb, list_any, lt-leb, lt-ltb, nat_le, nat_lt, pow_pos, refl, sym, ℕ, ◌-◌, ◌<◌, ◌^◌, ◌||◌, ◌∙◌, ◌∷◌, ◌≡◌, ◌≤◌}

-- past the greatest number that fits
above : (m n : ℕ) → 0 < m → nat_lt (m - 1) n ≡ nat_le m n
above m n p = elim (cases_lt n m) [
  | inl h ↦ (let g : n ≤ m - 1 = omega arith in le-ltb (m - 1) n g ∙ sym (lt-leb m n h))
  | inr h ↦ (let g : m - 1 < n = omega arith in lt-ltb (m - 1) n g ∙ sym (le-leb m n h))
]

pub past_ones : (n size top : ℕ) → top ≡ 2 ^ size - 1 → nat_lt top n ≡ nat_le (2 ^ size) n
past_ones n size top k = ap (λ t. nat_lt t n) k ∙ above (2 ^ size) n (pow_pos size)

pub any_past : (size top : ℕ) → top ≡ 2 ^ size - 1 → (ws : List ℕ) → list_any (nat_lt top) ws ≡ list_any (nat_le (2 ^ size)) ws
any_past size top k [] = refl
any_past size top k (w ∷ ws) = ap₂ (λ (a b : Bool). a || b) (past_ones w size top k) (any_past size top k ws)
