-- Trusted. Pieces of the grammar: tokens and limits.
use Rattle.std.specs.Prelude.{◌≡◌, ℕ, ◌+◌, ◌==◌, Bool, true, false, not, ◌&&◌, nat_lt, nat_le, List, [], ◌∷◌, Option, Some, None, if◌then◌else◌}
use Rattle.std.specs.Str.{bytes_eq}
use Rattle.bist_bits.specs.Vector.{Vector}
use Rattle.bist_text.specs.Grammar.{when}
use Rattle.bist_text.specs.Machine.{Holds}
use Rattle.bist_text.specs.ReservedWords.{is_among, reserved_words}
use Rattle.verilog_tree.specs.declared.tokens.Mark.{Mark}
pub use Rattle.verilog_tree.specs.Operators.{unary_mark, binary_mark}
use Rattle.verilog_tree.specs.Tokens.{mark_text, Token, Identifier, Number, Based, Sign}

-- What tokens may follow is a set of lists of tokens, as it is of bytes in bist_text.

abbrev pub is_sign : Mark → Mark → Bool
is_sign m n = bytes_eq (mark_text n) (mark_text m)

-- this mark
abbrev pub sign : Mark → (List Token → Type 0) → List Token → Type 0
sign m K [] = ⊥
sign m K (Sign n ∷ ts) = when (is_sign m n) (K ts)
sign m K (_ ∷ ts) = ⊥

-- this reserved word
abbrev pub keyword : List ℕ → (List Token → Type 0) → List Token → Type 0
keyword w K [] = ⊥
keyword w K (Identifier v ∷ ts) = when (bytes_eq v w) (K ts)
keyword w K (_ ∷ ts) = ⊥

-- this name, which isn't reserved
abbrev pub name : List ℕ → (List Token → Type 0) → List Token → Type 0
name w K [] = ⊥
name w K (Identifier v ∷ ts) = (v ≡ w) × (is_among v reserved_words ≡ false) × K ts
name w K (_ ∷ ts) = ⊥

-- this decimal number
abbrev pub number : ℕ → (List Token → Type 0) → List Token → Type 0
number n K [] = ⊥
number n K (Number l m ∷ ts) = (m ≡ n) × K ts
number n K (_ ∷ ts) = ⊥

-- the number "0"
abbrev pub is_zero : Bool → ℕ → Bool
is_zero long n = not long && (n == 0)

abbrev pub zero_number : (List Token → Type 0) → List Token → Type 0
zero_number K [] = ⊥
zero_number K (Number l m ∷ ts) = when (is_zero l m) (K ts)
zero_number K (_ ∷ ts) = ⊥

-- this literal
abbrev pub literal : Vector → (List Token → Type 0) → List Token → Type 0
literal x K [] = ⊥
literal x K (Based y ∷ ts) = (y ≡ x) × K ts
literal x K (_ ∷ ts) = ⊥

-- How many openings may be open at once, and how many operators an expression that stands in no other may have;
-- None is no limit. Openings are (, {, begin, case, and if, which is open to the end of its statement.
pub record Limit : Type 0 where
  pub openings : Option ℕ
  pub operators : Option ℕ

abbrev pub unlimited : Limit
unlimited = record { openings = None; operators = None }

-- how many are open inside of an opening that has d open round it, if so many may be
abbrev pub deeper_in : Option ℕ → ℕ → Option ℕ
deeper_in None d = Some (d + 1)
deeper_in (Some most) d = if nat_lt d most then Some (d + 1) else None

abbrev pub deeper : Limit → ℕ → Option ℕ
deeper l d = deeper_in l.openings d

-- whether so many operators may be
abbrev pub few_in : Option ℕ → ℕ → Bool
few_in None n = true
few_in (Some most) n = nat_le n most

abbrev pub few : Limit → ℕ → Bool
few l n = few_in l.operators n

-- inside of an opening; K takes how many are open there
abbrev pub inside : Limit → ℕ → (ℕ → List Token → Type 0) → List Token → Type 0
inside l d K ts = Holds (deeper l d) (λ e. K e ts)
