-- Trusted. The march of a number: March C- of an odd one; of an even one March SS and 58 further elements, which a sequence of numbers gives.
use Rattle.std.specs.Prelude.{◌+◌, ◌*◌, ◌/◌, ◌%◌, ◌==◌, ℕ, zero, suc, Bool, true, false, if◌then◌else◌, List, [], ◌∷◌, ◌++◌, codes}
use Rattle.march_core.specs.declared.operation.Order.{Order}
use Rattle.march_core.specs.declared.operation.Order.TheVariants.{Up, Down, Any}
use Rattle.march_core.specs.declared.operation.Op.{Op}
use Rattle.march_core.specs.declared.operation.Op.TheVariants.{W0, W1, R0, R1}
use Rattle.march_core.specs.March.{MarchElement, sweep}
use Rattle.march_syntax.specs.Printed.{printed}

-- {any(w0);up(r0,w1);up(r1,w0);down(r0,w1);down(r1,w0);any(r0)}
abbrev pub march_c_minus : List MarchElement
march_c_minus =
    sweep Any (W0 ∷ [])
    ∷ sweep Up (R0 ∷ W1 ∷ [])
    ∷ sweep Up (R1 ∷ W0 ∷ [])
    ∷ sweep Down (R0 ∷ W1 ∷ [])
    ∷ sweep Down (R1 ∷ W0 ∷ [])
    ∷ sweep Any (R0 ∷ [])
    ∷ []

-- {any(w0);up(r0,r0,w0,r0,w1);up(r1,r1,w1,r1,w0);down(r0,r0,w0,r0,w1);down(r1,r1,w1,r1,w0);any(r0)}
abbrev pub march_ss : List MarchElement
march_ss =
    sweep Any (W0 ∷ [])
    ∷ sweep Up (R0 ∷ R0 ∷ W0 ∷ R0 ∷ W1 ∷ [])
    ∷ sweep Up (R1 ∷ R1 ∷ W1 ∷ R1 ∷ W0 ∷ [])
    ∷ sweep Down (R0 ∷ R0 ∷ W0 ∷ R0 ∷ W1 ∷ [])
    ∷ sweep Down (R1 ∷ R1 ∷ W1 ∷ R1 ∷ W0 ∷ [])
    ∷ sweep Any (R0 ∷ [])
    ∷ []

-- the number behind x in the sequence
abbrev pub next_number : ℕ → ℕ
next_number x = (25173 * x + 13849) % 65536

-- the order of an element, by its number
abbrev pub order_for : ℕ → Order
order_for x = if x % 3 == 0 then Up else if x % 3 == 1 then Down else Any

-- the bit that an element writes first, and the one that it writes last and leaves
abbrev pub first_bit : ℕ → Bool
first_bit x = x / 256 % 2 == 1

abbrev pub last_bit : ℕ → Bool
last_bit x = x / 512 % 2 == 1

abbrev pub read_of : Bool → Op
read_of false = R0
read_of true = R1

abbrev pub write_of : Bool → Op
write_of false = W0
write_of true = W1

-- the operations of an element that finds this bit in each cell
abbrev pub further_ops : Bool → ℕ → List Op
further_ops held x = read_of held ∷ write_of (first_bit x) ∷ read_of (first_bit x) ∷ write_of (last_bit x) ∷ []

abbrev pub further_element : Bool → ℕ → MarchElement
further_element held x = sweep (order_for x) (further_ops held x)

-- so many further elements behind this number, the first of which finds this bit
unfoldable pub further : ℕ → Bool → ℕ → List MarchElement
further zero held x = []
further (suc n) held x = further_element held (next_number x) ∷ further n (last_bit (next_number x)) (next_number x)

-- March SS leaves 0 in each cell
abbrev pub long_march : ℕ → List MarchElement
long_march number = march_ss ++ further 58 false number

abbrev pub made_march : ℕ → List MarchElement
made_march number = if number % 2 == 1 then march_c_minus else long_march number

-- the printed form and a line feed
abbrev pub line_of : List MarchElement → List ℕ
line_of march = printed march ++ codes "\n"
