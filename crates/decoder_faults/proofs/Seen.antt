-- The two cells of a fault in an array of any size do what the pair does, and every other address has its own cell.
use Rattle.std.proofs.Common.{◌≡◌, ◌≢◌, ℕ, Bool, false, cond, eqb, Some, List, length, refl, ap, sym, ◌∙◌}
use Rattle.std.specs.Prelude.{slice_set}
use Rattle.std.proofs.lemmas.Bool.{eq-eqb, ne_eqb}
use Rattle.std.proofs.lemmas.List.{length-set, get_or-set_same, get_or-set_other}
use Rattle.fault_core.specs.declared.primitive.Act.{Act}
use Rattle.fault_core.specs.declared.primitive.Act.TheVariants.{Write, Read, Pause}
use Rattle.fault_core.specs.Cells.{cell, plain_cells, plain_answer}
use Rattle.cell_machine.specs.declared.pair.Pair.{Pair}
use Rattle.cell_machine.specs.declared.pair.Side.{Side}
use Rattle.cell_machine.specs.declared.pair.Side.TheVariants.{A, V}
use Rattle.cell_machine.specs.Pairs.{pair_of}
use Rattle.cell_machine.specs.Seen.{pair_at, place_of}
use Rattle.decoder_faults.specs.declared.fault.DecoderFault.{DecoderFault}
use Rattle.decoder_faults.specs.declared.fault.DecoderFault.TheVariants.{NoCell, OtherCell, BothCells, TakenCell}
use Rattle.decoder_faults.specs.declared.pair.SideReach.{SideReach}
use Rattle.decoder_faults.specs.declared.pair.SideReach.TheVariants.{Neither, One, Both}
use Rattle.decoder_faults.specs.Decoding.{AddressPair, FitsPair, Reach, no_cell, one_cell, two_cells, reach_of_x, reach_of_y, reach_of, write_through, read_through, act_through, answer_through}
use Rattle.decoder_faults.specs.inner.Pairs.{side_reach, pair_written, pair_read, pair_act, pair_reply}

-- the two cells of an array
abbrev pub seen : AddressPair → List Bool → Pair
seen at cells = pair_at cells at.x at.y

abbrev pub placed : AddressPair → SideReach → Reach
placed at (Neither answer) = no_cell answer
placed at (One s) = one_cell (place_of at.x at.y s)
placed at (Both A wired) = two_cells wired at.x at.y
placed at (Both V wired) = two_cells wired at.y at.x

pub x_reaches : (fault : DecoderFault) (at : AddressPair) → reach_of_x fault at ≡ placed at (side_reach fault A)
x_reaches (NoCell answer) at = refl
x_reaches OtherCell at = refl
x_reaches (BothCells wired) at = refl
x_reaches (TakenCell answer wired) at = refl

pub y_reaches : (fault : DecoderFault) (at : AddressPair) → reach_of_y fault at ≡ placed at (side_reach fault V)
y_reaches (NoCell answer) at = refl
y_reaches OtherCell at = refl
y_reaches (BothCells wired) at = refl
y_reaches (TakenCell answer wired) at = refl

-- what the two addresses reach, and what any other does
pub reach_here : (fault : DecoderFault) (at : AddressPair) → at.x ≢ at.y → (s : Side) → reach_of fault at (place_of at.x at.y s) ≡ placed at (side_reach fault s)
unfolding reach_of
reach_here fault at apart A =
    ap (λ b. cond b (reach_of_x fault at) (cond (eqb at.x at.y) (reach_of_y fault at) (one_cell at.x))) (eq-eqb at.x at.x refl) ∙ x_reaches fault at
reach_here fault at apart V =
    ap (λ b. cond b (reach_of_x fault at) (cond (eqb at.y at.y) (reach_of_y fault at) (one_cell at.y))) (ne_eqb at.y at.x (λ e. apart (sym e)))
    ∙ ap (λ b. cond b (reach_of_y fault at) (one_cell at.y)) (eq-eqb at.y at.y refl) ∙ y_reaches fault at

pub reach_elsewhere : (fault : DecoderFault) (at : AddressPair) (z : ℕ) → z ≢ at.x → z ≢ at.y → reach_of fault at z ≡ one_cell z
unfolding reach_of
reach_elsewhere fault at z zx zy =
    ap (λ b. cond b (reach_of_x fault at) (cond (eqb z at.y) (reach_of_y fault at) (one_cell z))) (ne_eqb z at.x zx)
    ∙ ap (λ b. cond b (reach_of_y fault at) (one_cell z)) (ne_eqb z at.y zy)

-- an address with its own cell acts plainly
pub plain_there : (z : ℕ) (cells : List Bool) (act : Act) → act_through (one_cell z) cells act ≡ plain_cells cells z act
plain_there z cells (Write bit) = refl
plain_there z cells Read = refl
plain_there z cells Pause = refl

pub plainly_answered : (z : ℕ) (cells : List Bool) (act : Act) → answer_through (one_cell z) cells act ≡ plain_answer cells z act
plainly_answered z cells (Write bit) = refl
plainly_answered z cells Read = refl
plainly_answered z cells Pause = refl

pub length-act_through : (reach : Reach) (cells : List Bool) (act : Act) → length (act_through reach cells act) ≡ length cells
length-act_through reach cells Read = refl
length-act_through reach cells Pause = refl
length-act_through (no_cell answer) cells (Write bit) = refl
length-act_through (one_cell c) cells (Write bit) = length-set cells c bit
length-act_through (two_cells wired c d) cells (Write bit) = length-set (slice_set cells c bit) d bit ∙ length-set cells c bit

-- what is read of the two cells, and what is written to them
read_seen : (at : AddressPair) (reach : SideReach) (cells : List Bool) → read_through (placed at reach) cells ≡ pair_read reach (seen at cells)
read_seen at (Neither answer) cells = refl
read_seen at (One A) cells = refl
read_seen at (One V) cells = refl
read_seen at (Both A wired) cells = refl
read_seen at (Both V wired) cells = refl

pub answer_seen : (at : AddressPair) (reach : SideReach) (cells : List Bool) (act : Act)
    → answer_through (placed at reach) cells act ≡ pair_reply reach (seen at cells) act
answer_seen at reach cells (Write bit) = refl
answer_seen at reach cells Read = ap Some (read_seen at reach cells)
answer_seen at reach cells Pause = refl

both_bits : (a b c d : Bool) → a ≡ c → b ≡ d → pair_of a b ≡ pair_of c d
both_bits a b c d e f = ap (λ x. pair_of x b) e ∙ ap (λ x. pair_of c x) f

write_seen : (at : AddressPair) (n : ℕ) → FitsPair at n → (reach : SideReach) (cells : List Bool) (bit : Bool) → length cells ≡ n
    → seen at (write_through (placed at reach) cells bit) ≡ pair_written reach (seen at cells) bit
write_seen at n fits (Neither answer) cells bit size = refl
write_seen at n fits (One A) cells bit size =
    both_bits _ _ _ _ (get_or-set_same cells at.x bit false (rw size fits.x_within)) (get_or-set_other cells at.x at.y bit false (λ e. fits.apart (sym e)))
write_seen at n fits (One V) cells bit size =
    both_bits _ _ _ _ (get_or-set_other cells at.y at.x bit false fits.apart) (get_or-set_same cells at.y bit false (rw size fits.y_within))
write_seen at n fits (Both V wired) cells bit size =
    let next : List Bool = slice_set cells at.y bit in
    both_bits _ _ _ _
    (get_or-set_same next at.x bit false (rw (length-set cells at.y bit, size) fits.x_within))
    (get_or-set_other next at.x at.y bit false (λ e. fits.apart (sym e)) ∙ get_or-set_same cells at.y bit false (rw size fits.y_within))
write_seen at n fits (Both A wired) cells bit size =
    let next : List Bool = slice_set cells at.x bit in
    both_bits _ _ _ _
    (get_or-set_other next at.y at.x bit false fits.apart ∙ get_or-set_same cells at.x bit false (rw size fits.x_within))
    (get_or-set_same next at.y bit false (rw (length-set cells at.x bit, size) fits.y_within))

pub act_seen : (at : AddressPair) (n : ℕ) → FitsPair at n → (reach : SideReach) (cells : List Bool) (act : Act) → length cells ≡ n
    → seen at (act_through (placed at reach) cells act) ≡ pair_act reach (seen at cells) act
act_seen at n fits reach cells (Write bit) size = write_seen at n fits reach cells bit size
act_seen at n fits reach cells Read size = refl
act_seen at n fits reach cells Pause size = refl

-- the cells but the two stay
write_leaves : (at : AddressPair) (reach : SideReach) (cells : List Bool) (bit : Bool) (z : ℕ) → z ≢ at.x → z ≢ at.y
    → cell (write_through (placed at reach) cells bit) z ≡ cell cells z
write_leaves at (Neither answer) cells bit z zx zy = refl
write_leaves at (One A) cells bit z zx zy = get_or-set_other cells at.x z bit false zx
write_leaves at (One V) cells bit z zx zy = get_or-set_other cells at.y z bit false zy
write_leaves at (Both V wired) cells bit z zx zy =
    get_or-set_other (slice_set cells at.y bit) at.x z bit false zx ∙ get_or-set_other cells at.y z bit false zy
write_leaves at (Both A wired) cells bit z zx zy =
    get_or-set_other (slice_set cells at.x bit) at.y z bit false zy ∙ get_or-set_other cells at.x z bit false zx

pub act_leaves : (at : AddressPair) (reach : SideReach) (cells : List Bool) (act : Act) (z : ℕ) → z ≢ at.x → z ≢ at.y
    → cell (act_through (placed at reach) cells act) z ≡ cell cells z
act_leaves at reach cells (Write bit) z zx zy = write_leaves at reach cells bit z zx zy
act_leaves at reach cells Read z zx zy = refl
act_leaves at reach cells Pause z zx zy = refl
