-- Public. What the elements of a march have to do for it to detect a fault of the address decoder.
use Rattle.std.specs.Prelude.{Bool, true, false, not, ◌&&◌, ◌||◌, Option, Some, None, is_some, List, [], ◌∷◌}
use Rattle.fault_core.specs.Primitive.{same_bit}
use Rattle.march_core.specs.declared.operation.Op.{Op}
use Rattle.march_core.specs.declared.operation.Order.{Order}
use Rattle.march_core.specs.declared.operation.Order.TheVariants.{Up, Down}
use Rattle.march_core.specs.March.{MarchElement, order_of, ops_of}
use Rattle.march_core.specs.Operation.{written_by, expected_by}
use Rattle.decoder_faults.specs.declared.fault.WiredRead.{WiredRead}
use Rattle.decoder_faults.specs.declared.fault.WiredRead.TheVariants.{And, Or, Own}
use Rattle.decoder_faults.specs.declared.fault.DecoderFault.{DecoderFault}
use Rattle.decoder_faults.specs.declared.fault.DecoderFault.TheVariants.{NoCell, OtherCell, BothCells, TakenCell}

-- the bit that the first operation expects, if it is a read
abbrev pub read_first : List Op → Option Bool
read_first [] = None
read_first (op ∷ ops) = expected_by op

abbrev pub later : Option Bool → Option Bool → Option Bool
later before None = before
later before (Some bit) = Some bit

-- the bit that the last write writes
abbrev pub written_last : List Op → Option Bool
written_last [] = None
written_last (op ∷ ops) = later (written_by op) (written_last ops)

-- the bit that is turned where this is read first, and this is written last
abbrev pub turned : Option Bool → Option Bool → Option Bool
turned None left = None
turned (Some bit) None = None
turned (Some false) (Some false) = None
turned (Some false) (Some true) = Some false
turned (Some true) (Some false) = Some true
turned (Some true) (Some true) = None

-- the bit that an element turns: it begins with a read of it, and leaves the other
abbrev pub turned_by : MarchElement → Option Bool
turned_by e = turned (read_first (ops_of e)) (written_last (ops_of e))

abbrev pub is_bit : Bool → Option Bool → Bool
is_bit bit None = false
is_bit bit (Some other) = same_bit bit other

-- whether a read among these operations expects the bit
abbrev pub has_read : Bool → List Op → Bool
has_read bit [] = false
has_read bit (op ∷ ops) = is_bit bit (expected_by op) || has_read bit ops

-- whether a read of both cells shows that only the other has been turned from this bit
abbrev pub does_tell : WiredRead → Bool → Bool
does_tell And bit = bit
does_tell Or bit = not bit
does_tell Own bit = false

-- whether turning a bit shows where x reaches both cells, by whether x is visited first
abbrev pub does_show : WiredRead → Bool → Option Bool → Bool
does_show wired x_first None = false
does_show wired x_first (Some bit) = x_first || does_tell wired bit

-- whether an order always visits x before y, by whether x has the lower address
abbrev pub is_x_first : Bool → Order → Bool
is_x_first true Up = true
is_x_first false Down = true
is_x_first below order = false

-- whether an element alone catches the fault, in each direction that its order leaves open
abbrev pub catches : DecoderFault → Bool → MarchElement → Bool
catches (NoCell answer) below e = has_read (not answer) (ops_of e)
catches OtherCell below e = is_some (turned_by e)
catches (BothCells wired) below e = does_show wired (is_x_first below (order_of e)) (turned_by e)
catches (TakenCell answer wired) below e = has_read (not answer) (ops_of e)

abbrev pub some_element : (MarchElement → Bool) → List MarchElement → Bool
some_element f [] = false
some_element f (e ∷ es) = f e || some_element f es

-- an element catches the fault where x has the lower address, and one where it has the higher
abbrev pub meets : List MarchElement → DecoderFault → Bool
meets march fault = some_element (catches fault true) march && some_element (catches fault false) march

abbrev pub is_up : Order → Bool
is_up Up = true
is_up order = false

abbrev pub is_down : Order → Bool
is_down Down = true
is_down order = false

-- the condition of the books: an element that goes up turns this bit, and one that goes down turns the other
abbrev pub turns_up_and_down : Bool → List MarchElement → Bool
turns_up_and_down bit march =
    some_element (λ e. is_up (order_of e) && is_bit bit (turned_by e)) march
    && some_element (λ e. is_down (order_of e) && is_bit (not bit) (turned_by e)) march
