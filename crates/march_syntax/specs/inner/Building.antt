-- Inner. For proofs and private contracts alone: what the events of a text do to the elements that are built, until a limit is exceeded.
use Rattle.std.specs.Prelude.{◌≡◌, ◌<◌, ◌-◌, ◌⊎◌, Option, Some, None, List, [], ◌∷◌, ◌++◌, length, IsTrue}
use Rattle.march_core.specs.declared.fault.MarchFault.{MarchFault}
use Rattle.march_core.specs.declared.fault.MarchFault.TheVariants.{TooManyElements, TooManyOps, TooManyInAll}
use Rattle.march_core.specs.Building.{with_op, last_ops, ends_in_sweep}
use Rattle.march_core.specs.March.{MarchElement, pause, sweep, all_ops}
use Rattle.march_syntax.specs.declared.place.Event.{Event}
use Rattle.march_syntax.specs.declared.place.Event.TheVariants.{Quiet, Begins, Adds, Ends, Waits}
use Rattle.march_syntax.specs.Limits.{IsWithin}

-- the elements after an event
abbrev pub with_event : Event → List MarchElement → List MarchElement
with_event Quiet es = es
with_event (Begins o) es = es ++ sweep o [] ∷ []
with_event (Adds op) es = with_op es op
with_event Ends es = es
with_event Waits es = es ++ pause ∷ []

-- an operation belongs to an element that was begun
abbrev pub HasBegun : Event → List MarchElement → Type 0
HasBegun Quiet es = Unit {0}
HasBegun (Begins o) es = Unit {0}
HasBegun (Adds op) es = IsTrue (ends_in_sweep es)
HasBegun Ends es = Unit {0}
HasBegun Waits es = Unit {0}

-- the elements have no room for an event, and this is why
abbrev pub IsFull : Event → List MarchElement → MarchFault → Type 0
IsFull Quiet es fault = ⊥
IsFull (Begins o) es fault = (fault ≡ TooManyElements) × (length es ≡ 64)
IsFull (Adds op) es fault =
    ((fault ≡ TooManyOps (length es - 1)) × (length (last_ops es) ≡ 16))
    ⊎ ((fault ≡ TooManyInAll) × (length (last_ops es) < 16) × (length (all_ops es) ≡ 256))
IsFull Ends es fault = ⊥
IsFull Waits es fault = (fault ≡ TooManyElements) × (length es ≡ 64)

-- while no limit was exceeded, the elements are within the limits
abbrev pub CanAdd : Option MarchFault → Event → List MarchElement → Type 0
CanAdd None event es = IsWithin es × HasBegun event es
CanAdd (Some fault) event es = Unit {0}

-- the first limit that was exceeded stays; until then each event is built
abbrev pub Builds : Option MarchFault → Event → List MarchElement → Option MarchFault → List MarchElement → Type 0
Builds (Some fault) event old exceeded new = exceeded ≡ Some fault
Builds None event old None new = (new ≡ with_event event old) × IsWithin new
Builds None event old (Some fault) new = IsFull event old fault
