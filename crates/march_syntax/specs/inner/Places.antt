-- Inner. For proofs and private contracts alone: what a reader of a march does at each byte, and what may still follow where it
-- stands.
use Rattle.std.specs.Prelude.{◌≡◌, ℕ, ◌&&◌, ◌==◌, Bool, true, false, List, [], ◌∷◌, ◌++◌, ◌⊎◌, Option, Some, None, option_map, if◌then◌else◌, codes}
use Rattle.bist_text.specs.declared.keywords.Spelled.{Spelled}
use Rattle.bist_text.specs.declared.keywords.Spelled.TheVariants.{More, Whole}
use Rattle.bist_text.specs.Grammar.{finish, word}
use Rattle.bist_text.specs.Keywords.{Word, letters_of, seek, spell}
use Rattle.bist_text.specs.inner.Keywords.{all_words, stands}
use Rattle.bist_text.specs.inner.Machine.{Grows}
use Rattle.march_core.specs.declared.operation.Order.{Order}
use Rattle.march_core.specs.declared.operation.Order.TheVariants.{Up, Down, Any}
use Rattle.march_core.specs.declared.operation.Op.{Op}
use Rattle.march_core.specs.declared.operation.Op.TheVariants.{W0, W1, R0, R1}
use Rattle.march_core.specs.March.{MarchElement, pause, sweep}
use Rattle.march_syntax.specs.declared.place.Mark.{Mark}
use Rattle.march_syntax.specs.declared.place.Mark.TheVariants.{OfOrder, OfPause}
use Rattle.march_syntax.specs.declared.place.Access.{Access}
use Rattle.march_syntax.specs.declared.place.Access.TheVariants.{Write, Read}
use Rattle.march_syntax.specs.declared.place.Place.{Place}
use Rattle.march_syntax.specs.declared.place.Place.TheVariants.{Start, Open, Spelling, Ordered, Wanted, Digit, Operation, Ended, Next, Closed}
use Rattle.march_syntax.specs.declared.place.Event.{Event}
use Rattle.march_syntax.specs.declared.place.Event.TheVariants.{Quiet, Begins, Adds, Ends, Waits}
use Rattle.march_syntax.specs.declared.place.Move.{Move}
use Rattle.march_syntax.specs.MarchText.{is_white, ws, spellings, pause_spellings, more_ops, ops, body, more_elements, elements, close, listed}

-- ---- what a reader does

-- how an element may begin
abbrev pub texts : Mark → List (List ℕ)
texts (OfOrder o) = spellings o
texts OfPause = pause_spellings

abbrev pub all_marks : List Mark
all_marks = OfOrder Up ∷ OfOrder Down ∷ OfOrder Any ∷ OfPause ∷ []

abbrev pub marks : List (Word Mark)
marks = all_words texts all_marks

-- a place, and what a byte adds
abbrev pub move : Place → Bool → Event → Option Move
move p t e = Some (record { place = p; braced = t; event = e })

-- the first bytes of an order or a pause, or the last one
abbrev pub spelling : Bool → Option (Spelled Mark) → Option Move
spelling t None = None
spelling t (Some (More q)) = move (Spelling q) t Quiet
spelling t (Some (Whole (OfOrder o))) = move Ordered t (Begins o)
spelling t (Some (Whole OfPause)) = move Ended t Waits

abbrev pub op_of : Access → Bool → Op
op_of Write false = W0
op_of Write true = W1
op_of Read false = R0
op_of Read true = R1

abbrev pub move_at : Place → Bool → ℕ → Option Move
move_at Start t c = if is_white c then move Start t Quiet else if c == 123 then move Open t Quiet else spelling false (seek [] c 0 marks)
move_at Open t c = if is_white c then move Open t Quiet else if c == 125 then move Closed t Quiet else spelling true (seek [] c 0 marks)
move_at (Spelling q) t c = spelling t (spell marks q c)
move_at Ordered t c = if is_white c then move Ordered t Quiet else if c == 40 then move Wanted t Quiet else None
move_at Wanted t c = if is_white c then move Wanted t Quiet else if c == 119 then move
    (Digit Write) t Quiet else if c == 114 then move (Digit Read) t Quiet else None
move_at (Digit a) t c = if c == 48 then move Operation t (Adds (op_of a false)) else if c == 49 then move Operation t
    (Adds (op_of a true)) else None
move_at Operation t c = if is_white c then move Operation t Quiet else if c == 44 then move Wanted t Quiet else if c == 41 then move Ended t Ends else None
move_at Ended t c = if is_white c then move Ended t Quiet else if c == 59 then move Next t Quiet else if t
    && (c == 125) then move Closed t Quiet else None
move_at Next t c = if is_white c then move Next t Quiet else spelling t (seek [] c 0 marks)
move_at Closed t c = if is_white c then move Closed t Quiet else None

-- whether a text may end at a place
abbrev pub may_end : Place → Bool → Bool
may_end Start t = true
may_end Ended true = false
may_end Ended false = true
may_end Closed t = true
may_end _ t = false

-- ---- where a reader stands, with what it has read

-- the element that is begun, and those that are whole
pub record State : Type 0 where
  pub place : Place
  pub braced : Bool
  pub order : Order
  pub ops : List Op
  pub done : List MarchElement

abbrev pub start : State
start = record { place = Start; braced = false; order = Any; ops = []; done = [] }

abbrev pub begun : State → MarchElement
begun s = sweep s.order s.ops

abbrev pub after_event : Event → State → State
after_event Quiet s = s
after_event (Begins o) s = record s { order = o; ops = [] }
after_event (Adds op) s = record s { ops = s.ops ++ op ∷ [] }
after_event Ends s = record s { ops = []; done = s.done ++ begun s ∷ [] }
after_event Waits s = record s { done = s.done ++ pause ∷ [] }

abbrev pub moved : State → Move → State
moved s m = after_event m.event (record s { place = m.place; braced = m.braced })

abbrev pub step_at : Place → State → ℕ → Option State
step_at p s c = option_map (moved s) (move_at p s.braced c)

abbrev pub step : State → ℕ → Option State
step s c = step_at s.place s c

abbrev pub value : State → Option (List MarchElement)
value s = if may_end s.place s.braced then Some s.done else None

-- ---- what may follow

-- what an element begins with, and what follows that
abbrev pub mark_of : MarchElement → Mark
mark_of pause = OfPause
mark_of (sweep o os) = OfOrder o

abbrev pub behind : MarchElement → (List ℕ → Type 0) → List ℕ → Type 0
behind pause K = K
behind (sweep o os) K = body os K

-- the digit of an operation
abbrev pub digit : Access → Op → (List ℕ → Type 0) → List ℕ → Type 0
digit Write W0 K = word (codes "0") K
digit Write W1 K = word (codes "1") K
digit Read R0 K = word (codes "0") K
digit Read R1 K = word (codes "1") K
digit _ _ K = λ b. ⊥

-- what may follow inside of an element, whose order and first operations are known
abbrev pub ops_left : Place → List Op → (List ℕ → Type 0) → List ℕ → Type 0
ops_left Ordered os K = body os K
ops_left Wanted os K = ws (ops os (ws (word (codes ")") K)))
ops_left (Digit a) [] K = λ b. ⊥
ops_left (Digit a) (o ∷ os) K = digit a o (more_ops os (ws (word (codes ")") K)))
ops_left Operation os K = more_ops os (ws (word (codes ")") K))
ops_left _ os K = λ b. ⊥

-- what may follow in an element whose order is known: its first operations are read
abbrev pub in_element : Place → State → List MarchElement → List ℕ → Type 0
in_element p s [] b = ⊥
in_element p s (pause ∷ es) b = ⊥
in_element p s (sweep o os ∷ es) b = (o ≡ s.order) × Grows s.ops os (λ more. ops_left p more (more_elements es (ws (close s.braced))) b)

-- what may follow the first letters of an element
abbrev pub in_spelling : List ℕ → State → List MarchElement → List ℕ → Type 0
in_spelling ls s [] b = ⊥
in_spelling ls s (e ∷ es) b = stands marks (mark_of e) (behind e (more_elements es (ws (close s.braced)))) (ls ++ b)

abbrev pub Nothing : List MarchElement → Type 0
Nothing [] = Unit {0}
Nothing (_ ∷ _) = ⊥

-- which elements may follow, and how
abbrev pub left_at : Place → State → List MarchElement → List ℕ → Type 0
left_at Start s es b = ws (λ x. word (codes "{") (ws (listed true es)) x ⊎ listed false es x) b
left_at Open s es b = ws (listed true es) b
left_at (Spelling q) s es b = in_spelling (letters_of marks q) s es b
left_at Ordered s es b = in_element Ordered s es b
left_at Wanted s es b = in_element Wanted s es b
left_at (Digit a) s es b = in_element (Digit a) s es b
left_at Operation s es b = in_element Operation s es b
left_at Ended s es b = more_elements es (ws (close s.braced)) b
left_at Next s es b = ws (elements es (ws (close s.braced))) b
left_at Closed s es b = Nothing es × ws finish b

abbrev pub rest : State → List ℕ → List MarchElement → Type 0
rest s b v = Grows s.done v (λ es. left_at s.place s es b)

-- behind the spelling of a pause
abbrev pub paused : State → List MarchElement → List ℕ → Type 0
paused s [] b = ⊥
paused s (pause ∷ es) b = more_elements es (ws (close s.braced)) b
paused s (sweep o os ∷ es) b = ⊥

-- the same behind one more letter of a spelling
abbrev pub spelled_at : Spelled Mark → State → List MarchElement → List ℕ → Type 0
spelled_at (More q) s es b = in_spelling (letters_of marks q) s es b
spelled_at (Whole (OfOrder o)) s es b = in_element Ordered (record s { order = o; ops = [] }) es b
spelled_at (Whole OfPause) s es b = paused s es b

-- ---- what a builder of marches holds then

abbrev pub is_inside : Place → Bool
is_inside Ordered = true
is_inside Wanted = true
is_inside (Digit a) = true
is_inside Operation = true
is_inside _ = false

abbrev pub held : State → List MarchElement
held s = if is_inside s.place then s.done ++ begun s ∷ [] else s.done

-- a place outside of orders and operations
abbrev pub IsBetween : Place → Type 0
IsBetween (Spelling q) = ⊥
IsBetween (Digit a) = ⊥
IsBetween _ = Unit {0}
