-- Inner. For proofs and private contracts alone: what a reader of primitives and list lines does at each byte, and what may still follow where it stands.
use Rattle.std.specs.Prelude.{◌≡◌, ℕ, ◌&&◌, ◌==◌, Bool, true, false, not, List, [], ◌∷◌, ◌++◌, Option, Some, None, is_some, option_map, if◌then◌else◌, codes}
use Rattle.bist_text.specs.Grammar.{finish, word, is_blank}
use Rattle.bist_text.specs.inner.Machine.{Grows}
use Rattle.bist_text.specs.declared.keywords.Spelled.{Spelled}
use Rattle.bist_text.specs.declared.keywords.Spelled.TheVariants.{More, Whole}
use Rattle.bist_text.specs.inner.Keywords.{stands}
use Rattle.bist_text.specs.Keywords.{letters_of, seek, spell}
use Rattle.fault_syntax.specs.declared.place.Access.{Access}
use Rattle.fault_syntax.specs.declared.place.Access.TheVariants.{Writes, Reads}
use Rattle.fault_syntax.specs.declared.words.Operation.{Operation}
use Rattle.fault_syntax.specs.declared.words.Operation.TheVariants.{Write, Read, Pause}
use Rattle.fault_syntax.specs.declared.words.Form.{Form}
use Rattle.fault_syntax.specs.declared.words.Form.TheVariants.{Single, Listed}
use Rattle.fault_syntax.specs.declared.words.GroupName.{GroupName}
use Rattle.fault_syntax.specs.inner.Names.{words_of}
use Rattle.fault_syntax.specs.declared.place.Place.{Place}
use Rattle.fault_syntax.specs.declared.place.Place.TheVariants.{Start, Spelling, Opened, Lead, Sensed, Digit, Effect, Left, Reply, Replied, Closed, Comment}
use Rattle.fault_syntax.specs.declared.place.Event.{Event}
use Rattle.fault_syntax.specs.declared.place.Event.TheVariants.{Quiet, Opens, Holds, Leads, Adds, Parts, Leaves, Answers, Closes, Names, Nothing}
use Rattle.fault_syntax.specs.declared.place.Kind.{Kind}
use Rattle.fault_syntax.specs.declared.place.Kind.TheVariants.{NoItem, IsPrimitive, IsNamed}
use Rattle.fault_syntax.specs.declared.place.Move.{Move}
use Rattle.fault_syntax.specs.ListText.{Item, Primitive, Named, anything, line_end}
use Rattle.fault_syntax.specs.PrimText.{SenseText, PrimParts, ws, bit_text, answer_text, more_ops, sense, effect, prim}

-- ---- what a reader does

abbrev pub to : Place → Event → Option Move
to p e = Some (record { place = p; event = e })

abbrev pub spelling : Option (Spelled GroupName) → Option Move
spelling None = None
spelling (Some (More q)) = to (Spelling q) Quiet
spelling (Some (Whole n)) = to Closed (Names n)

-- a comment or a name begins, where there may be one
abbrev pub named_at : Form → ℕ → Option Move
named_at Single c = None
named_at (Listed set) c = if c == 35 then to Comment Nothing else spelling (seek [] c 0 (words_of (Listed set)))

abbrev pub comment_at : Form → ℕ → Option Move
comment_at Single c = None
comment_at (Listed set) c = if c == 35 then to Comment Quiet else None

-- the bit that a digit writes
abbrev pub bit_of : ℕ → Option Bool
bit_of c = if c == 48 then Some false else if c == 49 then Some true else None

abbrev pub operation : Access → Bool → Operation
operation Writes d = Write d
operation Reads d = Read d

-- what a byte does at a place: in a list's line or in a primitive's text, and with an aggressor or not yet
abbrev pub move_at : Place → Form → Bool → ℕ → Option Move
move_at Start l g c =
    if is_blank c then to Start Quiet else if c == 60 then to Opened Opens else named_at l c
move_at (Spelling q) l g c = spelling (spell (words_of l) q c)
move_at Opened l g c =
    if is_blank c then to Opened Quiet else if c == 48 then to Sensed (Holds false)
    else if c == 49 then to Sensed (Holds true) else if c == 114 then to Lead Quiet else None
move_at Lead l g c = if c == 48 then to Sensed (Leads false) else if c == 49 then to Sensed (Leads true) else None
move_at Sensed l g c =
    if is_blank c then to Sensed Quiet else if c == 119 then to (Digit Writes) Quiet
    else if c == 114 then to (Digit Reads) Quiet else if c == 116 then to Sensed (Adds Pause)
    else if c == 47 then to Effect Quiet else if not g && (c == 59) then to Opened Parts else None
move_at (Digit a) l g c =
    if c == 48 then to Sensed (Adds (operation a false))
    else if c == 49 then to Sensed (Adds (operation a true)) else None
move_at Effect l g c =
    if is_blank c then to Effect Quiet else if c == 48 then to Left (Leaves false)
    else if c == 49 then to Left (Leaves true) else None
move_at Left l g c = if is_blank c then to Left Quiet else if c == 47 then to Reply Quiet else None
move_at Reply l g c =
    if is_blank c then to Reply Quiet else if c == 45 then to Replied (Answers None)
    else if c == 48 then to Replied (Answers (Some false))
    else if c == 49 then to Replied (Answers (Some true)) else None
move_at Replied l g c = if is_blank c then to Replied Quiet else if c == 62 then to Closed Closes else None
move_at Closed l g c = if is_blank c then to Closed Quiet else comment_at l c
move_at Comment l g c = to Comment Quiet

-- whether a text may end at a place
abbrev pub may_end : Place → Form → Bool
may_end Start Single = false
may_end Start (Listed set) = true
may_end Closed l = true
may_end Comment l = true
may_end _ l = false

-- ---- where a reader stands, with what it has read

pub record State : Type 0 where
  pub place : Place
  pub agg : Option SenseText
  pub sense : SenseText
  pub after : Bool
  pub answer : Option Bool
  pub kind : Kind

abbrev pub start : State
start = record { place = Start; agg = None; sense = record { state = false; ops = [] }; after = false; answer = None; kind = NoItem }

abbrev pub after_event : Event → State → State
after_event Quiet s = s
after_event Opens s = record s { agg = None }
after_event (Holds d) s = record s { sense = record { state = d; ops = [] } }
after_event (Leads d) s = record s { sense = record { state = d; ops = Read d ∷ [] } }
after_event (Adds o) s = record s { sense = record { state = s.sense.state; ops = s.sense.ops ++ o ∷ [] } }
after_event Parts s = record s { agg = Some s.sense }
after_event (Leaves d) s = record s { after = d }
after_event (Answers a) s = record s { answer = a }
after_event Closes s = record s { kind = IsPrimitive }
after_event (Names n) s = record s { kind = IsNamed n }
after_event Nothing s = record s { kind = NoItem }

abbrev pub moved : State → Move → State
moved s m = after_event m.event (record s { place = m.place })

abbrev pub step_at : Form → Place → State → ℕ → Option State
step_at l p s c = option_map (moved s) (move_at p l (is_some s.agg) c)

abbrev pub step : Form → State → ℕ → Option State
step l s c = step_at l s.place s c

-- the parts of the primitive that was read
abbrev pub parts_of : State → PrimParts
parts_of s = record { agg = s.agg; vic = s.sense; after = s.after; answer = s.answer }

abbrev pub item_of : Kind → PrimParts → Option Item
item_of NoItem p = None
item_of IsPrimitive p = Some (Primitive p)
item_of (IsNamed n) p = Some (Named n)

abbrev pub kind_at : Place → Kind → Kind
kind_at Start k = NoItem
kind_at _ k = k

abbrev pub item_at : Place → State → Option Item
item_at p s = item_of (kind_at p s.kind) (parts_of s)

abbrev pub value : Form → State → Option (Option Item)
value l s = if may_end s.place l then Some (item_at s.place s) else None

-- ---- what may follow

-- the end of a line or of a primitive's text
abbrev pub ending : Form → List ℕ → Type 0
ending Single = finish
ending (Listed set) = line_end

-- a line's item, or the primitive alone
abbrev pub begins : Form → Option Item → List ℕ → Type 0
begins (Listed set) None = line_end
begins (Listed set) (Some (Primitive p)) = prim p (ws line_end)
begins (Listed set) (Some (Named n)) = stands (words_of (Listed set)) n (ws line_end)
begins Single None = λ b. ⊥
begins Single (Some (Primitive p)) = prim p (ws finish)
begins Single (Some (Named n)) = λ b. ⊥

abbrev pub in_prim : (PrimParts → Type 0) → Option Item → Type 0
in_prim P None = ⊥
in_prim P (Some (Primitive p)) = P p
in_prim P (Some (Named n)) = ⊥

abbrev pub in_name : (GroupName → Type 0) → Option Item → Type 0
in_name P None = ⊥
in_name P (Some (Primitive p)) = ⊥
in_name P (Some (Named n)) = P n

-- ws ";" ws sense, and the effect
abbrev pub victim_left : PrimParts → (List ℕ → Type 0) → List ℕ → Type 0
victim_left p K = ws (word (codes ";") (ws (sense p.vic (effect p K))))

-- the first sense, and what follows it
abbrev pub first_sense : Option SenseText → PrimParts → (List ℕ → Type 0) → (SenseText → (List ℕ → Type 0) → Type 0) → Type 0
first_sense None p K Q = Q p.vic (effect p K)
first_sense (Some a) p K Q = Q a (victim_left p K)

-- the sense that is read, behind an aggressor or first, and what follows it
abbrev pub the_sense : Option SenseText → PrimParts → (List ℕ → Type 0) → (SenseText → (List ℕ → Type 0) → Type 0) → Type 0
the_sense None p K Q = first_sense p.agg p K Q
the_sense (Some a) p K Q = (p.agg ≡ Some a) × Q p.vic (effect p K)

-- the digit of a read that begins a sense, and the other operations
abbrev pub lead_left : Bool → List Operation → (List ℕ → Type 0) → List ℕ → Type 0
lead_left state [] L b = ⊥
lead_left state (o ∷ os) L b = (o ≡ Read state) × word (bit_text state) (more_ops os L) b

-- the digit of an operation that has this letter
abbrev pub after_letter : Access → Operation → (List ℕ → Type 0) → List ℕ → Type 0
after_letter Writes (Write d) K b = word (bit_text d) K b
after_letter Reads (Read d) K b = word (bit_text d) K b
after_letter _ _ K b = ⊥

-- the digit of an operation, and the others
abbrev pub digit_left : Access → List Operation → (List ℕ → Type 0) → List ℕ → Type 0
digit_left a [] L b = ⊥
digit_left a (o ∷ os) L b = after_letter a o (more_ops os L) b

-- of a sense whose first operations are read
abbrev pub begun : SenseText → SenseText → (List Operation → Type 0) → Type 0
begun s t P = (t.state ≡ s.state) × Grows s.ops t.ops P

abbrev pub answer_left : PrimParts → (List ℕ → Type 0) → List ℕ → Type 0
answer_left p K = ws (word (answer_text p.answer) (ws (word (codes ">") K)))

abbrev pub effect_left : PrimParts → (List ℕ → Type 0) → List ℕ → Type 0
effect_left p K = ws (word (bit_text p.after) (ws (word (codes "/") (answer_left p K))))

abbrev pub left_at : Form → Place → State → Option Item → List ℕ → Type 0
left_at l Start s v b = ws (begins l v) b
left_at l (Spelling q) s v b = in_name (λ n. stands (words_of l) n (ws (ending l)) (letters_of (words_of l) q ++ b)) v
left_at l Opened s v b = in_prim (λ p. the_sense s.agg p (ws (ending l)) (λ t L. ws (sense t L) b)) v
left_at l Lead s v b = in_prim (λ p. the_sense s.agg p (ws (ending l)) (λ t L. lead_left t.state t.ops L b)) v
left_at l Sensed s v b = in_prim (λ p. the_sense s.agg p (ws (ending l)) (λ t L. begun s.sense t (λ os. more_ops os L b))) v
left_at l (Digit a) s v b = in_prim (λ p. the_sense s.agg p (ws (ending l)) (λ t L. begun s.sense t (λ os. digit_left a os L b))) v
left_at l Effect s v b = in_prim (λ p. (p.agg ≡ s.agg) × (p.vic ≡ s.sense) × effect_left p (ws (ending l)) b) v
left_at l Left s v b = in_prim (λ p. (p.agg ≡ s.agg) × (p.vic ≡ s.sense) × (p.after ≡ s.after)
    × ws (word (codes "/") (answer_left p (ws (ending l)))) b) v
left_at l Reply s v b = in_prim (λ p. (p.agg ≡ s.agg) × (p.vic ≡ s.sense) × (p.after ≡ s.after) × answer_left p (ws (ending l)) b) v
left_at l Replied s v b = in_prim (λ p. (p.agg ≡ s.agg) × (p.vic ≡ s.sense) × (p.after ≡ s.after)
    × (p.answer ≡ s.answer) × ws (word (codes ">") (ws (ending l))) b) v
left_at l Closed s v b = (v ≡ item_of s.kind (parts_of s)) × ws (ending l) b
left_at l Comment s v b = (v ≡ item_of s.kind (parts_of s)) × anything b

abbrev pub rest : Form → State → List ℕ → Option Item → Type 0
rest l s b v = left_at l s.place s v b

-- ---- groups of places

abbrev pub IsOutside : Place → Type 0
IsOutside Start = Unit {0}
IsOutside Closed = Unit {0}
IsOutside _ = ⊥

abbrev pub IsSense : Place → Type 0
IsSense Opened = Unit {0}
IsSense Sensed = Unit {0}
IsSense _ = ⊥

abbrev pub IsEffect : Place → Type 0
IsEffect Effect = Unit {0}
IsEffect Left = Unit {0}
IsEffect Reply = Unit {0}
IsEffect Replied = Unit {0}
IsEffect _ = ⊥
