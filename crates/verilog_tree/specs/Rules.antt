-- Trusted. The first rule that a module breaks.
use Rattle.std.specs.Prelude.{◌≡◌, ℕ, ◌-◌, ◌^◌, Bool, false, cond, not, ◌&&◌, ◌||◌, nat_eq, nat_lt, min, List, [], ◌∷◌, ◌++◌, Option, Some, None, is_some, is_none, Result, Ok, Err}
use Rattle.std.specs.Str.{bytes_eq}
use Rattle.bist_bits.specs.Vector.{Vector}
use Rattle.verilog_tree.specs.declared.tree.BinOp.{BinOp}
use Rattle.verilog_tree.specs.declared.fault.TreeFault.{TreeFault}
use Rattle.verilog_tree.specs.declared.fault.TreeFault.TheVariants as T
use Rattle.verilog_tree.specs.Plain.{Expression, Net, BitSelect, PartSelect, Literal, Concatenation, Prefixed, Infixed, Conditional, Expressions, NoMore, Followed, Statement, SetTo, IfElse, CaseOf, Statements, Done, Then, Arms, NoArm, ArmOf, ModuleItem, WireItem, RegItem, AssignItem, AlwaysItem, ModulePort, ModuleTree}
use Rattle.verilog_tree.specs.declared.names.Kind.{Kind}
use Rattle.verilog_tree.specs.Names.{Declaration, port_declarations, item_declarations, declarations, lookup, is_wire, is_register, is_clk, may_be_clock, is_declared_as}
use Rattle.verilog_tree.specs.Operators.{WidthRule, Moved, Tested, operator}
use Rattle.verilog_tree.specs.Meaning.{width, widths, names_widths}

-- a broken rule: N1, N2, N3, N4, N5, N6, N9 and N10
pub data Break : Type 0 where
  Unknown : List ℕ → Break
  Twice : List ℕ → Break
  Width : ℕ → ℕ → Break
  TwoBlocks : List ℕ → Break
  NotAssignable : List ℕ → Break
  SelectRange : List ℕ → Break
  Undriven : List ℕ → Break
  Clock : List ℕ → Break

-- Where a name stands in an item: as a clock, as what is assigned, or in an expression, whole or selected
-- from a high place to a low one.
pub data Mention : Type 0 where
  AsClock : List ℕ → Mention
  AsTarget : List ℕ → Mention
  Whole : List ℕ → Mention
  Selected : List ℕ → ℕ → ℕ → Mention

abbrev pub mentioned : Mention → List ℕ
mentioned (AsClock n) = n
mentioned (AsTarget n) = n
mentioned (Whole n) = n
mentioned (Selected n h l) = n

-- the names of an expression, in the order of the text
abbrev mutual
  pub reads : Expression → List Mention
  reads (Net n) = Whole n ∷ []
  reads (BitSelect n i) = Selected n i i ∷ []
  reads (PartSelect n h l) = Selected n h l ∷ []
  reads (Literal b) = []
  reads (Concatenation xs) = all_reads xs
  reads (Prefixed o x) = reads x
  reads (Infixed o x y) = reads x ++ reads y
  reads (Conditional c x y) = reads c ++ (reads x ++ reads y)

  pub all_reads : Expressions → List Mention
  all_reads NoMore = []
  all_reads (Followed x xs) = reads x ++ all_reads xs

-- the names of a statement, in the order of the text
abbrev mutual
  pub statement_mentions : Statement → List Mention
  statement_mentions (SetTo n x) = AsTarget n ∷ reads x
  statement_mentions (IfElse c a b) = reads c ++ (statements_mentions a ++ statements_mentions b)
  statement_mentions (CaseOf x as' d) = reads x ++ (arms_mentions as' ++ statements_mentions d)

  pub statements_mentions : Statements → List Mention
  statements_mentions Done = []
  statements_mentions (Then s ss) = statement_mentions s ++ statements_mentions ss

  pub arms_mentions : Arms → List Mention
  arms_mentions NoArm = []
  arms_mentions (ArmOf ls ss as') = statements_mentions ss ++ arms_mentions as'

-- the names that an item uses, in the order of the text; a declaration uses none
abbrev pub mentions : ModuleItem → List Mention
mentions (WireItem n k) = []
mentions (RegItem n k) = []
mentions (AssignItem n x) = AsTarget n ∷ reads x
mentions (AlwaysItem c ss) = AsClock c ∷ statements_mentions ss

-- the first that is there
abbrev pub first_of : List (Option Break) → Option Break
first_of [] = None
first_of (None ∷ os) = first_of os
first_of (Some b ∷ os) = Some b

-- the break of the first mention that the test finds
abbrev pub first_bad : (Mention → Bool) → (List ℕ → Break) → List Mention → Option Break
first_bad bad fault [] = None
first_bad bad fault (m ∷ ms) = cond (bad m) (Some (fault (mentioned m))) (first_bad bad fault ms)

-- N1: a name is neither a port nor declared in an earlier item
abbrev pub is_unknown : List Declaration → Mention → Bool
is_unknown ds m = is_none (lookup ds (mentioned m))

-- the names that earlier items assign
abbrev pub is_assigned : List ModuleItem → List ℕ → Bool
is_assigned [] n = false
is_assigned (AssignItem m x ∷ is) n = bytes_eq n m || is_assigned is n
is_assigned (other ∷ is) n = is_assigned is n

-- a test of the kind that a name is declared with
abbrev pub has_kind : (Kind → Bool) → List Declaration → List ℕ → Bool
has_kind test ds n = is_declared_as (λ d. test d.kind) (lookup ds n)

-- N2: a name is declared twice, or a wire or plain output has a second assign
abbrev pub twice : List Declaration → List ModuleItem → ModuleItem → Option Break
twice ds before (WireItem n k) = cond (is_some (lookup ds n)) (Some (Twice n)) None
twice ds before (RegItem n k) = cond (is_some (lookup ds n)) (Some (Twice n)) None
twice ds before (AssignItem n x) = cond (has_kind is_wire ds n && is_assigned before n) (Some (Twice n)) None
twice ds before (AlwaysItem c ss) = None

-- N6: a select's high place isn't below the width of its name, or its low place is above its high one,
-- or its name has one bit
abbrev pub is_out_of_range : (List ℕ → ℕ) → Mention → Bool
is_out_of_range w (Selected n h l) = not (nat_lt h (w n)) || nat_lt h l || nat_eq (w n) 1
is_out_of_range w other = false

-- N3: these two widths differ
abbrev pub unequal : ℕ → ℕ → Option Break
unequal j k = cond (nat_eq j k) None (Some (Width j k))

-- N3: a concatenation is wider than 64; a width that no u64 holds is told as the greatest one
abbrev pub too_wide : ℕ → Option Break
too_wide k = cond (nat_lt 64 k) (Some (Width 64 (min k (2 ^ 64 - 1)))) None

-- N3 at an operator: only &&, ||, << and >> take operands of different widths
abbrev pub ruled_widths : WidthRule → ℕ → ℕ → Option Break
ruled_widths Moved j k = None
ruled_widths Tested j k = None
ruled_widths other j k = unequal j k

abbrev pub infixed_widths : BinOp → ℕ → ℕ → Option Break
infixed_widths o j k = ruled_widths (operator o).rule j k

-- N3 in an expression: its parts from left to right, and then itself
abbrev mutual
  pub expression_widths : (List ℕ → ℕ) → Expression → Option Break
  expression_widths w (Net n) = None
  expression_widths w (BitSelect n i) = None
  expression_widths w (PartSelect n h l) = None
  expression_widths w (Literal b) = None
  expression_widths w (Concatenation xs) = first_of (parts_widths w xs ∷ too_wide (widths w xs) ∷ [])
  expression_widths w (Prefixed o x) = expression_widths w x
  expression_widths w (Infixed o x y) = first_of
      (expression_widths w x ∷ expression_widths w y ∷ infixed_widths o (width w x) (width w y) ∷ [])
  expression_widths w (Conditional c x y) =
      first_of (expression_widths w c ∷ expression_widths w x ∷ expression_widths w y ∷ unequal (width w x) (width w y) ∷ [])

  pub parts_widths : (List ℕ → ℕ) → Expressions → Option Break
  parts_widths w NoMore = None
  parts_widths w (Followed x xs) = first_of (expression_widths w x ∷ parts_widths w xs ∷ [])

-- N3 at an assignment: the expression before its target
abbrev pub assignment_widths : (List ℕ → ℕ) → List ℕ → Expression → Option Break
assignment_widths w n x = first_of (expression_widths w x ∷ unequal (w n) (width w x) ∷ [])

-- N3 at the labels of a case, whose subject has k bits
abbrev pub label_widths : ℕ → List Vector → Option Break
label_widths k [] = None
label_widths k (b ∷ bs) = first_of (unequal k b.width ∷ label_widths k bs ∷ [])

abbrev mutual
  pub statement_widths : (List ℕ → ℕ) → Statement → Option Break
  statement_widths w (SetTo n x) = assignment_widths w n x
  statement_widths w (IfElse c a b) = first_of (expression_widths w c ∷ statements_widths w a ∷ statements_widths w b ∷ [])
  statement_widths w (CaseOf x as' d) = first_of (expression_widths w x ∷ arms_widths w (width w x) as' ∷ statements_widths w d ∷ [])

  pub statements_widths : (List ℕ → ℕ) → Statements → Option Break
  statements_widths w Done = None
  statements_widths w (Then s ss) = first_of (statement_widths w s ∷ statements_widths w ss ∷ [])

  pub arms_widths : (List ℕ → ℕ) → ℕ → Arms → Option Break
  arms_widths w k NoArm = None
  arms_widths w k (ArmOf ls ss as') = first_of (label_widths k ls ∷ statements_widths w ss ∷ arms_widths w k as' ∷ [])

abbrev pub item_widths : (List ℕ → ℕ) → ModuleItem → Option Break
item_widths w (WireItem n k) = None
item_widths w (RegItem n k) = None
item_widths w (AssignItem n x) = assignment_widths w n x
item_widths w (AlwaysItem c ss) = statements_widths w ss

-- N5: `assign` names something that isn't a wire or plain output, or `<=` something that isn't a register
abbrev pub is_wrong_target : (Kind → Bool) → List Declaration → Mention → Bool
is_wrong_target right ds (AsTarget n) = not (has_kind right ds n)
is_wrong_target right ds other = false

-- what may be assigned in an item
abbrev pub assignable : ModuleItem → Kind → Bool
assignable (AlwaysItem c ss) = is_register
assignable other = is_wire

abbrev pub is_target : List ℕ → List Mention → Bool
is_target n [] = false
is_target n (AsTarget m ∷ ms) = bytes_eq n m || is_target n ms
is_target n (other ∷ ms) = is_target n ms

-- the registers that earlier blocks set
abbrev pub is_set : List ModuleItem → List ℕ → Bool
is_set [] n = false
is_set (AlwaysItem c ss ∷ is) n = is_target n (statements_mentions ss) || is_set is n
is_set (other ∷ is) n = is_set is n

-- N4: an earlier block sets what is set here
abbrev pub is_set_before : List ModuleItem → Mention → Bool
is_set_before before (AsTarget n) = is_set before n
is_set_before before other = false

-- N10: a clock isn't an input of one bit named clk, or clk stands in an expression
abbrev pub is_wrong_clock : List Declaration → Mention → Bool
is_wrong_clock ds (AsClock n) = not (is_clk n && is_declared_as may_be_clock (lookup ds n))
is_wrong_clock ds (AsTarget n) = false
is_wrong_clock ds (Whole n) = is_clk n
is_wrong_clock ds (Selected n h l) = is_clk n

-- N10: clk is declared here as anything but an input of one bit
abbrev pub declares_clk : ModuleItem → Option Break
declares_clk (WireItem n k) = cond (is_clk n) (Some (Clock n)) None
declares_clk (RegItem n k) = cond (is_clk n) (Some (Clock n)) None
declares_clk (AssignItem n x) = None
declares_clk (AlwaysItem c ss) = None

-- The first break of an item behind these ports and items, where names have the widths w. N1 sees to it
-- that the names are declared before, so w may be that of the whole module.
unfoldable pub item_break : (List ℕ → ℕ) → List ModulePort → List ModuleItem → ModuleItem → Option Break
item_break w ps before i =
    let ds = declarations ps before in
    let ms = mentions i in
    first_of
    (first_bad (is_unknown ds) Unknown ms
    ∷ twice ds before i
    ∷ first_bad (is_out_of_range w) SelectRange ms
    ∷ item_widths w i
    ∷ first_bad (is_wrong_target (assignable i) ds) NotAssignable ms
    ∷ first_bad (is_set_before before) TwoBlocks ms
    ∷ declares_clk i
    ∷ first_bad (is_wrong_clock ds) Clock ms
    ∷ [])

abbrev pub items_break : (List ℕ → ℕ) → List ModulePort → List ModuleItem → List ModuleItem → Option Break
items_break w ps before [] = None
items_break w ps before (i ∷ is) = first_of (item_break w ps before i ∷ items_break w ps (before ++ i ∷ []) is ∷ [])

-- N2 in the ports: the first whose name an earlier one has
abbrev pub port_twice : List Declaration → List Declaration → Option Break
port_twice before [] = None
port_twice before (d ∷ ds) = cond (is_some (lookup before d.name)) (Some (Twice d.name)) (port_twice (before ++ d ∷ []) ds)

-- N10 in the ports: clk is anything but an input of one bit
abbrev pub port_clock : List Declaration → Option Break
port_clock [] = None
port_clock (d ∷ ds) = cond (is_clk d.name && not (may_be_clock d)) (Some (Clock d.name)) (port_clock ds)

-- N9: the first wire or plain output that no assign names
abbrev pub undriven : List ModuleItem → List Declaration → Option Break
undriven is [] = None
undriven is (d ∷ ds) = cond (is_wire d.kind && not (is_assigned is d.name)) (Some (Undriven d.name)) (undriven is ds)

-- The first break of a module: in its ports, in its items in order, and then a wire that nothing drives.
abbrev pub first_break : ModuleTree → Option Break
first_break mo =
    first_of
    (port_twice [] (port_declarations mo.ports)
    ∷ port_clock (port_declarations mo.ports)
    ∷ items_break (names_widths mo) mo.ports [] mo.items
    ∷ undriven mo.items (port_declarations mo.ports)
    ∷ undriven mo.items (item_declarations mo.items)
    ∷ [])

-- A fault tells its break; want of memory tells nothing. A loop is no break of these rules.
abbrev pub Tells : TreeFault → Option Break → Type 0
Tells (T.Unknown n) o = o ≡ Some (Unknown n.bytes)
Tells (T.Twice n) o = o ≡ Some (Twice n.bytes)
Tells (T.Width j k) o = o ≡ Some (Width j k)
Tells (T.TwoBlocks n) o = o ≡ Some (TwoBlocks n.bytes)
Tells (T.NotAssignable n) o = o ≡ Some (NotAssignable n.bytes)
Tells (T.SelectRange n) o = o ≡ Some (SelectRange n.bytes)
Tells (T.Loop ns) o = ⊥
Tells T.NoMemory o = Unit {0}
Tells (T.Undriven n) o = o ≡ Some (Undriven n.bytes)
Tells (T.Clock n) o = o ≡ Some (Clock n.bytes)

-- What has this first break, if it has one, is refused for it and nothing else.
abbrev pub Refuses : {A : Type 0} → Option Break → Result A TreeFault → Type 0
Refuses o (Ok _) = o ≡ None
Refuses o (Err f) = Tells f o
