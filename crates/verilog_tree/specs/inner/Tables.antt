-- Inner. For proofs and private contracts alone, beside Tables: tables of names, and what they keep.
use Rattle.std.specs.Prelude.{◌≡◌, ℕ, Bool, false, cond, not, ◌&&◌, List, [], ◌∷◌, Option, Some, None, is_some}
use Rattle.std.specs.Str.{bytes_eq}
use Rattle.arrayvec.specs.ArrayString.{ArrayString}
use Rattle.bist_text.specs.ReservedWords.{is_among}
use Rattle.verilog_tree.specs.declared.rules.Rule.{Rule}
use Rattle.verilog_tree.specs.declared.rules.Rule.TheVariants as R
use Rattle.verilog_tree.specs.Plain.{ModuleItem, WireItem, RegItem, AssignItem, AlwaysItem}
use Rattle.verilog_tree.specs.Names.{Declaration, declared_by, lookup, is_wire, is_clk}
use Rattle.verilog_tree.specs.Rules.{Break, Unknown, Twice, SelectRange, NotAssignable, TwoBlocks, Undriven, Clock, Mention, AsClock, AsTarget, Whole, Selected, mentions, statements_mentions, first_of, first_bad, has_kind, is_unknown, is_out_of_range, item_widths, is_wrong_target, assignable, is_wrong_clock, is_assigned}
use Rattle.verilog_tree.specs.Tables.{with_declared, with_name}

-- keys are equal where their bytes are
abbrev pub same_name : ArrayString → ArrayString → Bool
same_name a b = bytes_eq a.bytes b.bytes

-- these declarations added in order
abbrev pub with_all : List Declaration → List Declaration → List Declaration
with_all ds [] = ds
with_all ds (e ∷ es) = with_all (with_declared ds e) es

-- what these mentions assign added in order
abbrev pub with_targets : List (List ℕ) → List Mention → List (List ℕ)
with_targets ns [] = ns
with_targets ns (AsClock n ∷ ms) = with_targets ns ms
with_targets ns (AsTarget n ∷ ms) = with_targets (with_name ns n) ms
with_targets ns (Whole n ∷ ms) = with_targets ns ms
with_targets ns (Selected n h l ∷ ms) = with_targets ns ms

-- the tables behind an item: what is declared, what `assign` items name, and what blocks set
abbrev pub declared_behind : List Declaration → ModuleItem → List Declaration
declared_behind ds i = with_all ds (declared_by i)

abbrev pub assigned_behind : List (List ℕ) → ModuleItem → List (List ℕ)
assigned_behind ns (WireItem n k) = ns
assigned_behind ns (RegItem n k) = ns
assigned_behind ns (AssignItem n x) = with_name ns n
assigned_behind ns (AlwaysItem c ss) = ns

abbrev pub set_behind : List (List ℕ) → ModuleItem → List (List ℕ)
set_behind ns (WireItem n k) = ns
set_behind ns (RegItem n k) = ns
set_behind ns (AssignItem n x) = ns
set_behind ns (AlwaysItem c ss) = with_targets ns (statements_mentions ss)

abbrev pub among : List (List ℕ) → List ℕ → Bool
among ns n = is_among n ns

-- the rules by these tables: N2, and N10 where a name is declared
abbrev pub again : List Declaration → (List ℕ → Bool) → ModuleItem → Option Break
again ds assigned (WireItem n k) = cond (is_some (lookup ds n)) (Some (Twice n)) (cond (is_clk n) (Some (Clock n)) None)
again ds assigned (RegItem n k) = cond (is_some (lookup ds n)) (Some (Twice n)) (cond (is_clk n) (Some (Clock n)) None)
again ds assigned (AssignItem n x) = cond (has_kind is_wire ds n && assigned n) (Some (Twice n)) None
again ds assigned (AlwaysItem c ss) = None

-- N4
abbrev pub is_target_among : List (List ℕ) → Mention → Bool
is_target_among ns (AsClock n) = false
is_target_among ns (AsTarget n) = is_among n ns
is_target_among ns (Whole n) = false
is_target_among ns (Selected n h l) = false

-- the rules of each mention: N1, N6, N5, N4 and N10
abbrev pub is_broken : Rule → (List ℕ → ℕ) → List Declaration → List (List ℕ) → ModuleItem → Mention → Bool
is_broken R.Known w ds set i = is_unknown ds
is_broken R.InRange w ds set i = is_out_of_range w
is_broken R.Assignable w ds set i = is_wrong_target (assignable i) ds
is_broken R.InOneBlock w ds set i = is_target_among set
is_broken R.Clocked w ds set i = is_wrong_clock ds

abbrev pub told_as : Rule → List ℕ → Break
told_as R.Known = Unknown
told_as R.InRange = SelectRange
told_as R.Assignable = NotAssignable
told_as R.InOneBlock = TwoBlocks
told_as R.Clocked = Clock

abbrev pub first_broken : Rule → (List ℕ → ℕ) → List Declaration → List (List ℕ) → ModuleItem → List Mention → Option Break
first_broken r w ds set i = first_bad (is_broken r w ds set i) (told_as r)

-- the first break of an item
unfoldable pub break_behind : (List ℕ → ℕ) → List Declaration → (List ℕ → Bool) → List (List ℕ) → ModuleItem → Option Break
break_behind w ds assigned set i =
    let ms = mentions i in
    first_of
    (first_broken R.Known w ds set i ms
    ∷ again ds assigned i
    ∷ first_broken R.InRange w ds set i ms
    ∷ item_widths w i
    ∷ first_broken R.Assignable w ds set i ms
    ∷ first_broken R.InOneBlock w ds set i ms
    ∷ first_broken R.Clocked w ds set i ms
    ∷ [])

-- the first break of these items
abbrev pub breaks_behind : (List ℕ → ℕ) → List Declaration → List (List ℕ) → List (List ℕ) → List ModuleItem → Option Break
breaks_behind w ds assigned set [] = None
breaks_behind w ds assigned set (i ∷ is) =
    first_of (break_behind w ds (among assigned) set i ∷ breaks_behind w (declared_behind ds i)
    (assigned_behind assigned i) (set_behind set i) is ∷ [])

-- what these items assign added in order
abbrev pub all_assigned : List (List ℕ) → List ModuleItem → List (List ℕ)
all_assigned ns [] = ns
all_assigned ns (i ∷ is) = all_assigned (assigned_behind ns i) is

-- N9
abbrev pub unassigned : (List ℕ → Bool) → List Declaration → Option Break
unassigned assigned [] = None
unassigned assigned (d ∷ ds) = cond (is_wire d.kind && not (assigned d.name)) (Some (Undriven d.name)) (unassigned assigned ds)

-- these names are what items assign
abbrev pub Assigned : List (List ℕ) → List ModuleItem → Type 0
Assigned ns is = (n : List ℕ) → is_among n ns ≡ is_assigned is n
