-- The items of a list are primitives, so a self-test fails beside each that its march detects.
use Rattle.bist_app.proofs.Common.{◌≡◌, true, false, arith, suc, sym, subst, refl, ℕ, List, [], ◌∷◌, ◌++◌, map, Option, Some, None, Files, MarchElement, Description, IsMemory, Item, IsPrimitive}
use Rattle.std.specs.List.{All as Each, AllByRecursion, list_all}
use Rattle.std.proofs.lemmas.Bool.{and_parts}
use Rattle.bist_text.specs.Lines.{TextLine, text_lines}
use Rattle.fault_core.specs.Primitive.{Primitive}
use Rattle.fault_core.specs.declared.table.Class.{Class}
use Rattle.fault_core.specs.declared.table.Class.TheVariants.{SF, TF, WDF, RDF, DRDF, IRF, CFst, CFds, CFtr, CFwd, CFrd, CFdr, CFir, DRF}
use Rattle.fault_core.specs.Table.{members_of}
use Rattle.fault_core.proofs.Parts.{is_primitive, passes_primitive}
use Rattle.fault_syntax.specs.declared.words.GroupName.{GroupName}
use Rattle.fault_syntax.specs.declared.words.GroupName.TheVariants.{OfClass, One, Two, All, DynOne, DynTwo}
use Rattle.fault_syntax.specs.declared.words.AllowedNames.TheVariants.{Every}
use Rattle.fault_syntax.specs.ListText.{Item as ListedItem, Primitive as OnePrimitive, Named, LineOf}
use Rattle.fault_syntax.specs.LineByLine.{BringBy}
use Rattle.fault_syntax.specs.Parts.{primitives_of}
use Rattle.dynamic_core.specs.declared.item.Item.TheVariants.{Plain, Dyn}
use Rattle.dynamic_core.specs.Primitive.{DynamicPrimitive, IsDynamic, has_aggressor}
use Rattle.dynamic_core.proofs.EveryPrimitive.{dyn_one_are, dyn_two_are}
use Rattle.dynamic_core.specs.Table.{dyn_one_table, dyn_two_table}
use Rattle.dynamic_core.specs.ItemParts.{BringsIn, items_of}
use Rattle.dynamic_core.specs.Items.{SpellsItems}
use Rattle.verilog_tree.specs.Plain.{ModuleTree}
use Rattle.verilog_tree.specs.Formed.{formed}
use Rattle.self_test.specs.SelfTest.{SelfTest}
use Rattle.bist_app.specs.Headline.{Only, InputHas, FailsWhereDetected}
use Rattle.bist_app.proofs.Beside.{planted_fails, dynamic_fails}

-- an item is a primitive
abbrev IsOne : Item → Type 0
IsOne (Plain p) = IsPrimitive p
IsOne (Dyn p) = IsDynamic p

are_one : (xs ys : List Item) → AllByRecursion IsOne xs → AllByRecursion IsOne ys → AllByRecursion IsOne (xs ++ ys)
are_one [] ys f g = g
are_one (x ∷ xs) ys f g = (f.0, are_one xs ys f.1 g)

-- ---- the items of a name

by_test : (ps : List Primitive) → list_all is_primitive ps ≡ true → AllByRecursion IsOne (map Plain ps)
by_test [] h = tt
by_test (p ∷ ps) h = let both = and_parts (is_primitive p) (list_all is_primitive ps) h in (passes_primitive p both.0, by_test ps both.1)

of_class : (class : Class) → list_all is_primitive (members_of class) ≡ true
of_class SF = refl
of_class TF = refl
of_class WDF = refl
of_class RDF = refl
of_class DRDF = refl
of_class IRF = refl
of_class CFst = refl
of_class CFds = refl
of_class CFtr = refl
of_class CFwd = refl
of_class CFrd = refl
of_class CFdr = refl
of_class CFir = refl
of_class DRF = refl

of_dynamic : (R : DynamicPrimitive → Type 0) (ps : List DynamicPrimitive) → Each (λ p. IsDynamic p × R p) ps → AllByRecursion IsOne (map Dyn ps)
of_dynamic R [] h = tt
of_dynamic R (p ∷ ps) h = ((h 0 p (omega arith)).0, of_dynamic R ps (λ k x l. h (suc k) x (omega arith)))

of_name : (n : GroupName) → AllByRecursion IsOne (items_of n)
of_name (OfClass class) = by_test (members_of class) (of_class class)
of_name One = by_test (primitives_of One) refl
of_name Two = by_test (primitives_of Two) refl
of_name All = by_test (primitives_of All) refl
of_name DynOne = of_dynamic (λ p. has_aggressor p ≡ false) dyn_one_table dyn_one_are
of_name DynTwo = of_dynamic (λ p. has_aggressor p ≡ true) dyn_two_table dyn_two_are

-- ---- the items of a list

brought : (l : Option ListedItem) (items : List Item) → BringsIn Every l items → AllByRecursion IsOne items
brought None items b = subst (AllByRecursion IsOne) (sym b) tt
brought (Some (OnePrimitive text)) items (Plain p, is, same) = subst (AllByRecursion IsOne) (sym same) (is.1, tt)
brought (Some (OnePrimitive text)) items (Dyn p, is, same) = subst (AllByRecursion IsOne) (sym same) (is.1, tt)
brought (Some (Named n)) items b = subst (AllByRecursion IsOne) (sym b) (of_name n)

each_is : (ls : List TextLine) (items : List Item) → BringBy (LineOf Every) (BringsIn Every) ls items → AllByRecursion IsOne items
each_is [] items b = subst (AllByRecursion IsOne) (sym b) tt
each_is (l ∷ ls) items (item, first, others, line, brings, rest, same) =
    subst (AllByRecursion IsOne) (sym same) (are_one first others (brought item first brings) (each_is ls others rest))

-- ---- beside each that is detected

module _ (mo : ModuleTree) (march : List MarchElement) (d : Description) (test : SelfTest mo march d) (forms : formed mo ≡ true) (m : IsMemory d) where
  fails_all : (items : List Item) → AllByRecursion IsOne items → AllByRecursion (FailsWhereDetected mo march d) items
  fails_all [] a = tt
  fails_all (Plain p ∷ items) a = (planted_fails mo march d test forms m p a.0, fails_all items a.1)
  fails_all (Dyn p ∷ items) a = (dynamic_fails mo march d test forms m p a.0, fails_all items a.1)

pub each_fails : (files : Files) (name : List ℕ) (mo : ModuleTree) (march : List MarchElement) (d : Description) (items : List Item) → SelfTest mo march d → formed mo ≡ true → IsMemory d
    → InputHas files name (λ bytes. Only (SpellsItems bytes) items) → AllByRecursion (FailsWhereDetected mo march d) items
each_fails files name mo march d items test forms m (bytes, told, (low, (spells, only))) =
    fails_all mo march d test forms m items (each_is (text_lines bytes) items spells.0)
