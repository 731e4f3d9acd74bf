-- What is said of a primitive for which there is no room, and of a line that isn't read; and the static primitives of a
-- name as items.
use Rattle.std.proofs.Common.{◌≡◌, ℕ, List, [], ◌∷◌, ◌++◌, map, ap, ◌∙◌, Option, Some, None, Result, Ok, Err, IfErr, refl, sym, subst, inl, inr}
use Rattle.std.proofs.lemmas.List.{map-append}
use Rattle.fault_core.specs.Primitive.{Primitive}
use Rattle.fault_core.specs.Table.{one_cell_table, two_cell_table}
use Rattle.fault_syntax.specs.declared.fault.FaultFault.{FaultFault}
use Rattle.fault_syntax.specs.declared.reader.ReadItem.TheVariants.{Primitive as ReadPrimitive}
use Rattle.fault_syntax.specs.declared.reader.ReadParts.{ReadParts}
use Rattle.fault_syntax.specs.declared.words.GroupName.{GroupName}
use Rattle.fault_syntax.specs.declared.words.GroupName.TheVariants.{All}
use Rattle.fault_syntax.specs.declared.fault.FaultFault.TheVariants.{Unexpected, Truncated, NotAFault, TooManyOperations, TooManyPrimitives, NoMemory}
use Rattle.fault_syntax.specs.declared.words.AllowedNames.{AllowedNames}
use Rattle.fault_syntax.specs.Brief.{read_parts_of, read_item_of}
use Rattle.bist_text.specs.Lines.{TextLine}
use Rattle.fault_syntax.specs.inner.LineByLine.{HasNoRoom}
use Rattle.fault_syntax.specs.LineByLine.{IsFaultOn}
use Rattle.fault_syntax.specs.LineReading.{IsTextFault}
use Rattle.fault_syntax.specs.ListText.{Item as ListedItem, Primitive as OnePrimitive, Named, LineOf}
use Rattle.fault_syntax.specs.PrimText.{PrimParts}
use Rattle.dynamic_core.specs.declared.item.Item.{Item}
use Rattle.dynamic_core.specs.declared.item.Item.TheVariants.{Plain}
use Rattle.dynamic_core.specs.ItemParts.{IsItemIn, RefusesOn, items_of}
use Rattle.dynamic_core.specs.inner.Reading.{NotAdded}

-- a primitive for which there is no room
pub one_not_added : (set : AllowedNames) (v : Option ListedItem) (parts : ReadParts) (item : Item) (line : ℕ) (old : List Item) (r : Result (Unit {0}) FaultFault)
    → ReadPrimitive parts ≡ read_item_of v → ((text : PrimParts) → parts ≡ read_parts_of text → IsItemIn set text item)
    → IfErr r (HasNoRoom old (item ∷ []) line) → IfErr r (NotAdded set v line old)
one_not_added set v parts item line old (Ok u) e f h = tt
one_not_added set None parts item line old (Err fault) e f h = cc
one_not_added set (Some (Named n)) parts item line old (Err fault) e f h = cc
one_not_added set (Some (OnePrimitive text)) parts item line old (Err fault) e f h = elim h [
  | inl m ↦ subst (NotAdded set v line old) (sym m) tt
  | inr m ↦ subst (NotAdded set v line old) (sym m.0) (refl, item ∷ [], (item, f text parts_is, refl), m.1)
]
  where
    v : Option ListedItem
    v = Some (OnePrimitive text)

    parts_is : parts ≡ read_parts_of text
    parts_is = cc

-- why a line's bytes aren't read is why the line isn't
pub text_fault : (set : AllowedNames) (l : TextLine) (fault : FaultFault) → IsTextFault set l fault → IsFaultOn (LineOf set) OnePrimitive (RefusesOn set) l fault
text_fault set l (Unexpected n k) h = h
text_fault set l (Truncated n) h = h
text_fault set l (NotAFault n) h = absurd h
text_fault set l (TooManyOperations n) h = absurd h
text_fault set l (TooManyPrimitives n) h = absurd h
text_fault set l NoMemory h = absurd h

-- the table of one cell and that of two are all, as items
pub all_plain : (one two : List Primitive) (name : GroupName) → one ≡ one_cell_table → two ≡ two_cell_table → name ≡ All → map Plain one ++ map Plain two ≡ items_of name
all_plain one two name h k is = sym (map-append Plain one two) ∙ ap (map Plain) (ap (λ ps. ps ++ two) h ∙ ap (λ ps. one_cell_table ++ ps) k) ∙ ap items_of (sym is)
