-- Trusted. The grammar of a line of a fault list: `ws [ item ws ] [ comment ]`. A comment is `#` and any bytes to the
-- line's end. An item is a primitive, a class, or one of the words `one`, `two` and `all`; and in a list with dynamic
-- primitives also `dyn1` or `dyn2`.
use Rattle.std.specs.Prelude.{◌≡◌, true, Option, Some, None, List, ℕ, ◌⊎◌, codes}
use Rattle.bist_text.specs.Grammar.{finish, word}
use Rattle.fault_syntax.specs.declared.words.GroupName.{GroupName}
use Rattle.fault_syntax.specs.declared.words.AllowedNames.{AllowedNames}
use Rattle.fault_syntax.specs.declared.words.AllowedNames.TheVariants.{Static, Every}
use Rattle.fault_syntax.specs.Names.{name_text, is_in}
use Rattle.fault_syntax.specs.PrimText.{PrimParts, ws, prim}

pub data Item : Type 0 where
  Primitive : PrimParts → Item
  Named : GroupName → Item

-- any bytes
abbrev pub anything : List ℕ → Type 0
anything b = Unit {0}

-- [ comment ], to the line's end
abbrev pub line_end : List ℕ → Type 0
line_end b = finish b ⊎ word (codes "#") anything b

abbrev pub item : AllowedNames → Item → (List ℕ → Type 0) → List ℕ → Type 0
item set (Primitive p) K b = prim p K b
item set (Named n) K b = (is_in set n ≡ true) × word (name_text n) K b

-- The bytes are a line with this item, or with none.
abbrev pub LineOf : AllowedNames → List ℕ → Option Item → Type 0
LineOf set b None = ws line_end b
LineOf set b (Some i) = ws (item set i (ws line_end)) b

-- a line of a list of static primitives
abbrev pub LineText : List ℕ → Option Item → Type 0
LineText b v = LineOf Static b v

-- a line of a list of static and dynamic ones
abbrev pub ItemLine : List ℕ → Option Item → Type 0
ItemLine b v = LineOf Every b v
