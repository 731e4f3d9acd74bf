-- Trusted. The printed form of a march: the words `up`, `down`, `any` and `del`, braces, and no blanks.
use Rattle.std.specs.Prelude.{ℕ, List, [], ◌∷◌, ◌++◌, codes}
use Rattle.march_core.specs.declared.operation.Order.{Order}
use Rattle.march_core.specs.declared.operation.Order.TheVariants.{Up, Down, Any}
use Rattle.march_core.specs.declared.operation.Op.{Op}
use Rattle.march_core.specs.March.{MarchElement, pause, sweep}
use Rattle.march_syntax.specs.MarchText.{op_text}

abbrev pub order_text : Order → List ℕ
order_text Up = codes "up"
order_text Down = codes "down"
order_text Any = codes "any"

abbrev pub more_ops_text : List Op → List ℕ
more_ops_text [] = []
more_ops_text (o ∷ os) = codes "," ++ op_text o ++ more_ops_text os

-- operations, separated by commas
abbrev pub ops_text : List Op → List ℕ
ops_text [] = []
ops_text (o ∷ os) = op_text o ++ more_ops_text os

abbrev pub element_text : MarchElement → List ℕ
element_text pause = codes "del"
element_text (sweep order ops) = order_text order ++ codes "(" ++ ops_text ops ++ codes ")"

abbrev pub more_elements_text : List MarchElement → List ℕ
more_elements_text [] = []
more_elements_text (e ∷ es) = codes ";" ++ element_text e ++ more_elements_text es

-- elements, separated by semicolons
abbrev pub elements_text : List MarchElement → List ℕ
elements_text [] = []
elements_text (e ∷ es) = element_text e ++ more_elements_text es

abbrev pub printed : List MarchElement → List ℕ
printed es = codes "{" ++ elements_text es ++ codes "}"
