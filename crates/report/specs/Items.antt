-- Trusted. Items of a list, static and dynamic, and what is said of them under a march.
use Rattle.std.specs.Prelude.{◌≡◌, ℕ, Bool, true, false, List, [], ◌∷◌, map, count_by}
use Rattle.std.specs.List.{AllByRecursion}
use Rattle.fault_core.specs.Primitive.{Primitive}
use Rattle.march_core.specs.March.{MarchElement}
use Rattle.array_sim.specs.Detection.{Detects}
use Rattle.coverage.specs.declared.verdict.Verdict.{Verdict}
use Rattle.coverage.specs.Verdicts.{IsVerdict}
use Rattle.dynamic_core.specs.declared.item.Item.{Item}
use Rattle.dynamic_core.specs.declared.item.Item.TheVariants.{Plain, Dyn}
use Rattle.dynamic_core.specs.Detecting.{DetectsDyn}
use Rattle.dynamic_prover.specs.declared.escape.DynVerdict.{DynVerdict}
use Rattle.dynamic_prover.specs.Verdicts.{IsDynVerdict}
use Rattle.report.specs.declared.judged.JudgedItem.{JudgedItem}

-- the march detects the item in arrays of every size
abbrev pub DetectsItem : List MarchElement → Item → Type 0
DetectsItem march (Plain p) = Detects march p
DetectsItem march (Dyn p) = DetectsDyn march p

-- what was judged
abbrev pub item_of : JudgedItem → Item
item_of (JudgedItem.Plain p v) = Plain p
item_of (JudgedItem.Dyn p v) = Dyn p

unfoldable pub is_covered : JudgedItem → Bool
is_covered (JudgedItem.Plain p Verdict.Covered) = true
is_covered (JudgedItem.Plain p (Verdict.Escape e)) = false
is_covered (JudgedItem.Dyn p DynVerdict.Covered) = true
is_covered (JudgedItem.Dyn p (DynVerdict.Escape e)) = false

-- how many judged items are covered
abbrev pub covered_count : List JudgedItem → ℕ
covered_count judged = count_by is_covered judged

-- static primitives with their verdicts
abbrev pub plain_items : List Primitive → List Verdict → List JudgedItem
plain_items [] vs = []
plain_items (p ∷ ps) [] = []
plain_items (p ∷ ps) (v ∷ vs) = JudgedItem.Plain p v ∷ plain_items ps vs

-- the verdict is right
abbrev pub IsJudged : List MarchElement → JudgedItem → Type 0
IsJudged march (JudgedItem.Plain p v) = IsVerdict march p v
IsJudged march (JudgedItem.Dyn p v) = IsDynVerdict march p v

-- these items were judged in their order, each rightly
pub record AreJudged (march : List MarchElement) (items : List Item) (judged : List JudgedItem) : Type 0 where
  pub each : AllByRecursion (IsJudged march) judged
  pub in_order : map item_of judged ≡ items
