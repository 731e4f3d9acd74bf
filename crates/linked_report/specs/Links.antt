-- Inner. A linked fault with its verdict under a march.
use Rattle.std.specs.Prelude.{◌≡◌, Bool, true, false, List, Option, Some, None, map}
use Rattle.std.specs.List.{AllByRecursion}
use Rattle.march_core.specs.March.{MarchElement}
use Rattle.linked_faults.specs.declared.link.Link.{Link}
use Rattle.linked_faults.specs.declared.escape.LinkEscape.{LinkEscape}
use Rattle.linked_faults.specs.Escapes.{IsVerdict}
use Rattle.linked_report.specs.declared.judged.JudgedLink.{JudgedLink}

-- the verdict is right
abbrev pub IsJudgedLink : List MarchElement → JudgedLink → Type 0
IsJudgedLink march j = IsVerdict march j.link j.escape

-- these were judged in their order, each rightly
pub record AreJudgedLinks (march : List MarchElement) (links : List Link) (judged : List JudgedLink) : Type 0 where
  pub each : AllByRecursion (IsJudgedLink march) judged
  pub in_order : map (λ j. j.link) judged ≡ links

-- none escapes
abbrev pub is_none : Option LinkEscape → Bool
is_none None = true
is_none (Some e) = false

abbrev pub is_link_covered : JudgedLink → Bool
is_link_covered j = is_none j.escape
