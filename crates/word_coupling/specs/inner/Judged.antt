-- Inner. For proofs and private contracts alone: the couplings of a list with their verdicts, and their report.
use Rattle.std.specs.Prelude.{◌≡◌, ◌++◌, ℕ, Bool, true, false, Option, Some, None, List, length, map, count_by}
use Rattle.std.specs.List.{AllByRecursion, flat_map}
use Rattle.fault_core.specs.Primitive.{Primitive}
use Rattle.march_core.specs.March.{MarchElement}
use Rattle.memory_desc.specs.Descriptions.{Description}
use Rattle.dynamic_core.specs.declared.item.Item.{Item}
use Rattle.report_lines.specs.Lines.{march_line, memory_line, total_line}
use Rattle.word_coupling.specs.declared.judging.FoundEscape.{FoundEscape}
use Rattle.word_coupling.specs.declared.judged.JudgedCoupling.{JudgedCoupling}
use Rattle.word_coupling.specs.Escapes.{IsWordVerdict}
use Rattle.word_coupling.specs.Report.{judged_in, covered_line, escape_line, apart_line, unpaired_line}

abbrev pub prim_of : JudgedCoupling → Primitive
prim_of j = j.prim

-- whether nothing escapes
abbrev pub is_none : Option FoundEscape → Bool
is_none None = true
is_none (Some e) = false

abbrev pub is_covered : JudgedCoupling → Bool
is_covered j = is_none j.escape

-- the verdict is right
abbrev pub IsJudgedRight : List MarchElement → Description → JudgedCoupling → Type 0
IsJudgedRight march d j = IsWordVerdict march d j.prim j.escape

-- these primitives, in their order, each judged rightly
pub record AreJudged (march : List MarchElement) (d : Description) (prims : List Primitive) (judged : List JudgedCoupling) : Type 0 where
  pub each : AllByRecursion (IsJudgedRight march d) judged
  pub in_order : map prim_of judged ≡ prims

-- the couplings of a list for which a word has two bits
abbrev pub AreJudgedInWord : List MarchElement → Description → List Item → List JudgedCoupling → Type 0
AreJudgedInWord march d items judged = AreJudged march d (judged_in d items) judged

abbrev pub verdict_line : Primitive → Option FoundEscape → List ℕ
verdict_line p None = covered_line p
verdict_line p (Some e) = escape_line p e

abbrev pub judged_line : JudgedCoupling → List ℕ
judged_line j = verdict_line j.prim j.escape

-- the report of judged couplings, of a list with so many other primitives, and so many couplings
abbrev pub in_word_text : List MarchElement → Description → ℕ → ℕ → List JudgedCoupling → List ℕ
in_word_text march d apart paired judged =
    march_line march ++ memory_line march (Some d) ++ flat_map judged_line judged ++ apart_line apart ++ unpaired_line d paired
    ++ total_line (length judged) (count_by is_covered judged)
