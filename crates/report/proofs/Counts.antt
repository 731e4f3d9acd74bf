-- The lines and the counts of right verdicts are those of the items that the march detects.
use Rattle.std.proofs.Common.{◌≡◌, ℕ, Option, List, [], ◌∷◌, ◌++◌, length, map, refl, ap, sym, subst, inl, inr}
use Rattle.std.specs.List.{filter, AllByRecursion}
use Rattle.std.specs.Prelude.{count_by}
use Rattle.std.proofs.lemmas.List.{length-map}
use Rattle.march_core.specs.March.{MarchElement}
use Rattle.memory_desc.specs.Descriptions.{Description}
use Rattle.coverage.specs.declared.verdict.Verdict.{Verdict}
use Rattle.dynamic_core.specs.declared.item.Item.{Item}
use Rattle.dynamic_prover.specs.declared.escape.DynVerdict.{DynVerdict}
use Rattle.report.specs.declared.class_lines.ItemClass.{ItemClass}
use Rattle.report.specs.declared.judged.JudgedItem.{JudgedItem}
use Rattle.report.specs.Items.{DetectsItem, IsJudged, AreJudged, item_of, is_covered, covered_count}
use Rattle.report_lines.specs.Lines.{march_line, memory_line, total_line}
use Rattle.report_lines.proofs.Listed.{Tells, counted, counted_among, lines_of, plain_lines, one_judged as one_behind, size_of}
use Rattle.report.specs.Report.{judged_line, judged_lines, is_in_class, class_size, class_covered, class_line, class_lines, class_order, report_text, DetectsOf, IsLine, IsClassLine, IsMixedReport}

-- what a right verdict says: that the item is detected, where it is covered, and else that it isn't
pub tells : (march : List MarchElement) (j : JudgedItem) → IsJudged march j → Tells (DetectsItem march) (item_of j) (is_covered j)
unfolding is_covered
tells march (JudgedItem.Plain p Verdict.Covered) h = h
tells march (JudgedItem.Plain p (Verdict.Escape e)) h = h.2
tells march (JudgedItem.Dyn p DynVerdict.Covered) h = h
tells march (JudgedItem.Dyn p (DynVerdict.Escape e)) h = h.2

pub all_counted : (march : List MarchElement) (js : List JudgedItem) → AllByRecursion (IsJudged march) js → DetectsOf march (map item_of js) (covered_count js)
all_counted march = counted (DetectsItem march) item_of is_covered (IsJudged march) (tells march)

-- the same of a class
class_counted : (march : List MarchElement) (c : ItemClass) (js : List JudgedItem) → AllByRecursion (IsJudged march) js
    → DetectsOf march (filter (is_in_class c) (map item_of js)) (class_covered c js)
class_counted march c = counted_among (DetectsItem march) item_of is_covered (IsJudged march) (tells march) (is_in_class c)

pub one_judged : (march : List MarchElement) (items : List Item) (js : List JudgedItem) (j : JudgedItem) → AreJudged march items js → IsJudged march j
    → AreJudged march (items ++ item_of j ∷ []) (js ++ j ∷ [])
one_judged march items js j h right =
    let more = one_behind item_of (IsJudged march) items js j h.each h.in_order right in
    record { each = more.0; in_order = more.1 }

-- how many items are of a class, counted among the judged ones
pub class_size_of : (c : ItemClass) (js : List JudgedItem) → count_by (λ j. is_in_class c (item_of j)) js ≡ class_size c (map item_of js)
class_size_of c = size_of item_of (is_in_class c)

line : (march : List MarchElement) (j : JudgedItem) → IsJudged march j → IsLine march (item_of j) (judged_line (length march) j)
line march (JudgedItem.Plain p Verdict.Covered) h = inl (h, refl)
line march (JudgedItem.Plain p (Verdict.Escape e)) h = inr (h.2, _, (e, h.0, h.1, refl), refl)
line march (JudgedItem.Dyn p DynVerdict.Covered) h = inl (h, refl)
line march (JudgedItem.Dyn p (DynVerdict.Escape e)) h = inr (h.2, _, (e, h.0, h.1, refl), refl)

-- the line of a class, as it is written
abbrev line_of : List JudgedItem → ItemClass → List ℕ
line_of js c = class_line c (class_size c (map item_of js)) (class_covered c js)

class_is : (march : List MarchElement) (js : List JudgedItem) → AllByRecursion (IsJudged march) js → (c : ItemClass) → IsClassLine march (map item_of js) c (line_of js c)
class_is march js h c = (class_covered c js, class_counted march c js h, refl)

pub report_is : (march : List MarchElement) (memory : Option Description) (js : List JudgedItem) → AllByRecursion (IsJudged march) js
    → IsMixedReport (report_text march memory js) march memory (map item_of js)
report_is march memory js h = record {
  lines = judged_lines (length march) js;
  classes = class_lines class_order js;
  covered = covered_count js;
  are_lines = lines_of (IsLine march) item_of (judged_line (length march)) (IsJudged march) (line march) js h;
  are_classes = plain_lines (IsClassLine march (map item_of js)) (line_of js) (class_is march js h) class_order;
  detects = all_counted march js h;
  is = ap (λ n. march_line march ++ memory_line march memory ++ judged_lines (length march) js ++ class_lines class_order js ++ total_line n (covered_count js)) (sym (length-map js item_of));
}

-- the same of what the code wrote
pub report_of : (march : List MarchElement) (memory : Option Description) (js : List JudgedItem) (text : List ℕ) → text ≡ report_text march memory js
    → AllByRecursion (IsJudged march) js → IsMixedReport text march memory (map item_of js)
report_of march memory js text is right = subst (λ bytes. IsMixedReport bytes march memory (map item_of js)) (sym is) (report_is march memory js right)
