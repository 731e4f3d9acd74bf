-- What the verdicts tell of the list.
use Rattle.bist_app.proofs.Common.{◌≡◌, ℕ, Bool, nat_lt, List, length, map, ap, sym, subst, ◌∙◌, Option, MarchElement, Description, Item, AllByRecursion, length-map, IsMixedReport, DetectsOf, total_line}
use Rattle.report.specs.declared.judged.JudgedItem.{JudgedItem}
use Rattle.report.specs.Items.{DetectsItem, IsJudged, AreJudged, item_of, is_covered, covered_count}
use Rattle.report_lines.proofs.Listed.{some_lacks}
use Rattle.report.proofs.Counts.{tells, all_counted}
use Rattle.bist_app.specs.Reported.{SomeEscapes, Reports}

-- some item escapes exactly where fewer are covered than there are
some_escape : (march : List MarchElement) (js : List JudgedItem) → AllByRecursion (IsJudged march) js
    → SomeEscapes march (map item_of js) (nat_lt (covered_count js) (length js))
some_escape march = some_lacks (DetectsItem march) item_of is_covered (IsJudged march) (tells march)

-- what was written and said of rightly judged items
pub reports_of : (march : List MarchElement) (memory : Option Description) (js : List JudgedItem) (items : List Item) (found : Bool) (bytes line : List ℕ)
    → found ≡ nat_lt (covered_count js) (length js) → (AllByRecursion (IsJudged march) js → IsMixedReport bytes march memory (map item_of js))
    → line ≡ total_line (length js) (covered_count js) → AreJudged march items js → Reports march memory items found bytes line
reports_of march memory js items found bytes line is_found report is_line h =
    subst (λ l. Reports march memory l found bytes line) h.in_order record {
      found = subst (SomeEscapes march (map item_of js)) (sym is_found) (some_escape march js h.each);
      report = report h.each;
      covered = covered_count js;
      detects = all_counted march js h.each;
      last = is_line ∙ ap (λ n. total_line n (covered_count js)) (sym (length-map js item_of));
    }

-- and how many items are detected
pub covered_of : (march : List MarchElement) (js : List JudgedItem) (items : List Item) (covered : ℕ) → covered ≡ covered_count js → AreJudged march items js
    → DetectsOf march items covered
covered_of march js items covered is h =
    subst (λ (l : List Item). DetectsOf march l covered) h.in_order (subst (DetectsOf march (map item_of js)) (sym is) (all_counted march js h.each))
