-- The report of rightly judged links is the report of what the march detects.
use Rattle.std.proofs.Common.{◌≡◌, ◌++◌, ◌&&◌, inl, inr, ℕ, Bool, nat_lt, List, [], Option, Some, None, length, map, refl, ap, sym, subst, ◌∙◌}
use Rattle.std.specs.List.{flat_map, AllByRecursion}
use Rattle.std.specs.Prelude.{count_by}
use Rattle.std.proofs.lemmas.List.{length-map}
use Rattle.march_core.specs.March.{MarchElement}
use Rattle.linked_faults.specs.declared.link.Link.{Link}
use Rattle.linked_faults.specs.declared.table.LinkKind.{LinkKind}
use Rattle.linked_faults.specs.declared.escape.LinkEscape.{LinkEscape}
use Rattle.linked_faults.specs.Kinds.{AreLinks}
use Rattle.linked_faults.specs.Detection.{Detects}
use Rattle.linked_faults.specs.Escapes.{IsVerdict}
use Rattle.report_lines.specs.Lines.{march_line, total_line}
use Rattle.report_lines.specs.Listed.{SomeLacks}
use Rattle.report_lines.proofs.Listed.{Tells, counted, counted_among, some_lacks, lines_of, plain_lines, size_of}
use Rattle.linked_report.specs.declared.judged.JudgedLink.{JudgedLink}
use Rattle.linked_report.specs.Links.{IsJudgedLink, AreJudgedLinks, is_none, is_link_covered}
use Rattle.linked_report.specs.Report.{kind_order, is_of_kind, kind_line, devices_line, IsLinkLine, IsKindLine, IsLinkedReport, ReportsLinks}
use Rattle.linked_report.proofs.Once.{are_devices, all_devices}
use Rattle.linked_report.specs.inner.Counted.{counted_line, devices_of, line_by, judged_link_line, linked_text}

abbrev link_of : JudgedLink → Link
link_of j = j.link

tells_of : (march : List MarchElement) (link : Link) (escape : Option LinkEscape) → IsVerdict march link escape → Tells (Detects march) link (is_none escape)
tells_of march link None h = h
tells_of march link (Some e) h = h.2

tells : (march : List MarchElement) (j : JudgedLink) → IsJudgedLink march j → Tells (Detects march) (link_of j) (is_link_covered j)
tells march j h = tells_of march j.link j.escape h

line_of : (march : List MarchElement) (link : Link) (escape : Option LinkEscape) → IsVerdict march link escape → IsLinkLine march link (line_by (length march) link escape)
line_of march link None h = inl (h, refl)
line_of march link (Some e) h = inr (h.2, _, (e, h.0, h.1, refl), refl)

kind_is : (march : List MarchElement) (js : List JudgedLink) → AllByRecursion (IsJudgedLink march) js → (kind : LinkKind)
    → IsKindLine march (map link_of js) kind (counted_line js kind)
kind_is march js h kind = (
  _,
  counted_among (Detects march) link_of is_link_covered (IsJudgedLink march) (tells march) (is_of_kind kind) js h,
  ap (λ n. kind_line kind n (count_by (λ (j : JudgedLink). is_of_kind kind j.link && is_link_covered j) js)) (size_of link_of (is_of_kind kind) js),
)

report_is : (march : List MarchElement) (js : List JudgedLink) → AllByRecursion (IsJudgedLink march) js → AreLinks (map link_of js) → IsLinkedReport (linked_text march js) march
report_is march js h are = record {
  links = map link_of js;
  are_links = are;
  lines = flat_map (judged_link_line (length march)) js;
  kinds = flat_map (counted_line js) kind_order;
  covered = count_by is_link_covered js;
  are_lines = lines_of (IsLinkLine march) link_of (judged_link_line (length march)) (IsJudgedLink march) (λ j right. line_of march j.link j.escape right) js h;
  are_kinds = plain_lines (IsKindLine march (map link_of js)) (counted_line js) (kind_is march js h) kind_order;
  detects = counted (Detects march) link_of is_link_covered (IsJudgedLink march) (tells march) js h;
  devices = map link_of (devices_of js);
  are_devices = are_devices js;
  devices_covered = count_by is_link_covered (devices_of js);
  devices_detects = counted (Detects march) link_of is_link_covered (IsJudgedLink march) (tells march) (devices_of js) (all_devices (IsJudgedLink march) [] js h);
  is =
      (let few = sym (length-map (devices_of js) link_of) in
      let all = sym (length-map js link_of) in
      λ k. march_line march ++ flat_map (judged_link_line (length march)) js ++ flat_map (counted_line js) kind_order
      ++ devices_line (few k) (count_by is_link_covered (devices_of js)) ++ total_line (all k) (count_by is_link_covered js));
}

-- what was written and said of the links
pub reports_of : (march : List MarchElement) (links : List Link) (js : List JudgedLink) (found : Bool) (bytes line : List ℕ) → AreLinks links → AreJudgedLinks march links js
    → found ≡ nat_lt (count_by is_link_covered js) (length js) → bytes ≡ linked_text march js → line ≡ total_line (length js) (count_by is_link_covered js)
    → ReportsLinks march found bytes line
reports_of march links js found bytes line are judged is_found is_bytes is_line =
    let these : AreLinks (map link_of js) = subst AreLinks (sym judged.in_order) are in
    record {
      links = map link_of js;
      are_links = these;
      reports = record {
        found = subst (λ b. SomeLacks (Detects march) (map link_of js) b) (sym is_found)
            (some_lacks (Detects march) link_of is_link_covered (IsJudgedLink march) (tells march) js judged.each);
        report = subst (λ text. IsLinkedReport text march) (sym is_bytes) (report_is march js judged.each these);
        covered = count_by is_link_covered js;
        detects = counted (Detects march) link_of is_link_covered (IsJudgedLink march) (tells march) js judged.each;
        last = is_line ∙ ap (λ n. total_line n (count_by is_link_covered js)) (sym (length-map js link_of));
      };
    }
