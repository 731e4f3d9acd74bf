-- What is known of `linked`.
use Rattle.bist_app.proofs.Common.{ℕ, Bool, List, ap, sym, subst, ◌∙◌, [], ◌∷◌, ◌≡◌, leaves_conclude, then_concludes, found_status, Answer, Done, Written, march_settles, InputMarch, MarchElement}
use Rattle.linked_faults.specs.declared.link.Link.{Link}
use Rattle.linked_faults.specs.Detection.{Detects}
use Rattle.linked_faults.proofs.Choosing.{links_one}
use Rattle.report_lines.specs.Listed.{ReportsOf}
use Rattle.linked_report.specs.Report.{IsLinkedReport, ReportsLinks}
use Rattle.linked_report.proofs.OneReport.{text_one}
use Rattle.bist_app.proofs.Facts.{Facts, files_facts}
use Rattle.bist_app.proofs.OneReported.{reports_one}
use Rattle.bist_app.specs.Linked.{DecidesLinked, IsLinkedDone, LeavesLinked, linked_form, linked_row}

-- one line and one status
answer_one : (march : List MarchElement) (b c : Bool) (bytes other line said : List ℕ) → ReportsLinks march b bytes line → ReportsLinks march c other said
    → (let a : Answer = record { status = found_status b; line = line } in a) ≡ record { status = found_status c; line = said }
answer_one march b c bytes other line said h i =
    let is_report : List ℕ → Type 0 = λ text. IsLinkedReport text march in
    let here : ReportsOf is_report (Detects march) i.links b bytes line =
    subst (λ (l : List Link). ReportsOf is_report (Detects march) l b bytes line) (links_one h.links i.links h.are_links i.are_links) h.reports in
    reports_one is_report (Detects march) i.links b c bytes other line said here i.reports

files_one : (march : List MarchElement) (d e : Done) → IsLinkedDone march d → IsLinkedDone march e → d.outputs ≡ e.outputs
files_one march d e f g =
    f.outputs ∙ ap (λ b. (let w : List Written = (record { position = 2; bytes = b }) ∷ [] in w)) (text_one march f.bytes g.bytes f.reports.reports.report g.reports.reports.report) ∙ sym g.outputs

pub linked_facts : Facts linked_row
unfolding LeavesLinked
linked_facts = files_facts linked_form DecidesLinked (λ outputs. outputs) (λ files words.
    then_concludes (InputMarch files words 1) _ (march_settles files words 1) (λ march _.
    leaves_conclude (IsLinkedDone march) (λ told tells d e f g. answer_one march d.found e.found f.bytes g.bytes d.line e.line f.reports g.reports)
    (λ told. files_one march)))
