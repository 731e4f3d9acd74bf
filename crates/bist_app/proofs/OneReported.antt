-- What is said of judged items is one line and one status alone.
use Rattle.bist_app.proofs.Common.{ℕ, Bool, List, ap, length, sym, ◌∙◌, ◌≡◌, found_status, Answer, total_line}
use Rattle.report_lines.proofs.Listed.{counts_one, lacks_one}
use Rattle.report_lines.specs.Listed.{ReportsOf}

pub reports_one : {X : Type 0} (IsReport : List ℕ → Type 0) (IsDetected : X → Type 0) (items : List X) (b c : Bool) (bytes other line said : List ℕ)
    → ReportsOf IsReport IsDetected items b bytes line → ReportsOf IsReport IsDetected items c other said
    → (let a : Answer = record { status = found_status b; line = line } in a) ≡ record { status = found_status c; line = said }
reports_one IsReport IsDetected items b c bytes other line said h i =
    let status = ap found_status (lacks_one IsDetected items b c h.found i.found) in
    let lines : line ≡ said = h.last ∙ ap (total_line (length items)) (counts_one IsDetected items h.covered i.covered h.detects i.detects) ∙ sym i.last in
    λ j. record { status = status j; line = lines j }
