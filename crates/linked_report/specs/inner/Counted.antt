-- Inner. Only helps proofs: the report of links that were judged.
use Rattle.std.specs.Prelude.{◌++◌, ◌&&◌, ◌||◌, ℕ, Bool, false, if◌then◌else◌, List, [], ◌∷◌, Option, Some, None, length, count_by}
use Rattle.std.specs.List.{flat_map}
use Rattle.march_core.specs.March.{MarchElement}
use Rattle.linked_faults.specs.declared.table.LinkKind.{LinkKind}
use Rattle.linked_faults.specs.declared.link.Link.{Link}
use Rattle.linked_faults.specs.declared.escape.LinkEscape.{LinkEscape}
use Rattle.linked_faults.specs.Devices.{exchanged}
use Rattle.linked_faults.specs.Same.{same_link}
use Rattle.report_lines.specs.Lines.{march_line, total_line}
use Rattle.report_lines.specs.Listed.{covered_line, escape_line}
use Rattle.linked_report.specs.declared.judged.JudgedLink.{JudgedLink}
use Rattle.linked_report.specs.Links.{is_link_covered}
use Rattle.linked_report.specs.Report.{kind_order, is_of_kind, kind_line, devices_line, link_text, escape_text}

-- whether a judged link is of this kind, and covered
abbrev pub is_covered_in : LinkKind → JudgedLink → Bool
is_covered_in kind j = is_of_kind kind j.link && is_link_covered j

abbrev pub kind_covered : LinkKind → List JudgedLink → ℕ
kind_covered kind judged = count_by (is_covered_in kind) judged

-- the line of a kind
abbrev pub counted_line : List JudgedLink → LinkKind → List ℕ
counted_line judged kind = kind_line kind (count_by (λ j. is_of_kind kind j.link) judged) (kind_covered kind judged)

-- ---- each device once

abbrev pub stands_in : List JudgedLink → Link → Bool
stands_in [] link = false
stands_in (j ∷ js) link = same_link j.link link || stands_in js link

-- a link behind these, unless one of them is with its two exchanged
abbrev pub next_device : List JudgedLink → JudgedLink → List JudgedLink
next_device before j = if stands_in before (exchanged j.link) then [] else j ∷ []

abbrev pub devices_behind : List JudgedLink → List JudgedLink → List JudgedLink
devices_behind before [] = []
devices_behind before (j ∷ js) = next_device before j ++ devices_behind (before ++ j ∷ []) js

abbrev pub devices_of : List JudgedLink → List JudgedLink
devices_of judged = devices_behind [] judged

-- ---- the lines

-- the line of a link by its escape, where there is one
abbrev pub line_by : ℕ → Link → Option LinkEscape → List ℕ
line_by size link None = covered_line (link_text link)
line_by size link (Some e) = escape_line (link_text link) (escape_text size e)

-- the line of a judged link under a march with so many elements
abbrev pub judged_link_line : ℕ → JudgedLink → List ℕ
judged_link_line size j = line_by size j.link j.escape

abbrev pub linked_text : List MarchElement → List JudgedLink → List ℕ
linked_text march judged =
    march_line march ++ flat_map (judged_link_line (length march)) judged ++ flat_map (counted_line judged) kind_order
    ++ devices_line (length (devices_of judged)) (count_by is_link_covered (devices_of judged))
    ++ total_line (length judged) (count_by is_link_covered judged)
