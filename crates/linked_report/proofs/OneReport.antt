-- A report on linked faults has one text.
use Rattle.std.proofs.Common.{◌≡◌, ◌++◌, inl, inr, ℕ, List, length, sym, ◌∙◌, ap, subst, arith}
use Rattle.march_core.specs.March.{MarchElement}
use Rattle.linked_faults.specs.declared.link.Link.{Link}
use Rattle.linked_faults.specs.declared.table.LinkKind.{LinkKind}
use Rattle.linked_faults.specs.declared.escape.LinkEscape.{LinkEscape}
use Rattle.linked_faults.specs.Detection.{Detects}
use Rattle.linked_faults.specs.Escapes.{IsNoGreater, array_number}
use Rattle.linked_faults.specs.Devices.{AreDevices}
use Rattle.linked_faults.proofs.Choosing.{links_one}
use Rattle.linked_faults.proofs.Orders.{devices_one}
use Rattle.linked_faults.proofs.Numbers.{same_array}
use Rattle.report_lines.specs.Lines.{march_line, total_line}
use Rattle.report_lines.specs.Listed.{CountsOf, AreLinesOf}
use Rattle.report_lines.proofs.Listed.{counts_one, line_one as verdict_line_one, lines_one}
use Rattle.linked_report.specs.Report.{link_text, escape_text, IsEscapeText, kind_line, kind_size, kind_order, devices_line, IsLinkLine, IsKindLine, IsLinkedReport}
use Rattle.linked_report.specs.OneText.{OneLinkedText}

-- neither of two is greater
both_least : (e f : LinkEscape) → IsNoGreater e f → IsNoGreater f e → (array_number e ≡ array_number f) × (e.directions ≡ f.directions)
both_least e f (inl h) (inl i) = absurd (omega (arith, h, i))
both_least e f (inl h) (inr (i, k)) = absurd (omega (arith, h, i))
both_least e f (inr (h, k)) (inl i) = absurd (omega (arith, h, i))
both_least e f (inr (h, k)) (inr (i, l)) = (h, omega (arith, k, l))

escape_one : (march : List MarchElement) (link : Link) (s t : List ℕ) → IsEscapeText march link s → IsEscapeText march link t → s ≡ t
escape_one march link s t (e, a, x, is) (f, b, y, it) =
    let same : e.link ≡ f.link = a ∙ sym b in
    let both = both_least e f (x.least f (sym same) y.escape) (y.least e same x.escape) in
    let array = same_array e f same x.escape.array.spots y.escape.array.spots both.0 in
    is ∙ (λ i. escape_text (length march) (record { link = same i; spots = array.0 i; content = array.1 i; directions = both.1 i })) ∙ sym it

line_one : (march : List MarchElement) (link : Link) (s t : List ℕ) → IsLinkLine march link s → IsLinkLine march link t → s ≡ t
line_one march link s t f g = verdict_line_one (link_text link) (Detects march link) (IsEscapeText march link) (escape_one march link) s t f g

kind_one : (march : List MarchElement) (links : List Link) (kind : LinkKind) (s t : List ℕ) → IsKindLine march links kind s → IsKindLine march links kind t → s ≡ t
kind_one march links kind s t (m, f, is) (n, g, it) = is ∙ ap (kind_line kind (kind_size kind links)) (counts_one (Detects march) _ m n f g) ∙ sym it

-- what is said of links
abbrev Said : List MarchElement → List ℕ → List Link → Type 0
Said march text links =
    (lines : List ℕ) × (kinds : List ℕ) × (covered : ℕ) × (devices : List Link) × (few : ℕ) × AreLinesOf (IsLinkLine march) links lines
    × AreLinesOf (IsKindLine march links) kind_order kinds × CountsOf (Detects march) links covered × AreDevices links devices
    × CountsOf (Detects march) devices few
    × (text ≡ march_line march ++ lines ++ kinds ++ devices_line (length devices) few ++ total_line (length links) covered)

same_links : (march : List MarchElement) (text : List ℕ) (links : List Link) (r : IsLinkedReport text march) → r.links ≡ links → Said march text links
same_links march text links r same =
    subst (Said march text) same
    (r.lines, r.kinds, r.covered, r.devices, r.devices_covered, r.are_lines, r.are_kinds, r.detects, r.are_devices, r.devices_detects, r.is)

pub text_one : OneLinkedText
text_one march text other r q =
    let links = q.links in
    let (ls, ks, n, ds, m, are, kinds, detects, once, few, is) = same_links march text links r (links_one r.links q.links r.are_links q.are_links) in
    let lines = lines_one (IsLinkLine march) (line_one march) links ls q.lines are q.are_lines in
    let kind = lines_one (IsKindLine march links) (kind_one march links) kind_order ks q.kinds kinds q.are_kinds in
    let covered = counts_one (Detects march) links n q.covered detects q.detects in
    let devices : ds ≡ q.devices = devices_one links ds q.devices once q.are_devices in
    let fewer : m ≡ q.devices_covered =
    counts_one (Detects march) q.devices m q.devices_covered (subst (λ l. CountsOf (Detects march) l m) devices few) q.devices_detects in
    is ∙ (λ i. march_line march ++ lines i ++ kind i ++ devices_line (length (devices i)) (fewer i) ++ total_line (length links) (covered i)) ∙ sym q.is
