-- A report has one text.
use Rattle.std.proofs.Common.{◌≡◌, ◌≢◌, ◌+◌, ◌*◌, ◌<◌, ◌++◌, inl, inr, ℕ, List, length, codes, decimal, sym, ◌∙◌, arith}
use Rattle.march_core.specs.March.{MarchElement}
use Rattle.escape_array.specs.Escapes.{content_number}
use Rattle.escape_array.proofs.LeastArray.{same_content}
use Rattle.decoder_faults.specs.declared.fault.DecoderFault.{DecoderFault}
use Rattle.decoder_faults.specs.declared.escape.DecoderEscape.{DecoderEscape}
use Rattle.decoder_faults.specs.Detection.{DetectsDecoder}
use Rattle.decoder_faults.specs.Escapes.{array_number, IsNoGreater, IsEscape}
use Rattle.escape_array.proofs.LeastArray.{content_below}
use Rattle.report_lines.specs.Lines.{march_line, total_line, passing_text}
use Rattle.report_lines.proofs.Listed.{counts_one, line_one, lines_one}
use Rattle.decoder_report.specs.Report.{fault_order, fault_text, escape_text, IsEscapeText, IsLine, IsDecoderReport}

-- neither of two is greater
both_least : (e f : DecoderEscape) → IsNoGreater e f → IsNoGreater f e → (array_number e ≡ array_number f) × (e.directions ≡ f.directions)
both_least e f (inl h) (inl i) = absurd (omega (arith, h, i))
both_least e f (inl h) (inr (i, k)) = absurd (omega (arith, h, i))
both_least e f (inr (h, k)) (inl i) = absurd (omega (arith, h, i))
both_least e f (inr (h, k)) (inr (i, l)) = (h, omega (arith, k, l))

same_x : (x z a b : ℕ) → a < 4 → b < 4 → 4 * x + a ≡ 4 * z + b → x ≡ z
same_x x z a b ha hb h = omega (arith, ha, hb, h)

same_rest : (x z a b : ℕ) → a < 4 → b < 4 → 4 * x + a ≡ 4 * z + b → a ≡ b
same_rest x z a b ha hb h = omega (arith, ha, hb, h)

-- of two addresses below 2 the one is known from the other
other_one : (x y z w : ℕ) → x < 2 → y < 2 → x ≢ y → z < 2 → w < 2 → z ≢ w → x ≡ z → y ≡ w
other_one x y z w hx hy ne hz hw nf h = omega (arith, hx, hy, ne, hz, hw, nf, h)

least_one : (march : List MarchElement) (e f : DecoderEscape) → IsEscape march e → IsEscape march f → IsNoGreater e f → IsNoGreater f e
    → escape_text (length march) e ≡ escape_text (length march) f
least_one march e f is it below above =
    let same = both_least e f below above in
    let few = content_below e.content is.array.each_cell in
    let fewer = content_below f.content it.array.each_cell in
    let x : e.x ≡ f.x = same_x e.x f.x (content_number e.content) (content_number f.content) few fewer same.0 in
    let y : e.y ≡ f.y =
    other_one e.x e.y f.x f.y is.array.addresses.x_within is.array.addresses.y_within is.array.addresses.apart
    it.array.addresses.x_within it.array.addresses.y_within it.array.addresses.apart x in
    let content : e.content ≡ f.content =
    same_content e.content f.content is.array.each_cell it.array.each_cell
    (same_rest e.x f.x (content_number e.content) (content_number f.content) few fewer same.0) in
    λ j. (codes " x " ++ decimal (x j) ++ codes " y " ++ decimal (y j)) ++ passing_text (length march) (content j) (same.1 j)

escape_one : (march : List MarchElement) (fault : DecoderFault) (s t : List ℕ) → IsEscapeText march fault s → IsEscapeText march fault t → s ≡ t
escape_one march fault s t (e, a, x, is) (f, b, y, it) =
    is ∙ least_one march e f x.escape y.escape (x.least f (b ∙ sym a) y.escape) (y.least e (a ∙ sym b) x.escape) ∙ sym it

one_line : (march : List MarchElement) (fault : DecoderFault) (s t : List ℕ) → IsLine march fault s → IsLine march fault t → s ≡ t
one_line march fault = line_one (fault_text fault) (DetectsDecoder march fault) (IsEscapeText march fault) (escape_one march fault)

pub text_one : (march : List MarchElement) (text other : List ℕ) → IsDecoderReport text march → IsDecoderReport other march → text ≡ other
text_one march text other r q =
    let lines = lines_one (IsLine march) (one_line march) fault_order r.lines q.lines r.are_lines q.are_lines in
    let covered = counts_one (DetectsDecoder march) fault_order r.covered q.covered r.detects q.detects in
    r.is ∙ (λ j. march_line march ++ lines j ++ total_line 6 (covered j)) ∙ sym q.is
