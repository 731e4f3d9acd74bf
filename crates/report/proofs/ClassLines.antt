-- Texts that grow by the line of a class.
use Rattle.std.proofs.Common.{◌≡◌, ◌+◌, ◌<◌, ℕ, List, [], ◌∷◌, ◌++◌, map, take, get_or, Result, OnOk, zero, suc, ap, ◌∙◌, append-nil, arith}
use Rattle.std.proofs.lemmas.List.{take_more}
use Rattle.std.proofs.lemmas.Grind.{flat_map-append}
use Rattle.std.specs.List.{flat_map}
use Rattle.std.specs.Prelude.{codes, decimal}
use Rattle.fault_core.specs.declared.table.Class.TheVariants.{SF}
use Rattle.report.specs.declared.class_lines.ItemClass.{ItemClass}
use Rattle.report.specs.declared.class_lines.ItemClass.TheVariants.{Static}
use Rattle.report.specs.declared.judged.JudgedItem.{JudgedItem}
use Rattle.report.specs.Items.{item_of}
use Rattle.report.specs.Report.{class_text, class_size, class_covered, class_line, class_lines, class_order}
use Rattle.report_lines.proofs.LinesGrow.{seven_parts}

pub class_line_more : (js : List JudgedItem) (k : ℕ) → k < 16
    → class_lines (take (k + 1) class_order) js
    ≡ class_lines (take k class_order) js
    ++ (let c : ItemClass = get_or class_order k (Static SF) in class_line c (class_size c (map item_of js)) (class_covered c js))
class_line_more js k h =
    let line : ItemClass → List ℕ = λ c. class_line c (class_size c (map item_of js)) (class_covered c js) in
    let last : ItemClass = get_or class_order k (Static SF) in
    ap (λ l. flat_map line l) (take_more class_order k (Static SF) h) ∙ flat_map-append line (take k class_order) (last ∷ [])
    ∙ ap (λ l. flat_map line (take k class_order) ++ l) (append-nil (line last))

-- the line of a class that occurs
pub class_written : {E : Type 0} (result : Result (Unit {0}) E) (class : ItemClass) (count covered : ℕ) (o p q t : List ℕ) → 0 < count → p ≡ o ++ (codes "class " ++ class_text class ++ codes " ")
    → q ≡ p ++ (decimal count ++ codes " covered ") → OnOk result (t ≡ q ++ (decimal covered ++ codes "\n")) → OnOk result (t ≡ o ++ class_line class count covered)
class_written result class zero covered o p q t some ep eq et = absurd (omega (arith, some))
class_written result class (suc n) covered o p q t some ep eq et =
    seven_parts result o (codes "class ") (class_text class) (codes " ") (decimal (suc n)) (codes " covered ") (decimal covered) (codes "\n") p q t ep eq et
