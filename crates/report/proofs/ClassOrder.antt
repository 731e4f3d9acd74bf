-- The numbers of the classes are their places in the order of the report.
use Rattle.std.proofs.Common.{◌≡◌, ◌↔◌, ◌+◌, ℕ, zero, suc, Some, List, [], ◌∷◌, refl, ap, sym, ◌∙◌, arith}
use Rattle.std.specs.Prelude.{slice_get}
use Rattle.fault_core.specs.declared.table.Class.TheVariants.{SF, TF, WDF, RDF, DRDF, IRF, CFst, CFds, CFtr, CFwd, CFrd, CFdr, CFir, DRF}
use Rattle.report.specs.declared.class_lines.ItemClass.{ItemClass}
use Rattle.report.specs.declared.class_lines.ItemClass.TheVariants.{Static, DynOne, DynTwo}
use Rattle.report.specs.Report.{class_order, class_number}

at_its_number : (c : ItemClass) → slice_get class_order (class_number c) ≡ Some c
at_its_number (Static SF) = refl
at_its_number (Static TF) = refl
at_its_number (Static WDF) = refl
at_its_number (Static RDF) = refl
at_its_number (Static DRDF) = refl
at_its_number (Static IRF) = refl
at_its_number (Static CFst) = refl
at_its_number (Static CFds) = refl
at_its_number (Static CFtr) = refl
at_its_number (Static CFwd) = refl
at_its_number (Static CFrd) = refl
at_its_number (Static CFdr) = refl
at_its_number (Static CFir) = refl
at_its_number (Static DRF) = refl
at_its_number DynOne = refl
at_its_number DynTwo = refl

-- the classes are numbered from k on
abbrev AreNumbered : ℕ → List ItemClass → Type 0
AreNumbered k [] = Unit {0}
AreNumbered k (c ∷ cs) = (class_number c ≡ k) × AreNumbered (suc k) cs

numbered : (k : ℕ) (cs : List ItemClass) → AreNumbered k cs → (i : ℕ) (c : ItemClass) → slice_get cs i ≡ Some c → class_number c ≡ i + k
numbered k [] all i c e = cc
numbered k (x ∷ cs) all zero c e =
    let same : x ≡ c = cc in
    let here : class_number c ≡ k = ap class_number (sym same) ∙ all.0 in
    omega (arith, here)
numbered k (x ∷ cs) all (suc i) c e =
    let rest : class_number c ≡ i + suc k = numbered (suc k) cs all.1 i c e in
    omega (arith, rest)

in_order : AreNumbered 0 class_order
in_order = (refl, (refl, (refl, (refl, (refl, (refl, (refl, (refl, (refl, (refl, (refl, (refl, (refl, (refl, (refl, (refl, tt))))))))))))))))

pub one_place : (c : ItemClass) (i : ℕ) → (slice_get class_order i ≡ Some c) ↔ (i ≡ class_number c)
one_place c i = (
  λ there. omega (arith, numbered 0 class_order in_order i c there),
  λ is. ap (slice_get class_order) is ∙ at_its_number c,
)
