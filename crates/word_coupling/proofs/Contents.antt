-- A table has each of four backgrounds, and numbers tell contents.
use Rattle.std.proofs.Common.{◌≡◌, ◌<◌, ◌+◌, ℕ, Bool, true, false, Option, List, refl, ap, ◌∙◌, inl, inr, arith}
use Rattle.std.specs.Prelude.{if◌then◌else◌}
use Rattle.std.proofs.lemmas.Bool.{cases_lt}
use Rattle.fault_core.specs.Primitive.{Primitive}
use Rattle.cell_machine.specs.declared.pair.Pair.{Pair}
use Rattle.cell_machine.specs.Pairs.{pair_of}
use Rattle.march_core.specs.March.{MarchElement}
use Rattle.word_coupling.specs.declared.reading.Reading.{Reading}
use Rattle.word_coupling.specs.declared.ends.EndTable.{EndTable}
use Rattle.word_coupling.specs.inner.Couples.{run_march}
use Rattle.word_coupling.specs.Escapes.{content_number}
use Rattle.word_coupling.specs.inner.Searching.{end_from, AreEnds, IsTable, passes_by, IsLeastContent}

pub table_is : (r : Reading) (p : Primitive) (march : List MarchElement) (t : EndTable)
    → AreEnds r p (pair_of false false) march t.in_00 → AreEnds r p (pair_of false true) march t.in_01
    → AreEnds r p (pair_of true false) march t.in_10 → AreEnds r p (pair_of true true) march t.in_11 → IsTable r p march t
table_is r p march t e00 e01 e10 e11 background pair = go background.a background.v
  where
    go : (a v : Bool)
        → end_from (if a then (if v then t.in_11 else t.in_10) else (if v then t.in_01 else t.in_00)) pair ≡ run_march r p (pair_of a v) march pair
    go true true = e11 pair
    go true false = e10 pair
    go false true = e01 pair
    go false false = e00 pair

-- ---- contents by their numbers

pub one_content : (c d : Pair) → content_number c ≡ content_number d → c ≡ d
one_content c d = go c.a c.v d.a d.v
  where
    go : (a v b w : Bool) → content_number (pair_of a v) ≡ content_number (pair_of b w) → pair_of a v ≡ pair_of b w
    go true true true true e = refl
    go true true true false e = absurd (omega arith)
    go true true false true e = absurd (omega arith)
    go true true false false e = absurd (omega arith)
    go true false true true e = absurd (omega arith)
    go true false true false e = refl
    go true false false true e = absurd (omega arith)
    go true false false false e = absurd (omega arith)
    go false true true true e = absurd (omega arith)
    go false true true false e = absurd (omega arith)
    go false true false true e = refl
    go false true false false e = absurd (omega arith)
    go false false true true e = absurd (omega arith)
    go false false true false e = absurd (omega arith)
    go false false false true e = absurd (omega arith)
    go false false false false e = refl

pub few_contents : (c : Pair) → content_number c < 4
few_contents c = go c.a c.v
  where
    go : (a v : Bool) → content_number (pair_of a v) < 4
    go true true = omega arith
    go true false = omega arith
    go false true = omega arith
    go false false = omega arith

-- the contents before a number don't pass
abbrev pub NoneBefore : (Pair → Pair → Option Pair) → Primitive → List ℕ → ℕ → ℕ → ℕ → Type 0
NoneBefore run p backgrounds agg vic n = (c : Pair) → content_number c < n → passes_by run p backgrounds agg vic c ≡ false

pub one_more : (run : Pair → Pair → Option Pair) (p : Primitive) (backgrounds : List ℕ) (agg vic n : ℕ) (next : Pair) → content_number next ≡ n
    → passes_by run p backgrounds agg vic next ≡ false → NoneBefore run p backgrounds agg vic n → NoneBefore run p backgrounds agg vic (n + 1)
one_more run p backgrounds agg vic n next is fails before c below =
    elim (cases_lt (content_number c) n) [
      | inl less ↦ before c less
      | inr more ↦
          let number : content_number c ≡ content_number next = omega arith in
          ap (passes_by run p backgrounds agg vic) (one_content c next number) ∙ fails
    ]

pub first_passes : (run : Pair → Pair → Option Pair) (p : Primitive) (backgrounds : List ℕ) (agg vic n : ℕ) (next : Pair) → content_number next ≡ n
    → passes_by run p backgrounds agg vic next ≡ true → NoneBefore run p backgrounds agg vic n → IsLeastContent run p backgrounds agg vic next
first_passes run p backgrounds agg vic n next is passes before =
    record {
      passes = passes;
      least = λ c also.
          elim (cases_lt (content_number c) n) [
            | inl less ↦ let never : passes_by run p backgrounds agg vic c ≡ false = before c less in absurd (cc)
            | inr more ↦ omega arith
          ];
    }
