-- Inner. For proofs and private contracts alone: where a march leads in each background, what passes by that, and the verdict of one reading.
use Rattle.std.specs.Prelude.{◌≡◌, ◌≢◌, ◌<◌, ◌≤◌, ◌⊎◌, ℕ, Bool, true, if◌then◌else◌, Option, Some, None, is_some, List, [], ◌∷◌}
use Rattle.fault_core.specs.Primitive.{Primitive}
use Rattle.cell_machine.specs.declared.pair.Pair.{Pair}
use Rattle.cell_machine.specs.Pairs.{pair_close}
use Rattle.march_core.specs.March.{MarchElement}
use Rattle.memory_desc.specs.Descriptions.{Description}
use Rattle.word_coupling.specs.declared.reading.Reading.{Reading}
use Rattle.word_coupling.specs.declared.reading.Readings.TheVariants.{BeforeAlone, BehindAlone, Both}
use Rattle.word_coupling.specs.declared.judging.WordEscape.{WordEscape}
use Rattle.word_coupling.specs.declared.judging.FoundEscape.{FoundEscape}
use Rattle.word_coupling.specs.declared.ends.Ends.{Ends}
use Rattle.word_coupling.specs.declared.ends.EndTable.{EndTable}
use Rattle.word_coupling.specs.inner.Couples.{bits_at, behind, run_march}
use Rattle.word_coupling.specs.Words.{DetectsBy}
use Rattle.word_coupling.specs.Escapes.{content_number, IsLeastWordEscape}

-- ---- where a march leads

abbrev pub end_from : Ends → Pair → Option Pair
end_from ends pair = if pair.a then (if pair.v then ends.from_11 else ends.from_10) else (if pair.v then ends.from_01 else ends.from_00)

abbrev pub AreEnds : Reading → Primitive → Pair → List MarchElement → Ends → Type 0
AreEnds r p background march ends = (pair : Pair) → end_from ends pair ≡ run_march r p background march pair

abbrev pub ends_in : EndTable → Pair → Ends
ends_in table background =
    if background.a then (if background.v then table.in_11 else table.in_10) else (if background.v then table.in_01 else table.in_00)

abbrev pub end_in : EndTable → Pair → Pair → Option Pair
end_in table background pair = end_from (ends_in table background) pair

abbrev pub IsTable : Reading → Primitive → List MarchElement → EndTable → Type 0
IsTable r p march table = (background pair : Pair) → end_in table background pair ≡ run_march r p background march pair

-- ---- what passes, where the march in a background is such a function

abbrev pub run_by : (Pair → Pair → Option Pair) → ℕ → ℕ → List ℕ → Pair → Option Pair
run_by run agg vic [] pair = Some pair
run_by run agg vic (b ∷ bs) pair = behind (run (bits_at agg vic b) pair) (run_by run agg vic bs)

unfoldable pub passes_by : (Pair → Pair → Option Pair) → Primitive → List ℕ → ℕ → ℕ → Pair → Bool
passes_by run p backgrounds agg vic content = is_some (run_by run agg vic backgrounds (pair_close p content))

pub record PassesBy (run : Pair → Pair → Option Pair) (p : Primitive) (bits : ℕ) (backgrounds : List ℕ) (e : WordEscape) : Type 0 where
  pub agg_within : e.agg < bits
  pub vic_within : e.vic < bits
  pub apart : e.agg ≢ e.vic
  pub passes : passes_by run p backgrounds e.agg e.vic e.content ≡ true

-- the least content that passes at two bits
pub record IsLeastContent (run : Pair → Pair → Option Pair) (p : Primitive) (backgrounds : List ℕ) (agg vic : ℕ)
    (content : Pair) : Type 0 where
  pub passes : passes_by run p backgrounds agg vic content ≡ true
  pub least : (c : Pair) → passes_by run p backgrounds agg vic c ≡ true → content_number content ≤ content_number c

-- what passes at two bits, and the least of it
abbrev pub NoneAt : (Pair → Pair → Option Pair) → Primitive → ℕ → List ℕ → ℕ → ℕ → Type 0
NoneAt run p bits backgrounds agg vic = (f : WordEscape) → PassesBy run p bits backgrounds f → f.vic ≡ vic → f.agg ≡ agg → ⊥

pub record IsLeastAt (run : Pair → Pair → Option Pair) (p : Primitive) (bits : ℕ) (backgrounds : List ℕ) (agg vic : ℕ)
    (e : WordEscape) : Type 0 where
  pub passes : PassesBy run p bits backgrounds e
  pub vic_is : e.vic ≡ vic
  pub agg_is : e.agg ≡ agg
  pub least : (f : WordEscape) → PassesBy run p bits backgrounds f → f.vic ≡ vic → f.agg ≡ agg
      → content_number e.content ≤ content_number f.content

-- what passes beside a victim's bit, and the least of it
abbrev pub NoneBeside : (Pair → Pair → Option Pair) → Primitive → ℕ → List ℕ → ℕ → Type 0
NoneBeside run p bits backgrounds vic = (f : WordEscape) → PassesBy run p bits backgrounds f → f.vic ≡ vic → ⊥

abbrev pub IsNoGreaterBeside : WordEscape → WordEscape → Type 0
IsNoGreaterBeside e f = (e.agg < f.agg) ⊎ ((e.agg ≡ f.agg) × (content_number e.content ≤ content_number f.content))

pub record IsLeastBeside (run : Pair → Pair → Option Pair) (p : Primitive) (bits : ℕ) (backgrounds : List ℕ) (vic : ℕ)
    (e : WordEscape) : Type 0 where
  pub passes : PassesBy run p bits backgrounds e
  pub vic_is : e.vic ≡ vic
  pub least : (f : WordEscape) → PassesBy run p bits backgrounds f → f.vic ≡ vic → IsNoGreaterBeside e f

-- ---- what is found by the verdicts of both readings

-- in one reading: nothing exactly where the test catches the primitive at every two bits of every word; else the least escape
abbrev pub IsVerdictBy : Reading → List MarchElement → Description → Primitive → Option WordEscape → Type 0
IsVerdictBy reading march d p None = DetectsBy reading march d p
IsVerdictBy reading march d p (Some e) = IsLeastWordEscape reading march d p e × (DetectsBy reading march d p → ⊥)

abbrev pub found_of : Option WordEscape → Option WordEscape → Option FoundEscape
found_of None None = None
found_of None (Some behind) = Some (record { readings = BehindAlone; at = behind })
found_of (Some before) None = Some (record { readings = BeforeAlone; at = before })
found_of (Some before) (Some behind) = Some (record { readings = Both; at = before })
