-- The two cells that an instance is seen by.
use Rattle.std.specs.Prelude.{if◌then◌else◌}
use Rattle.std.proofs.Common.{◌≡◌, ◌≢◌, ◌<◌, ℕ, false, Option, Some, None, is_some, refl, ap, sym, subst, arith}
use Rattle.fault_core.specs.declared.cells.Places.{Places}
use Rattle.fault_core.specs.declared.primitive.Sense.{Sense}
use Rattle.fault_core.specs.Primitive.{Primitive, has_aggressor}
use Rattle.fault_core.specs.Cells.{FitsPlace, FitsAgg}
use Rattle.cell_machine.specs.inner.Seen.{SeesPair}

-- an instance with an aggressor is about its two cells
sees_aggressor : (p : Primitive) (at : Places) (a size : ℕ) → FitsPlace p at size → at.agg ≡ Some a → SeesPair p at a size
sees_aggressor p at a size fits e =
    let told = from p.agg at.agg fits.aggressor e in
    record { aggressor = told.0; apart = told.1; victim = fits.victim }
  where
    from : (agg : Option Sense) (place : Option ℕ) → FitsAgg agg place at.vic size → place ≡ Some a
        → (place ≡ (if is_some agg then Some a else None)) × (a ≢ at.vic) × (a < size)
    from None None f e = cc
    from None (Some x) f e = absurd f
    from (Some sense) None f e = absurd f
    from (Some sense) (Some x) f e =
        let same : x ≡ a = cc in (e, subst (λ n. n ≢ at.vic) same f.1, subst (λ n. n < size) same f.0)

-- an instance without an aggressor is about its victim and any other cell
sees_bystander : (p : Primitive) (at : Places) (a size : ℕ) → FitsPlace p at size → has_aggressor p ≡ false → a ≢ at.vic
    → SeesPair p at a size
sees_bystander p at a size fits alone apart =
    record { aggressor = no_place p.agg at.agg fits.aggressor alone; apart = apart; victim = fits.victim }
  where
    no_place : (agg : Option Sense) (place : Option ℕ) → FitsAgg agg place at.vic size → is_some agg ≡ false → place ≡ (if is_some agg then Some a else None)
    no_place None None f e = refl
    no_place None (Some x) f e = absurd f
    no_place (Some sense) place f e = cc

-- the cell seen beside the victim: the aggressor's, or none of the array where there is no aggressor
abbrev pub beside_of : Option ℕ → ℕ → ℕ
beside_of None n = n
beside_of (Some a) n = a

-- an instance with its own two cells, or with its victim and a cell past the array
pub sees_itself : (p : Primitive) (at : Places) (n : ℕ) → FitsPlace p at n → SeesPair p at (beside_of at.agg n) n
sees_itself p at n fits = go at.agg p.agg refl refl fits.aggressor
  where
    go : (place : Option ℕ) (agg : Option Sense) → at.agg ≡ place → p.agg ≡ agg → FitsAgg agg place at.vic n → SeesPair p at (beside_of at.agg n) n
    go None None e f h =
        let past : n ≢ at.vic = let within : at.vic < n = fits.victim in omega arith in
        subst (λ x. SeesPair p at (beside_of x n) n) (sym e) (sees_bystander p at n n fits (ap is_some f) past)
    go None (Some sense) e f h = absurd h
    go (Some a) None e f h = absurd h
    go (Some a) (Some sense) e f h = subst (λ x. SeesPair p at (beside_of x n) n) (sym e) (sees_aggressor p at a n fits e)
