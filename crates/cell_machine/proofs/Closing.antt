-- A closed pair stays closed.
use Rattle.std.proofs.Common.{◌≡◌, ◌≢◌, Bool, true, false, not, ◌&&◌, Option, Some, None, is_some, refl, ap}
use Rattle.std.specs.Prelude.{if◌then◌else◌}
use Rattle.std.proofs.lemmas.Bool.{not-true, or_parts}
use Rattle.fault_core.specs.Primitive.{Primitive, IsPrimitive, same_bit, agg_has_act}
use Rattle.fault_core.specs.Cells.{has_act}
use Rattle.cell_machine.specs.declared.pair.Pair.{Pair}
use Rattle.cell_machine.specs.Pairs.{side_holds, pair_holds, with_victim, pair_close}
use Rattle.cell_machine.specs.inner.Pairs.{IsClosed}

-- a write that ends its own condition is not done a second time
pub spent : {X : Type 0} (t : Bool) (holds : X → Bool) (before after : X) → (t ≡ true → holds after ≡ false)
    → (t && holds (if t && holds before then after else before)) ≡ false
spent false holds before after h = refl
spent true holds before after h = at (holds before) refl
  where
    at : (b : Bool) → holds before ≡ b → holds (if b then after else before) ≡ false
    at true e = h refl
    at false e = e

pub differs : (a b : Bool) → a ≢ b → same_bit a b ≡ false
differs true true h = absurd (h refl)
differs true false h = refl
differs false true h = refl
differs false false h = absurd (h refl)

none_here : {X : Type 0} (o : Option X) → is_some o ≡ false → o ≡ None
none_here None e = refl
none_here (Some x) e = cc

-- a primitive without an act leaves its victim in another state than the one it asks for
pub left_state : (p : Primitive) → IsPrimitive p → not (has_act p) ≡ true → same_bit p.after p.vic.state ≡ false
left_state p is idle =
    let both = or_parts (is_some p.vic.act) (agg_has_act p.agg) (not-true _ idle) in
    differs p.after p.vic.state (is.wrong_state (none_here p.vic.act both.0))

-- closing a pair twice is closing it once
pub pair_close-closed : (p : Primitive) (pair : Pair) → IsPrimitive p → IsClosed p (pair_close p pair)
unfolding pair_close
pair_close-closed p pair is =
    let once : Pair = if not (has_act p) && pair_holds p pair then with_victim pair p.after else pair in
    let over : (not (has_act p) && pair_holds p once) ≡ false =
    spent (not (has_act p)) (pair_holds p) pair (with_victim pair p.after)
    (λ idle. ap (λ b. b && side_holds p.agg pair.a) (left_state p is idle)) in
    ap (λ b. if b then with_victim once p.after else once) over
