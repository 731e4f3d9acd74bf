-- Between the two cells nothing stays armed: what the operations on one leave armed is for that one alone.
use Rattle.std.proofs.Common.{◌≡◌, Bool, true, false, cond, ◌&&◌, Option, Some, None, List, [], ◌∷◌, refl, ap, sym, ◌∙◌}
use Rattle.fault_core.specs.declared.primitive.Act.{Act}
use Rattle.fault_core.specs.Primitive.{same_bit}
use Rattle.fault_core.specs.Cells.{same_act}
use Rattle.march_core.specs.declared.operation.Op.{Op}
use Rattle.march_core.specs.Operation.{is_wrong_of}
use Rattle.array_sim.specs.Run.{act_of}
use Rattle.cell_machine.specs.declared.pair.Pair.{Pair}
use Rattle.cell_machine.specs.declared.pair.Side.{Side}
use Rattle.cell_machine.specs.declared.pair.Side.TheVariants.{A, V}
use Rattle.cell_machine.specs.Pairs.{bit_on}
use Rattle.dynamic_core.specs.Primitive.{DynamicPrimitive, left_by}
use Rattle.dynamic_prover.specs.declared.own_cells.OwnCells.{OwnCells}
use Rattle.pair_tracker.specs.Few.{ops_run}
use Rattle.dynamic_prover.specs.inner.Own.{OwnActor, own_actor_of, own_holds, same_side, own_matches, own_arms, pair_where, own_where, reply_where, own_step, own_answer, machine_of}
use Rattle.pair_tracker.specs.Few.{passed}

abbrev pub other_side : Side → Side
other_side A = V
other_side V = A

on_one : (o s : Side) → same_side o (other_side s) ≡ true → same_side o s ≡ false
on_one A A e = cc
on_one A V e = refl
on_one V A e = refl
on_one V V e = cc

-- an act on a side that isn't the actor's leaves nothing armed
none_armed : (o : Option OwnActor) (x : OwnActor) (holds : Bool) (after : Pair) (s : Side) (act : Act) → o ≡ Some x → same_side x.on s ≡ false → own_arms o holds after s act ≡ false
none_armed o x holds after s act is off =
    ap (λ p. own_arms p holds after s act) is
    ∙ ap (λ b. (b && same_act act x.acts.first) && (holds && same_bit (bit_on after x.on) (left_by x.state x.acts.first))) off

passes_on : (wrong : Bool) (o : Option OwnCells) (r : OwnCells) → cond wrong None o ≡ Some r → o ≡ Some r
passes_on true o r e = cc
passes_on false o r e = e

left_unarmed : (p : DynamicPrimitive) (x : OwnActor) (s : Side) → own_actor_of p ≡ Some x → same_side x.on s ≡ false
    → (op : Op) (ops : List Op) (q r : OwnCells) → ops_run (machine_of p) q s (op ∷ ops) ≡ Some r → r.armed ≡ false
left_unarmed p x s is off op [] q r e =
    let act : Act = act_of op in
    let next : OwnCells = own_step p q s act in
    let ran : Some next ≡ Some r = passes_on (is_wrong_of op (own_answer p q s act)) (Some next) r e in
    let same : next ≡ r = cc in
    sym (ap (λ (z : OwnCells). z.armed) same)
    ∙ none_armed (own_actor_of p) x (own_holds p q.pair) (pair_where p (own_matches (own_actor_of p) q.armed s act) q.pair s act) s act is off
left_unarmed p x s is off op (op2 ∷ more) q r e =
    let act : Act = act_of op in
    let next : OwnCells = own_step p q s act in
    left_unarmed p x s is off op2 more next r (passes_on (is_wrong_of op (own_answer p q s act)) (ops_run (machine_of p) next s (op2 ∷ more)) r e)

-- a step matches the same with and without what another side left armed
match_crossed : (o : Option OwnActor) (armed : Bool) (t : Side) (act : Act) → ((x : OwnActor) → o ≡ Some x → same_side x.on t ≡ true → armed ≡ false)
    → own_matches o false t act ≡ own_matches o armed t act
match_crossed None armed t act h = refl
match_crossed (Some x) armed t act h = go (same_side x.on t) refl
  where
    off : (b : Bool) → false ≡ (b && false)
    off true = refl
    off false = refl

    go : (b : Bool) → same_side x.on t ≡ b → own_matches (Some x) false t act ≡ own_matches (Some x) armed t act
    go true e = ap (λ b. own_matches (Some x) b t act) (sym (h x refl e))
    go false e = off armed ∙ ap (λ b. armed && (b && same_act act x.acts.second)) (sym e)

-- the operations on the one cell right behind those on the other
pub crossing : (p : DynamicPrimitive) (s : Side) (ops : List Op) (q r : OwnCells) → ops_run (machine_of p) q s ops ≡ Some r
    → ops_run (machine_of p) (passed (machine_of p) ops r) (other_side s) ops ≡ ops_run (machine_of p) r (other_side s) ops
crossing p s [] q r e = refl
crossing p s (op ∷ ops) q r e =
    let t : Side = other_side s in
    let act : Act = act_of op in
    let hit : own_matches (own_actor_of p) false t act ≡ own_matches (own_actor_of p) r.armed t act =
    match_crossed (own_actor_of p) r.armed t act (λ x is on. left_unarmed p x s is (on_one x.on s on) op ops q r e) in
    ap (λ b. cond (is_wrong_of op (reply_where p b r.pair t act)) None (ops_run (machine_of p) (own_where p b r.pair t act) t ops)) hit
