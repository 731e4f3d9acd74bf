use Rattle.std.proofs.Common.{Bool, List, None, Option, Some, ap, false, is_some, not, refl, sym, true, true≢false, ◌&&◌, ◌∙◌, ◌≡◌}
use Rattle.std.proofs.lemmas.Bool.{and_from, and_parts}
use Rattle.fault_core.specs.declared.primitive.Act.{Act}
use Rattle.fault_core.specs.declared.primitive.PrimFault.TheVariants.{NotAFault, TooManyOperations}
use Rattle.fault_core.specs.Primitive.{same_bit}
use Rattle.dynamic_core.specs.Primitive.{TwoActs, DynamicPrimitive, DynamicSense, IsDynamic, aggressor_acts, refusal_of}
use Rattle.dynamic_core.specs.Testing.{acts_in}
use Rattle.dynamic_core.specs.inner.Testing.{fault_by_acts}
use Rattle.dynamic_core.proofs.Parts.{dynamic_passes, passes_dynamic}
use Rattle.dynamic_core.proofs.primitive.DynPrim.new.Goals.{After-is_fault, Then-is_some-2, else-is_some-via-then-is_some+else-is_some-2, else-is_some-via-else-is_some}
use Rattle.dynamic_core.proofs.primitive.DynPrim.new.Goals as goal

abbrev parts_of : Option DynamicSense → DynamicSense → Bool → Option Bool → DynamicPrimitive
parts_of agg vic after answer = record { agg = agg; vic = vic; after = after; answer = answer }

some_in : (acts : Option (List Act)) (two : Option TwoActs) (t : Bool) → acts_in acts ≡ two → t ≡ is_some acts → is_some two ≡ t
some_in None two t e h = sym (ap is_some e) ∙ sym h
some_in (Some acts) two t e h = sym (ap is_some e) ∙ sym h

-- acts in both senses
module _ (p : DynamicPrimitive) where
  not_both : is_some (aggressor_acts p.agg) ≡ true → is_some p.vic.acts ≡ true → IsDynamic p → ⊥
  not_both a v d = let once = d.one_acts in (let z : ⊥ = cc in z)

  both_refused : is_some (aggressor_acts p.agg) ≡ true → is_some p.vic.acts ≡ true → TooManyOperations ≡ refusal_of p
  both_refused a v = rw (a, v) refl

  other_refused : (is_some (aggressor_acts p.agg) && is_some p.vic.acts) ≡ false → NotAFault ≡ refusal_of p
  other_refused h = rw h refl

  no_fault : fault_by_acts (aggressor_acts p.agg) p.vic.acts p.vic.state p.after p.answer ≡ false → IsDynamic p → ⊥
  no_fault h d = true≢false (sym (and_parts _ _ (dynamic_passes p d)).1 ∙ h)

  is_fault : (is_some (aggressor_acts p.agg) && is_some p.vic.acts) ≡ false → fault_by_acts (aggressor_acts p.agg) p.vic.acts p.vic.state p.after p.answer ≡ true → IsDynamic p
  is_fault h k = passes_dynamic p (and_from _ _ (once (aggressor_acts p.agg) p.vic.acts h k) k)
    where
      once : (agg vic : Option TwoActs) → (is_some agg && is_some vic) ≡ false → fault_by_acts agg vic p.vic.state p.after p.answer ≡ true → same_bit (is_some agg) (not (is_some vic)) ≡ true
      once None None h k = cc
      once None (Some v) h k = refl
      once (Some a) None h k = refl
      once (Some a) (Some v) h k = cc

-- the parts, and their acts as arrays
module _ (p : DynamicPrimitive) (acts held : Option (List Act)) (told : acts_in acts ≡ aggressor_acts p.agg) (kept : acts_in held ≡ p.vic.acts) where
  both_acting : true ≡ is_some acts → true ≡ is_some held → (is_some (aggressor_acts p.agg) ≡ true) × (is_some p.vic.acts ≡ true)
  both_acting a v = (some_in acts _ true told a, some_in held _ true kept v)

  aggressor_still : false ≡ is_some acts → (is_some (aggressor_acts p.agg) && is_some p.vic.acts) ≡ false
  aggressor_still a = ap (λ b. b && is_some p.vic.acts) (some_in acts _ false told a)

  victim_still : true ≡ is_some acts → false ≡ is_some held → (is_some (aggressor_acts p.agg) && is_some p.vic.acts) ≡ false
  victim_still a v = ap (λ b. b && is_some p.vic.acts) (some_in acts _ true told a) ∙ some_in held _ false kept v

  by_acts : (t : Bool) → t ≡ fault_by_acts (acts_in acts) p.vic.acts p.vic.state p.after p.answer → fault_by_acts (aggressor_acts p.agg) p.vic.acts p.vic.state p.after p.answer ≡ t
  by_acts t h = ap (λ a. fault_by_acts a p.vic.acts p.vic.state p.after p.answer) (sym told) ∙ sym h

both : (c : Then-is_some-2) → (is_some (aggressor_acts c.args.agg) ≡ true) × (is_some c.args.vic.acts ≡ true)
both c = both_acting (parts_of c.args.agg c.args.vic c.args.after c.args.answer) c.acts_of-acts.result c.vic.inside.acts c.acts_of-acts.ensures (ap (λ (s : DynamicSense). s.acts) c.vic.view_is) c.if-is_some.ensures c.if-is_some-2.ensures

still : (c : After-is_fault) → (is_some (aggressor_acts c.args.agg) && is_some c.args.vic.acts) ≡ false
still c =
    let p = parts_of c.args.agg c.args.vic c.args.after c.args.answer in
    elim c.else-is_some.branch [
      | else-is_some-via-then-is_some+else-is_some-2 w ↦
          victim_still p c.acts_of-acts.result c.vic.inside.acts c.acts_of-acts.ensures (ap (λ (s : DynamicSense). s.acts) c.vic.view_is) w.if-is_some.ensures w.if-is_some-2.ensures
      | else-is_some-via-else-is_some w ↦
          aggressor_still p c.acts_of-acts.result c.vic.inside.acts c.acts_of-acts.ensures (ap (λ (s : DynamicSense). s.acts) c.vic.view_is) w.if-is_some.ensures
    ]

pub returns-then-is_some-2-clause-variant : goal.returns-then-is_some-2-clause-variant
returns-then-is_some-2-clause-variant c = let b = both c in (λ f. absurd (true≢false (sym f)), λ d. absurd (not_both (parts_of c.args.agg c.args.vic c.args.after c.args.answer) b.0 b.1 d))

pub returns-then-is_some-2-clause-refusal : goal.returns-then-is_some-2-clause-refusal
returns-then-is_some-2-clause-refusal c = let b = both c in both_refused (parts_of c.args.agg c.args.vic c.args.after c.args.answer) b.0 b.1

pub returns-then-not-is_fault-clause-variant : goal.returns-then-not-is_fault-clause-variant
returns-then-not-is_fault-clause-variant c =
    let p = parts_of c.args.agg c.args.vic c.args.after c.args.answer in
    (λ f. absurd (true≢false (sym f)), λ d. absurd (no_fault p (by_acts p c.acts_of-acts.result c.vic.inside.acts c.acts_of-acts.ensures (ap (λ (s : DynamicSense). s.acts) c.vic.view_is) false c.if-not-is_fault.ensures) d))

pub returns-then-not-is_fault-clause-refusal : goal.returns-then-not-is_fault-clause-refusal
returns-then-not-is_fault-clause-refusal c =
    other_refused (parts_of c.args.agg c.args.vic c.args.after c.args.answer) (still (goal.at.returns-then-not-is_fault-clause-refusal c).After-is_fault)

pub invariant_of-result : goal.invariant_of-result
invariant_of-result c =
    let p = parts_of c.args.agg c.args.vic c.args.after c.args.answer in
    is_fault p (still (goal.at.invariant_of-result c).After-is_fault)
    (by_acts p c.acts_of-acts.result c.vic.inside.acts c.acts_of-acts.ensures (ap (λ (s : DynamicSense). s.acts) c.vic.view_is) true c.if-not-is_fault.ensures)

pub returns-clause-variant : goal.returns-clause-variant
returns-clause-variant c = (λ _. invariant_of-result c, λ _. refl)
