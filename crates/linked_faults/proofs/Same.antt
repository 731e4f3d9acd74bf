-- The test of two links tells whether they are the same.
use Rattle.std.proofs.Common.{◌≡◌, ◌↔◌, Bool, true, false, ◌&&◌, Option, Some, None, refl, ap, sym, subst, ◌∙◌}
use Rattle.std.proofs.lemmas.Bool.{and_parts, and_from}
use Rattle.fault_core.specs.declared.primitive.Act.{Act}
use Rattle.fault_core.specs.declared.primitive.Act.TheVariants.{Write, Read, Pause}
use Rattle.fault_core.specs.declared.primitive.Sense.{Sense}
use Rattle.fault_core.specs.Primitive.{Primitive, same_bit}
use Rattle.fault_core.specs.Cells.{same_act}
use Rattle.fault_core.proofs.Tests.{same_bit-equal, same_act-equal}
use Rattle.linked_faults.specs.declared.link.Link.{Link}
use Rattle.linked_faults.specs.Same.{same_answer, same_acts, same_sense, same_agg, same_prim, same_link}

-- ---- the same from the test

answer_from : (a b : Option Bool) → same_answer a b ≡ true → a ≡ b
answer_from None None h = refl
answer_from None (Some b) h = cc
answer_from (Some a) None h = cc
answer_from (Some a) (Some b) h = ap Some (same_bit-equal a b h)

acts_from : (a b : Option Act) → same_acts a b ≡ true → a ≡ b
acts_from None None h = refl
acts_from None (Some b) h = cc
acts_from (Some a) None h = cc
acts_from (Some a) (Some b) h = ap Some (same_act-equal a b h)

sense_from : (a b : Sense) → same_sense a b ≡ true → a ≡ b
sense_from a b h =
    let parts = and_parts (same_bit a.state b.state) (same_acts a.act b.act) h in
    let state : a.state ≡ b.state = same_bit-equal a.state b.state parts.0 in
    let act : a.act ≡ b.act = acts_from a.act b.act parts.1 in
    λ j. record { state = state j; act = act j }

agg_from : (a b : Option Sense) → same_agg a b ≡ true → a ≡ b
agg_from None None h = refl
agg_from None (Some b) h = cc
agg_from (Some a) None h = cc
agg_from (Some a) (Some b) h = ap Some (sense_from a b h)

prim_from : (p q : Primitive) → same_prim p q ≡ true → p ≡ q
prim_from p q h =
    let last : Bool = same_bit p.after q.after && same_answer p.answer q.answer in
    let front = and_parts (same_sense p.vic q.vic) (same_agg p.agg q.agg && last) h in
    let more = and_parts (same_agg p.agg q.agg) last front.1 in
    let back = and_parts (same_bit p.after q.after) (same_answer p.answer q.answer) more.1 in
    let vic : p.vic ≡ q.vic = sense_from p.vic q.vic front.0 in
    let agg : p.agg ≡ q.agg = agg_from p.agg q.agg more.0 in
    let after : p.after ≡ q.after = same_bit-equal p.after q.after back.0 in
    let answer : p.answer ≡ q.answer = answer_from p.answer q.answer back.1 in
    λ j. record { agg = agg j; vic = vic j; after = after j; answer = answer j }

pub link_from : (l k : Link) → same_link l k ≡ true → l ≡ k
unfolding same_link
link_from l k h =
    let front = and_parts (same_prim l.first k.first) (same_prim l.second k.second && same_bit l.is_shared k.is_shared) h in
    let back = and_parts (same_prim l.second k.second) (same_bit l.is_shared k.is_shared) front.1 in
    let first : l.first ≡ k.first = prim_from l.first k.first front.0 in
    let second : l.second ≡ k.second = prim_from l.second k.second back.0 in
    let shared : l.is_shared ≡ k.is_shared = same_bit-equal l.is_shared k.is_shared back.1 in
    λ j. record { first = first j; second = second j; is_shared = shared j }

-- ---- the test of the same

bit_same : (b : Bool) → same_bit b b ≡ true
bit_same true = refl
bit_same false = refl

act_same : (a : Act) → same_act a a ≡ true
act_same (Write b) = bit_same b
act_same Read = refl
act_same Pause = refl

answer_same : (a : Option Bool) → same_answer a a ≡ true
answer_same None = refl
answer_same (Some b) = bit_same b

acts_same : (a : Option Act) → same_acts a a ≡ true
acts_same None = refl
acts_same (Some a) = act_same a

sense_same : (s : Sense) → same_sense s s ≡ true
sense_same s = and_from _ _ (bit_same s.state) (acts_same s.act)

agg_same : (a : Option Sense) → same_agg a a ≡ true
agg_same None = refl
agg_same (Some s) = sense_same s

prim_same : (p : Primitive) → same_prim p p ≡ true
prim_same p = and_from _ _ (sense_same p.vic) (and_from _ _ (agg_same p.agg) (and_from _ _ (bit_same p.after) (answer_same p.answer)))

pub link_same : (l : Link) → same_link l l ≡ true
unfolding same_link
link_same l = and_from _ _ (prim_same l.first) (and_from _ _ (prim_same l.second) (bit_same l.is_shared))

pub link_tells : (l k : Link) (b : Bool) → b ≡ same_link l k → (b ≡ true) ↔ (l ≡ k)
link_tells l k b is = (
  λ h. link_from l k (sym is ∙ h),
  λ e. is ∙ subst (λ (m : Link). same_link l m ≡ true) e (link_same l),
)
