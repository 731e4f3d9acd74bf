-- What a test that computes says of every choice of parts, and the tests of equality and of being a dynamic primitive.
use Rattle.std.proofs.Common.{◌≡◌, Bool, true, not, ◌&&◌, Option, is_some, refl, ap, ◌∙◌, arith}
use Rattle.std.proofs.lemmas.Bool.{and_parts}
use Rattle.fault_core.specs.declared.primitive.Act.{Act}
use Rattle.fault_core.specs.Primitive.{same_bit}
use Rattle.fault_core.specs.Cells.{same_act}
use Rattle.fault_core.proofs.Tests.{at_all_bits, at_all_acts, at_all_options, bit_passes, act_passes, option_passes, same_options, same_bit-equal, same_act-equal, same_options-equal, FourParts, at_all_four, four_pass, same_four, same_four-equal, same_four-refl}
use Rattle.dynamic_core.specs.Primitive.{TwoActs, DynamicSense, DynamicPrimitive, IsDynamic, aggressor_acts}
use Rattle.dynamic_core.specs.inner.Testing.{fault_by_acts}

abbrev two : Act → Act → TwoActs
two first second = record { first = first; second = second }

abbrev sense_of : Bool → Option TwoActs → DynamicSense
sense_of state acts = record { state = state; acts = acts }

-- a test passes at every two acts
abbrev at_all_pairs : (TwoActs → Bool) → Bool
at_all_pairs f = at_all_acts (λ first. at_all_acts (λ second. f (two first second)))

abbrev at_all_senses : (DynamicSense → Bool) → Bool
at_all_senses f = at_all_bits (λ state. at_all_options at_all_pairs (λ acts. f (sense_of state acts)))

pair_passes : (f : TwoActs → Bool) → at_all_pairs f ≡ true → (acts : TwoActs) → f acts ≡ true
pair_passes f h acts =
    act_passes (λ second. f (two acts.first second)) (act_passes (λ first. at_all_acts (λ second. f (two first second))) h acts.first) acts.second

sense_passes : (f : DynamicSense → Bool) → at_all_senses f ≡ true → (s : DynamicSense) → f s ≡ true
sense_passes f h s =
    option_passes at_all_pairs pair_passes (λ acts. f (sense_of s.state acts))
    (bit_passes (λ state. at_all_options at_all_pairs (λ acts. f (sense_of state acts))) h s.state) s.acts

abbrev parts_of : DynamicPrimitive → FourParts DynamicSense
parts_of p = record { agg = p.agg; vic = p.vic; after = p.after; answer = p.answer }

abbrev of_parts : FourParts DynamicSense → DynamicPrimitive
of_parts p = record { agg = p.agg; vic = p.vic; after = p.after; answer = p.answer }

-- whether exactly one of the senses has acts
abbrev pub acts_once : Option DynamicSense → DynamicSense → Bool
acts_once agg vic = same_bit (is_some (aggressor_acts agg)) (not (is_some vic.acts))

-- a test passes at every choice of parts of which one sense has acts
abbrev pub at_all_parts : (DynamicPrimitive → Bool) → Bool
at_all_parts f = at_all_four at_all_senses acts_once (λ p. f (of_parts p))

-- what such a test says
pub parts_pass : (f : DynamicPrimitive → Bool) → at_all_parts f ≡ true → (p : DynamicPrimitive) → acts_once p.agg p.vic ≡ true → f p ≡ true
parts_pass f h p once = four_pass at_all_senses sense_passes acts_once (λ q. f (of_parts q)) h (parts_of p) once

-- equality of parts, as tests
abbrev same_pairs : TwoActs → TwoActs → Bool
same_pairs a b = same_act a.first b.first && same_act a.second b.second

abbrev same_sense : DynamicSense → DynamicSense → Bool
same_sense a b = same_bit a.state b.state && same_options same_pairs a.acts b.acts

abbrev pub same_parts : DynamicPrimitive → DynamicPrimitive → Bool
same_parts p q = same_four same_sense (parts_of p) (parts_of q)

same_pairs-equal : (a b : TwoActs) → same_pairs a b ≡ true → a ≡ b
same_pairs-equal a b h =
    let first : a.first ≡ b.first = same_act-equal _ _ (and_parts _ _ h).0 in
    let second : a.second ≡ b.second = same_act-equal _ _ (and_parts _ _ h).1 in
    ap (λ x. two x a.second) first ∙ ap (λ x. two b.first x) second

same_sense-equal : (a b : DynamicSense) → same_sense a b ≡ true → a ≡ b
same_sense-equal a b h =
    let state : a.state ≡ b.state = same_bit-equal _ _ (and_parts _ _ h).0 in
    let acts : a.acts ≡ b.acts = same_options-equal same_pairs same_pairs-equal _ _ (and_parts _ _ h).1 in
    ap (λ x. sense_of x a.acts) state ∙ ap (λ x. sense_of b.state x) acts

pub same_parts-equal : (p q : DynamicPrimitive) → same_parts p q ≡ true → p ≡ q
same_parts-equal p q h = ap of_parts (same_four-equal same_sense same_sense-equal (parts_of p) (parts_of q) h)

pub same_parts-refl : (p : DynamicPrimitive) → same_parts p p ≡ true
same_parts-refl p = same_four-refl same_sense (sense_passes (λ s. same_sense s s) refl) (parts_of p)

-- whether parts are a dynamic primitive
abbrev pub is_dynamic : DynamicPrimitive → Bool
is_dynamic p = acts_once p.agg p.vic && fault_by_acts (aggressor_acts p.agg) p.vic.acts p.vic.state p.after p.answer

pub dynamic_passes : (p : DynamicPrimitive) → IsDynamic p → is_dynamic p ≡ true
dynamic_passes p h = grind arith

pub passes_dynamic : (p : DynamicPrimitive) → is_dynamic p ≡ true → IsDynamic p
passes_dynamic p h = grind arith
