-- What a test that computes says of every choice of parts, and the tests of equality and of being a primitive.
use Rattle.std.proofs.Common.{◌≡◌, Bool, true, not, ◌&&◌, is_some, refl, ap, ◌∙◌, arith}
use Rattle.std.proofs.lemmas.Bool.{and_parts}
use Rattle.fault_core.specs.declared.primitive.Sense.{Sense}
use Rattle.fault_core.specs.Primitive.{Primitive, IsPrimitive, same_bit, agg_has_act}
use Rattle.fault_core.specs.inner.Testing.{is_fault_of, pauses_alone}
use Rattle.fault_core.specs.Cells.{same_act}
use Rattle.fault_core.specs.inner.Rows.{sense_of, prim_of}
use Rattle.fault_core.proofs.Tests.{at_all_bits, at_all_acts, at_all_options, bit_passes, act_passes, option_passes, same_options, same_bit-equal, same_act-equal, same_options-equal, FourParts, at_all_four, four_pass, same_four, same_four-equal, same_four-refl}

abbrev at_all_senses : (Sense → Bool) → Bool
at_all_senses f = at_all_bits (λ state. at_all_options at_all_acts (λ act. f (sense_of state act)))

sense_passes : (f : Sense → Bool) → at_all_senses f ≡ true → (s : Sense) → f s ≡ true
sense_passes f h s =
    option_passes at_all_acts act_passes (λ act. f (sense_of s.state act))
    (bit_passes (λ state. at_all_options at_all_acts (λ act. f (sense_of state act))) h s.state) s.act

abbrev parts_of : Primitive → FourParts Sense
parts_of p = record { agg = p.agg; vic = p.vic; after = p.after; answer = p.answer }

abbrev of_parts : FourParts Sense → Primitive
of_parts p = prim_of p.agg p.vic p.after p.answer

-- a test passes at every choice of parts
abbrev pub at_all_parts : (Primitive → Bool) → Bool
at_all_parts f = at_all_four at_all_senses (λ agg vic. true) (λ p. f (of_parts p))

-- what such a test says
pub parts_pass : (f : Primitive → Bool) → at_all_parts f ≡ true → (p : Primitive) → f p ≡ true
parts_pass f h p = four_pass at_all_senses sense_passes (λ agg vic. true) (λ q. f (of_parts q)) h (parts_of p) refl

-- equality of parts, as tests
abbrev same_sense : Sense → Sense → Bool
same_sense a b = same_bit a.state b.state && same_options same_act a.act b.act

abbrev pub same_parts : Primitive → Primitive → Bool
same_parts p q = same_four same_sense (parts_of p) (parts_of q)

same_sense-equal : (a b : Sense) → same_sense a b ≡ true → a ≡ b
same_sense-equal a b h =
    let state : a.state ≡ b.state = same_bit-equal _ _ (and_parts _ _ h).0 in
    let act : a.act ≡ b.act = same_options-equal same_act same_act-equal _ _ (and_parts _ _ h).1 in
    ap (λ x. sense_of x a.act) state ∙ ap (λ x. sense_of b.state x) act

pub same_parts-equal : (p q : Primitive) → same_parts p q ≡ true → p ≡ q
same_parts-equal p q h = ap of_parts (same_four-equal same_sense same_sense-equal (parts_of p) (parts_of q) h)

pub same_parts-refl : (p : Primitive) → same_parts p p ≡ true
same_parts-refl p = same_four-refl same_sense (sense_passes (λ s. same_sense s s) refl) (parts_of p)

-- whether parts are a primitive
abbrev pub is_primitive : Primitive → Bool
is_primitive p = (not (agg_has_act p.agg && is_some p.vic.act) && pauses_alone p.agg p.vic.act) && is_fault_of p.vic p.after p.answer

pub primitive_passes : (p : Primitive) → IsPrimitive p → is_primitive p ≡ true
primitive_passes p h = grind arith

pub passes_primitive : (p : Primitive) → is_primitive p ≡ true → IsPrimitive p
passes_primitive p h = grind arith
