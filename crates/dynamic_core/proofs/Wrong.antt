-- The parts in which the acts of a victim go wrong are a dynamic primitive.
use Rattle.std.proofs.Common.{◌≡◌, ◌≢◌, Bool, true, false, not, ◌&&◌, Option, Some, None, is_some, List, [], ◌∷◌, length, get_or, refl, sym, ap, subst, ◌∙◌}
use Rattle.fault_core.specs.declared.primitive.Act.{Act}
use Rattle.fault_core.specs.declared.primitive.Act.TheVariants.{Write, Read, Pause}
use Rattle.fault_core.specs.Primitive.{same_bit}
use Rattle.dynamic_core.specs.Primitive.{TwoActs, DynamicSense, AreAccesses, IsDynamic, aggressor_acts, left_by}
use Rattle.std.specs.Prelude.{map}
use Rattle.dynamic_core.specs.Table.{by_acts, primitive_of, wrong_acts, wrong_effects}
use Rattle.dynamic_core.specs.Testing.{HasTwo, two_acts, acts_in}
use Rattle.dynamic_core.specs.inner.Testing.{is_access, fault_by_second, fault_by_acts}
use Rattle.dynamic_core.proofs.Parts.{passes_dynamic}

-- the acts of an array
first_of : (acts : List Act) (d : Act) → length acts ≡ 2 → get_or acts 0 d ≡ (two_acts acts).first
first_of [] d h = cc
first_of (a ∷ []) d h = cc
first_of (a ∷ b ∷ more) d h = refl

second_of : (acts : List Act) (d : Act) → length acts ≡ 2 → get_or acts 1 d ≡ (two_acts acts).second
second_of [] d h = cc
second_of (a ∷ []) d h = cc
second_of (a ∷ b ∷ more) d h = refl

accessed : (act : Act) → act ≢ Pause → is_access act ≡ true
accessed (Write bit) h = refl
accessed Read h = refl
accessed Pause h = absurd (h refl)

both_hold : (a b : Bool) → a ≡ true → b ≡ true → (a && b) ≡ true
both_hold a b h k = ap (λ x. x && b) h ∙ k

-- whether the parts are a dynamic primitive, by the acts of the two senses
abbrev test : Bool → Bool → Option Bool → Option TwoActs → Option TwoActs → Bool
test state after answer agg vic = same_bit (is_some agg) (not (is_some vic)) && fault_by_acts agg vic state after answer

-- beside an aggressor that doesn't act, and where the second act is a fault
pub is_wrong : (agg : Option DynamicSense) (vic : DynamicSense) (state : Bool) (held : Option (List Act)) (acts : List Act) (d e : Act) (left after : Bool) (answer : Option Bool)
    → aggressor_acts agg ≡ None → ((two : TwoActs) → vic.acts ≡ Some two → AreAccesses two) → acts_in held ≡ vic.acts → HasTwo held → held ≡ Some acts
    → left ≡ left_by state (get_or acts 0 d) → fault_by_second (get_or acts 1 e) left after answer ≡ true
    → IsDynamic (record { agg = agg; vic = record { state = state; acts = acts_in held }; after = after; answer = answer })
is_wrong agg vic state held acts d e left after answer none are view has is leaves wrong =
    let two : length acts ≡ 2 = subst HasTwo is has in
    let told : acts_in held ≡ Some (two_acts acts) = ap acts_in is in
    let access : is_access (two_acts acts).first ≡ true = accessed (two_acts acts).first (are (two_acts acts) (sym view ∙ told)).first in
    let fault : fault_by_second (two_acts acts).second (left_by state (two_acts acts).first) after answer ≡ true =
    ap (λ a. fault_by_second a (left_by state (two_acts acts).first) after answer) (sym (second_of acts e two))
    ∙ ap (λ l. fault_by_second (get_or acts 1 e) l after answer) (ap (left_by state) (sym (first_of acts d two)) ∙ sym leaves)
    ∙ wrong in
    passes_dynamic _
    (ap (λ a. test state after answer a (acts_in held)) none
    ∙ ap (test state after answer None) told
    ∙ both_hold (is_access (two_acts acts).first) _ access fault)

-- the primitives in which they go wrong
pub none_wrong : (agg : Option DynamicSense) (vic : DynamicSense) (state : Bool) (held : Option (List Act)) → (let s : DynamicSense = record { state = state; acts = acts_in held } in s ≡ vic) → held ≡ None
    → wrong_acts agg vic ≡ []
none_wrong agg vic state held view is = ap (wrong_acts agg) (sym view) ∙ ap (λ h. by_acts agg (record { state = state; acts = acts_in held }) (acts_in h)) is

pub wrong_by : (agg : Option DynamicSense) (vic : DynamicSense) (state : Bool) (held : Option (List Act)) (acts : List Act) (d e : Act) (left : Bool) (act : Act)
    → (let s : DynamicSense = record { state = state; acts = acts_in held } in s ≡ vic) → HasTwo held → held ≡ Some acts → left ≡ left_by state (get_or acts 0 d) → get_or acts 1 e ≡ act
    → wrong_acts agg vic ≡ map (primitive_of agg (record { state = state; acts = acts_in held })) (wrong_effects left act)
wrong_by agg vic state held acts d e left act view has is leaves second =
    let two : length acts ≡ 2 = subst HasTwo is has in
    let s : DynamicSense = record { state = state; acts = acts_in held } in
    ap (wrong_acts agg) (sym view)
    ∙ ap (λ h. by_acts agg s (acts_in h)) is
    ∙ ap (λ l. map (primitive_of agg s) (wrong_effects l (two_acts acts).second)) (ap (left_by state) (sym (first_of acts d two)) ∙ sym leaves)
    ∙ ap (λ a. map (primitive_of agg s) (wrong_effects left a)) (sym (second_of acts e two) ∙ second)

-- what a second act does wrong: a write leaves the other bit; a read flips the bit and answers the flipped one, flips it and answers it as it was, or leaves it and
-- answers the other
pub leaves_other : (act : Act) (left bit : Bool) → act ≡ Write bit → fault_by_second act left (not bit) None ≡ true
leaves_other act left bit is = ap (λ a. fault_by_second a left (not bit) None) is ∙ flipped bit
  where
    flipped : (bit : Bool) → fault_by_second (Write bit) left (not bit) None ≡ true
    flipped true = refl
    flipped false = refl

pub flips_and_tells : (act : Act) (left : Bool) → act ≡ Read → fault_by_second act left (not left) (Some (not left)) ≡ true
flips_and_tells act true is = ap (λ a. fault_by_second a true false (Some false)) is
flips_and_tells act false is = ap (λ a. fault_by_second a false true (Some true)) is

pub flips_and_hides : (act : Act) (left : Bool) → act ≡ Read → fault_by_second act left (not left) (Some left) ≡ true
flips_and_hides act true is = ap (λ a. fault_by_second a true false (Some true)) is
flips_and_hides act false is = ap (λ a. fault_by_second a false true (Some false)) is

pub answers_other : (act : Act) (left : Bool) → act ≡ Read → fault_by_second act left left (Some (not left)) ≡ true
answers_other act true is = ap (λ a. fault_by_second a true true (Some false)) is
answers_other act false is = ap (λ a. fault_by_second a false false (Some true)) is
