-- Of two linked primitives at most one has an act.
use Rattle.std.proofs.Common.{◌≡◌, ◌≢◌, ◌&&◌, ◌||◌, ℕ, Bool, true, false, eqb, Option, Some, None, is_some, List, refl, ap, sym, ◌∙◌, ⊎_elim}
use Rattle.std.proofs.lemmas.Bool.{and_parts}
use Rattle.std.proofs.lemmas.Bool.Decides.{eqb_tells}
use Rattle.fault_core.specs.declared.primitive.Act.{Act}
use Rattle.fault_core.specs.declared.primitive.Act.TheVariants.{Write, Read, Pause}
use Rattle.fault_core.specs.declared.primitive.Sense.{Sense}
use Rattle.fault_core.specs.Primitive.{Primitive, agg_has_act, same_bit}
use Rattle.fault_core.specs.Cells.{cell, agg_holds, has_this_act, agg_acts, acts, states_hold}
use Rattle.fault_core.proofs.Tests.{same_bit-equal, same_act-equal}
use Rattle.linked_faults.specs.declared.link.Link.{Link}
use Rattle.linked_faults.specs.Linking.{IsLinked, NeverBoth, good_after, beside, second_place}
use Rattle.linked_faults.proofs.Seen.{places, agg_idle, second_elsewhere}

left_holds : (a b : Bool) → b ≡ false → (a || b) ≡ true → a ≡ true
left_holds true b e h = refl
left_holds false true e h = cc
left_holds false false e h = cc

eqb_same : (m n : ℕ) → eqb m n ≡ true → m ≡ n
eqb_same m n h =
    ⊎_elim (λ (e : (eqb m n ≡ true) × (m ≡ n)). e.1) (λ (e : (eqb m n ≡ false) × (m ≢ n)). absurd (let clash : true ≡ false = sym h ∙ e.0 in cc)) (eqb_tells m n)

no_act : (o : Option Act) (act : Act) → is_some o ≡ false → has_this_act o act ≡ false
no_act None act e = refl
no_act (Some own) act e = cc

silent : (agg : Option Sense) (g x : ℕ) (act : Act) → agg_has_act agg ≡ false → agg_acts agg (beside agg g) x act ≡ false
silent None g x act e = refl
silent (Some sense) g x act e = ap (λ b. eqb g x && b) (no_act sense.act act e) ∙ and_none (eqb g x)
  where
    and_none : (b : Bool) → (b && false) ≡ false
    and_none true = refl
    and_none false = refl

this_act : (o : Option Act) (act : Act) → has_this_act o act ≡ true → o ≡ Some act
this_act None act h = cc
this_act (Some own) act h = ap Some (same_act-equal own act h)

-- where it acts, its victim holds its state
pub state_held : (p : Primitive) (g v x : ℕ) (cells : List Bool) (act : Act) → acts p (places p g v) cells x act ≡ true → cell cells v ≡ p.vic.state
unfolding acts
state_held p g v x cells act h =
    let own : Bool = (eqb v x && has_this_act p.vic.act act) || agg_acts p.agg (beside p.agg g) x act in
    let holds = (and_parts own (states_hold p (places p g v) cells) h).1 in
    same_bit-equal _ _ (and_parts (same_bit (cell cells v) p.vic.state) (agg_holds p.agg (beside p.agg g) cells) holds).0

-- and where its aggressor doesn't, the act is the victim's
pub victim_acts : (p : Primitive) (g v x : ℕ) (cells : List Bool) (act : Act) → agg_acts p.agg (beside p.agg g) x act ≡ false → acts p (places p g v) cells x act ≡ true
    → (v ≡ x) × (p.vic.act ≡ Some act)
unfolding acts
victim_acts p g v x cells act none h =
    let mine : Bool = eqb v x && has_this_act p.vic.act act in
    let own : Bool = mine || agg_acts p.agg (beside p.agg g) x act in
    let first = left_holds mine (agg_acts p.agg (beside p.agg g) x act) none (and_parts own (states_hold p (places p g v) cells) h).0 in
    let both = and_parts (eqb v x) (has_this_act p.vic.act act) first in
    (eqb_same v x both.0, this_act p.vic.act act both.1)

third_bit : (a b c : Bool) → a ≢ b → c ≢ a → c ≢ b → ⊥
third_bit true true c h k l = h refl
third_bit false false c h k l = h refl
third_bit true false true h k l = k refl
third_bit true false false h k l = l refl
third_bit false true true h k l = l refl
third_bit false true false h k l = k refl

pub never_both : (link : Link) → IsLinked link → NeverBoth link
never_both link is at cells x act av bv one two = go link.first.vic.act refl
  where
    g : ℕ
    g = second_place link at

    first_state : cell cells at.v ≡ link.first.vic.state
    first_state = state_held link.first at.a at.v x cells act one

    second_state : cell cells at.v ≡ link.second.vic.state
    second_state = state_held link.second (second_place link at) at.v x cells act two

    same : link.first.after ≡ link.first.vic.state
    same = sym is.finds ∙ sym second_state ∙ first_state

    quiet_aggressor : (b : Bool) → link.first.vic.act ≡ Some (Write b) → (t : Bool) → agg_has_act link.first.agg ≡ t → agg_has_act link.first.agg ≡ false
    quiet_aggressor b e true t = absurd (let none : Some (Write b) ≡ None = sym e ∙ is.first.one_act t in cc)
    quiet_aggressor b e false t = t

    go : (a : Option Act) → link.first.vic.act ≡ a → ⊥
    go None e = is.wrong (same ∙ sym (ap (λ o. good_after o link.first.vic.state) e))
    go (Some Read) e = is.wrong (same ∙ sym (ap (λ o. good_after o link.first.vic.state) e))
    go (Some Pause) e = is.wrong (same ∙ sym (ap (λ o. good_after o link.first.vic.state) e))
    go (Some (Write b)) e =
        let quiet = quiet_aggressor b e (agg_has_act link.first.agg) refl in
        let first = victim_acts link.first at.a at.v x cells act (silent link.first.agg at.a x act quiet) one in
        let here : at.v ≡ x = first.0 in
        let act_is : act ≡ Write b = let some : Some act ≡ Some (Write b) = sym first.1 ∙ e in cc in
        let apart = second_elsewhere link at x (λ h. av (h ∙ sym here)) (λ h. bv (h ∙ sym here)) in
        let second = victim_acts link.second (second_place link at) at.v x cells act (agg_idle link.second.agg (second_place link at) x act apart) two in
        let writes : link.second.vic.act ≡ Some (Write b) = second.1 ∙ ap Some act_is in
        third_bit link.first.after b link.second.after (λ h. is.wrong (h ∙ sym (ap (λ o. good_after o link.first.vic.state) e))) is.hides (is.second.wrong_write b writes)
