-- What the parts of a primitive stand for is one primitive of at most one operation or of two, or none.
use Rattle.std.proofs.Common.{◌≡◌, ◌+◌, ◌<◌, ◌≤◌, ◌⊎◌, ℕ, Bool, true, false, not, List, [], ◌∷◌, ◌∙◌, length, Option, Some, None, is_some, refl, sym, ap, subst, arith, inl, inr}
use Rattle.fault_core.specs.declared.primitive.Act.{Act}
use Rattle.fault_syntax.specs.declared.reader.Brief.{Brief}
use Rattle.fault_syntax.specs.declared.words.Operation.{Operation}
use Rattle.fault_syntax.specs.declared.words.Operation.TheVariants.{Write, Read, Pause}
use Rattle.fault_syntax.specs.Brief.{brief_of, first_of, second_of}
use Rattle.fault_syntax.specs.Parts.{IsAct, agg_ops, op_count}
use Rattle.fault_syntax.specs.PrimText.{SenseText, PrimParts}
use Rattle.fault_syntax.proofs.Judging.{stands_one, one_operation}
use Rattle.dynamic_core.specs.declared.item.Item.{Item}
use Rattle.dynamic_core.specs.declared.item.Item.TheVariants.{Plain, Dyn}
use Rattle.dynamic_core.specs.ItemParts.{AreTwo, AreActs, IsDynamicSense, IsDynamicAggressor, StandsForDynamic, IsItem, HasTooMany}
use Rattle.dynamic_core.specs.Primitive.{TwoActs, DynamicSense, DynamicPrimitive, IsDynamic, aggressor_acts, left_by}

-- ---- one reading

act_one : (state : Bool) (o : Operation) (a b : Act) → IsAct state o (Some a) → IsAct state o (Some b) → a ≡ b
act_one state (Write bit) a b h k = let e : Some a ≡ Some b = h ∙ sym k in cc
act_one state (Read bit) a b h k = let e : Some a ≡ Some b = h.1 ∙ sym k.1 in cc
act_one state Pause a b h k = let e : Some a ≡ Some b = h ∙ sym k in cc

acts_same : (a b c d : Act) → a ≡ c → b ≡ d → (let x : TwoActs = record { first = a; second = b } in x ≡ (record { first = c; second = d }))
acts_same a b c d e f = cc

two_one : (state : Bool) (o p : Operation) (a b : Option TwoActs) → AreTwo state o p a → AreTwo state o p b → a ≡ b
two_one state o p a b h k =
    let first : h.0.first ≡ k.0.first = act_one state o h.0.first k.0.first h.2 k.2 in
    let second : h.0.second ≡ k.0.second =
    act_one (left_by state k.0.first) p h.0.second k.0.second (subst (λ x. IsAct (left_by state x) p (Some h.0.second)) first h.3) k.3 in
    h.1 ∙ ap (λ x. Some x) (acts_same h.0.first h.0.second k.0.first k.0.second first second) ∙ sym k.1

acts_one : (state : Bool) (os : List Operation) (a b : Option TwoActs) → AreActs state os a → AreActs state os b → a ≡ b
acts_one state [] a b h k = h ∙ sym k
acts_one state (o ∷ []) a b h k = absurd h
acts_one state (o ∷ p ∷ []) a b h k = two_one state o p a b h k
acts_one state (o ∷ p ∷ q ∷ os) a b h k = absurd h

sense_same : (a c : Bool) (b d : Option TwoActs) → a ≡ c → b ≡ d → (let s : DynamicSense = record { state = a; acts = b } in s ≡ (record { state = c; acts = d }))
sense_same a c b d e f = cc

sense_one : (t : SenseText) (s u : DynamicSense) → IsDynamicSense t s → IsDynamicSense t u → s ≡ u
sense_one t s u h k = sense_same s.state u.state s.acts u.acts (h.0 ∙ sym k.0) (acts_one t.state t.ops s.acts u.acts h.1 k.1)

agg_one : (t : Option SenseText) (a b : Option DynamicSense) → IsDynamicAggressor t a → IsDynamicAggressor t b → a ≡ b
agg_one None a b h k = h ∙ sym k
agg_one (Some t) a b h k = h.1 ∙ ap (λ x. Some x) (sense_one t h.0 k.0 h.2 k.2) ∙ sym k.1

prim_same : (a b : Option DynamicSense) (u v : DynamicSense) (c d : Bool) (e f : Option Bool) → a ≡ b → u ≡ v → c ≡ d → e ≡ f
    → (let p : DynamicPrimitive = record { agg = a; vic = u; after = c; answer = e } in p ≡ (record { agg = b; vic = v; after = d; answer = f }))
prim_same a b u v c d e f h i j k = cc

pub dynamic_one : (text : PrimParts) (p q : DynamicPrimitive) → StandsForDynamic text p → StandsForDynamic text q → p ≡ q
dynamic_one text p q h k =
    prim_same p.agg q.agg p.vic q.vic p.after q.after p.answer q.answer (agg_one text.agg p.agg q.agg h.agg k.agg)
    (sense_one text.vic p.vic q.vic h.vic k.vic) (h.after ∙ sym k.after) (h.answer ∙ sym k.answer)

-- ---- what is kept of a sense

-- where the first two operations are no acts, the sense has none
no_two : (state : Bool) (os : List Operation) (o p : Operation) → first_of os ≡ Some o → second_of os ≡ Some p
    → ((acts : Option TwoActs) → AreTwo state o p acts → ⊥) → (acts : Option TwoActs) → AreActs state os acts → ⊥
no_two state [] o p e f none acts h = cc
no_two state (x ∷ []) o p e f none acts h = h
no_two state (x ∷ y ∷ z ∷ os) o p e f none acts h = h
no_two state (x ∷ y ∷ []) o p e f none acts h = none acts (subst (λ w. AreTwo state w p acts) first_is (subst (λ w. AreTwo state x w acts) second_is h))
  where
    first_is : x ≡ o
    first_is = cc

    second_is : y ≡ p
    second_is = cc

pub no_acts : (brief : Brief) (text : SenseText) (o p : Operation) → brief.first ≡ Some o → brief.second ≡ Some p
    → ((acts : Option TwoActs) → AreTwo brief.state o p acts → ⊥) → brief ≡ brief_of text
    → (acts : Option TwoActs) → AreActs text.state text.ops acts → ⊥
no_acts brief text o p e f none kept acts h =
    no_two text.state text.ops o p (sym (ap (λ (b : Brief). b.first) kept) ∙ e) (sym (ap (λ (b : Brief). b.second) kept) ∙ f)
    (λ a t. none a (subst (λ (x : Bool). AreTwo x o p a) (sym (ap (λ (b : Brief). b.state) kept)) t)) acts h

-- ---- how many operations

-- a sense has two operations or none
abbrev Counts : ℕ → Bool → Type 0
Counts n true = n ≡ 2
Counts n false = n ≡ 0

acts_count : (state : Bool) (os : List Operation) (a : Option TwoActs) → AreActs state os a → Counts (length os) (is_some a)
acts_count state [] a h = subst (λ (x : Option TwoActs). Counts 0 (is_some x)) (sym h) refl
acts_count state (o ∷ []) a h = absurd h
acts_count state (o ∷ p ∷ []) a h = subst (λ (x : Option TwoActs). Counts 2 (is_some x)) (sym h.1) refl
acts_count state (o ∷ p ∷ q ∷ os) a h = absurd h

agg_count : (t : Option SenseText) (a : Option DynamicSense) → IsDynamicAggressor t a → Counts (length (agg_ops t)) (is_some (aggressor_acts a))
agg_count None a h = subst (λ (x : Option DynamicSense). Counts 0 (is_some (aggressor_acts x))) (sym h) refl
agg_count (Some t) a h =
    subst (λ (x : Option DynamicSense). Counts (length t.ops) (is_some (aggressor_acts x))) (sym h.1) (acts_count t.state t.ops (h.0).acts (h.2).1)

-- a dynamic primitive has two operations, in one sense
pub two_operations : (text : PrimParts) (p : DynamicPrimitive) → StandsForDynamic text p → IsDynamic p
    → (op_count text ≡ 2) × (HasTooMany text → ⊥)
two_operations text p h i =
    go (is_some (aggressor_acts p.agg)) (is_some p.vic.acts) (length (agg_ops text.agg)) (length text.vic.ops) i.one_acts
    (agg_count text.agg p.agg h.agg) (acts_count text.vic.state text.vic.ops p.vic.acts (h.vic).1)
  where
    go : (a v : Bool) (m n : ℕ) → a ≡ not v → Counts m a → Counts n v → (m + n ≡ 2) × ((2 < m + n) ⊎ ((m ≡ 1) × (n ≡ 1)) → ⊥)
    go true true m n e f g = cc
    go true false m n e f g = (omega (arith, f, g), elim [ inl k ↦ omega (arith, f, g, k) | inr k ↦ omega (arith, f, k.0) ])
    go false true m n e f g = (omega (arith, f, g), elim [ inl k ↦ omega (arith, f, g, k) | inr k ↦ omega (arith, f, k.0) ])
    go false false m n e f g = cc

-- what is a primitive isn't refused
pub within_two : (text : PrimParts) (item : Item) → IsItem text item → HasTooMany text → ⊥
within_two text (Plain p) h k =
    let n : op_count text ≤ 1 = one_operation text p h.0 h.1 in
    elim k [ inl m ↦ omega (arith, n, m) | inr m ↦ omega (arith, n, m.0, m.1) ]
within_two text (Dyn p) h k = (two_operations text p h.0 h.1).1 k

-- parts are one primitive
pub item_one : (text : PrimParts) (a b : Item) → IsItem text a → IsItem text b → a ≡ b
item_one text (Plain p) (Plain q) h k = ap Plain (stands_one text p q h.0 k.0)
item_one text (Plain p) (Dyn q) h k = let n = one_operation text p h.0 h.1 in let m = (two_operations text q k.0 k.1).0 in absurd (omega (arith, n, m))
item_one text (Dyn p) (Plain q) h k = let n = one_operation text q k.0 k.1 in let m = (two_operations text p h.0 h.1).0 in absurd (omega (arith, n, m))
item_one text (Dyn p) (Dyn q) h k = ap Dyn (dynamic_one text p q h.0 k.0)
