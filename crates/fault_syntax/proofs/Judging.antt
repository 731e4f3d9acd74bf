-- What the parts of a primitive stand for is one primitive, or none.
use Rattle.std.proofs.Common.{◌≡◌, ◌+◌, ◌<◌, ◌≤◌, Bool, true, false, List, [], ◌∷◌, ◌∙◌, length, Option, Some, None, is_some, sym, ap, arith}
use Rattle.fault_core.specs.declared.primitive.Act.{Act}
use Rattle.fault_core.specs.declared.primitive.Sense.{Sense}
use Rattle.fault_core.specs.Primitive.{Primitive, IsPrimitive, agg_has_act}
use Rattle.fault_syntax.specs.declared.words.Operation.{Operation}
use Rattle.fault_syntax.specs.declared.words.Operation.TheVariants.{Write, Read, Pause}
use Rattle.fault_syntax.specs.Parts.{AreAct, IsSense, IsAggressor, StandsFor, agg_ops, op_count}
use Rattle.fault_syntax.specs.PrimText.{SenseText, PrimParts}

-- ---- one reading

act_one : (state : Bool) (os : List Operation) (a b : Option Act) → AreAct state os a → AreAct state os b → a ≡ b
act_one state [] a b h k = h ∙ sym k
act_one state (Write bit ∷ []) a b h k = h ∙ sym k
act_one state (Read bit ∷ []) a b h k = h.1 ∙ sym k.1
act_one state (Pause ∷ []) a b h k = h ∙ sym k
act_one state (o ∷ p ∷ os) a b h k = absurd h

sense_same : (a c : Bool) (b d : Option Act) → a ≡ c → b ≡ d → (let s : Sense = record { state = a; act = b } in s ≡ (record { state = c; act = d }))
sense_same a c b d e f = cc

sense_one : (t : SenseText) (s u : Sense) → IsSense t s → IsSense t u → s ≡ u
sense_one t s u h k = sense_same s.state u.state s.act u.act (h.0 ∙ sym k.0) (act_one t.state t.ops s.act u.act h.1 k.1)

agg_one : (t : Option SenseText) (a b : Option Sense) → IsAggressor t a → IsAggressor t b → a ≡ b
agg_one None a b h k = h ∙ sym k
agg_one (Some t) a b h k = h.1 ∙ ap (λ x. Some x) (sense_one t h.0 k.0 h.2 k.2) ∙ sym k.1

prim_same : (a b : Option Sense) (u v : Sense) (c d : Bool) (e f : Option Bool) → a ≡ b → u ≡ v → c ≡ d → e ≡ f → (let p : Primitive = record { agg = a; vic = u; after = c; answer = e } in p ≡ (record { agg = b; vic = v; after = d; answer = f }))
prim_same a b u v c d e f h i j k = cc

pub stands_one : (text : PrimParts) (p q : Primitive) → StandsFor text p → StandsFor text q → p ≡ q
stands_one text p q h k = prim_same p.agg q.agg p.vic q.vic p.after q.after p.answer q.answer (agg_one text.agg p.agg q.agg h.agg k.agg) (sense_one text.vic p.vic q.vic h.vic k.vic) (h.after ∙ sym k.after) (h.answer ∙ sym k.answer)

-- ---- a primitive has one operation at most

-- an act is at most one
act_short : (state : Bool) (os : List Operation) (a : Option Act) → AreAct state os a → length os ≤ 1
act_short state [] a h = omega arith
act_short state (o ∷ []) a h = omega arith
act_short state (o ∷ p ∷ os) a h = absurd h

act_there : (state : Bool) (os : List Operation) (a : Option Act) → AreAct state os a → 0 < length os → is_some a ≡ true
act_there state [] a h n = absurd (omega arith)
act_there state (Write bit ∷ []) a h n = ap is_some h
act_there state (Read bit ∷ []) a h n = ap is_some h.1
act_there state (Pause ∷ []) a h n = ap is_some h
act_there state (o ∷ p ∷ os) a h n = absurd h

agg_there : (t : Option SenseText) (a : Option Sense) → IsAggressor t a → (length (agg_ops t) ≤ 1) × (0 < length (agg_ops t) → agg_has_act a ≡ true)
agg_there None a h = (omega arith, λ n. absurd (omega arith))
agg_there (Some t) a h = (act_short t.state t.ops (h.0).act (h.2).1, λ n. ap agg_has_act h.1 ∙ act_there t.state t.ops (h.0).act (h.2).1 n)

pub one_operation : (text : PrimParts) (p : Primitive) → StandsFor text p → IsPrimitive p → op_count text ≤ 1
one_operation text p h i = go (agg_ops text.agg) text.vic.ops (agg_there text.agg p.agg h.agg) (act_short text.vic.state text.vic.ops p.vic.act (h.vic).1) (act_there text.vic.state text.vic.ops p.vic.act (h.vic).1)
  where
    go : (os qs : List Operation) → (length os ≤ 1) × (0 < length os → agg_has_act p.agg ≡ true) → length qs ≤ 1 → (0 < length qs → is_some p.vic.act ≡ true) → length os + length qs ≤ 1
    go [] qs f n g = omega arith
    go (o ∷ os) [] f n g = omega (arith, f.0)
    go (o ∷ os) (q ∷ qs) f n g = let e : is_some p.vic.act ≡ false = ap is_some (i.one_act (f.1 (omega arith))) in let k : is_some p.vic.act ≡ true = g (omega arith) in cc
