-- The printed form of a primitive is a text that stands for it.
use Rattle.std.proofs.Common.{◌≡◌, ℕ, Bool, List, [], ◌∷◌, ◌++◌, Option, Some, None, refl, inl, subst, sym, append_assoc}
use Rattle.bist_text.specs.Grammar.{finish, word, is_blank}
use Rattle.bist_text.proofs.Pieces.{many_none, word_on}
use Rattle.fault_core.specs.declared.primitive.Act.{Act}
use Rattle.fault_core.specs.declared.primitive.Act.TheVariants.{Write as Writes, Read as Reads, Pause as Pauses}
use Rattle.fault_core.specs.declared.primitive.Sense.{Sense}
use Rattle.fault_core.specs.Primitive.{Primitive}
use Rattle.fault_syntax.specs.declared.words.Operation.{Operation}
use Rattle.fault_syntax.specs.declared.words.Operation.TheVariants.{Write, Read, Pause}
use Rattle.fault_syntax.specs.Parts.{AreAct, IsAggressor, StandsFor}
use Rattle.fault_syntax.specs.Printed.{act_text, sense_text, aggressor_text, printed}
use Rattle.fault_syntax.specs.PrimText.{SenseText, PrimParts, ws, bit_text, answer_text, more_ops, sense, senses, effect, PrimText}

-- the written parts of a primitive
abbrev ops_of : Bool → Option Act → List Operation
ops_of state None = []
ops_of state (Some (Writes bit)) = Write bit ∷ []
ops_of state (Some Reads) = Read state ∷ []
ops_of state (Some Pauses) = Pause ∷ []

abbrev written : Sense → SenseText
written s = record { state = s.state; ops = ops_of s.state s.act }

abbrev written_agg : Option Sense → Option SenseText
written_agg None = None
written_agg (Some s) = Some (written s)

abbrev pub parts : Primitive → PrimParts
parts p = record { agg = written_agg p.agg; vic = written p.vic; after = p.after; answer = p.answer }

-- they stand for it
act_is : (state : Bool) (a : Option Act) → AreAct state (ops_of state a) a
act_is state None = refl
act_is state (Some (Writes bit)) = refl
act_is state (Some Reads) = (refl, refl)
act_is state (Some Pauses) = refl

agg_is : (a : Option Sense) → IsAggressor (written_agg a) a
agg_is None = refl
agg_is (Some s) = (s, refl, (refl, act_is s.state s.act))

pub parts_stand : (p : Primitive) → StandsFor (parts p) p
parts_stand p = record { agg = agg_is p.agg; vic = (refl, act_is p.vic.state p.vic.act); after = refl; answer = refl }

-- and are printed so
act_on : (state : Bool) (a : Option Act) (K : List ℕ → Type 0) (r : List ℕ) → K r → more_ops (ops_of state a) K (act_text state a ++ r)
act_on state None K r h = h
act_on state (Some (Writes bit)) K r h = inl (word_on (bit_text bit) K r h)
act_on state (Some Reads) K r h = inl (word_on (bit_text state) K r h)
act_on state (Some Pauses) K r h = inl h

sense_on : (s : Sense) (K : List ℕ → Type 0) (r : List ℕ) → K r → sense (written s) K (sense_text s ++ r)
sense_on s K r h = subst (sense (written s) K) (sym (append_assoc (bit_text s.state) (act_text s.state s.act) r)) (inl (word_on (bit_text s.state) (more_ops (ops_of s.state s.act) K) (act_text s.state s.act ++ r) (act_on s.state s.act K r h)))

senses_on : (a : Option Sense) (s : Sense) (K : List ℕ → Type 0) (r : List ℕ) → K r → senses (written_agg a) (written s) K (aggressor_text a ++ (sense_text s ++ r))
senses_on None s K r h = sense_on s K r h
senses_on (Some a) s K r h = subst (senses (Some (written a)) (written s) K) (sym (append_assoc (sense_text a) (59 ∷ []) (sense_text s ++ r))) (sense_on a (ws (word (59 ∷ []) (ws (sense (written s) K)))) (59 ∷ (sense_text s ++ r)) (inl (many_none is_blank (sense (written s) K) (sense_text s ++ r) (sense_on s K r h))))

pub effect_on : (p : PrimParts) (K : List ℕ → Type 0) → K [] → effect p K (47 ∷ (bit_text p.after ++ (47 ∷ (answer_text p.answer ++ (62 ∷ [])))))
effect_on p K h = inl (many_none is_blank (word (bit_text p.after) (ws (word (47 ∷ []) (ws (word (answer_text p.answer) (ws (word (62 ∷ []) K))))))) (bit_text p.after ++ (47 ∷ (answer_text p.answer ++ (62 ∷ [])))) (word_on (bit_text p.after) (ws (word (47 ∷ []) (ws (word (answer_text p.answer) (ws (word (62 ∷ []) K)))))) (47 ∷ (answer_text p.answer ++ (62 ∷ []))) (inl (many_none is_blank (word (answer_text p.answer) (ws (word (62 ∷ []) K))) (answer_text p.answer ++ (62 ∷ [])) (word_on (answer_text p.answer) (ws (word (62 ∷ []) K)) (62 ∷ []) (inl h))))))

printed_is : (p : Primitive) → printed p ≡ 60 ∷ (aggressor_text p.agg ++ (sense_text p.vic ++ (47 ∷ (bit_text p.after ++ (47 ∷ (answer_text p.answer ++ (62 ∷ [])))))))
printed_is p = simp append_assoc

pub printed_text : (p : Primitive) → PrimText (printed p) (parts p)
printed_text p = subst (λ b. PrimText b (parts p)) (sym (printed_is p)) (inl (many_none is_blank (senses (written_agg p.agg) (written p.vic) (effect (parts p) (ws finish))) (aggressor_text p.agg ++ (sense_text p.vic ++ (47 ∷ (bit_text p.after ++ (47 ∷ (answer_text p.answer ++ (62 ∷ []))))))) (senses_on p.agg p.vic (effect (parts p) (ws finish)) (47 ∷ (bit_text p.after ++ (47 ∷ (answer_text p.answer ++ (62 ∷ []))))) (effect_on (parts p) (ws finish) tt))))
