-- The printed form of a dynamic primitive is a line that stands for it.
use Rattle.std.proofs.Common.{◌≡◌, ℕ, Bool, false, not, List, [], ◌∷◌, ◌++◌, ◌∙◌, Option, Some, None, Ok, refl, inl, ap, subst, sym, append_assoc, arith}
use Rattle.std.specs.Char.{is_newline}
use Rattle.std.specs.List.{All, list_all}
use Rattle.std.proofs.Math.Dec.{eqb-suc-zero}
use Rattle.std.proofs.lemmas.Bool.{and_parts, not-true}
use Rattle.std.proofs.lemmas.List.Splits.{slice_split_none}
use Rattle.std.proofs.lemmas.List.Sums.{AllPass-from_list_all}
use Rattle.bist_text.specs.Grammar.{word, is_blank}
use Rattle.bist_text.specs.Lines.{TextLine, lines_of_parts, text_lines}
use Rattle.bist_text.proofs.Pieces.{many_none, word_on}
use Rattle.fault_core.specs.declared.primitive.Act.{Act}
use Rattle.fault_core.specs.declared.primitive.Act.TheVariants.{Write as Writes, Read as Reads, Pause as Pauses}
use Rattle.fault_syntax.specs.declared.words.Operation.{Operation}
use Rattle.fault_syntax.specs.declared.words.Operation.TheVariants.{Write, Read, Pause}
use Rattle.fault_syntax.specs.ListText.{Primitive, line_end, ItemLine}
use Rattle.fault_syntax.specs.Parts.{IsAct}
use Rattle.fault_syntax.specs.Printed.{act_text}
use Rattle.fault_syntax.specs.PrimText.{SenseText, PrimParts, ws, bit_text, answer_text, op, more_ops, sense, senses, effect}
use Rattle.fault_syntax.proofs.PrintLaws.{effect_on}
use Rattle.dynamic_core.specs.declared.item.Item.TheVariants.{Dyn}
use Rattle.dynamic_core.specs.ItemParts.{AreActs, IsDynamicAggressor, StandsForDynamic}
use Rattle.dynamic_core.specs.inner.Items.{BringAll}
use Rattle.dynamic_core.specs.Items.{ReadsItems}
use Rattle.dynamic_core.specs.Primitive.{TwoActs, DynamicSense, DynamicPrimitive, IsDynamic, left_by}
use Rattle.dynamic_core.specs.Printed.{acts_text, dynamic_sense_text, dynamic_aggressor_text, printed_dynamic}
use Rattle.dynamic_core.proofs.Parts.{parts_pass, dynamic_passes}

-- the written parts of a dynamic primitive
abbrev op_of : Bool → Act → Operation
op_of content (Writes bit) = Write bit
op_of content Reads = Read content
op_of content Pauses = Pause

abbrev ops_of : Bool → Option TwoActs → List Operation
ops_of state None = []
ops_of state (Some acts) = op_of state acts.first ∷ op_of (left_by state acts.first) acts.second ∷ []

abbrev written : DynamicSense → SenseText
written s = record { state = s.state; ops = ops_of s.state s.acts }

abbrev written_agg : Option DynamicSense → Option SenseText
written_agg None = None
written_agg (Some s) = Some (written s)

abbrev pub parts : DynamicPrimitive → PrimParts
parts p = record { agg = written_agg p.agg; vic = written p.vic; after = p.after; answer = p.answer }

-- they stand for it
act_is : (content : Bool) (a : Act) → IsAct content (op_of content a) (Some a)
act_is content (Writes bit) = refl
act_is content Reads = (refl, refl)
act_is content Pauses = refl

acts_are : (state : Bool) (acts : Option TwoActs) → AreActs state (ops_of state acts) acts
acts_are state None = refl
acts_are state (Some acts) = (acts, refl, act_is state acts.first, act_is (left_by state acts.first) acts.second)

agg_is : (a : Option DynamicSense) → IsDynamicAggressor (written_agg a) a
agg_is None = refl
agg_is (Some s) = (s, refl, (refl, acts_are s.state s.acts))

pub parts_stand : (p : DynamicPrimitive) → StandsForDynamic (parts p) p
parts_stand p = record { agg = agg_is p.agg; vic = (refl, acts_are p.vic.state p.vic.acts); after = refl; answer = refl }

-- and are printed so
act_on : (content : Bool) (a : Act) (K : List ℕ → Type 0) (r : List ℕ) → K r → ws (op (op_of content a) K) (act_text content (Some a) ++ r)
act_on content (Writes bit) K r h = inl (word_on (bit_text bit) K r h)
act_on content Reads K r h = inl (word_on (bit_text content) K r h)
act_on content Pauses K r h = inl h

acts_on : (state : Bool) (acts : Option TwoActs) (K : List ℕ → Type 0) (r : List ℕ) → K r → more_ops (ops_of state acts) K (acts_text state acts ++ r)
acts_on state None K r h = h
acts_on state (Some acts) K r h =
    let left : Bool = left_by state acts.first in
    let second : List ℕ = act_text left (Some acts.second) in
    subst (more_ops (ops_of state (Some acts)) K) (sym (append_assoc (act_text state (Some acts.first)) second r))
    (act_on state acts.first (ws (op (op_of left acts.second) K)) (second ++ r) (act_on left acts.second K r h))

sense_on : (s : DynamicSense) (K : List ℕ → Type 0) (r : List ℕ) → K r → sense (written s) K (dynamic_sense_text s ++ r)
sense_on s K r h =
    subst (sense (written s) K) (sym (append_assoc (bit_text s.state) (acts_text s.state s.acts) r))
    (inl (word_on (bit_text s.state) (more_ops (ops_of s.state s.acts) K) (acts_text s.state s.acts ++ r) (acts_on s.state s.acts K r h)))

senses_on : (a : Option DynamicSense) (s : DynamicSense) (K : List ℕ → Type 0) (r : List ℕ) → K r
    → senses (written_agg a) (written s) K (dynamic_aggressor_text a ++ (dynamic_sense_text s ++ r))
senses_on None s K r h = sense_on s K r h
senses_on (Some a) s K r h =
    subst (senses (Some (written a)) (written s) K) (sym (append_assoc (dynamic_sense_text a) (59 ∷ []) (dynamic_sense_text s ++ r)))
    (sense_on a (ws (word (59 ∷ []) (ws (sense (written s) K)))) (59 ∷ (dynamic_sense_text s ++ r))
    (inl (many_none is_blank (sense (written s) K) (dynamic_sense_text s ++ r) (sense_on s K r h))))

-- `/F/R>`
abbrev ending : DynamicPrimitive → List ℕ
ending p = 47 ∷ (bit_text p.after ++ (47 ∷ (answer_text p.answer ++ (62 ∷ []))))

printed_is : (p : DynamicPrimitive) → printed_dynamic p ≡ 60 ∷ (dynamic_aggressor_text p.agg ++ (dynamic_sense_text p.vic ++ ending p))
printed_is p = simp append_assoc

pub printed_line : (p : DynamicPrimitive) → ItemLine (printed_dynamic p) (Some (Primitive (parts p)))
printed_line p =
    subst (λ b. ItemLine b (Some (Primitive (parts p)))) (sym (printed_is p))
    (inl (many_none is_blank (senses (written_agg p.agg) (written p.vic) (effect (parts p) (ws line_end)))
    (dynamic_aggressor_text p.agg ++ (dynamic_sense_text p.vic ++ ending p))
    (senses_on p.agg p.vic (effect (parts p) (ws line_end)) (ending p) (effect_on (parts p) (ws line_end) (inl tt)))))

-- ---- it is a list of one line

abbrev has_no_feed : DynamicPrimitive → Bool
has_no_feed p = list_all (λ c. not (is_newline c)) (printed_dynamic p)

no_feed : (p : DynamicPrimitive) → IsDynamic p → All (λ c. is_newline c ≡ false) (printed_dynamic p)
no_feed p is k d within =
    not-true _ (AllPass-from_list_all (λ c. not (is_newline c)) (printed_dynamic p)
    (parts_pass has_no_feed refl p (and_parts _ _ (dynamic_passes p is)).0) k d within)

abbrev line_of : List ℕ → TextLine
line_of b = record { number = 1; start = 0; text = b; ended = false }

one_part : (c : ℕ) (b : List ℕ) → lines_of_parts 1 0 ((c ∷ b) ∷ []) ≡ line_of (c ∷ b) ∷ []
one_part c b = rw eqb-suc-zero refl

one_line : (p : DynamicPrimitive) → IsDynamic p → text_lines (printed_dynamic p) ≡ line_of (printed_dynamic p) ∷ []
one_line p is =
    ap (lines_of_parts 1 0) (slice_split_none is_newline (printed_dynamic p) (no_feed p is))
    ∙ ap (λ (b : List ℕ). lines_of_parts 1 0 (b ∷ [])) (printed_is p)
    ∙ one_part 60 (dynamic_aggressor_text p.agg ++ (dynamic_sense_text p.vic ++ ending p))
    ∙ ap (λ (b : List ℕ). line_of b ∷ []) (sym (printed_is p))

pub printed_list : (p : DynamicPrimitive) → IsDynamic p → ReadsItems (printed_dynamic p) (Ok (Dyn p ∷ []))
printed_list p is =
    let here : BringAll (line_of (printed_dynamic p) ∷ []) (Dyn p ∷ []) =
    (Some (Primitive (parts p)), Dyn p ∷ [], [], printed_line p, (Dyn p, (parts_stand p, is), refl), refl, refl) in
    (subst (λ (ls : List TextLine). BringAll ls (Dyn p ∷ [])) (sym (one_line p is)) here, omega arith)
