-- Trusted. The grammar of a fault primitive's text.
--
--     prim   = "<" ws [ sense ws ";" ws ] sense ws "/" ws bit ws "/" ws answer ws ">"
--     sense  = bit { ws op } | read { ws op }
--     op     = "w0" | "w1" | read | "t"
--     read   = "r0" | "r1"
--     bit    = "0" | "1"
--     answer = "-" | "0" | "1"
--
-- Here `ws` is any number of blanks. A sense that begins with a read stands for the one that begins with the
-- read's digit.
use Rattle.std.specs.Prelude.{◌≡◌, Bool, true, false, Option, Some, None, List, [], ◌∷◌, ℕ, ◌⊎◌, codes}
use Rattle.bist_text.specs.Grammar.{finish, word, many, is_blank}
use Rattle.fault_syntax.specs.declared.words.Operation.{Operation}
use Rattle.fault_syntax.specs.declared.words.Operation.TheVariants.{Write, Read, Pause}

-- a sense: the state, and the operations on it
pub record SenseText : Type 0 where
  pub state : Bool
  pub ops : List Operation

-- the parts of a primitive: the senses of the aggressor, where there is one, and of the victim; the
-- victim's state afterwards; the answer
pub record PrimParts : Type 0 where
  pub agg : Option SenseText
  pub vic : SenseText
  pub after : Bool
  pub answer : Option Bool

-- any number of blanks
abbrev pub ws : (List ℕ → Type 0) → List ℕ → Type 0
ws K = many is_blank K

abbrev pub bit_text : Bool → List ℕ
bit_text false = codes "0"
bit_text true = codes "1"

abbrev pub answer_text : Option Bool → List ℕ
answer_text None = codes "-"
answer_text (Some b) = bit_text b

abbrev pub op : Operation → (List ℕ → Type 0) → List ℕ → Type 0
op (Write bit) K = word (codes "w") (word (bit_text bit) K)
op (Read bit) K = word (codes "r") (word (bit_text bit) K)
op Pause K = word (codes "t") K

-- { ws op }
abbrev pub more_ops : List Operation → (List ℕ → Type 0) → List ℕ → Type 0
more_ops [] K = K
more_ops (o ∷ os) K = ws (op o (more_ops os K))

-- a sense that begins with a read: its digit is the state
abbrev pub led : Bool → List Operation → (List ℕ → Type 0) → List ℕ → Type 0
led state [] K b = ⊥
led state (o ∷ os) K b = (o ≡ Read state) × op o (more_ops os K) b

abbrev pub sense : SenseText → (List ℕ → Type 0) → List ℕ → Type 0
sense s K b = word (bit_text s.state) (more_ops s.ops K) b ⊎ led s.state s.ops K b

-- ws "/" ws bit ws "/" ws answer ws ">"
abbrev pub effect : PrimParts → (List ℕ → Type 0) → List ℕ → Type 0
effect p K = ws (word (codes "/") (ws (word (bit_text p.after)
    (ws (word (codes "/") (ws (word (answer_text p.answer) (ws (word (codes ">") K)))))))))

-- [ sense ws ";" ws ] sense
abbrev pub senses : Option SenseText → SenseText → (List ℕ → Type 0) → List ℕ → Type 0
senses None vic K = sense vic K
senses (Some agg) vic K = sense agg (ws (word (codes ";") (ws (sense vic K))))

abbrev pub prim : PrimParts → (List ℕ → Type 0) → List ℕ → Type 0
prim p K = word (codes "<") (ws (senses p.agg p.vic (effect p K)))

-- The bytes are the text of these parts, with blanks round it.
abbrev pub PrimText : List ℕ → PrimParts → Type 0
PrimText b p = ws (prim p (ws finish)) b
