-- Trusted. The grammar of a march's text, before any limit is tried.
--
--     text    = ws [ "{" ws [ list ws ] "}" | list ] ws
--     list    = element { ws ";" ws element }
--     element = "del" | order ws "(" ws op { ws "," ws op } ws ")"
--     op      = "w0" | "w1" | "r0" | "r1"
--     order   = up | down | any, each in several spellings
--
-- Here `ws` is any number of blanks and line feeds.
use Rattle.std.specs.Prelude.{ℕ, ◌||◌, ◌==◌, Bool, true, false, List, [], ◌∷◌, ◌⊎◌, codes}
use Rattle.bist_text.specs.Grammar.{finish, word, one_of, many, is_blank}
use Rattle.march_core.specs.declared.operation.Order.{Order}
use Rattle.march_core.specs.declared.operation.Order.TheVariants.{Up, Down, Any}
use Rattle.march_core.specs.declared.operation.Op.{Op}
use Rattle.march_core.specs.declared.operation.Op.TheVariants.{W0, W1, R0, R1}
use Rattle.march_core.specs.March.{MarchElement, pause, sweep}

-- a blank or a line feed
abbrev pub is_white : ℕ → Bool
is_white c = is_blank c || (c == 10)

abbrev pub ws : (List ℕ → Type 0) → List ℕ → Type 0
ws K = many is_white K

-- the arrows, as UTF-8: U+21D1, U+2191, U+21D3, U+2193, U+21D5, U+2195
abbrev pub double_arrow_up : List ℕ
double_arrow_up = 0xe2 ∷ 0x87 ∷ 0x91 ∷ []

abbrev pub arrow_up : List ℕ
arrow_up = 0xe2 ∷ 0x86 ∷ 0x91 ∷ []

abbrev pub double_arrow_down : List ℕ
double_arrow_down = 0xe2 ∷ 0x87 ∷ 0x93 ∷ []

abbrev pub arrow_down : List ℕ
arrow_down = 0xe2 ∷ 0x86 ∷ 0x93 ∷ []

abbrev pub double_arrow_both : List ℕ
double_arrow_both = 0xe2 ∷ 0x87 ∷ 0x95 ∷ []

abbrev pub arrow_both : List ℕ
arrow_both = 0xe2 ∷ 0x86 ∷ 0x95 ∷ []

-- how an order may be written
abbrev pub spellings : Order → List (List ℕ)
spellings Up = codes "up" ∷ codes "^" ∷ double_arrow_up ∷ arrow_up ∷ []
spellings Down = codes "down" ∷ codes "v" ∷ double_arrow_down ∷ arrow_down ∷ []
spellings Any = codes "any" ∷ codes "*" ∷ double_arrow_both ∷ arrow_both ∷ []

-- how a pause may be written
abbrev pub pause_spellings : List (List ℕ)
pause_spellings = codes "del" ∷ []

abbrev pub op_text : Op → List ℕ
op_text W0 = codes "w0"
op_text W1 = codes "w1"
op_text R0 = codes "r0"
op_text R1 = codes "r1"

-- { ws "," ws op }
abbrev pub more_ops : List Op → (List ℕ → Type 0) → List ℕ → Type 0
more_ops [] K = K
more_ops (o ∷ os) K = ws (word (codes ",") (ws (word (op_text o) (more_ops os K))))

-- op { ws "," ws op }
abbrev pub ops : List Op → (List ℕ → Type 0) → List ℕ → Type 0
ops [] K b = ⊥
ops (o ∷ os) K b = word (op_text o) (more_ops os K) b

-- ws "(" ws op { ws "," ws op } ws ")"
abbrev pub body : List Op → (List ℕ → Type 0) → List ℕ → Type 0
body os K = ws (word (codes "(") (ws (ops os (ws (word (codes ")") K)))))

abbrev pub element : MarchElement → (List ℕ → Type 0) → List ℕ → Type 0
element pause K = one_of pause_spellings K
element (sweep order os) K = one_of (spellings order) (body os K)

-- { ws ";" ws element }
abbrev pub more_elements : List MarchElement → (List ℕ → Type 0) → List ℕ → Type 0
more_elements [] K = K
more_elements (e ∷ es) K = ws (word (codes ";") (ws (element e (more_elements es K))))

-- element { ws ";" ws element }
abbrev pub elements : List MarchElement → (List ℕ → Type 0) → List ℕ → Type 0
elements [] K b = ⊥
elements (e ∷ es) K b = element e (more_elements es K) b

-- the end of a text, with or without braces: "}" ws, or nothing
abbrev pub close : Bool → List ℕ → Type 0
close true = word (codes "}") (ws finish)
close false = finish

-- [ list ws ] and the end
abbrev pub listed : Bool → List MarchElement → List ℕ → Type 0
listed braced [] = close braced
listed braced (e ∷ es) = elements (e ∷ es) (ws (close braced))

-- The bytes are the text of these elements. (Where neither braces nor elements stand, the two neighbouring
-- `ws` are one.)
abbrev pub MarchText : List ℕ → List MarchElement → Type 0
MarchText b es = ws (λ x. word (codes "{") (ws (listed true es)) x ⊎ listed false es x) b
