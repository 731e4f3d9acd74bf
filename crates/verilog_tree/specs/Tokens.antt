-- Trusted. The tokens of a text, each the longest at its place, with white space between them.
use Rattle.std.specs.Prelude.{◌≡◌, ℕ, ◌+◌, ◌*◌, Bool, true, false, not, ◌==◌, ◌&&◌, ◌||◌, List, [], ◌∷◌, ◌++◌, ◌⊎◌, Option, Some, None, codes, if◌then◌else◌}
use Rattle.bist_bits.specs.Vector.{Vector}
use Rattle.bist_text.specs.Grammar.{finish, byte, when}
use Rattle.bist_text.specs.Machine.{Holds}
use Rattle.verilog_tree.specs.declared.tokens.Base.{Base}
use Rattle.verilog_tree.specs.declared.tokens.Base.TheVariants.{Binary, Octal, Decimal, Hexadecimal}
use Rattle.verilog_tree.specs.declared.tokens.Mark.{Mark}
use Rattle.verilog_tree.specs.declared.tokens.Mark.TheVariants.{Open, Close, OpenBracket, CloseBracket, OpenBrace, CloseBrace, Comma, Semicolon, Colon, At, Question, Equals, LessEquals, Plus, Minus, Ampersand, Bar, Caret, Tilde, Bang, TwoEquals, BangEquals, Less, Greater, GreaterEquals, TwoAmpersands, TwoBars, TwoLess, TwoGreater, FullStop}
use Rattle.verilog_tree.specs.declared.tokens.Within.{Within}
use Rattle.verilog_tree.specs.declared.tokens.Within.TheVariants.{Between, Slash, Line, Block, Star}
use Rattle.bist_text.specs.Identifiers.{is_digit, begins_identifier, in_identifier}
use Rattle.verilog_tree.specs.Words.{radix, base_of, is_digit_of, digit_value}

-- A token. A number is told by whether it has more than one digit, and its value. A literal is the constant
-- that its size and digits write. An unused one is a literal of base b, o or h with a ? directly behind it,
-- which the standard reads as a z digit, or one of the marks ~& ~| ~^ ^~ and &&&: no rule uses it.
pub data Token : Type 0 where
  Identifier : List ℕ → Token
  Number : Bool → ℕ → Token
  Based : Vector → Token
  Unused : Token
  Sign : Mark → Token

-- ---- what stands behind the first byte of a token; K says what follows the token, and each piece takes as
-- many bytes as there are, so that no longer token stands there

-- A where the test holds, and B else
abbrev pub whether : Bool → Type 0 → Type 0 → Type 0
whether true A B = A
whether false A B = B

-- nothing of the class follows
abbrev pub stops : (ℕ → Bool) → (List ℕ → Type 0) → List ℕ → Type 0
stops longer K [] = K []
stops longer K (c ∷ b) = whether (longer c) ⊥ (K (c ∷ b))

-- all bytes of the class that stand here, behind w; K takes the word that they make with it
abbrev pub run : (ℕ → Bool) → List ℕ → (List ℕ → List ℕ → Type 0) → List ℕ → Type 0
run p w K [] = K w []
run p w K (c ∷ b) = whether (p c) (run p (w ++ (c ∷ [])) K b) (K w (c ∷ b))

-- all decimal digits that stand here, behind others that are worth n; K takes whether there is more than one,
-- and their value
abbrev pub decimal : Bool → ℕ → (Bool → ℕ → List ℕ → Type 0) → List ℕ → Type 0
decimal long n K [] = K long n []
decimal long n K (c ∷ b) = whether (is_digit c) (decimal true (n * 10 + digit_value c) K b) (K long n (c ∷ b))

-- all digits of a base and _ that stand here, behind others that are worth v; K takes the value
abbrev pub digits : Base → ℕ → (ℕ → List ℕ → Type 0) → List ℕ → Type 0
digits base v K [] = K v []
digits base v K (c ∷ b) =
    whether (is_digit_of base c) (digits base (v * radix base + digit_value c) K b) (whether (c == 95) (digits base v K b) (K v (c ∷ b)))

-- ---- literals: a decimal size, ', a letter of the base, and digits, with nothing between

-- a ? behind digits of this base is a z digit
abbrev pub takes_question : Base → Bool
takes_question Binary = true
takes_question Octal = true
takes_question Decimal = false
takes_question Hexadecimal = true

abbrev pub is_query : Base → ℕ → Bool
is_query base c = takes_question base && (c == 63)

-- behind the digits: of a literal no ? that is a digit, and of an unused one such a ?
abbrev pub behind_digits : Token → (List ℕ → Type 0) → ℕ → Base → ℕ → List ℕ → Type 0
behind_digits (Based x) K size base v b = ((record { width = size; value = v }) ≡ x) × stops (is_query base) K b
behind_digits Unused K size base v [] = ⊥
behind_digits Unused K size base v (c ∷ b) = when (is_query base c) (K b)
behind_digits _ K size base v b = ⊥

-- behind the base's letter: the first digit, and the others
abbrev pub behind_letter : Token → (List ℕ → Type 0) → ℕ → Base → List ℕ → Type 0
behind_letter t K size base [] = ⊥
behind_letter t K size base (c ∷ b) = when (is_digit_of base c) (digits base (digit_value c) (behind_digits t K size base) b)

-- behind the ': the letter of the base
abbrev pub behind_quote : Token → (List ℕ → Type 0) → ℕ → List ℕ → Type 0
behind_quote t K size [] = ⊥
behind_quote t K size (c ∷ b) = Holds (base_of c) (λ base. behind_letter t K size base b)

-- P, of a token that begins with a size
abbrev pub sized : Token → Type 0 → Type 0
sized (Based x) P = P
sized Unused P = P
sized _ P = ⊥

-- behind decimal digits that are worth m: nothing more of a number, and of a literal, whose size they are, a '
abbrev pub behind_number : Token → (List ℕ → Type 0) → Bool → ℕ → List ℕ → Type 0
behind_number (Number l n) K long m b = (long ≡ l) × (m ≡ n) × stops (λ c. c == 39) K b
behind_number t K long m b = sized t (byte 39 (behind_quote t K m) b)

-- ---- marks

abbrev pub mark_text : Mark → List ℕ
mark_text Open = codes "("
mark_text Close = codes ")"
mark_text OpenBracket = codes "["
mark_text CloseBracket = codes "]"
mark_text OpenBrace = codes "{"
mark_text CloseBrace = codes "}"
mark_text Comma = codes ","
mark_text Semicolon = codes ";"
mark_text Colon = codes ":"
mark_text At = codes "@"
mark_text Question = codes "?"
mark_text Equals = codes "="
mark_text LessEquals = codes "<="
mark_text Plus = codes "+"
mark_text Minus = codes "-"
mark_text Ampersand = codes "&"
mark_text Bar = codes "|"
mark_text Caret = codes "^"
mark_text Tilde = codes "~"
mark_text Bang = codes "!"
mark_text TwoEquals = codes "=="
mark_text BangEquals = codes "!="
mark_text Less = codes "<"
mark_text Greater = codes ">"
mark_text GreaterEquals = codes ">="
mark_text TwoAmpersands = codes "&&"
mark_text TwoBars = codes "||"
mark_text TwoLess = codes "<<"
mark_text TwoGreater = codes ">>"
mark_text FullStop = codes "."

-- the mark of one byte
abbrev pub mark_of : ℕ → Option Mark
mark_of c =
    if c == 40 then Some Open else if c == 41 then Some Close else if c == 91 then Some OpenBracket else if c == 93 then Some CloseBracket
    else if c == 123 then Some OpenBrace else if c == 125 then Some CloseBrace else if c == 44 then Some Comma else if c == 59 then Some Semicolon
    else if c == 58 then Some Colon else if c == 64 then Some At else if c == 63 then Some Question else if c == 61 then Some Equals
    else if c == 43 then Some Plus else if c == 45 then Some Minus else if c == 38 then Some Ampersand else if c == 124 then Some Bar
    else if c == 94 then Some Caret else if c == 126 then Some Tilde else if c == 33 then Some Bang else if c == 60 then Some Less
    else if c == 62 then Some Greater else if c == 46 then Some FullStop else None

-- the mark that a second byte makes of one, if it makes one
abbrev pub lengthened : Mark → ℕ → Option Mark
lengthened Equals c = if c == 61 then Some TwoEquals else None
lengthened Bang c = if c == 61 then Some BangEquals else None
lengthened Less c = if c == 61 then Some LessEquals else if c == 60 then Some TwoLess else None
lengthened Greater c = if c == 61 then Some GreaterEquals else if c == 62 then Some TwoGreater else None
lengthened Ampersand c = if c == 38 then Some TwoAmpersands else None
lengthened Bar c = if c == 124 then Some TwoBars else None
lengthened _ c = None

-- whether a byte makes of a mark a token that no rule uses: ~& ~| ~^ ^~ &&&
abbrev pub spoils : Mark → ℕ → Bool
spoils Tilde c = (c == 38) || (c == 124) || (c == 94)
spoils Caret c = c == 126
spoils TwoAmpersands c = c == 38
spoils _ c = false

-- what a byte makes of the mark before it: a longer one, a token that no rule uses, or nothing
pub data Growth : Type 0 where
  Longer : Mark → Growth
  Spoiled : Growth
  Complete : Growth

abbrev pub growth_of : Option Mark → Bool → Growth
growth_of (Some k) spoilt = Longer k
growth_of None true = Spoiled
growth_of None false = Complete

abbrev pub growth : Mark → ℕ → Growth
growth m c = growth_of (lengthened m c) (spoils m c)

abbrev pub grown : Growth → (Mark → Type 0) → Mark → Token → (List ℕ → Type 0) → ℕ → List ℕ → Type 0
grown (Longer k) longer m t K c b = longer k
grown Spoiled longer m t K c b = (Unused ≡ t) × K b
grown Complete longer m t K c b = (Sign m ≡ t) × K (c ∷ b)

-- behind the first bytes of a token, which alone are the mark m: as many as make a longer one
abbrev pub behind_mark : Mark → Token → (List ℕ → Type 0) → List ℕ → Type 0
behind_mark m t K [] = (Sign m ≡ t) × K []
behind_mark m t K (c ∷ b) = grown (growth m c) (λ k. behind_mark k t K b) m t K c b

-- ---- tokens

-- what a byte begins: a word, a number, a mark, or no token
pub data Start : Type 0 where
  AWord : Start
  ANumber : Start
  AMark : Mark → Start
  NoToken : Start

abbrev pub start_mark : Option Mark → Start
start_mark None = NoToken
start_mark (Some m) = AMark m

abbrev pub start_of : ℕ → Start
start_of c = if begins_identifier c then AWord else if is_digit c then ANumber else start_mark (mark_of c)

-- a token whose first byte is c
abbrev pub begun : Start → ℕ → Token → (List ℕ → Type 0) → List ℕ → Type 0
begun AWord c (Identifier w) K b = run in_identifier (c ∷ []) (λ v r. (v ≡ w) × K r) b
begun AWord c _ K b = ⊥
begun ANumber c t K b = decimal false (digit_value c) (behind_number t K) b
begun (AMark m) c t K b = behind_mark m t K b
begun NoToken c t K b = ⊥

-- a token, the longest that stands here, and then what K says
abbrev pub token : Token → (List ℕ → Type 0) → List ℕ → Type 0
token t K [] = ⊥
token t K (c ∷ b) = begun (start_of c) c t K b

-- ---- white space

-- space, tab, line feed, form feed, carriage return
abbrev pub is_space : ℕ → Bool
is_space c = (c == 32) || (c == 9) || (c == 10) || (c == 12) || (c == 13)

-- White space: spaces, // to the line's end or the file's, and /* to the next */.
abbrev pub gap : Within → (List ℕ → Type 0) → List ℕ → Type 0
gap Between K [] = K []
gap Between K (c ∷ b) = K (c ∷ b) ⊎ (when (is_space c) (gap Between K b) ⊎ when (c == 47) (gap Slash K b))
gap Slash K [] = ⊥
gap Slash K (c ∷ b) = when (c == 47) (gap Line K b) ⊎ when (c == 42) (gap Block K b)
gap Line K [] = K []
gap Line K (c ∷ b) = when (c == 10) (gap Between K b) ⊎ when (not (c == 10)) (gap Line K b)
gap Block K [] = ⊥
gap Block K (c ∷ b) = when (c == 42) (gap Star K b) ⊎ when (not (c == 42)) (gap Block K b)
gap Star K [] = ⊥
gap Star K (c ∷ b) = when (c == 47) (gap Between K b) ⊎ (when (c == 42) (gap Star K b) ⊎ when (not (c == 47 || c == 42)) (gap Block K b))

-- the first of these tokens stands here, and the others behind it with white space between
abbrev pub first : List Token → List ℕ → Type 0
first [] b = finish b
first (t ∷ ts) b = token t (λ r. gap Between (first ts) r) b

-- These are the text's tokens. White space may stand before, between and behind them.
abbrev pub Lexed : List Token → List ℕ → Type 0
Lexed ts b = gap Between (first ts) b
