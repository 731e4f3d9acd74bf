-- Public. Which tokens a text may go on with where the reader of a module stands, whatever its limits.
use Rattle.std.specs.Prelude.{ℕ, Bool, true, false, ◌||◌, ◌&&◌, nat_le, nat_eq, List, [], ◌∷◌, Option, Some, None, length, codes, if◌then◌else◌}
use Rattle.std.specs.List.{starts_with}
use Rattle.verilog_tree.specs.Grammar.{unlimited}
use Rattle.verilog_tree.specs.Formed.{is_width, is_literal}
use Rattle.verilog_tree.specs.Spells.{Limits, keeps, short_names, small_numbers}
use Rattle.verilog_tree.specs.Tokens.{Token, Number, Based, Sign}
use Rattle.verilog_tree.specs.declared.tokens.Mark.{Mark}
use Rattle.verilog_tree.specs.declared.tokens.Mark.TheVariants.{Equals, Bang, Less, Greater, Ampersand, Bar, TwoEquals, BangEquals, LessEquals, TwoLess, GreaterEquals, TwoGreater, TwoAmpersands, TwoBars}
use Rattle.verilog_text.specs.Lexing.{Lexer, InGap, InWord, InNumber, Quoted, Lettered, InDigits, Marked, Whole}
use Rattle.verilog_text.specs.Places.{Around, InAlways, InBlock, InThen, InElse, InArm, InDefault, ExprPlace, WantOperand, WantPrim, StmtPlace, WantStmt, DefaultRead, Block, HaveStmt, ItemPlace, Begin, HeadName, WantPort, InputRead, OutputRead, WantRange, WantName, WantItem, AssignRead, ClockOpen, EdgeRead, State, AtExpr, AtStmt, AtItem}
use Rattle.verilog_text.specs.Steps.{step}

-- ---- words

-- the words that begin an item, or end the module
abbrev pub item_words : List (List ℕ)
item_words = codes "wire" ∷ codes "reg" ∷ codes "assign" ∷ codes "always" ∷ codes "endmodule" ∷ []

-- the words that begin a statement
abbrev pub statement_words : List (List ℕ)
statement_words = codes "begin" ∷ codes "if" ∷ codes "case" ∷ []

-- whether an else may come behind a whole statement that stands in this
abbrev pub else_behind : Around → Bool
else_behind (InThen r c a) = true
else_behind (InElse r c s a) = else_behind a
else_behind _ = false

-- the other words that may come there
abbrev pub words_behind : Around → List (List ℕ)
words_behind (InAlways h c) = item_words
words_behind (InBlock r old a) = codes "end" ∷ statement_words
words_behind (InThen r c a) = words_behind a
words_behind (InElse r c s a) = words_behind a
words_behind (InArm r x as' ls a) = codes "default" ∷ codes "endcase" ∷ []
words_behind (InDefault r x as' a) = codes "endcase" ∷ []

abbrev pub with_else : Bool → List (List ℕ) → List (List ℕ)
with_else false ws = ws
with_else true ws = codes "else" ∷ ws

abbrev pub stmt_words : StmtPlace → List (List ℕ)
stmt_words (WantStmt q a) = statement_words
stmt_words (DefaultRead r q x as' a) = statement_words
stmt_words (Block p r old a) = codes "end" ∷ statement_words
stmt_words (HaveStmt q s a) = with_else (else_behind a) (words_behind a)
stmt_words _ = []

abbrev pub place_words : ItemPlace → List (List ℕ)
place_words (Begin y) = codes "module" ∷ []
place_words (WantPort h) = codes "input" ∷ codes "output" ∷ []
place_words (InputRead h) = codes "wire" ∷ []
place_words (OutputRead h) = codes "wire" ∷ codes "reg" ∷ []
place_words (WantItem h) = item_words
place_words (ClockOpen h) = codes "posedge" ∷ []
place_words _ = []

-- the reserved words that may come
abbrev pub words : State → List (List ℕ)
words (AtExpr p) = []
words (AtStmt p) = stmt_words p
words (AtItem p) = place_words p

-- whether a name may come behind a whole statement that stands in this
abbrev pub names_behind : Around → Bool
names_behind (InBlock r old a) = true
names_behind (InThen r c a) = names_behind a
names_behind (InElse r c s a) = names_behind a
names_behind _ = false

abbrev pub names_expr : ExprPlace → Bool
names_expr (WantOperand p n ws o) = true
names_expr (WantPrim p n ws u o) = true
names_expr _ = false

abbrev pub names_stmt : StmtPlace → Bool
names_stmt (WantStmt q a) = true
names_stmt (DefaultRead r q x as' a) = true
names_stmt (Block p r old a) = true
names_stmt (HaveStmt q s a) = names_behind a
names_stmt _ = false

abbrev pub names_item : ItemPlace → Bool
names_item (HeadName y) = true
names_item (InputRead h) = true
names_item (OutputRead h) = true
names_item (WantRange u) = true
names_item (WantName u w) = true
names_item (AssignRead h) = true
names_item (EdgeRead h) = true
names_item _ = false

-- whether a name may come
abbrev pub takes_names : State → Bool
takes_names (AtExpr p) = names_expr p
takes_names (AtStmt p) = names_stmt p
takes_names (AtItem p) = names_item p

-- ---- tokens

abbrev pub is_step : Option State → Bool
is_step None = false
is_step (Some s) = true

-- whether a text may go on with this token
abbrev pub taken : State → Token → Bool
taken s t = is_step (step unlimited s t)

-- whether it may go on with a literal; which one does not matter
abbrev pub takes_literals : State → Bool
takes_literals s = taken s (Based (record { width = 1; value = 0 }))

-- how large a number may be: in brackets 63, and as the size of a literal 64
abbrev pub most_of : State → ℕ
most_of s = if taken s (Number false 0) then 63 else 64

-- ---- what is begun

-- whether one of these words begins with w
abbrev pub some_begins : List ℕ → List (List ℕ) → Bool
some_begins w [] = false
some_begins w (v ∷ vs) = starts_with nat_eq v w || some_begins w vs

-- the longer marks that begin with a mark
abbrev pub longer_marks : Mark → List Mark
longer_marks Equals = TwoEquals ∷ []
longer_marks Bang = BangEquals ∷ []
longer_marks Less = LessEquals ∷ TwoLess ∷ []
longer_marks Greater = GreaterEquals ∷ TwoGreater ∷ []
longer_marks Ampersand = TwoAmpersands ∷ []
longer_marks Bar = TwoBars ∷ []
longer_marks _ = []

abbrev pub some_taken : State → List Mark → Bool
some_taken s [] = false
some_taken s (m ∷ ms) = taken s (Sign m) || some_taken s ms

-- whether what the lexer has begun can go on to a token that may come
abbrev pub live : State → Lexer → Bool
live s (InGap m) = true
live s (InWord w) = takes_names s || some_begins w (words s)
live s (InNumber long n) = taken s (Number long n) || takes_literals s
live s (Quoted n) = takes_literals s
live s (Lettered n base) = takes_literals s
live s (InDigits n base v) = takes_literals s
live s (Marked m) = taken s (Sign m) || some_taken s (longer_marks m)
live s (Whole t) = taken s t

-- a word that is begun has at most 64 bytes
abbrev pub name_fits : Lexer → Bool
name_fits (InWord w) = nat_le (length w) 64
name_fits (Whole t) = keeps short_names t
name_fits _ = true

-- a number that is begun is at most `most`, and a literal has a size from 1 to 64 and a value that it holds
abbrev pub number_fits : ℕ → Lexer → Bool
number_fits most (InNumber long n) = nat_le n most
number_fits most (Quoted n) = is_width n
number_fits most (Lettered n base) = is_width n
number_fits most (InDigits n base v) = is_literal (record { width = n; value = v })
number_fits most (Whole t) = keeps small_numbers t
number_fits most _ = true

-- whether what is begun can go on to a token that may come, and that keeps these limits
abbrev pub live_in : Limits → State → Lexer → Bool
live_in limits s l = live s l && (if limits.names then name_fits l else true)
    && (if limits.numbers then number_fits (most_of s) l else true)
