-- Public. Laws, as statements that a contract can name.
use Rattle.std.specs.Prelude.{◌≡◌, ℕ, ◌<◌, ◌⊎◌, true, false, List, Some, ◌↔◌}
use Rattle.verilog_tree.specs.Formed.{formed}
use Rattle.bist_text.specs.Machine.{read}
use Rattle.verilog_tree.specs.Grammar.{Style}
use Rattle.verilog_tree.specs.Spells.{Limits, all_limits, Text, Spells, FreelySpells}
use Rattle.verilog_text.specs.Operators.{few_operators}
use Rattle.verilog_text.specs.Reading.{reads}
use Rattle.verilog_text.specs.Answering.{Finished, Faulty, answer}
use Rattle.verilog_text.specs.Refusals.{SaysIn, StandsIn, byte_of}
use Rattle.verilog_tree.specs.declared.fault.ReadFault.{ReadFault}
use Rattle.verilog_tree.specs.Pieces.{Limit, few}
use Rattle.verilog_tree.specs.Plain.{Expression, ModuleTree}
use Rattle.verilog_tree.specs.Tokens.{Token}
use Rattle.verilog_tree.specs.Free as T
use Rattle.verilog_tree.specs.Parenthesised as Y
use Rattle.verilog_tree.specs.Free.{operators}
use Rattle.verilog_text.specs.Flat as F

-- The ten rules derive these tokens, before those, with this tree and no more operators than may be, exactly where the
-- flat form does.
abbrev pub SameTexts : Type 0
SameTexts = (limit : Limit) (d : ℕ) (ts us : List Token) (e : Expression)
    → ((x : T.Expr) × ((few limit (operators (T.expr_tree x)) ≡ true)
    × T.expr limit d x (λ vs. (T.expr_tree x ≡ e) × (vs ≡ us)) ts))
    ↔ ((x : F.Flat) × F.flat limit d x (F.Together 0) (λ n vs. (F.flat_tree x ≡ e) × (vs ≡ us)) ts)

-- In full parentheses these tokens are derived, before those, with this tree, exactly where the flat form derives them
-- that has at most one operator in each parenthesis, and none elsewhere.
abbrev pub FullTexts : Type 0
FullTexts = (limit : Limit) (d : ℕ) (ts us : List Token) (e : Expression)
    → ((x : Y.Expr) × Y.expr limit d x (λ vs. (Y.expr_tree x ≡ e) × (vs ≡ us)) ts)
    ↔ ((x : F.Flat) × F.flat limit d x (F.Apart false) (λ n vs. (F.flat_tree x ≡ e) × (vs ≡ us)) ts)

-- The machine reads exactly the texts within its limits, each to its one module.
abbrev pub ReadsTexts : Type 0
ReadsTexts = (limits : Limits) (y : Style) (b : List ℕ) (v : ModuleTree) → (reads y limits b ≡ read v) ↔ Text y limits b v

-- No bytes spell two modules, with or without limits.
abbrev pub OneModule : Type 0
OneModule = (limits : Limits) (y : Style) (b : List ℕ) (v w : ModuleTree) → Text y limits b v → Text y limits b w → v ≡ w

-- A fault that the machine tells stands in the text.
abbrev pub ToldFaultsStand : Type 0
ToldFaultsStand = (y : Style) (b : List ℕ) (f : ReadFault) → answer y b ≡ Faulty f → SaysIn y b f

-- A module is read exactly where the text is one within all limits.
abbrev pub FinishesExactly : Type 0
FinishesExactly = (y : Style) (b : List ℕ) (v : ModuleTree) → (answer y b ≡ Finished v) ↔ Text y all_limits b v

-- Each refusal that stands in a text is the one that is told, or has a later byte; none stands in a text that is read.
abbrev pub ToldFaultsAreFirst : Type 0
ToldFaultsAreFirst = (y : Style) (b : List ℕ) (f g : ReadFault) → answer y b ≡ Faulty f → StandsIn y b g → (g ≡ f)
    ⊎ (byte_of b f < byte_of b g)

abbrev pub NoneStandsInATextThatIsRead : Type 0
NoneStandsInATextThatIsRead = (y : Style) (b : List ℕ) (v : ModuleTree) (g : ReadFault) → answer y b ≡ Finished v → StandsIn y b g → ⊥

-- What a text spells has the sizes of a formed module.
abbrev pub SpelledIsFormed : Type 0
SpelledIsFormed = (y : Style) (b : List ℕ) (v : ModuleTree) → Text y all_limits b v → formed v ≡ true

-- A text in full parentheses spells nothing else where operators bind by precedence.
abbrev pub SpellsNothingElse : Type 0
SpellsNothingElse = (b : List ℕ) (v w : ModuleTree) → Spells b v → FreelySpells b w → w ≡ v

-- It spells its module there too, where each expression has at most 256 operators.
abbrev pub SpellsItFreely : Type 0
SpellsItFreely = (b : List ℕ) (v : ModuleTree) → Spells b v → few_operators (Some 256) v ≡ true → FreelySpells b v
