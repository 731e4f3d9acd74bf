-- Inner. For proofs and private contracts alone, beside Expected: which tokens a text may go on with where the reader of a module stands, whatever its limits.
use Rattle.std.specs.Prelude.{ℕ, Bool, true, false}
use Rattle.verilog_tree.specs.Grammar.{is_zero}
use Rattle.verilog_text.specs.Places.{Around, InThen, InElse, InArm, Bracket, ColonRead, WantHigh, WantZero, State, AtExpr, AtItem}

-- ---- words

-- whether a literal may come there, as a label
abbrev pub literals_behind : Around → Bool
literals_behind (InThen r c a) = literals_behind a
literals_behind (InElse r c s a) = literals_behind a
literals_behind (InArm r x as' ls a) = true
literals_behind _ = false

-- ---- tokens

-- where numbers are taken: all, the number "0" alone, or none
pub data Numbers : Type 0 where
  AllNumbers : Numbers
  ZeroAlone : Numbers
  NoNumber : Numbers

abbrev pub numbers : State → Numbers
numbers (AtExpr (Bracket p n o)) = AllNumbers
numbers (AtExpr (ColonRead p n h o)) = AllNumbers
numbers (AtItem (WantHigh u)) = AllNumbers
numbers (AtItem (WantZero u i)) = ZeroAlone
numbers _ = NoNumber

abbrev pub taken_as : Numbers → Bool → ℕ → Bool
taken_as AllNumbers l n = true
taken_as ZeroAlone l n = is_zero l n
taken_as NoNumber l n = false
