-- Public. What an expression over numbered values is worth where some of these are open: a number, or nothing.
use Rattle.std.specs.Prelude.{ℕ, ◌+◌, ◌%◌, ◌^◌, List, cond, nat_eq, bit_and, get_or, Option, Some, None, option_map}
use Rattle.verilog_tree.specs.declared.tree.BinOp.{BinOp}
use Rattle.verilog_tree.specs.declared.tree.BinOp.TheVariants as B
use Rattle.verilog_tree.specs.Partial.{both, agreed}
use Rattle.verilog_code.specs.declared.code.Code.{Code}
use Rattle.verilog_code.specs.declared.code.Code.TheOpen.{Code-F, Lit, Net, Part, PickNet, PickBit, Choose, Prefixed, Odd, Infixed, Concat}
use Rattle.verilog_code.specs.declared.code.Code.TheFolds.{fold-Code}
use Rattle.verilog_code.specs.Code.{lowered, raised, odd, prefixed_code, infixed_code}

-- what stands at a place; 0 where there is none
abbrev pub open_at : List (Option ℕ) → ℕ → Option ℕ
open_at vs n = get_or vs n (Some 0)

-- the first where the number isn't 0, and else the second; where there is no number, what both are
abbrev pub picked : Option ℕ → Option ℕ → Option ℕ → Option ℕ
picked None a b = agreed a b
picked (Some c) a b = cond (nat_eq c 0) b a

-- what one operand alone decides, where the width of the left one has these ones
abbrev pub alone_code : BinOp → ℕ → ℕ → Option ℕ
alone_code B.And ones v = cond (nat_eq v 0) (Some 0) None
alone_code B.Or ones v = cond (nat_eq v ones) (Some v) None
alone_code B.LogAnd ones v = cond (nat_eq v 0) (Some 0) None
alone_code B.LogOr ones v = cond (nat_eq v 0) None (Some 1)
alone_code o ones v = None

-- an operator of what may be nothing
abbrev pub open_infixed_code : BinOp → ℕ → Option ℕ → Option ℕ → Option ℕ
open_infixed_code o ones None None = None
open_infixed_code o ones None (Some b) = alone_code o ones b
open_infixed_code o ones (Some a) None = alone_code o ones a
open_infixed_code o ones (Some a) (Some b) = Some (infixed_code o ones a b)

-- one node, by what its parts are
abbrev pub open_layer : List (Option ℕ) → Code-F (Option ℕ) → Option ℕ
open_layer vs (Lit v) = Some v
open_layer vs (Net n) = open_at vs n
open_layer vs (Part n low ones) = option_map (λ v. bit_and (lowered v low) ones) (open_at vs n)
open_layer vs (PickNet n a b) = picked (open_at vs n) a.value b.value
open_layer vs (PickBit n place a b) = picked (option_map (λ v. bit_and (lowered v place) 1) (open_at vs n)) a.value b.value
open_layer vs (Choose c a b) = picked c.value a.value b.value
open_layer vs (Prefixed o ones a) = option_map (prefixed_code o ones) a.value
open_layer vs (Odd n mask) = option_map odd (open_infixed_code B.And 0 (open_at vs n) (Some mask))
open_layer vs (Infixed o ones a b) = open_infixed_code o ones a.value b.value
open_layer vs (Concat low a b) = both (λ x y. (raised x low + y) % 2 ^ 64) a.value b.value

-- what an expression is, where the values stand at their places
abbrev pub open_meaning : List (Option ℕ) → Code → Option ℕ
open_meaning vs = fold-Code (Option ℕ) (open_layer vs)
