-- Public. What an expression over numbered values is worth.
use Rattle.std.specs.Prelude.{ℕ, ◌+◌, ◌-◌, ◌*◌, ◌/◌, ◌%◌, ◌^◌, List, cond, nat_eq, nat_lt, bit_and, get_or}
use Rattle.verilog_tree.specs.declared.tree.UnOp.{UnOp}
use Rattle.verilog_tree.specs.declared.tree.UnOp.TheVariants as U
use Rattle.verilog_tree.specs.declared.tree.BinOp.{BinOp}
use Rattle.verilog_tree.specs.declared.tree.BinOp.TheVariants as B
use Rattle.verilog_tree.specs.Meaning.{prefixed, infixed}
use Rattle.verilog_code.specs.declared.code.Code.{Code}
use Rattle.verilog_code.specs.declared.code.Code.TheOpen.{Code-F, Lit, Net, Part, PickNet, PickBit, Choose, Prefixed, Odd, Infixed, Concat}
use Rattle.verilog_code.specs.declared.code.Code.TheFolds.{fold-Code}

-- the value at a place, 0 where there is none
abbrev pub at : List ℕ → ℕ → ℕ
at vs n = get_or vs n 0

-- a value without its low bits
abbrev pub lowered : ℕ → ℕ → ℕ
lowered v low = cond (nat_lt low 64) (v / 2 ^ low) 0

-- the low 64 bits of a value that is moved up
abbrev pub raised : ℕ → ℕ → ℕ
raised v by = cond (nat_lt by 64) (v * 2 ^ by % 2 ^ 64) 0

-- whether an odd number of bits are 1
abbrev pub odd : ℕ → ℕ
odd v = prefixed U.Parity 1 v

-- an operator's value, where its operand's width has these ones
abbrev pub prefixed_code : UnOp → ℕ → ℕ → ℕ
prefixed_code U.Invert ones a = ones - a
prefixed_code U.AllOnes ones a = cond (nat_eq a ones) 1 0
prefixed_code o ones a = prefixed o 1 a

-- the same, where the width of its left operand has these ones
abbrev pub infixed_code : BinOp → ℕ → ℕ → ℕ → ℕ
infixed_code B.Add ones a b = bit_and ((a + b) % 2 ^ 64) ones
infixed_code B.Sub ones a b = bit_and ((a + 2 ^ 64 - b) % 2 ^ 64) ones
infixed_code B.Shl ones a b = bit_and (raised a b) ones
infixed_code B.Shr ones a b = lowered a b
infixed_code o ones a b = infixed o 1 a b

-- one node, by the values of its parts
abbrev pub layer : List ℕ → Code-F ℕ → ℕ
layer vs (Lit v) = v
layer vs (Net n) = at vs n
layer vs (Part n low ones) = bit_and (lowered (at vs n) low) ones
layer vs (PickNet n a b) = cond (nat_eq (at vs n) 0) b.value a.value
layer vs (PickBit n place a b) = cond (nat_eq (bit_and (lowered (at vs n) place) 1) 0) b.value a.value
layer vs (Choose c a b) = cond (nat_eq c.value 0) b.value a.value
layer vs (Prefixed o ones a) = prefixed_code o ones a.value
layer vs (Odd n mask) = odd (bit_and (at vs n) mask)
layer vs (Infixed o ones a b) = infixed_code o ones a.value b.value
layer vs (Concat low a b) = (raised a.value low + b.value) % 2 ^ 64

-- the value of an expression, where the values stand at their places
abbrev pub meaning : List ℕ → Code → ℕ
meaning vs = fold-Code ℕ (layer vs)
