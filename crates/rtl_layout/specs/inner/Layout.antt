-- Inner. For proofs and private contracts alone, beside Layout: the self-test module of a plan.
use Rattle.std.specs.Prelude.{ℕ, suc, Bool, true, false, cond, nat_le, List, [], ◌∷◌, ◌++◌, length}
use Rattle.std.specs.Borrow.{Bor}
use Rattle.verilog_tree.specs.Plain.{Net, Statement, SetTo, ModuleItem, RegItem}
use Rattle.rtl_layout.specs.Plan.{Plan, several, several_bits}
use Rattle.rtl_layout.specs.Layout.{back, value, aged, reads_at, over_at, value_at, gated, digit_regs, maybe, one_reg, stage_regs, end_regs, feed_reads, feed_over, back_set}

-- whether the text of each row fits a name
abbrev pub are_names : List (Bor (List ℕ) × ℕ) → Bool
are_names [] = true
are_names (row ∷ rows) = cond (nat_le (length row.0.now) 64) (are_names rows) false

-- ---- registers

-- of one age that has a value
abbrev pub age_regs : Bool → ℕ → ℕ → List ModuleItem
age_regs many w i = RegItem (reads_at i) 1 ∷ RegItem (over_at i) 1 ∷ RegItem (aged value i) 1 ∷ maybe many (RegItem (aged back i) w)

-- all registers
abbrev pub registers : Plan → List ModuleItem
registers p = digit_regs p ++ (one_reg (several_bits p) ++ (stage_regs (several p) p.back_width 0 p.delay ++ end_regs p))

-- ---- what they are assigned and set to

-- what age suc i takes from age i
abbrev pub end_age_sets : ℕ → List Statement
end_age_sets i = SetTo (reads_at (suc i)) (gated (feed_reads i)) ∷ SetTo (over_at (suc i)) (gated (feed_over i)) ∷ []

-- and what it takes where it has a value
abbrev pub valued_sets : ℕ → List Statement
valued_sets i = SetTo (reads_at (suc i)) (gated (feed_reads i)) ∷ SetTo (over_at (suc i)) (gated (feed_over i)) ∷ SetTo
    (value_at (suc i)) (gated (Net (value_at i))) ∷ []

abbrev pub age_sets : Bool → ℕ → ℕ → List Statement
age_sets many w i =
    SetTo (reads_at (suc i)) (gated (feed_reads i)) ∷ SetTo (over_at (suc i)) (gated (feed_over i)) ∷ SetTo
    (value_at (suc i)) (gated (Net (value_at i)))
    ∷ maybe many (back_set w i)
