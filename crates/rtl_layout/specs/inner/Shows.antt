-- Inner. For proofs and private contracts alone, beside Shows: when registers show a controller.
use Rattle.std.specs.Prelude.{◌≡◌, ℕ, suc, ◌<◌, Bool, true, List, [], ◌∷◌, length}
use Rattle.verilog_tree.specs.Meaning.{Env, bit}
use Rattle.rtl_layout.specs.Plan.{Plan, several, several_bits, limit}
use Rattle.rtl_layout.specs.Layout.{reads_at, over_at, value_at, back_at, oper, visit, element, back, run, last_oper, last_visit, one, want, bad}
use Rattle.rtl_layout.specs.Control.{Stage, Control, here, operation, ends_oper, ends_visit}

pub record ShowsStage (many : Bool) (i : ℕ) (s : Stage) (regs : Env) : Type 0 where
  pub reads_is : regs (reads_at i) ≡ bit s.reads
  pub over_is : regs (over_at i) ≡ bit s.over
  pub value_is : regs (value_at i) ≡ bit s.value
  pub back_is : regs (back_at many i) ≡ s.back

abbrev pub ShowsStages : Bool → ℕ → List Stage → Env → Type 0
ShowsStages many i [] regs = Unit {0}
ShowsStages many i (s ∷ ss) regs = ShowsStage many (suc i) s regs × ShowsStages many (suc i) ss regs

abbrev pub BacksIn : ℕ → List Stage → Type 0
BacksIn k [] = Unit {0}
BacksIn k (s ∷ ss) = (s.back < k) × BacksIn k ss

pub record Shows (p : Plan) (c : Control) (regs : Env) : Type 0 where
  pub oper_is : regs oper ≡ c.oper
  pub visit_is : regs visit ≡ c.visit
  pub element_is : regs element ≡ c.element
  pub back_is : regs back ≡ c.back
  pub run_is : regs run ≡ bit c.run
  pub last_oper_is : regs last_oper ≡ bit (ends_oper p c)
  pub last_visit_is : regs last_visit ≡ bit (ends_visit p c)
  pub one_is : several_bits p ≡ true → regs one ≡ bit (operation p c).bit
  pub stages_are : ShowsStages (several p) 0 c.stages regs
  pub reads_is : regs (reads_at (suc p.delay)) ≡ bit c.reads
  pub over_is : regs (over_at (suc p.delay)) ≡ bit c.over
  -- only where a read is answered does it stand there
  pub want_is : c.reads ≡ true → regs want ≡ c.want
  pub bad_is : regs bad ≡ bit c.bad
  pub stages_count : length c.stages ≡ p.delay
  pub backs_in : BacksIn (length p.backgrounds) c.stages
  pub oper_in : c.oper < length (here p c).operations
  pub visit_in : c.visit < limit p (here p c)
  pub element_in : c.element < length p.elements
  pub back_in : c.back < length p.backgrounds
