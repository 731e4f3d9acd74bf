-- Public. Which numbers the open run of a module shows.
use Rattle.std.specs.Prelude.{◌≡◌, ℕ, zero, suc, ◌^◌, ◌<◌, cond, true, Some}
use Rattle.std.specs.Str.{bytes_eq}
use Rattle.verilog_tree.specs.Meaning.{Env}
use Rattle.verilog_open.specs.Open.{OpenEnv, IsOpenRunOf}
use Rattle.verilog_open.specs.Known.{Known}
use Rattle.verilog_open.specs.Laws.{AllowsEnv}
use Rattle.rtl_layout.specs.Plan.{Plan}
use Rattle.rtl_layout.specs.Layout.{reset, rdata, en, we, addr, wdata, done, fail, self_test}
use Rattle.rtl_layout.specs.Control.{Control, start, step}

-- the machine of cycle t+1, where these words stand on `rdata`, by cycle
abbrev pub machine_at : Plan → (ℕ → ℕ) → ℕ → Control
machine_at p words zero = start p
machine_at p words (suc t) = step p (words (suc t)) (machine_at p words t)

-- one reset, in the first cycle
abbrev pub one_reset : ℕ → ℕ
one_reset zero = 1
one_reset (suc t) = 0

-- the inputs of cycle t, with these words
abbrev pub inputs_with : (ℕ → ℕ) → ℕ → Env
inputs_with words t n = cond (bytes_eq n reset) (one_reset t) (cond (bytes_eq n rdata) (words t) 0)

-- these open inputs know the reset, of the words no other than these, and that one where the machine compares it
pub record Tell (p : Plan) (words : ℕ → ℕ) (ins : ℕ → OpenEnv) : Type 0 where
  pub resets : (t : ℕ) → ins t reset ≡ Some (one_reset t)
  pub allows : (t : ℕ) → AllowsEnv (ins t) (inputs_with words t)
  pub within : (t : ℕ) → words t < 2 ^ p.bits
  pub answers : (t : ℕ) → (machine_at p words t).reads ≡ true → Known (ins (suc t) rdata)

-- in the cycle of the reset nothing is done, and in each later one each output has a number
pub record AllNumbers (run : ℕ → OpenEnv) : Type 0 where
  pub quiet : (run 0 en ≡ Some 0) × (run 0 done ≡ Some 0) × (run 0 fail ≡ Some 0)
  pub command : (t : ℕ) → Known (run (suc t) en) × Known (run (suc t) we) × Known (run (suc t) addr) × Known (run (suc t) wdata)
  pub ends : (t : ℕ) → Known (run (suc t) done) × Known (run (suc t) fail)

abbrev pub NumbersAlways : Plan → Type 0
NumbersAlways p = (words : ℕ → ℕ) (ins run : ℕ → OpenEnv) → Tell p words ins → IsOpenRunOf (self_test p) ins run → AllNumbers run
