-- Inner. For proofs and private contracts alone, beside States: the controller as contracts see it, and what it mirrors.
use Rattle.std.specs.Prelude.{◌≡◌, ℕ, Bool, true, if◌then◌else◌, not, ◌&&◌, List}
use Rattle.word_march.specs.PortRule.{PortValues}
use Rattle.microcode.specs.declared.code.Instr.{Instr}
use Rattle.microcode.specs.declared.place.CodePlace.{CodePlace}
use Rattle.controller.specs.declared.stage.Stage.{Stage}
use Rattle.march_core.specs.March.{MarchElement}
use Rattle.memory_desc.specs.Descriptions.{Description}
use Rattle.controller.specs.Places.{next_place, is_last}
use Rattle.microcode.specs.Running.{digits}
use Rattle.controller.specs.Running.{IsAt}

-- the place and whether the run goes on, a cycle later
pub record IsTurned (march : List MarchElement) (code : List Instr) (d : Description) (p : CodePlace) (run : Bool)
    (q : CodePlace) (goes_on : Bool) : Type 0 where
  pub there : IsAt march code d q
  pub place : digits q ≡ (if run then next_place march d (digits p) else digits p)
  pub run_is : goes_on ≡ (run && not (is_last march d (digits p)))

-- what an instruction leaves for the comparison
abbrev pub stage_from : Instr → Bool → ℕ → Stage
stage_from i run back = record { reads = (run && not i.pause) && not i.write; over = not run; value = i.bit; back = back }

-- the same outputs, as far as anyone looks
pub record Answers (q e : PortValues) : Type 0 where
  pub en : e.en ≡ q.en
  pub we : q.en ≡ true → e.we ≡ q.we
  pub addr : q.en ≡ true → e.addr ≡ q.addr
  pub wdata : q.en ≡ true → e.wdata ≡ q.wdata
  pub done : e.done ≡ q.done
  pub fail : e.fail ≡ q.fail
