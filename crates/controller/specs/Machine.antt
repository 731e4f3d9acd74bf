-- Public. The controller as a machine: one step a cycle.
use Rattle.std.specs.Prelude.{ℕ, zero, suc, ◌-◌, ◌==◌, Bool, true, false, if◌then◌else◌, not, ◌&&◌, List, [], ◌∷◌, replicate}
use Rattle.march_core.specs.Runs.{is_write, data_value}
use Rattle.word_march.specs.PortRule.{PortValues}
use Rattle.march_core.specs.March.{MarchElement, is_pause}
use Rattle.memory_desc.specs.Descriptions.{Description}
use Rattle.controller.specs.declared.stage.Stage.{Stage}
use Rattle.microcode.specs.Places.{Place, first_place}
use Rattle.march_core.specs.March.{element_at}
use Rattle.controller.specs.Places.{op_at, word_at, command_of, next_place, is_last}

-- nothing read, and not over
abbrev pub blank : Stage
blank = record { reads = false; over = false; value = false; back = 0 }

pub record Control : Type 0 where
  pub place : Place
  pub run : Bool
  -- the cycles before this one, the latest first, one less than the latency
  pub stages : List Stage
  -- the cycle whose answer stands on `rdata`
  pub reads : Bool
  pub over : Bool
  pub want : ℕ
  pub bad : Bool

abbrev pub reset : Description → Control
reset d = record {
  place = first_place;
  run = true;
  stages = replicate (d.latency - 1) blank;
  reads = false;
  over = false;
  want = 0;
  bad = false;
}

-- whether the memory is enabled
abbrev pub live : List MarchElement → Control → Bool
live march c = c.run && not (is_pause (element_at march c.place.element))

abbrev pub outputs : List MarchElement → Description → Control → PortValues
outputs march d c = record {
  en = live march c;
  we = (command_of march d c.place).write;
  addr = (command_of march d c.place).addr;
  wdata = (command_of march d c.place).word;
  done = c.over;
  fail = c.bad;
}

-- this cycle
abbrev pub stage_of : List MarchElement → Control → Stage
stage_of march c = record {
  reads = live march c && not (is_write (op_at march c.place.element c.place.oper));
  over = not c.run;
  value = data_value (op_at march c.place.element c.place.oper);
  back = c.place.back;
}

-- a stage goes in at the front, and the last one comes out
abbrev pub pushed : Stage → List Stage → List Stage
pushed s [] = []
pushed s (t ∷ ts) = s ∷ pushed t ts

abbrev pub last_stage : Stage → List Stage → Stage
last_stage s [] = s
last_stage s (t ∷ ts) = last_stage t ts

abbrev pub compared : Bool → Bool → Bool → Bool
compared reads same bad = if reads then (if same then bad else true) else bad

abbrev pub step : List MarchElement → Description → ℕ → Control → Control
step march d rdata c = record {
  place = if c.run then next_place march d c.place else c.place;
  run = c.run && not (is_last march d c.place);
  stages = pushed (stage_of march c) c.stages;
  reads = (last_stage (stage_of march c) c.stages).reads;
  over = (last_stage (stage_of march c) c.stages).over;
  want = word_at d (last_stage (stage_of march c) c.stages).back (last_stage (stage_of march c) c.stages).value;
  bad = compared c.reads (rdata == c.want) c.bad;
}

-- the controller in cycle k+1, where `returned` are the words on `rdata`, by cycle
abbrev pub control_after : List MarchElement → Description → (ℕ → ℕ) → ℕ → Control
control_after march d returned zero = reset d
control_after march d returned (suc k) = step march d (returned (suc k)) (control_after march d returned k)
