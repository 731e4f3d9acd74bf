-- Trusted. What `check` comes to where it ends with status 0 or 1 over told files: the answer of the top call, without the order of its checks.
use Rattle.std.specs.Prelude.{◌≡◌, ◌≤◌, ℕ, List, Option, Some, None, IfSome, codes}
use Rattle.bist_host.specs.Files.{Files, HostState, Says}
use Rattle.march_core.specs.March.{MarchElement}
use Rattle.march_syntax.specs.Answers.{SpellsMarch}
use Rattle.memory_desc.specs.Descriptions.{Description, IsMemory}
use Rattle.memory_desc.specs.Described.{SpellsMemory}
use Rattle.verilog_tree.specs.Plain.{ModuleTree}
use Rattle.verilog_tree.specs.Meaning.{Env}
use Rattle.verilog_tree.specs.Spells.{FreelySpells}
use Rattle.verilog_tree.specs.Wires.{Starts, OneSettles}
use Rattle.self_test.specs.WrongPort.{wrong_port}
use Rattle.port_check.specs.declared.answer.PortAnswer.{PortAnswer}
use Rattle.port_check.specs.Answers.{IsAnswer, Told, is_amiss}
use Rattle.port_check.specs.Compared.{Issues}
use Rattle.bist_endings.specs.Words.{Words, word}
use Rattle.bist_endings.specs.Ending.{found_status}
use Rattle.bist_inputs.specs.Designs.{CanRun}
use Rattle.bist_app.specs.Forms.{HasForm}
use Rattle.bist_app.specs.Headline.{InputHas, Only}
use Rattle.bist_app.specs.Check.{check_form, check_line}

-- The bytes of VERILOG spell a module and no other, which can be run and has the ports of a self-test; MARCH and MEMORY were read as a march
-- and a memory, and spell no others. With status 0 the module issues the commands of the march, whatever its registers hold at first and whatever words return.
-- The answer of its open run was said, and what it tells of every history holds: with a number that differs, that this number is there.
-- In each cycle, whatever the registers and the inputs hold within their widths, exactly one environment settles: there are histories to speak of.
pub record IsConformance (words : Words) (files : Files) (said said' : Option (List ℕ)) (status : ℕ) : Type 0 where
  pub shape : HasForm check_form words
  pub tree : ModuleTree
  pub march : List MarchElement
  pub memory : Description
  pub is_memory : IsMemory memory
  pub module_text : InputHas files (word words 1) (λ bytes. Only (FreelySpells bytes) tree)
  pub march_text : InputHas files (word words 2) (λ bytes. Only (SpellsMarch bytes) march)
  pub memory_text : InputHas files (word words 3) (λ bytes. Only (SpellsMemory bytes) memory)
  pub can_run : CanRun tree
  pub ports : wrong_port memory tree.ports ≡ None
  pub settles : (regs ins : Env) → Starts tree regs ins → OneSettles tree regs ins
  pub issues : status ≡ 0 → Issues tree march memory
  pub answer : PortAnswer
  pub is_answer : IsAnswer tree march memory answer
  pub tells : Told tree march memory answer
  pub status_is : status ≡ found_status (is_amiss answer)
  pub says : Says said said' (check_line answer)

-- The first word is `check`, the files are told, and the status is 0 or 1: then this stands, and all files are as before. Of files that
-- aren't told nothing is said here.
abbrev pub LeavesConformance : Words → HostState → HostState → ℕ → Type 0
LeavesConformance words old new status =
    IfSome old.files (λ files.
    word words 0 ≡ codes "check" → status ≤ 1 → (new.files ≡ Some files) × IsConformance words files old.said new.said status)
