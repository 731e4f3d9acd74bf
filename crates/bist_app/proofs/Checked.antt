-- What the check of a module's open run leaves.
use Rattle.bist_app.proofs.Common.{◌≡◌, ℕ, List, Some, None, Result, Ok, Err, IfOk, IfErr, refl, sym, subst, ModuleTree, MarchElement, Description, Refusal, Effects, Done, done_of, plain, HasPorts, PortAnswer}
use Rattle.arrayvec.specs.ArrayString.{ArrayString}
use Rattle.port_check.specs.declared.answer.CheckFault.{CheckFault}
use Rattle.port_check.specs.Answers.{IsAnswer}
use Rattle.port_check.specs.Refusals.{Refuses}
use Rattle.bist_endings.specs.declared.ending.VerilogRefusal.{VerilogRefusal}
use Rattle.bist_app.proofs.SharedFacts.{too_long as length_refused}
use Rattle.bist_app.specs.Check.{LeavesCheck, ChecksRun, check_done}

answered : (mo : ModuleTree) (march : List MarchElement) (d : Description) (answer : PortAnswer) (done : Done) → Refuses march d mo.ports None
    → IsAnswer mo march d answer → done ≡ check_done answer → ChecksRun mo march d (Ok done)
unfolding HasPorts LeavesCheck
answered mo march d answer done passes is same = (Ok tt, passes.0, (Ok tt, passes.1, record { answer = answer; is_answer = is; done_is = same }))

pub wanting : (mo : ModuleTree) (march : List MarchElement) (d : Description) → Refuses march d mo.ports None → ChecksRun mo march d (Err Refusal.NoMemory)
unfolding HasPorts LeavesCheck
wanting mo march d passes = (Ok tt, passes.0, (Ok tt, passes.1, tt))

pub too_long : (mo : ModuleTree) (march : List MarchElement) (d : Description) (number : ℕ) → Refuses march d mo.ports (Some (CheckFault.TooLong number)) → ChecksRun mo march d (Err (Refusal.TooLong number))
too_long mo march d number h = (Err (Refusal.TooLong number), length_refused march d number h, refl)

pub wrong_ports : (mo : ModuleTree) (march : List MarchElement) (d : Description) (name : ArrayString) → Refuses march d mo.ports (Some (CheckFault.WrongPorts name))
    → ChecksRun mo march d (Err (Refusal.Verilog (VerilogRefusal.WrongPort name)))
unfolding HasPorts
wrong_ports mo march d name h = (Ok tt, h.0, (Err (Refusal.Verilog (VerilogRefusal.WrongPort name)), h.1, refl))

-- the plan of an answer, or want of memory
pub planned : (mo : ModuleTree) (march : List MarchElement) (d : Description) (answer : PortAnswer) (r : Result Effects Refusal) → Refuses march d mo.ports None → IsAnswer mo march d answer
    → IfOk r (λ plan. done_of plan ≡ check_done answer) → IfErr r (λ refusal. refusal ≡ Refusal.NoMemory) → ChecksRun mo march d (plain r)
planned mo march d answer (Ok plan) passes is done wants = answered mo march d answer (done_of plan) passes is done
planned mo march d answer (Err refusal) passes is done wants = subst (λ (e : Refusal). ChecksRun mo march d (Err e)) (sym wants) (wanting mo march d passes)
