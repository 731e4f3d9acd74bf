use Rattle.std.proofs.Common.{◌≡◌, ◌⊎◌, Result, IfErr, subst}
use Rattle.verilog_tree.specs.declared.fault.ReadFault.{ReadFault}
use Rattle.verilog_tree.specs.declared.tree.Module.{Module}
use Rattle.verilog_text.specs.Refusals.{IsFirstIn}
use Rattle.verilog_read.specs.Style.{styled}
use Rattle.bist_inputs.proofs.designs.give_tree.Goals as goal

pub returns-in-Err-clause-answer : goal.returns-in-Err-clause-answer
returns-in-Err-clause-answer c =
    c.text_refusal.ensures.answer (styled c.args.style)
    (subst (λ (r : Result Module ReadFault). IfErr r (λ fault. (fault ≡ ReadFault.NoMemory) ⊎ IsFirstIn (styled c.args.style) c.args.bytes.now fault)) c.in-Err.is c.read_text.ensures.fault)
