use Rattle.std.proofs.Common.{◌≡◌, ◌⊎◌, IfOk, IfErr, sym, subst}
use Rattle.verilog_tree.specs.Plain.{plain_module}
use Rattle.verilog_tree.specs.Grammar as G
use Rattle.verilog_tree.specs.Spells.{Text, all_limits}
use Rattle.verilog_tree.specs.declared.fault.ReadFault.{ReadFault}
use Rattle.verilog_text.specs.Refusals.{IsFirstIn}
use Rattle.verilog_read.specs.declared.places.Style.{Style}
use Rattle.verilog_read.specs.Style.{styled}
use Rattle.bist_inputs.proofs.Designing.{first_fault}
use Rattle.bist_inputs.proofs.designs.read_text.Goals as goal

pub returns-in-Parenthesised-clause-spells : goal.returns-in-Parenthesised-clause-spells
returns-in-Parenthesised-clause-spells c =
    subst (λ (s : Style). IfOk c.read_module.result (λ m. Text (styled s) all_limits c.args.bytes.now (plain_module m))) (sym c.in-Parenthesised.is) c.read_module.ensures.ok

pub returns-in-Parenthesised-clause-fault : goal.returns-in-Parenthesised-clause-fault
returns-in-Parenthesised-clause-fault c =
    subst (λ (s : Style). IfErr c.read_module.result (λ fault. (fault ≡ ReadFault.NoMemory) ⊎ IsFirstIn (styled s) c.args.bytes.now fault)) (sym c.in-Parenthesised.is)
    (first_fault G.Parenthesised c.args.bytes.now c.read_module.result c.read_module.ensures.fault)

pub returns-in-ByPrecedence-clause-spells : goal.returns-in-ByPrecedence-clause-spells
returns-in-ByPrecedence-clause-spells c =
    subst (λ (s : Style). IfOk c.read_free.result (λ m. Text (styled s) all_limits c.args.bytes.now (plain_module m))) (sym c.in-ByPrecedence.is) c.read_free.ensures.ok

pub returns-in-ByPrecedence-clause-fault : goal.returns-in-ByPrecedence-clause-fault
returns-in-ByPrecedence-clause-fault c =
    subst (λ (s : Style). IfErr c.read_free.result (λ fault. (fault ≡ ReadFault.NoMemory) ⊎ IsFirstIn (styled s) c.args.bytes.now fault)) (sym c.in-ByPrecedence.is)
    (first_fault G.ByPrecedence c.args.bytes.now c.read_free.result c.read_free.ensures.fault)
