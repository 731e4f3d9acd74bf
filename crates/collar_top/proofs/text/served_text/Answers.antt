use Rattle.collar_top.specs.CollarTops.{placing_of}
use Rattle.std.proofs.Common.{◌≡◌}
use Rattle.memory_desc.specs.Descriptions.{Description}
use Rattle.macro_pins.specs.declared.pins.Macro.{Macro}
use Rattle.collar_top.specs.declared.text.CollarFault.{CollarFault}
use Rattle.collar_top.specs.declared.text.CollarFault.TheVariants.{Refused}
use Rattle.collar_top.specs.Refused.{HasInterface, HasTop}
use Rattle.collar_top.proofs.Ending.{ends_collar, is_legal}
use Rattle.collar_top.proofs.Refusing.{handed_on}
use Rattle.collar_top.proofs.text.served_text.Goals as goal

pub returns-in-Ok-clause-ends : goal.returns-in-Ok-clause-ends
returns-in-Ok-clause-ends c =
    ends_collar c.in-Ok.text.items _ _ _ _ c.in_ok-module.ensures.layout c.in_ok-top.ensures.layout c.in_ok-module.ensures.writable c.in_ok-top.ensures.writable c.in-Ok.ensures

pub returns-in-Ok-clause-legal : goal.returns-in-Ok-clause-legal
returns-in-Ok-clause-legal c =
    is_legal (placing_of c.args.macro_.now) c.args.memory.now _ c.in_ok-module.ensures.layout c.in_ok-module.ensures.writable c.in_ok-module.ensures.legal c.in_ok-top.ensures.named c.in_ok-top.ensures.linked

abbrev Never : Macro → Description → CollarFault → Type 0
Never m d fault = fault ≡ Refused → HasInterface m d → HasTop m d → ⊥

pub returns-in_err-module-clause-refused : goal.returns-in_err-module-clause-refused
returns-in_err-module-clause-refused c =
    handed_on (Never c.args.macro_.now c.args.memory.now) c.from_residual.result c.in_err-module.field-0.0 c.from_residual.ensures
    (λ is has top. c.in_err-module.ensures.refused is has)

pub returns-in_err-top-clause-refused : goal.returns-in_err-top-clause-refused
returns-in_err-top-clause-refused c =
    handed_on (Never c.args.macro_.now c.args.memory.now) c.from_residual-in_err-top.result c.in_err-top.field-0.0 c.from_residual-in_err-top.ensures
    (λ is has top. c.in_err-top.ensures.refused is top)
