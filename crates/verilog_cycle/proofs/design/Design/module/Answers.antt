use Rattle.std.proofs.Common.{◌≡◌, true, None, subst}
use Rattle.verilog_tree.specs.Formed.{formed}
use Rattle.verilog_tree.specs.Rules.{first_break}
use Rattle.verilog_cycle.specs.Design.{DesignView, AreNets}
use Rattle.verilog_cycle.proofs.design.Design.module.Goals as goal

pub returns-clause-sizes : goal.returns-clause-sizes
returns-clause-sizes c = subst (λ (v : DesignView). formed v.tree ≡ true) c.self.view_is c.self.invariant.0.well_formed

pub returns-clause-legal : goal.returns-clause-legal
returns-clause-legal c = subst (λ (v : DesignView). first_break v.tree ≡ None) c.self.view_is c.self.invariant.0.legal

pub returns-clause-nets : goal.returns-clause-nets
returns-clause-nets c = subst (λ (v : DesignView). AreNets v.tree v.nets) c.self.view_is c.self.invariant.0.nets
