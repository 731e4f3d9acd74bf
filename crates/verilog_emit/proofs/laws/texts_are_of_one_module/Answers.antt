use Rattle.std.proofs.Common.{refl}
use Rattle.verilog_emit.proofs.OneTree.{text_spells, text_derived, no_other_tree, text_formed, one_tree}
use Rattle.verilog_emit.proofs.WrittenModule.{text_spaces, text_bytes}
use Rattle.verilog_emit.proofs.laws.texts_are_of_one_module.Goals as goal

pub returns-clause-derived : goal.returns-clause-derived
returns-clause-derived c = text_derived

pub returns-clause-spelt : goal.returns-clause-spelt
returns-clause-spelt c = text_spells

pub returns-clause-no_other : goal.returns-clause-no_other
returns-clause-no_other c = no_other_tree

pub returns-clause-sized : goal.returns-clause-sized
returns-clause-sized c = text_formed

pub returns-clause-one : goal.returns-clause-one
returns-clause-one c = one_tree

pub returns-clause-some : goal.returns-clause-some
returns-clause-some c = λ tree f. (f, refl)

pub returns-clause-plain : goal.returns-clause-plain
returns-clause-plain c = text_bytes

pub returns-clause-spaces : goal.returns-clause-spaces
returns-clause-spaces c = text_spaces

pub returns-clause-no_comment : goal.returns-clause-no_comment
returns-clause-no_comment c = refl
