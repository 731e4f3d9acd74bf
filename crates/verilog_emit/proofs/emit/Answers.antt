use Rattle.std.proofs.Common.{List, ℕ, ◌++◌, ◌∙◌, ap, sym, subst}
use Rattle.verilog_tree.specs.Plain.{plain_module}
use Rattle.verilog_tree.specs.Grammar.{Parenthesised}
use Rattle.verilog_tree.specs.Spells.{Spells, all_limits}
use Rattle.verilog_text.proofs.ReadingLaws.{one_text}
use Rattle.verilog_emit.specs.Printed.{printed}
use Rattle.verilog_emit.proofs.OneTree.{one_tree}
use Rattle.verilog_emit.proofs.WrittenModule.{printed_spells}
use Rattle.verilog_emit.proofs.emit.Goals as goal

pub returns-clause-spells : goal.returns-clause-spells
returns-clause-spells c =
    let m = plain_module c.args.«module».now in
    let text = c.in_ok-put_module.ensures ∙ ap (λ (out : List ℕ). out ++ printed m) c.new-out.ensures.items in
    subst (λ (out : List ℕ). Spells out m) (sym text) (printed_spells m c.requires)

pub returns-clause-no_other : goal.returns-clause-no_other
returns-clause-no_other c =
    let m = plain_module c.args.«module».now in
    let text = c.in_ok-put_module.ensures ∙ ap (λ (out : List ℕ). out ++ printed m) c.new-out.ensures.items in
    λ other h. one_text all_limits Parenthesised _ other m h (subst (λ (out : List ℕ). Spells out m) (sym text) (printed_spells m c.requires))

pub returns-clause-text : goal.returns-clause-text
returns-clause-text c = (c.requires, c.in_ok-put_module.ensures ∙ ap (λ (out : List ℕ). out ++ printed (plain_module c.args.«module».now)) c.new-out.ensures.items)

pub returns-clause-one_text : goal.returns-clause-one_text
returns-clause-one_text c =
    let m = plain_module c.args.«module».now in
    let text = c.in_ok-put_module.ensures ∙ ap (λ (out : List ℕ). out ++ printed m) c.new-out.ensures.items in
    λ other h. one_tree _ m other (c.requires, text) h
