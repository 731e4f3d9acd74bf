use Rattle.bist_app.proofs.Common.{ℕ, ◌<◌, ◌≤◌, ◌^◌, All, List, [], ◌∷◌, ◌++◌, sym, ◌∙◌, ap, subst, append_assoc, append-nil, port_ops}
use Rattle.word_march.specs.declared.operations.PortOp.{PortOp}
use Rattle.bist_app.specs.Vectors.{command_lines}
use Rattle.bist_app.proofs.Listing.{lines_more, next_fits}
use Rattle.bist_app.proofs.vectors.put_commands.Goals as goal

pub loop-command-init : goal.loop-command-init
loop-command-init c = record {
  text = c.new-text.ensures.items;
  whole = sym (c.into_iter-command-iterator.ensures.into_iter_gives ∙ c.port_ops-command-items.ensures.commands);
}

pub put_command-requires : goal.put_command-requires
put_command-requires c =
    let memory = c.args.memory.now in
    let whole = c.loop-command.invariant.whole ∙ ap (λ (left : List PortOp). c.loop-command.yielded ++ left) c.in-Some.ensures.steps in
    let mem = c.bits-bits.ensures.memory in
    record {
      bits = subst (λ (n : ℕ). n ≤ 64) (sym c.bits-bits.ensures.value) mem.bits_high;
      fits = subst (λ (n : ℕ). c.in-Some.command.word < 2 ^ n) (sym c.bits-bits.ensures.value)
          (next_fits (λ (o : PortOp). o.word < 2 ^ memory.bits) c.loop-command.yielded c.next.new.self c.in-Some.command
          (subst (λ (os : List PortOp). All (λ o. o.word < 2 ^ memory.bits) os) whole c.port_ops-command-items.ensures.words_fit));
    }

pub loop-command-preserved : goal.loop-command-preserved
loop-command-preserved c = record {
  text = lines_more c.bits-bits.result c.loop-command.yielded c.in-Some.command c.loop-command.text.items c.put_command.new.out.items
      c.loop-command.invariant.text c.in_ok-put_command.ensures;
  whole = c.loop-command.invariant.whole ∙ ap (λ (left : List PortOp). c.loop-command.yielded ++ left) c.in-Some.ensures.steps
      ∙ sym (append_assoc c.loop-command.yielded (c.in-Some.command ∷ []) c.next.new.self);
}

pub returns : goal.returns
returns c =
    let whole = c.loop-command.invariant.whole ∙ ap (λ (left : List PortOp). c.loop-command.yielded ++ left) c.in-None.ensures.steps.0
    ∙ append-nil c.loop-command.yielded in
    c.loop-command.invariant.text ∙ ap (command_lines c.bits-bits.result) (sym whole)
    ∙ ap (λ (n : ℕ). command_lines n (port_ops c.args.march.now c.args.memory.now)) c.bits-bits.ensures.value
