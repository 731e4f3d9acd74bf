use Rattle.std.proofs.Common.{◌≡◌, ◌-◌, replicate, length, sym, ap, ◌∙◌, subst, arith, List}
use Rattle.std.proofs.lemmas.List.{length-replicate}
use Rattle.std.specs.List.{AllByRecursion}
use Rattle.controller.specs.declared.stage.Stage.{Stage}
use Rattle.controller.specs.Machine.{blank}
use Rattle.controller.specs.States.{IsKnown}
use Rattle.controller.proofs.Mirror.{known_blank, beginning, stands_first}
use Rattle.controller.proofs.control.Control.reset.Goals as goal
use Rattle.controller.proofs.control.Control.reset.Goals.{After-blank_stages}

stages_are : (c : After-blank_stages) → c.blank_stages.result.items ≡ replicate (c.args.memory.now.latency - 1) blank
stages_are c = c.blank_stages.ensures ∙ ap (λ n. replicate (n - 1) blank) c.latency.ensures.value

pub invariant_of-result : goal.invariant_of-result
invariant_of-result c =
    let d = c.args.memory.now in
    let m = c.latency.ensures.memory in
    let low = m.latency_low in
    let long = length-replicate (d.latency - 1) blank in
    let same = ap length (stages_are c) in
    record {
      somewhere = (c.requires.0, beginning c.requires.0 d c.as_slice.result.now c.requires.1 (c.as_slice.ensures.value ∙ c.requires.2) m);
      count = omega arith;
      known = subst (λ (ss : List Stage). AllByRecursion (IsKnown d) ss) (sym (stages_are c)) (known_blank d (d.latency - 1) m);
    }

pub returns : goal.returns
returns c = λ march returned a e. stands_first march c.args.memory.now c.as_slice.result.now c.blank_stages.result.items returned a (c.as_slice.ensures.value ∙ e) c.latency.ensures.memory (stages_are c)
