use Rattle.std.proofs.Common.{◌≡◌, List, ℕ, Result, Ok, Err, sym, ◌∙◌, subst}
use Rattle.memory_desc.specs.Descriptions.{Description}
use Rattle.memory_desc.specs.Table.{Reads}
use Rattle.memory_desc.specs.declared.fault.MemoryFault.{MemoryFault}
use Rattle.made_inputs.specs.MadeMemory.{IsMadeMemory}
use Rattle.made_inputs.specs.inner.MadeMemory.{written}
use Rattle.made_inputs.proofs.MemoryLaws.{has_memory}
use Rattle.made_inputs.proofs.made_memory.memory_of.Goals as goal

reads : (text : List ℕ) (number : ℕ) (d : Description) → text ≡ written number → Reads (written number) (Ok d) → Reads text (Ok d)
reads text number d is there = subst (λ (t : List ℕ). Reads t (Ok d)) (sym is) there

no_refusal : (r : Result Description MemoryFault) (d : Description) (fault : MemoryFault) → r ≡ Ok d → r ≡ Err fault → ⊥
no_refusal r d fault ok err = cc

same_memory : (r : Result Description MemoryFault) (d e : Description) → r ≡ Ok d → r ≡ Ok e → d ≡ e
same_memory r d e h i = cc

pub unreachable-requires : goal.unreachable-requires
unreachable-requires c =
    let made = has_memory c.args.number c.requires in
    let text = reads c.deref.result.now c.args.number made.0 (c.deref.ensures.value ∙ c.in_ok-text.ensures) made.2 in
    no_refusal c.read_memory.result made.0 c.in-Err.field-0 ((c.read_memory.ensures.ok made.0).1 text) c.in-Err.is

pub returns : goal.returns
returns c =
    let made = has_memory c.args.number c.requires in
    let text = reads c.deref.result.now c.args.number made.0 (c.deref.ensures.value ∙ c.in_ok-text.ensures) made.2 in
    subst (IsMadeMemory c.args.number) (same_memory c.read_memory.result made.0 c.in-Ok.memory ((c.read_memory.ensures.ok made.0).1 text) c.in-Ok.is) made.1
