use Rattle.std.proofs.Common.{◌≡◌, List, ℕ, Ok, ap, length, ◌∙◌, sym, subst}
use Rattle.dynamic_core.specs.Items.{ReadsItems}
use Rattle.made_inputs.specs.MadeList.{made_text, made_items}
use Rattle.made_inputs.proofs.ListLaws.{made_reads, made_count}
use Rattle.made_inputs.proofs.made_list.items_of_list.Goals as goal

reads : (text : List ℕ) → text ≡ made_text → ReadsItems text (Ok made_items)
reads text is = subst (λ (t : List ℕ). ReadsItems t (Ok made_items)) (sym is) made_reads

pub want_of-requires : goal.want_of-requires
want_of-requires c = c.in-Err.ensures.accepted made_items (reads c.args.text.now c.requires)

pub returns-in-Ok-clause-value : goal.returns-in-Ok-clause-value
returns-in-Ok-clause-value c = c.in-Ok.ensures.accepted made_items (reads c.args.text.now c.requires)

pub returns-in-Ok-clause-count : goal.returns-in-Ok-clause-count
returns-in-Ok-clause-count c = ap length (c.in-Ok.ensures.accepted made_items (reads c.args.text.now c.requires)) ∙ made_count
