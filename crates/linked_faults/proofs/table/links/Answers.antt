use Rattle.std.proofs.Common.{◌++◌, ◌∙◌, ap, false}
use Rattle.linked_faults.specs.inner.Testing.{linked_pairs}
use Rattle.linked_faults.proofs.Choosing.{are_links}
use Rattle.linked_faults.proofs.table.links.Goals as goal

pub returns : goal.returns
returns c =
    are_links c.push_links.new.links.items c.push_links-2.new.links.items c.push_links-3.new.links.items c.push_links-4.new.links.items
    c.push_links-5.new.links.items c.one_cell-one.result c.two_cell-two.result c.one_cell-one.ensures.rows c.two_cell-two.ensures.rows
    (λ k d h. (c.one_cell-one.ensures.primitives k d h).0) (λ k d h. (c.two_cell-two.ensures.primitives k d h).0)
    (c.in_ok-push_links.ensures ∙ ap (λ l. l ++ linked_pairs c.one_cell-one.result c.one_cell-one.result false) c.new-links.ensures.items)
    c.in_ok-push_links-2.ensures c.in_ok-push_links-3.ensures c.in_ok-push_links-4.ensures c.in_ok-push_links-5.ensures
