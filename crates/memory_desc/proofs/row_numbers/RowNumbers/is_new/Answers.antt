use Rattle.memory_desc.proofs.Common.{ap, arith, inr, length, sym, ◌∙◌}
use Rattle.memory_desc.proofs.KeptNumbers.{among_recent, among_ascending, is_added, is_kept, met_row, not_met, permuted, rising_by, rising_whole, stays_added, stays_kept}
use Rattle.memory_desc.proofs.Repeats.{stays_met}
use Rattle.memory_desc.proofs.row_numbers.RowNumbers.is_new.Goals.{then-contains-via-then-contains, then-contains-via-else-contains+then-is_ok}
use Rattle.memory_desc.proofs.row_numbers.RowNumbers.is_new.Goals as goal

pub returns-then-contains-clause-kept : goal.returns-then-contains-clause-kept
returns-then-contains-clause-kept c =
    let items = c.args.self.now.numbers.items in
    let parts = c.split_at.result in
    let whole = sym c.as_slice.ensures.value ∙ c.split_at.ensures.by_index.0 in
    met_row items c.args.subject c.in-Row.number c.in-Row.is
    (elim c.then-contains.branch [
      | then-contains-via-then-contains w ↦
          inr ((among_recent items parts.0.now parts.1.now c.in-Row.number c.contains.result whole c.contains.ensures.value w.if-contains.true).0 w.if-contains.true)
      | then-contains-via-else-contains+then-is_ok w ↦
          inr ((among_ascending items parts.0.now parts.1.now c.in-Row.number c.contains.result w.is_ok.result w.binary_search.result whole c.contains.ensures.value w.if-contains.false
          (rising_by items c.as_slice.result.now parts.0.now c.args.self.now.sorted c.as_slice.ensures.value c.split_at.ensures.front c.args.self.now.ascending)
          w.binary_search.ensures.position w.is_ok.ensures.value).0 w.if-is_ok.true)
    ])

pub invariant_of-self : goal.invariant_of-self
invariant_of-self c =
    let size = c.len-self.ensures.value in
    record {
      within = omega (arith, size);
      ascending =
          rising_whole c.push.new.self.items c.sort_unstable.new.self c.len-self.result (c.sort_unstable.ensures.len ∙ ap length c.as_mut_slice.ensures.value) size c.sort_unstable.ensures.sorted;
    }

pub returns-then-len-self-ge1024-clause-new : goal.returns-then-len-self-ge1024-clause-new
returns-then-len-self-ge1024-clause-new c =
    let items = c.args.self.now.numbers.items in
    let parts = c.split_at.result in
    let there =
    among_ascending items parts.0.now parts.1.now c.in-Row.number c.contains.result c.is_ok.result c.binary_search.result (sym c.as_slice.ensures.value ∙ c.split_at.ensures.by_index.0) c.contains.ensures.value
    c.if-contains.false (rising_by items c.as_slice.result.now parts.0.now c.args.self.now.sorted c.as_slice.ensures.value c.split_at.ensures.front c.args.self.now.ascending)
    c.binary_search.ensures.position c.is_ok.ensures.value in
    λ _. not_met items c.args.subject c.in-Row.number c.is_ok.result c.in-Row.is c.is_full.ensures.fits (sym c.is_full.ensures.value ∙ c.if-is_full.false) there c.if-is_ok.false

pub returns-else-len-self-ge1024-clause-new : goal.returns-else-len-self-ge1024-clause-new
returns-else-len-self-ge1024-clause-new c =
    let items = c.args.self.now.numbers.items in
    let parts = c.split_at.result in
    let there =
    among_ascending items parts.0.now parts.1.now c.in-Row.number c.contains.result c.is_ok.result c.binary_search.result (sym c.as_slice.ensures.value ∙ c.split_at.ensures.by_index.0) c.contains.ensures.value
    c.if-contains.false (rising_by items c.as_slice.result.now parts.0.now c.args.self.now.sorted c.as_slice.ensures.value c.split_at.ensures.front c.args.self.now.ascending)
    c.binary_search.ensures.position c.is_ok.ensures.value in
    λ _. not_met items c.args.subject c.in-Row.number c.is_ok.result c.in-Row.is c.is_full.ensures.fits (sym c.is_full.ensures.value ∙ c.if-is_full.false) there c.if-is_ok.false

pub returns-then-len-self-ge1024-clause-kept : goal.returns-then-len-self-ge1024-clause-kept
returns-then-len-self-ge1024-clause-kept c =
    met_row _ c.args.subject c.in-Row.number c.in-Row.is
    (is_kept c.args.self.now.numbers.items c.push.new.self.items _ c.in-Row.number c.push.ensures.items
    (permuted c.push.new.self.items c.as_mut_slice.result.now c.sort_unstable.new.self c.as_mut_slice.ensures.value c.sort_unstable.ensures.len c.sort_unstable.ensures.permutation))

pub returns-then-len-self-ge1024-clause-stay : goal.returns-then-len-self-ge1024-clause-stay
returns-then-len-self-ge1024-clause-stay c =
    stays_met _ _
    (stays_kept c.args.self.now.numbers.items c.push.new.self.items _ c.in-Row.number c.push.ensures.items
    (permuted c.push.new.self.items c.as_mut_slice.result.now c.sort_unstable.new.self c.as_mut_slice.ensures.value c.sort_unstable.ensures.len c.sort_unstable.ensures.permutation))

pub returns-else-len-self-ge1024-clause-kept : goal.returns-else-len-self-ge1024-clause-kept
returns-else-len-self-ge1024-clause-kept c = met_row _ c.args.subject c.in-Row.number c.in-Row.is (is_added c.args.self.now.numbers.items _ c.in-Row.number c.push.ensures.items)

pub returns-else-len-self-ge1024-clause-stay : goal.returns-else-len-self-ge1024-clause-stay
returns-else-len-self-ge1024-clause-stay c = stays_met _ _ (stays_added c.args.self.now.numbers.items _ c.in-Row.number c.push.ensures.items)
