use Rattle.std.proofs.Common.{◌∙◌, ◌^◌, ◌%◌, ℕ}
use Rattle.std.proofs.Math.Path.{ap₂}
use Rattle.word_device.proofs.port.addressed.Goals as goal
use Rattle.word_device.proofs.Indexes.{index_is, index_none}

pub returns-then-index-shape-clause-index : goal.returns-then-index-shape-clause-index
returns-then-index-shape-clause-index c =
    index_is c.args.shape.now c.args.way.now c.args.addr c.low_bits-address.result c.index_of-index.result c.requires.shape c.requires.way
    (c.low_bits-address.ensures ∙ ap₂ (λ (x w : ℕ). x % 2 ^ w) c.from.ensures c.width.ensures.width) c.index_of-index.ensures c.if-index-shape.true

pub returns-else-index-shape-clause-index : goal.returns-else-index-shape-clause-index
returns-else-index-shape-clause-index c =
    index_none c.args.shape.now c.args.way.now c.args.addr c.low_bits-address.result c.index_of-index.result c.requires.shape c.requires.way
    (c.low_bits-address.ensures ∙ ap₂ (λ (x w : ℕ). x % 2 ^ w) c.from.ensures c.width.ensures.width) c.index_of-index.ensures c.if-index-shape.false
