use Rattle.word_coupling.proofs.Contents.{table_is}
use Rattle.word_coupling.proofs.ends.table_of.Goals as goal

pub returns : goal.returns
returns c = table_is c.args.reading c.args.prim.now c.args.march.now _ c.ends_of.ensures c.ends_of-2.ensures c.ends_of-3.ensures c.ends_of-4.ensures
