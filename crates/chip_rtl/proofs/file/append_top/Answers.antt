use Rattle.std.proofs.Common.{Result, Ok, Err, OnErr, refl, ◌∙◌}
use Rattle.std.proofs.lemmas.Result.{IfOk-from_err}
use Rattle.chip_rtl.specs.TopSeen.{plain_top}
use Rattle.chip_rtl.proofs.EndedFiles.{few_memories, grouped_memories, planned_top, file_ended, where_ok}
use Rattle.chip_rtl.proofs.file.append_top.Goals as goal

-- what holds anyway
anyway : {A E P : Type 0} (r : Result A E) → P → OnErr r P
anyway (Ok a) p = tt
anyway (Err e) p = p

pub generate_top-requires-clause-short : goal.generate_top-requires-clause-short
generate_top-requires-clause-short c = c.requires.short

pub generate_top-requires-clause-few : goal.generate_top-requires-clause-few
generate_top-requires-clause-few c = few_memories c.args.memories.now c.args.groups.now c.requires.planned

pub generate_top-requires-clause-each : goal.generate_top-requires-clause-each
generate_top-requires-clause-each c = grouped_memories c.args.memories.now c.args.groups.now c.requires.planned

pub emit_top-requires : goal.emit_top-requires
emit_top-requires c =
    planned_top c.args.memories.now c.args.groups.now c.args.name.now (plain_top c.in_ok-top.top) c.requires.planned c.requires.named c.in_ok-top.ensures.top

pub returns-clause-ok : goal.returns-clause-ok
returns-clause-ok c =
    where_ok c.put.result
    (file_ended c.args.out.now.items c.put.new.out.items c.args.name.now c.args.groups.now c.args.memories.now (plain_top c.in_ok-top.top) c.deref.result.now
    c.requires.named c.in_ok-top.ensures.top (c.deref.ensures.value ∙ c.in_ok-text.ensures.form))
    c.put.ensures.ok

pub returns-clause-err : goal.returns-clause-err
returns-clause-err c = c.put.ensures.err

pub returns-in_err-top-clause-ok : goal.returns-in_err-top-clause-ok
returns-in_err-top-clause-ok c = IfOk-from_err c.from_residual.result _ c.from_residual.ensures.0

pub returns-in_err-top-clause-err : goal.returns-in_err-top-clause-err
returns-in_err-top-clause-err c = anyway c.from_residual.result refl

pub returns-in_err-text-clause-ok : goal.returns-in_err-text-clause-ok
returns-in_err-text-clause-ok c = IfOk-from_err c.from_residual-in_err-text.result _ c.from_residual-in_err-text.ensures.0

pub returns-in_err-text-clause-err : goal.returns-in_err-text-clause-err
returns-in_err-text-clause-err c = anyway c.from_residual-in_err-text.result refl
