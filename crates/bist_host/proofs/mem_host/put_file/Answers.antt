use Rattle.std.proofs.Common.{string_bytes, subst, sym, ap, List}
use Rattle.bist_host.specs.declared.mem_host.MemFile.{MemFile}
use Rattle.bist_host.specs.inner.MemHost.{IsPlaceOf}
use Rattle.bist_host.specs.MemFile.{named_files}
use Rattle.bist_host.proofs.FilesKept.{file_replaced}
use Rattle.bist_host.proofs.mem_host.put_file.Goals as goal

pub returns-clause-ok : goal.returns-clause-ok
returns-clause-ok c =
    let old = c.index_mut.result.now in
    let file : MemFile = record { name = old.name; bytes = c.in-Ok.copy } in
    let P : List MemFile → Type 0 = λ fs. IsPlaceOf (named_files fs) c.args.name.now c.in-Some.i in
    let there : P c.args.files.now.items = subst P c.as_slice.ensures.value c.in-Some.ensures in
    rw (sym c.in-Ok.ensures.items) (file_replaced c.args.files.now.items c.in-Some.i old file c.args.name.now there (ap (λ f. string_bytes f.name) c.index_mut.ensures.value))
