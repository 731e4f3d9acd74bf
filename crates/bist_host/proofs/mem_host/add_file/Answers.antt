use Rattle.std.proofs.Common.{◌≡◌, List, [], ◌∷◌, ◌++◌, arith, string_bytes, subst, Some, None, ℕ}
use Rattle.bist_host.specs.declared.mem_host.MemFile.{MemFile}
use Rattle.bist_host.specs.Files.{WritesFile}
use Rattle.bist_host.specs.MemHost.{file_of}
use Rattle.bist_host.specs.MemFile.{named_files}
use Rattle.bist_host.proofs.FilesKept.{file_added}
use Rattle.bist_host.proofs.mem_host.add_file.Goals as goal

pub returns-clause-ok : goal.returns-clause-ok
returns-clause-ok c =
    let file : MemFile = record { name = c.in-Ok.name; bytes = c.args.bytes } in
    let named : string_bytes file.name ≡ c.args.name.now = c.in-Ok.ensures.ok in
    let grown : c.push.new.self.items ≡ c.args.files.now.items ++ file ∷ [] = grind (arith, c.push.ensures.items, c.is_err.ensures, c.if-is_err.false) in
    let P : List ℕ → Type 0 = λ n. file_of (named_files c.args.files.now.items) n ≡ None
    → WritesFile (Some (file_of (named_files c.args.files.now.items))) (Some (file_of (named_files (c.args.files.now.items ++ file ∷ [])))) n c.args.bytes.items in
    rw grown (subst P named (file_added c.args.files.now.items file) c.requires)
