use Rattle.std.proofs.Common.{◌≡◌, ◌≢◌, string_bytes, get_or, sym, ap, ◌∙◌, true, false}
use Rattle.std.specs.Str.{bytes_eq}
use Rattle.std.proofs.lemmas.Slice.Eq.{bytes_eq-Decides}
use Rattle.bist_host.proofs.FilesKept.{place_found, none_more}
use Rattle.bist_host.proofs.mem_host.place_of.Goals as goal

pub returns-then-eq : goal.returns-then-eq
returns-then-eq c =
    let item = c.index-files-i.result in
    let same : c.as_str.result.now ≡ c.args.name.now = (bytes_eq-Decides _ _).0 (sym c.eq.ensures ∙ c.if-eq.true) in
    let read : string_bytes (get_or c.args.files.now c.loop-i.i item).name ≡ c.as_str.result.now = ap (λ f. string_bytes f.name) (sym c.index-files-i.is) ∙ sym c.as_str.ensures.value in
    (c.loop-i.invariant, place_found c.args.files.now c.loop-i.i item c.args.name.now c.loop-i-test.true (read ∙ same))

pub loop-i-preserved : goal.loop-i-preserved
loop-i-preserved c =
    let item = c.index-files-i.result in
    let read : c.as_str.result.now ≡ string_bytes (get_or c.args.files.now c.loop-i.i item).name = c.as_str.ensures.value ∙ ap (λ f. string_bytes f.name) c.index-files-i.is in
    let differs : string_bytes (get_or c.args.files.now c.loop-i.i item).name ≢ c.args.name.now = λ k.
    let passes : bytes_eq c.as_str.result.now c.args.name.now ≡ true = (bytes_eq-Decides _ _).1 (read ∙ k) in
    let fails : bytes_eq c.as_str.result.now c.args.name.now ≡ false = sym c.eq.ensures ∙ c.if-eq.false in
    cc in
    none_more c.args.files.now c.loop-i.i item c.args.name.now c.loop-i.invariant c.loop-i-test.true differs
