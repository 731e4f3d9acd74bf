-- Which beginnings of the operations are done, noted one after another.
use Rattle.std.proofs.Common.{◌≡◌, ◌+◌, ◌<◌, ◌&&◌, ℕ, Bool, false, List, [], ◌∷◌, ◌++◌, length, take, drop, get_or, ap, sym, ◌∙◌, append_assoc, arith}
use Rattle.std.specs.Prelude.{slice_set}
use Rattle.std.proofs.lemmas.List.{drop_more, take_more_set, drop-set-lt}
use Rattle.fault_core.specs.declared.primitive.Act.{Act}
use Rattle.fault_core.specs.Cells.{same_act}
use Rattle.sequence_faults.specs.Stepping.{done_by}

pub noted : (act : Act) (before : Bool) (acts : List Act) (done : List Bool) (k : ℕ) (own blank : Act) (bit : Bool) → k < length acts → k < length done → own ≡ get_or acts k blank
    → bit ≡ (before && same_act act own)
    → take k done ++ done_by act before (drop k acts) (drop k done)
    ≡ take (k + 1) (slice_set done k bit) ++ done_by act (get_or done k false) (drop (k + 1) acts) (drop (k + 1) (slice_set done k bit))
noted act before acts done k own blank bit within inside is bit_is =
    let rest : List Bool = done_by act (get_or done k false) (drop (k + 1) acts) (drop (k + 1) done) in
    let front : drop k acts ≡ own ∷ drop (k + 1) acts = drop_more acts k blank within ∙ ap (λ a. a ∷ drop (k + 1) acts) (sym is) in
    ap (λ a. take k done ++ done_by act before a (drop k done)) front
    ∙ ap (λ d. take k done ++ done_by act before (own ∷ drop (k + 1) acts) d) (drop_more done k false inside)
    ∙ ap (λ b. take k done ++ b ∷ rest) (sym bit_is)
    ∙ sym (append_assoc (take k done) (bit ∷ []) rest)
    ∙ ap (λ l. l ++ rest) (sym (take_more_set done k bit inside))
    ∙ ap (λ d. take (k + 1) (slice_set done k bit) ++ done_by act (get_or done k false) (drop (k + 1) acts) d) (sym (drop-set-lt (k + 1) done k bit (omega arith)))
