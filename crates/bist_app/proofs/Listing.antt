-- The lines of commands, one after another.
use Rattle.bist_app.proofs.Common.{◌≡◌, ℕ, suc, List, [], ◌∷◌, ◌++◌, All, sym, ◌∙◌, ap, arith, append-nil}
use Rattle.std.proofs.lemmas.List.Concat.{flat_map-cons}
use Rattle.std.proofs.lemmas.Grind.{flat_map-append}
use Rattle.word_march.specs.declared.operations.PortOp.{PortOp}
use Rattle.bist_app.specs.Vectors.{command_line, command_lines}

pub lines_more : (bits : ℕ) (done : List PortOp) (o : PortOp) (text new : List ℕ) → text ≡ command_lines bits done
    → new ≡ text ++ command_line bits o → new ≡ command_lines bits (done ++ o ∷ [])
lines_more bits done o text new t e =
    e ∙ ap (λ (x : List ℕ). x ++ command_line bits o) t
    ∙ sym (flat_map-append (command_line bits) done (o ∷ []) ∙ ap (λ (x : List ℕ). command_lines bits done ++ x)
    (flat_map-cons (command_line bits) o [] ∙ append-nil (command_line bits o)))

-- what holds of each command holds of the one that comes next
pub next_fits : (P : PortOp → Type 0) (done left : List PortOp) (o : PortOp) → All P (done ++ o ∷ left) → P o
next_fits P [] left o h = h 0 o (omega arith)
next_fits P (x ∷ done) left o h = next_fits P done left o (λ k d l. h (suc k) d (omega arith))
