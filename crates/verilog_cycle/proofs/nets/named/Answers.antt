use Rattle.std.proofs.Common.{◌≡◌, ℕ, zero, suc, ◌<◌, List, [], ◌∷◌, length, map, get_or, refl, ap, ◌∙◌, arith}
use Rattle.verilog_tree.specs.declared.names.Declared.{Declared}
use Rattle.verilog_tree.specs.Seen.{declaration}
use Rattle.verilog_cycle.specs.Design.{names}
use Rattle.verilog_cycle.proofs.nets.named.Goals as goal

name_at : (xs : List Declared) (n : ℕ) (d : Declared) → n < length xs → (get_or xs n d).name.bytes ≡ get_or (names (map declaration xs)) n []
name_at [] n d h = absurd (omega arith)
name_at (x ∷ xs) zero d h = refl
name_at (x ∷ xs) (suc n) d h = name_at xs n d (omega (arith, h))

pub returns-in-Some : goal.returns-in-Some
returns-in-Some c =
    let d = c.in-Some.next.now in
    ap (λ (x : Declared). x.name.bytes) c.in-Some.ensures.lookup.1 ∙ name_at c.args.declared.now c.args.n d c.in-Some.ensures.lookup.3.0
