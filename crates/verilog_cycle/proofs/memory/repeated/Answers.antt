use Rattle.std.proofs.Common.{◌≡◌, ℕ, ◌-◌, List, [], ◌++◌, take, replicate, ap, ◌∙◌, take_all, arith}
use Rattle.verilog_cycle.proofs.memory.repeated.Goals as goal

filled : {X : Type 0} (n k : ℕ) (x : X) (old new : List X) → new ≡ take n old ++ replicate (n - k) x → old ≡ [] → k ≡ 0 → new ≡ replicate n x
filled n k x old new e none zero =
    let all : n - k ≡ n = omega (arith, zero) in
    e ∙ ap (λ l. take n l ++ replicate (n - k) x) none ∙ ap (λ l. l ++ replicate (n - k) x) (take_all n [] (omega arith)) ∙ ap (λ j. replicate j x) all

pub returns-in-Ok : goal.returns-in-Ok
returns-in-Ok g c = filled c.args.count _ c.args.value c.new-all.result.items c.resize.new.self.items c.in-Ok.ensures.items c.new-all.ensures.items c.new-all.ensures.len
