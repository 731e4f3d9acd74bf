use Rattle.std.proofs.Common.{◌≡◌, ◌≤◌, ◌+◌, ◌&&◌, ℕ, Bool, true, false, cond, refl, ap, sym, ◌∙◌, ap₂, arith}
use mir.Val.{bool_byte}
use Rattle.linked_report.specs.Links.{is_link_covered}
use Rattle.linked_report.proofs.Once.{counts_more}
use Rattle.linked_report.proofs.devices.count_devices.Goals as goal

byte : (b : Bool) → bool_byte b ≡ cond b 1 0
byte true = refl
byte false = refl

at_most : (b d : Bool) (m n : ℕ) → m ≡ cond b 1 0 → n ≡ cond (b && d) 1 0 → (m ≤ 1) × (n ≤ m)
at_most true true m n e f = (omega (arith, e), omega (arith, e, f))
at_most true false m n e f = (omega (arith, e), omega (arith, e, f))
at_most false d m n e f = (omega (arith, e), omega (arith, e, f))

pub loop-index-preserved : goal.loop-index-preserved
loop-index-preserved c =
    let j = c.index-judged-index.result in
    let new = c.is_first-is_first.result in
    let counts = counts_more c.args.judged.now c.loop-index.index j j new c.loop-index-test.true c.index-judged-index.is c.is_first-is_first.ensures in
    let m : c.from-count.result ≡ cond new 1 0 = c.from-count.ensures ∙ byte new in
    let n : c.from-covered.result ≡ cond (new && is_link_covered j) 1 0 = c.from-covered.ensures ∙ byte c.is_first_covered.result ∙ ap (λ b. cond b 1 0) c.is_first_covered.ensures in
    let few = at_most new (is_link_covered j) c.from-count.result c.from-covered.result m n in
    let held = c.loop-index.invariant in
    record {
      count = ap₂ (λ (x y : ℕ). x + y) held.count m ∙ sym counts.0;
      covered = ap₂ (λ (x y : ℕ). x + y) held.covered n ∙ sym counts.1;
      few = omega (arith, held.few, few.0);
      fewer = omega (arith, held.fewer, few.1);
    }
