use Rattle.std.proofs.Common.{◌≡◌, ◌≤◌, ◌<◌, ◌-◌, ◌∙◌, ℕ, List, [], ◌∷◌, ◌++◌, length, replicate, ap, arith}
use Rattle.std.proofs.Math.ListN.{length-replicate}
use Rattle.std.proofs.lemmas.List.{replicate_more}
use Rattle.word_device.proofs.pending.no_answers.Goals as goal

has_room : (k n : ℕ) (items : List ℕ) → items ≡ replicate k 0 → k < n - 1 → n ≤ 4 → length items < 3
has_room k n items is more few =
    let long : length items ≡ k = ap length is ∙ length-replicate k 0 in omega arith

pub push-requires : goal.push-requires
push-requires c = (omega arith, has_room c.loop.counter c.args.latency c.loop.pending.items c.loop.invariant c.loop-test.true c.requires.1)

pub loop-preserved : goal.loop-preserved
loop-preserved c = c.push.ensures.items ∙ ap (λ l. l ++ 0 ∷ []) c.loop.invariant ∙ replicate_more c.loop.counter 0

as_many : (k n : ℕ) → k ≤ n → n ≤ k → k ≡ n
as_many k n some all = omega arith

pub returns : goal.returns
returns c = c.loop.invariant ∙ ap (λ k. replicate k 0) (as_many c.loop.counter (c.args.latency - 1) c.loop.auto.counter-end c.loop-test.false)
