use Rattle.std.proofs.Common.{◌+◌, ℕ, map, drop, length, ap, ◌∙◌, sym, subst, arith, ◌<◌}
use Rattle.verilog_code.specs.Places.{settled}
use Rattle.verilog_code.specs.Reading.{Known}
use Rattle.verilog_code.proofs.Loops.{one_settled}
use Rattle.verilog_code.proofs.Knowing.{parted_steps, one_skipped}
use Rattle.verilog_code.proofs.run.settle.Goals as goal
use Rattle.verilog_code.proofs.run.settle.Goals.{then-changed-step-ne0, else-changed-step-ne0}

pub loop-i-preserved : goal.loop-i-preserved
loop-i-preserved g c =
    let i = c.loop-i.i in
    let first = c.args.first in
    let steps = c.args.steps.now in
    let d = c.index-steps-i.result in
    let vs = c.loop-i.values.items in
    let inv = c.loop-i.invariant in
    let ys = settled g.V.NetValue.worth first (map (λ s. s.code.value) steps) c.args.values.now.items in
    let rest = drop (i + 1) steps in
    let lt : first + i < first + (i + 1) = omega arith in
    let p = parted_steps g.V.NetValue.zero g.V.NetValue.worth first i c.loop-i.changed steps d vs c.loop-i-test.true c.index-steps-i.is inv.reading inv.known in
    elim c.if-changed-step-ne0.branch [
      | then-changed-step-ne0 w ↦
          let worth = w.of-x.ensures ∙ ap (λ l. g.V.NetValue.worth l w.deref.result.now) w.deref-then-changed-step-ne0.ensures.value ∙ ap (g.V.NetValue.worth vs) w.deref.ensures in
          record {
            value = one_settled g.V.NetValue.worth (λ s. s.code.value) steps first i d w.of-x.result vs c.if-changed-step-ne0.values.items ys c.loop-i-test.true c.index-steps-i.is (ap (λ v. v.items) w.values-is ∙ w.renew-changed.ensures.items) worth inv.value;
            room = ap (λ v. length v.items) w.values-is ∙ w.renew-changed.ensures.len ∙ inv.room;
            reading = p.reading;
            known = subst (λ v. Known g.V.NetValue.zero g.V.NetValue.worth (first + (i + 1)) c.if-changed-step-ne0.changed rest v.items) (sym w.values-is)
                (subst (λ (b : ℕ). Known g.V.NetValue.zero g.V.NetValue.worth (first + (i + 1)) b rest w.renew-changed.new.values.items) (sym w.changed-is) (w.renew-changed.ensures.known (first + (i + 1)) rest lt p.reading p.known));
          }
      | else-changed-step-ne0 w ↦
          record {
            value = ap (λ v. settled g.V.NetValue.worth (first + (i + 1)) (map (λ s. s.code.value) rest) v.items) w.values-is ∙ one_skipped g.V.NetValue.zero g.V.NetValue.worth steps first i d vs ys c.loop-i-test.true c.index-steps-i.is (p.here w.if-changed-step-ne0.false) inv.value;
            room = ap (λ v. length v.items) w.values-is ∙ inv.room;
            reading = p.reading;
            known = subst (λ v. Known g.V.NetValue.zero g.V.NetValue.worth (first + (i + 1)) c.if-changed-step-ne0.changed rest v.items) (sym w.values-is)
                (subst (λ (b : ℕ). Known g.V.NetValue.zero g.V.NetValue.worth (first + (i + 1)) b rest vs) (sym w.changed-is) p.known);
          }
    ]
