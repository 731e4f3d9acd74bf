use Rattle.bist_app.proofs.Common.{◌≡◌, ◌+◌, ◌≤◌, length, map}
use Rattle.bist_app.specs.BenchAll.{AreGone, HaveRoom}
use Rattle.bist_app.specs.inner.BenchedBoxes.{GoesOn}
use Rattle.bist_app.proofs.benching_all.bench_boxes.Given as goal

-- the boxes that are gone were benched, and so many of them failed
abbrev pub invariant-loop-devices : goal.invariant-loop-devices
invariant-loop-devices g l =
    let first = map (λ b. let B = goal.Device-dyn g (b.vtable, b.value) in B.told b.value) l.fn.devices.items in
    let left = map (λ b. let B = goal.Device-dyn g (b.vtable, b.value) in B.told b.value) l.devices.items in
    record {
      tree : l.design.tree ≡ l.fn.design.tree;
      bound : l.failing + length l.devices.items ≤ length l.fn.devices.items;
      gone : AreGone first left;
      rooms : HaveRoom l.memory.words left;
      goes_on : GoesOn l.march l.memory first left l.failing;
    }

abbrev pub decreases-loop-devices : goal.decreases-loop-devices
decreases-loop-devices g l = length l.devices.items
