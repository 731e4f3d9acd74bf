use Rattle.std.proofs.Common.{◌≡◌, Some}
use Rattle.verilog_cycle.specs.Design.{with_registers}
use Rattle.word_device.specs.Ports.{shape_of as memory_shape}
use Rattle.bench.specs.inner.Cycles.{Stage}
use Rattle.bench.proofs.run.run_cycles.Given as goal

abbrev pub invariant-loop-cycle : goal.invariant-loop-cycle
invariant-loop-cycle g l =
    let B = goal.Device-dyn g (l.device.vtable, l.device.value) in
    let B0 = goal.Device-dyn g (l.fn.device.vtable, l.fn.device.value) in
    record {
      kept : l.design ≡ with_registers l.fn.design l.design.registers;
      room : (B.told l.device.value).room ≡ (B0.told l.fn.device.value).room;
      fitted : (B.told l.device.value).shape ≡ Some (memory_shape l.memory);
      stage : Stage l.fn.design.tree l.march l.memory l.fn.design.registers (B0.told l.fn.device.value).tells l.cycle l.design.registers l.watch (B.told l.device.value).tells l.control;
    }
