use Rattle.std.proofs.Common.{◌-◌, ◌+◌}
use Rattle.rs204.specs.Kernels.{IsKernel, vector}
use Rattle.rs204.proofs.steps.solution.Given as goal

abbrev pub invariant-loop-i : goal.invariant-loop-i
invariant-loop-i l = IsKernel (l.errors + 1) (l.errors + 1 - l.i) l.i l.values (vector l.vectors)
