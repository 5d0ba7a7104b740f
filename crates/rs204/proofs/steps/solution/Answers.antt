use Rattle.std.proofs.Common.{◌≡◌, ◌-◌, ◌+◌, arith, subst}
use Rattle.rs204.specs.Kernels.{IsKernel, vector}
use Rattle.rs204.proofs.Kernels.{kernel_units, units}
use Rattle.rs204.proofs.steps.solution.Goals as goal

pub loop-i-init : goal.loop-i-init
loop-i-init c =
    let n : c.args.errors + 1 ≡ c.args.errors + 1 - 0 = omega arith in
    subst (λ k. IsKernel (c.args.errors + 1) k 0 c.args.values.now (vector units)) n (kernel_units (c.args.errors + 1) c.args.values.now (omega arith))

pub loop-i-preserved : goal.loop-i-preserved
loop-i-preserved c =
    let e = c.args.errors in
    let i = c.loop-i.i in
    let before : e + 1 - i ≡ e - i + 1 = omega (arith, c.loop-i-test.true) in
    let after : e - i ≡ e + 1 - (i + 1) = omega arith in
    subst (λ k. IsKernel (e + 1) k (i + 1) c.args.values.now (vector c.reduce.new.vectors)) after
    (c.reduce.ensures (e + 1) (subst (λ k. IsKernel (e + 1) k i c.args.values.now (vector c.loop-i.vectors)) before c.loop-i.invariant))
