use Rattle.std.proofs.Common.{◌≡◌, ◌+◌, ◌^◌, suc, arith, ap}
use Rattle.std.proofs.Math.Nat.{pow-suc}
use Rattle.code_paths.proofs.TryAll.{weight_on, weight_off}
use Rattle.code_paths.proofs.trial.advance.Goals as goal

pub returns-then-not-path-k-clause-next : goal.returns-then-not-path-k-clause-next
returns-then-not-path-k-clause-next c = λ w. omega (arith, weight_on c.loop-k.path c.loop-k.k (omega (arith, c.loop-k-test.true, c.loop-k.auto.path)) c.if-not-path-k.true, c.loop-k.invariant)

pub loop-k-preserved : goal.loop-k-preserved
loop-k-preserved c =
    let n : c.loop-k.k + 1 ≡ suc c.loop-k.k = omega arith in
    omega (arith, weight_off c.loop-k.path c.loop-k.k (omega (arith, c.loop-k-test.true, c.loop-k.auto.path)) c.if-not-path-k.false, c.loop-k.invariant, ap (λ z. 2 ^ z) n, pow-suc 2 c.loop-k.k)
