use Rattle.rs204.specs.Decoding.{Unscales}
use Rattle.rs204.proofs.steps.unscale.Given as goal

abbrev pub invariant-loop-j : goal.invariant-loop-j
invariant-loop-j l = Unscales l.places l.place l.fn.values l.values l.sum l.j
