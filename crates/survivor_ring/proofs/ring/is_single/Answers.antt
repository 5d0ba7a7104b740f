use Rattle.std.proofs.lemmas.Bool.{eqb-true}
use Rattle.std.proofs.lemmas.Nat.Bits.{bit_at-trailing_zeros}
use Rattle.std.specs.Int.{w64}
use Rattle.survivor_ring.proofs.Walks.{single_of, positive_of}
use Rattle.survivor_ring.proofs.ring.is_single.Goals as goal

pub returns-then-set-ne0 : goal.returns-then-set-ne0
returns-then-set-ne0 c = λ t. single_of c.args.set (eqb-true _ _ t) (bit_at-trailing_zeros w64 c.args.set (positive_of c.args.set c.if-set-ne0.true) c.ranges.set.fits).0
