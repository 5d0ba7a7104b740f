use Rattle.std.proofs.Common.{◌≡◌, ◌+◌, ◌*◌, ℕ, subst, arith}
use Rattle.inner_chain.specs.Fours.{ArePairs}
use Rattle.inner_chain.proofs.Pairing.{earlier_half, later_half}
use Rattle.inner_chain.proofs.twos.turn_block.Goals as goal

pub turn_half-requires : goal.turn_half-requires
turn_half-requires g c = (omega arith, (omega arith, (omega arith, (omega arith, (omega arith, later_half c.args.block)))))

pub turn_half-requires-2 : goal.turn_half-requires-2
turn_half-requires-2 g c = (omega arith, (omega arith, (omega arith, (omega arith, (omega arith, earlier_half c.args.block)))))

pub returns : goal.returns
returns g c = λ p.
    let all : 126 * c.args.block + 63 + 63 ≡ 126 * (c.args.block + 1) = omega arith in
    subst (λ (z : ℕ). ArePairs c.args.parities.now z c.turn_half-2.new.words) all (c.turn_half-2.ensures (c.turn_half.ensures p))
