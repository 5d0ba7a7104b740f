use Rattle.std.proofs.Common.{◌≡◌, ◌*◌, ℕ, subst, arith}
use Rattle.inner_chain.specs.Fours.{ArePacked}
use Rattle.inner_chain.proofs.Quads.{none_packed, packed_more}
use Rattle.inner_chain.proofs.fours.packed.Goals as goal

pub loop-group-init : goal.loop-group-init
loop-group-init c = none_packed _ _

pub loop-group-preserved : goal.loop-group-preserved
loop-group-preserved c = packed_more c.args.bits.now c.loop-group.group c.ones.result c.loop-group.bytes c.put_four.new.to c.gathered-four.result c.loop-group.invariant c.ones.ensures c.gathered-four.ensures c.put_four.ensures.here c.put_four.ensures.before

pub returns : goal.returns
returns c = let all : 4 * c.loop-group.group ≡ c.args.number = omega (arith, c.requires.fours) in subst (λ (z : ℕ). ArePacked c.args.bits.now z c.loop-group.bytes) all c.loop-group.invariant
