use Rattle.std.proofs.Common.{◌-◌, ◌/◌, ◌^◌, ap, arith, eqb}
use Rattle.std.proofs.lemmas.Nat.{and_mask}
use Rattle.survivor_ring.proofs.Traces.{first_more}
use Rattle.survivor_ring.proofs.bits.append_first.Goals as goal

pub loop-k-preserved : goal.loop-k-preserved
loop-k-preserved c =
    record {
      bits = first_more c.args.byte c.loop-k.k c.args.to.now c.loop-k.to c.push_bit.new.self _ (omega (arith, c.loop-k-test.true, c.requires.few)) c.loop-k.invariant.bits c.push_bit.ensures.bits (ap (λ z. eqb z 1) (and_mask (c.args.byte / 2 ^ (7 - c.loop-k.k)) 1));
      amount = omega (arith, c.loop-k.invariant.amount, c.push_bit.ensures.amount);
    }
