use Rattle.std.proofs.Common.{arith}
use Rattle.rescue.proofs.Keeping.{first_kept}
use Rattle.rescue.proofs.Feeding.{new_stands}
use Rattle.rescue.proofs.feed.Rescue.new.Goals as goal

pub invariant_of-result : goal.invariant_of-result
invariant_of-result g c = record {
  hp_kept = λ _. first_kept _ _ c.in_ok-new-2.ensures.ready c.in_ok-new-2.ensures.steps c.in_ok-new-2.ensures.counts;
  lp_kept = λ _. first_kept _ _ c.in_ok-new-3.ensures.ready c.in_ok-new-3.ensures.steps c.in_ok-new-3.ensures.counts;
  few_taken = omega (arith, c.in_ok-new.ensures.taken);
}

pub returns-clause-stands : goal.returns-clause-stands
returns-clause-stands g c = new_stands c.costs.ensures.none c.bits.ensures.byte c.receiving.ensures.all _ _ _ _ c.in_ok-new.ensures.settings c.in_ok-new.ensures.had c.in_ok-new-2.ensures.stands c.in_ok-new-3.ensures.stands
