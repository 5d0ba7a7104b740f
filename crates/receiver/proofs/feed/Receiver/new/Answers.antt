use Rattle.std.proofs.Common.{arith}
use Rattle.receiver.proofs.Stepping.{first_kept}
use Rattle.receiver.proofs.Feeding.{new_stands}
use Rattle.receiver.proofs.feed.Receiver.new.Goals as goal

pub invariant_of-result : goal.invariant_of-result
invariant_of-result g c = record {
  hp_kept = λ _. first_kept _ _ c.in_ok-new-2.ensures.ready c.in_ok-new-2.ensures.steps c.in_ok-new-2.ensures.counts;
  lp_kept = λ _. first_kept _ _ c.in_ok-new-3.ensures.ready c.in_ok-new-3.ensures.steps c.in_ok-new-3.ensures.counts;
  symbol = omega (arith, c.new-4.ensures.symbol);
  few_taken = omega (arith, c.in_ok-new.ensures.taken);
  few_frames = omega (arith, c.new-4.ensures.read, c.new-4.ensures.bad);
}

pub returns-clause-stands : goal.returns-clause-stands
returns-clause-stands g c = new_stands c.costs.ensures.none c.nothing.ensures.live _ _ _ _ _ c.in_ok-new.ensures.settings c.in_ok-new.ensures.had c.in_ok-new-2.ensures.stands c.in_ok-new-3.ensures.stands (λ mode shown. c.new-4.ensures.none mode shown) c.new-4.ensures.read c.new-4.ensures.bad
