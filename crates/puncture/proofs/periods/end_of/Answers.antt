use Rattle.puncture.proofs.TwoBytes.{count_is}
use Rattle.puncture.proofs.periods.end_of.Goals as goal

pub returns : goal.returns
returns c = record {
  count = λ t p. count_is c.args.rate t _ _ 0 0 (c.punctured-next.ensures.bits t p);
  few = c.punctured-next.ensures.few;
  within = c.punctured-next.ensures.within;
  next = c.punctured-next.ensures.next;
}
