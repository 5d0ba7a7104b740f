use Rattle.puncture.proofs.TwoBytes.{counted}
use Rattle.puncture.proofs.periods.words_of.Goals as goal

pub returns : goal.returns
returns c = record {
  x = λ t p. counted c.args.rate t _ _ c.args.byte 0 (c.punctured.ensures.bits t p);
  y = λ t p. counted c.args.rate t _ _ 0 c.args.byte (c.punctured-2.ensures.bits t p);
}
