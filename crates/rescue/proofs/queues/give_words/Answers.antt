use Rattle.std.proofs.Common.{take, subst, arith}
use Rattle.rescue.specs.Moves.{FinishesWords}
use Rattle.rescue.proofs.queues.give_words.Goals as goal

pub returns-clause-gives : goal.returns-clause-gives
returns-clause-gives c = record {
  count = c.min-count.result;
  is = omega (arith, c.min-count.ensures);
  bytes_are = c.drop_first.ensures.rest;
  sure_are = c.drop_first-2.ensures.rest;
  took = subst (λ z. FinishesWords (take c.min-count.result z) (take c.min-count.result c.args.margins.now.items) c.args.words.now c.finish_words.new.words c.args.to.now.items c.finish_words.new.to.items) c.deref.ensures.value
      (subst (λ z. FinishesWords (take c.min-count.result c.deref.result.now) (take c.min-count.result z) c.args.words.now c.finish_words.new.words c.args.to.now.items c.finish_words.new.to.items) c.deref-2.ensures.value c.finish_words.ensures.finished);
}
