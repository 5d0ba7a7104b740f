use Rattle.std.proofs.Common.{refl, ◌∙◌, arith}
use Rattle.std.proofs.lemmas.List.{take_more, take_all}
use Rattle.rescue.proofs.Moving.{finishes_none, finishes_next, finishes_all}
use Rattle.rescue.proofs.queues.finish_words.Goals as goal

pub loop-k-init : goal.loop-k-init
loop-k-init c = record { same = refl; few = omega arith; words = omega arith; finishes = finishes_none _ _ }

pub take-requires-clause-room : goal.take-requires-clause-room
take-requires-clause-room c = omega (arith, c.loop-k.invariant.same, c.loop-k.invariant.few, c.requires.begun, c.requires.few, c.requires.room, c.loop-k-test.true)

pub take-requires-clause-few : goal.take-requires-clause-few
take-requires-clause-few c = omega (arith, c.loop-k.invariant.words, c.requires.words, c.requires.few, c.loop-k-test.true)

pub loop-k-preserved : goal.loop-k-preserved
loop-k-preserved c = record {
  same = c.take.ensures.capacity ∙ c.loop-k.invariant.same;
  few = omega (arith, c.loop-k.invariant.few, c.take.ensures.amount);
  words = omega (arith, c.loop-k.invariant.words, c.take.ensures.words);
  finishes = finishes_next c.loop-k.k c.args.bytes.now c.args.margins.now _ _ _ _ _ _ _ _ (take_more c.args.bytes.now c.loop-k.k _ c.loop-k-test.true) (take_more c.args.margins.now c.loop-k.k _ (omega (arith, c.loop-k-test.true, c.requires.many)))
      c.loop-k.invariant.finishes c.take.ensures.took;
}

pub returns-clause-finished : goal.returns-clause-finished
returns-clause-finished c =
    finishes_all c.loop-k.k _ _ _ _ _ _ (take_all c.loop-k.k c.args.bytes.now (omega (arith, c.loop-k-test.false))) (take_all c.loop-k.k c.args.margins.now (omega (arith, c.loop-k-test.false, c.requires.many))) c.loop-k.invariant.finishes
