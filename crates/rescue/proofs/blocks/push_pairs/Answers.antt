use Rattle.std.proofs.Common.{refl, ◌∙◌, subst, arith}
use Rattle.std.proofs.lemmas.List.{take_all}
use Rattle.rescue.specs.Moves.{Pushes}
use Rattle.rescue.proofs.Moving.{pushes_none, pushes_next}
use Rattle.rescue.proofs.blocks.push_pairs.Goals as goal

pub loop-k-init : goal.loop-k-init
loop-k-init c = record { going = c.requires.going; waits = c.requires.waits; same = refl; block_same = refl; behind = λ l. l; amount = omega arith; pushes = pushes_none _ _ }

pub push_pair-requires-clause-block : goal.push_pair-requires-clause-block
push_pair-requires-clause-block c = omega (arith, c.loop-k.invariant.block_same, c.requires.block)

pub push_pair-requires-clause-room : goal.push_pair-requires-clause-room
push_pair-requires-clause-room c = omega (arith, c.loop-k.invariant.same, c.loop-k.invariant.amount, c.requires.room, c.loop-k-test.true)

pub loop-k-preserved : goal.loop-k-preserved
loop-k-preserved c = record {
  going = c.push_pair.ensures.going;
  waits = c.push_pair.ensures.waits;
  same = c.push_pair.ensures.capacity ∙ c.loop-k.invariant.same;
  block_same = c.push_pair.ensures.block ∙ c.loop-k.invariant.block_same;
  behind = λ l. c.push_pair.ensures.behind (c.loop-k.invariant.behind l);
  amount = omega (arith, c.push_pair.ensures.amount, c.loop-k.invariant.amount);
  pushes = pushes_next c.loop-k.k c.args.pairs.now c.index-pairs-k.result c.args.margins.now c.loop-k.margins c.push_pair.new.margins c.args.to.now.items c.loop-k.to.items c.push_pair.new.to.items c.loop-k-test.true c.index-pairs-k.is c.push_pair.ensures.behind c.loop-k.invariant.pushes c.push_pair.ensures.pushed;
}

pub returns-clause-amount : goal.returns-clause-amount
returns-clause-amount c = omega (arith, c.loop-k.invariant.amount, c.loop-k-test.false, c.requires.room)

pub returns-clause-pushed : goal.returns-clause-pushed
returns-clause-pushed c =
    subst (λ z. Pushes z c.args.margins.now c.loop-k.margins c.args.to.now.items c.loop-k.to.items) (take_all c.loop-k.k c.args.pairs.now (omega (arith, c.loop-k-test.false))) c.loop-k.invariant.pushes
