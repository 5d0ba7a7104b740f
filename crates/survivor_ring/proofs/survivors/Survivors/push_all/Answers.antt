use Rattle.std.proofs.Common.{sym, subst, arith}
use Rattle.std.proofs.lemmas.List.{take_more}
use Rattle.survivor_ring.specs.Survivors.{AreAllPushed}
use Rattle.survivor_ring.proofs.AllAlive.{all_followed, all_pushed_more}
use Rattle.survivor_ring.proofs.survivors.Survivors.push_all.Goals as goal

pub push-requires-clause-follows : goal.push-requires-clause-follows
push-requires-clause-follows g c = all_followed _ _ c.loop-k.invariant.states

pub loop-k-preserved : goal.loop-k-preserved
loop-k-preserved g c = record {
  states = c.push.ensures.states;
  count = omega (arith, c.push.ensures.count, c.loop-k.invariant.count);
  list = subst (λ z. AreAllPushed (g.Self.Survivors.list c.args.self.now) z (g.Self.Survivors.list c.push.new.self)) (sym (take_more c.args.decisions.now c.loop-k.k 0 c.loop-k-test.true))
      (all_pushed_more _ _ (g.Self.Survivors.list c.loop-k.self) _ _ c.loop-k.invariant.list c.push.ensures.list);
}
