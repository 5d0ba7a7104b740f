use Rattle.std.proofs.Common.{arith}
use Rattle.inner_chain.proofs.Entering.{entries_more}
use Rattle.inner_chain.proofs.entries.push_word.Goals as goal

pub loop-e-preserved : goal.loop-e-preserved
loop-e-preserved c = record {
  entries = entries_more c.args.settings.now c.args.word c.loop-e.e _ _ _ _ c.loop-e.invariant.entries c.entry.ensures c.push_reserved.ensures.items;
  len = omega arith;
  capacity = omega arith;
}
