use Rattle.std.proofs.Common.{arith, ◌∙◌}
use Rattle.symbol_interleave.proofs.Making.{start_small, begin, step, finish}
use Rattle.symbol_interleave.proofs.addresses.places.Goals as goal

pub loop-index-init : goal.loop-index-init
loop-index-init g c = record {
  small = start_small g.M.Carriers.MODE;
  rest = begin g.M.Carriers.MODE _ _ _ _ c.in_ok-list.ensures.items c.in_ok-push.ensures.items c.in_ok-push-2.ensures.items c.top_bit.ensures;
}

pub loop-index-preserved : goal.loop-index-preserved
loop-index-preserved g c = record {
  small = c.next-word.ensures.small;
  rest = step g.M.Carriers.MODE _ _ c.loop-index.index c.loop-index.word _ _ _ (omega (arith, c.top_bit-index-end.ensures, c.loop-index-test.true)) c.address_of.ensures (c.NMAX-in-loop-index.ensures ∙ g.M.Carriers.nmax_of) c.next-word.ensures.is c.in_ok-push_below.ensures c.loop-index.invariant.rest;
}

pub returns : goal.returns
returns g c = finish g.M.Carriers.MODE _ c.loop-index.index c.loop-index.word _ c.top_bit-index-end.ensures (omega arith) c.loop-index.invariant.rest
