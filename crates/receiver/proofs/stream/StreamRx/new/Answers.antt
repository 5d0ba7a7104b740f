use Rattle.std.proofs.Common.{[], length, ap, arith}
use Rattle.outer_chain.specs.Running.{no_words}
use Rattle.receiver.proofs.Stepping.{nothing_stands}
use Rattle.receiver.proofs.stream.StreamRx.new.Goals as goal

pub returns-clause-ready : goal.returns-clause-ready
returns-clause-ready c = record {
  going = c.in_ok-begin.ensures.going;
  loaded = c.in_ok-begin.ensures.loaded;
  wait = omega (arith, ap length c.in_ok-begin.ensures.wait);
  none = c.in_ok-with_capacity.ensures.items;
  slots = omega (arith, c.in_ok-with_capacity.ensures.capacity);
  started = record { bytes = []; given = []; tally = no_words; finished = c.receiving.ensures.first _ c.in_ok-new.ensures.empty c.in_ok-new.ensures.phase };
}

pub returns-clause-stands : goal.returns-clause-stands
returns-clause-stands c = nothing_stands _ _ c.in_ok-begin.ensures.stands c.in_ok-begin.ensures.loaded c.in_ok-begin.ensures.wait
    (c.receiving.ensures.first _ c.in_ok-new.ensures.empty c.in_ok-new.ensures.phase) c.no_counts.ensures
