use Rattle.std.proofs.Common.{[], refl, arith}
use Rattle.reception.specs.Streams.{start_of}
use Rattle.rescue.specs.Streams.{no_words}
use Rattle.rescue.proofs.Giving.{nothing_stands}
use Rattle.rescue.proofs.stream.StreamRx.new.Goals as goal

pub returns-clause-ready : goal.returns-clause-ready
returns-clause-ready c = record {
  going = c.in_ok-begin.ensures.going;
  margins = c.in_ok-new.ensures.going;
  room = record { block = omega (arith, c.in_ok-with_capacity.ensures.capacity); bytes = omega (arith, c.in_ok-with_capacity-2.ensures.capacity); byte_margins = omega (arith, c.in_ok-with_capacity-3.ensures.capacity) };
  some = record {
    a = start_of c.args.start;
    c = [];
    given = [];
    tally = no_words;
    steps = [];
    stands = nothing_stands _ _ _ c.start_state.ensures.start c.in_ok-begin.ensures.stands c.in_ok-begin.ensures.loaded c.in_ok-begin.ensures.wait c.in_ok-new.ensures.stands c.in_ok-new.ensures.waiting
        c.in_ok-with_capacity-2.ensures.items c.in_ok-with_capacity-3.ensures.items c.in_ok-new-2.ensures.stands refl;
  };
}

pub returns-clause-stands : goal.returns-clause-stands
returns-clause-stands c = nothing_stands _ _ _ c.start_state.ensures.start c.in_ok-begin.ensures.stands c.in_ok-begin.ensures.loaded c.in_ok-begin.ensures.wait c.in_ok-new.ensures.stands c.in_ok-new.ensures.waiting
    c.in_ok-with_capacity-2.ensures.items c.in_ok-with_capacity-3.ensures.items c.in_ok-new-2.ensures.stands refl
