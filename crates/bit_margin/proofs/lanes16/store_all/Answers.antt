use Rattle.acs_lanes.proofs.Quarters.{stored}
use Rattle.bit_margin.proofs.lanes16.store_all.Goals as goal

pub returns : goal.returns
returns c =
    stored c.args.a c.args.b c.args.c c.args.d c.store.new.sums c.store-2.new.sums c.store-3.new.sums c.store-4.new.sums c.requires.a c.requires.b c.requires.c c.requires.d c.store-4.array_long
    c.store.ensures.here c.store-2.ensures.here c.store-2.ensures.below c.store-3.ensures.here c.store-3.ensures.below c.store-4.ensures.here c.store-4.ensures.below
