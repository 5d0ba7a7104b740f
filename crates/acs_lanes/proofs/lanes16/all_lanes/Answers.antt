use Rattle.acs_lanes.proofs.Quarters.{stored}
use Rattle.acs_lanes.proofs.lanes16.all_lanes.Goals as goal

pub returns : goal.returns
returns c =
    let o = c.args.lanes.lanes in
    stored c.args.lanes.a c.args.lanes.b c.args.lanes.c c.args.lanes.d c.store.new.cost c.store-2.new.cost c.store-3.new.cost c.store-4.new.cost o.a_len o.b_len o.c_len o.d_len c.store-4.array_long
    c.store.ensures.here c.store-2.ensures.here c.store-2.ensures.below c.store-3.ensures.here c.store-3.ensures.below c.store-4.ensures.here c.store-4.ensures.below
