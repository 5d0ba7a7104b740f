use Rattle.std.proofs.Common.{refl}
use Rattle.acs_lanes.proofs.Turns.{turned_is, turned_lanes}
use Rattle.acs_lanes.proofs.step16.turned.Goals as goal

pub invariant_of-result : goal.invariant_of-result
invariant_of-result c =
    let t = turned_is c.args.low_first c.args.low_last c.args.high_first c.args.high_last _ refl in
    record { lanes = turned_lanes c.args.low_first c.args.low_last c.args.high_first c.args.high_last _ _ _ _ t c.requires.low c.requires.high refl refl refl refl }

pub returns : goal.returns
returns c = turned_is c.args.low_first c.args.low_last c.args.high_first c.args.high_last _ refl
