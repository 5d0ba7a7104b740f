use Rattle.std.proofs.Common.{arith}
use Rattle.acs_lanes.proofs.Orders.{differs, moved_at, moved_len, shifts_small}
use Rattle.acs_lanes.proofs.word_order.moved.Goals as goal

pub overflow_shr-differ : goal.overflow_shr-differ
overflow_shr-differ c = shifts_small _ c.args.shifts (λ k l. c.requires.small k (omega (arith, l, c.requires.shifts)))

pub overflow_shl-result : goal.overflow_shl-result
overflow_shl-result c =
    shifts_small (differs c.args.words c.args.shifts c.args.masks c.requires.words c.requires.shifts c.requires.masks) c.args.shifts
    (λ k l. c.requires.small k (omega (arith, l, c.requires.shifts)))

pub returns-clause-long : goal.returns-clause-long
returns-clause-long c = moved_len c.args.words c.args.shifts c.args.masks c.requires.words c.requires.shifts c.requires.masks

pub returns-clause-is : goal.returns-clause-is
returns-clause-is c = moved_at c.args.words c.args.shifts c.args.masks c.requires.words c.requires.shifts c.requires.masks
