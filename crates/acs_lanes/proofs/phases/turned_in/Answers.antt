use Rattle.std.proofs.Common.{arith}
use Rattle.acs_lanes.proofs.PhaseTurns.{turned_fours, turned_across, turned_eights, turned_back}
use Rattle.acs_lanes.proofs.phases.turned_in.Goals as goal

pub returns-then-phase-lt3 : goal.returns-then-phase-lt3
returns-then-phase-lt3 c = let e = c.by_fours.ensures in turned_fours c.args.low_first c.args.low_last c.args.high_first c.args.high_last c.fits-low_first.0 c.fits-low_last.0 c.fits-high_first.0 c.fits-high_last.0 c.args.phase c.if-phase-lt3.true _ _ _ _ e.a e.b e.c e.d

pub returns-then-phase-eq3 : goal.returns-then-phase-eq3
returns-then-phase-eq3 c = let e = c.by_fours_across.ensures in turned_across c.args.low_first c.args.low_last c.args.high_first c.args.high_last c.fits-low_first.0 c.fits-low_last.0 c.fits-high_first.0 c.fits-high_last.0 c.args.phase c.if-phase-eq3.true _ _ _ _ e.a e.b e.c e.d

pub returns-then-phase-eq4 : goal.returns-then-phase-eq4
returns-then-phase-eq4 c = let e = c.by_eights.ensures in turned_eights c.args.low_first c.args.low_last c.args.high_first c.args.high_last c.fits-low_first.0 c.fits-low_last.0 c.fits-high_first.0 c.fits-high_last.0 c.args.phase c.if-phase-eq4.true _ _ _ _ e.a e.b e.c e.d

pub returns-else-phase-eq4 : goal.returns-else-phase-eq4
returns-else-phase-eq4 c =
    let e = c.by_eights-else-phase-eq4.ensures in
    turned_back c.args.low_first c.args.low_last c.args.high_first c.args.high_last c.fits-low_first.0 c.fits-low_last.0 c.fits-high_first.0 c.fits-high_last.0 c.args.phase (omega (arith, c.requires, c.if-phase-lt3.false, c.if-phase-eq3.false, c.if-phase-eq4.false)) _ _ _ _ e.a e.b e.c e.d
