use Rattle.std.proofs.Common.{arith}
use Rattle.acs_lanes.proofs.PhaseCosts.{costs_of_0, costs_of_1, costs_of_2, costs_of_3, costs_of_4, costs_of_5}
use Rattle.acs_lanes.proofs.phases.costs_in.Goals as goal

pub returns-then-phase-eq0 : goal.returns-then-phase-eq0
returns-then-phase-eq0 c = λ pair is. costs_of_0 c.args.phase c.if-phase-eq0.true pair c.args.sums is

pub returns-then-phase-eq1 : goal.returns-then-phase-eq1
returns-then-phase-eq1 c = λ pair is. costs_of_1 c.args.phase c.if-phase-eq1.true pair c.args.sums is

pub returns-then-phase-eq2 : goal.returns-then-phase-eq2
returns-then-phase-eq2 c = λ pair is. costs_of_2 c.args.phase c.if-phase-eq2.true pair c.args.sums is

pub returns-then-phase-eq3 : goal.returns-then-phase-eq3
returns-then-phase-eq3 c = λ pair is. costs_of_3 c.args.phase c.if-phase-eq3.true pair c.args.sums is

pub returns-then-phase-eq4 : goal.returns-then-phase-eq4
returns-then-phase-eq4 c = λ pair is. costs_of_4 c.args.phase c.if-phase-eq4.true pair c.args.sums is

pub returns-else-phase-eq4 : goal.returns-else-phase-eq4
returns-else-phase-eq4 c = λ pair is. costs_of_5 c.args.phase (omega (arith, c.requires, c.if-phase-eq0.false, c.if-phase-eq1.false, c.if-phase-eq2.false, c.if-phase-eq3.false, c.if-phase-eq4.false)) pair c.args.sums is
