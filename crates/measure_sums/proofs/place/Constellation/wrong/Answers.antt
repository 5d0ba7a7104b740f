-- The bits decided are those of the hard decisions, and the bits sent those of the label.
use Rattle.std.proofs.Common.{◌∙◌, sym}
use Rattle.mode_set.specs.declared.modes.Stream.TheVariants.{Hp, Lp}
use Rattle.measure_sums.proofs.Placing.{equal, right_is, wrong_is}
use Rattle.measure_sums.proofs.place.Constellation.wrong.Goals as goal

pub returns-then-eq-clause-hp : goal.returns-then-eq-clause-hp
returns-then-eq-clause-hp c =
    right_is c.self.inside.shape c.self.inside.hierarchy c.self.inside.decision c.args.self.now c.args.label c.args.received c.hard_bits-hard.result c.sent_bits-sent.result c.self.invariant.decision_is c.self.view_is
    c.hard_bits-hard.ensures c.sent_bits-sent.ensures Hp (equal _ _ (sym c.eq.ensures ∙ c.if-eq.true))

pub returns-then-eq-clause-lp : goal.returns-then-eq-clause-lp
returns-then-eq-clause-lp c =
    right_is c.self.inside.shape c.self.inside.hierarchy c.self.inside.decision c.args.self.now c.args.label c.args.received c.hard_bits-hard.result c.sent_bits-sent.result c.self.invariant.decision_is c.self.view_is
    c.hard_bits-hard.ensures c.sent_bits-sent.ensures Lp (equal _ _ (sym c.eq.ensures ∙ c.if-eq.true))

pub returns-clause-hp : goal.returns-clause-hp
returns-clause-hp c =
    wrong_is c.self.inside.shape c.self.inside.hierarchy c.self.inside.decision c.args.self.now c.args.label c.args.received c.hard_bits-hard.result c.sent_bits-sent.result c.self.invariant.decision_is c.self.view_is
    c.hard_bits-hard.ensures c.sent_bits-sent.ensures Hp c.wrong_of-hp.result c.wrong_of-hp.ensures.is

pub returns-clause-lp : goal.returns-clause-lp
returns-clause-lp c =
    wrong_is c.self.inside.shape c.self.inside.hierarchy c.self.inside.decision c.args.self.now c.args.label c.args.received c.hard_bits-hard.result c.sent_bits-sent.result c.self.invariant.decision_is c.self.view_is
    c.hard_bits-hard.ensures c.sent_bits-sent.ensures Lp c.wrong_of-lp.result c.wrong_of-lp.ensures.is
