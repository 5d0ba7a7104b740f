use Rattle.std.proofs.Common.{ap, ◌∙◌}
use Rattle.acs_lanes.specs.Lanes16.{way}
use Rattle.acs_lanes.specs.Phases.{ordered_by}
use Rattle.acs_lanes.proofs.Laid.{way_small}
use Rattle.acs_lanes.proofs.PhaseMarks.{half_bits, half_small, turned_bits, turned_small}
use Rattle.acs_lanes.proofs.phases.half_word.Goals as goal

pub returns-clause-small : goal.returns-clause-small
returns-clause-small c = turned_small _ (half_small way way_small c.args.first c.args.last c.in_states-bytes.result (c.in_states-bytes.ensures ∙ ap (ordered_by way) c.by_halves.ensures))

pub returns-clause-bits : goal.returns-clause-bits
returns-clause-bits c = λ is_odd m.
    let same = c.in_states-bytes.ensures ∙ ap (ordered_by way) c.by_halves.ensures in
    turned_bits _ (half_small way way_small c.args.first c.args.last c.in_states-bytes.result same) is_odd (half_bits way way_small c.args.first c.args.last is_odd m c.in_states-bytes.result same)
