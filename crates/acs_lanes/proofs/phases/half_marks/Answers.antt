use Rattle.std.proofs.Common.{ap, ◌∙◌}
use Rattle.acs_lanes.specs.Phases.{exchanged, ordered, way_in}
use Rattle.acs_lanes.proofs.PhaseMarks.{half_small, half_bits, lane_small}
use Rattle.acs_lanes.proofs.phases.half_marks.Goals as goal

pub returns-clause-small : goal.returns-clause-small
returns-clause-small c =
    let p = c.args.phase in
    half_small (λ i. way_in p (exchanged p i)) (lane_small p c.requires) c.args.first c.args.last c.ordered_in-bytes.result (c.ordered_in-bytes.ensures ∙ ap (ordered p) c.by_halves.ensures)

pub returns-clause-bits : goal.returns-clause-bits
returns-clause-bits c =
    let p = c.args.phase in
    λ is_odd m. half_bits (λ i. way_in p (exchanged p i)) (lane_small p c.requires) c.args.first c.args.last is_odd m c.ordered_in-bytes.result (c.ordered_in-bytes.ensures ∙ ap (ordered p) c.by_halves.ensures)
