use Rattle.std.proofs.Common.{◌≡◌, ◌∙◌, ap, arith}
use Rattle.std.specs.Prelude.{slice_index}
use Rattle.std.proofs.lemmas.List.{get_or-map}
use Rattle.soft_metric.specs.Squares.{lane_magnitude}
use Rattle.soft_metric.proofs.Vectors.{magnitudes_are, magnitude_small}
use Rattle.soft_metric.proofs.lanes.magnitudes_of.Goals as goal

pub returns-clause-values : goal.returns-clause-values
returns-clause-values c = c.lesser.ensures ∙ magnitudes_are c.args.values 16 c.fits-values.0

pub returns-clause-small : goal.returns-clause-small
returns-clause-small c = λ k l.
    let same = c.lesser.ensures ∙ magnitudes_are c.args.values 16 c.fits-values.0 in
    let at : slice_index c.lesser.result k ≡ lane_magnitude (slice_index c.args.values k) = ap (λ z. slice_index z k) same ∙ get_or-map lane_magnitude c.args.values k 0 0 (omega (arith, c.fits-values.0, l)) in
    omega (arith, at, magnitude_small (slice_index c.args.values k))
