use Rattle.law_measurement.proofs.Decided as decided
use Rattle.law_measurement.proofs.laws.near_points_are_decided.Goals as goal

pub returns : goal.returns
returns c = decided.near_points_are_decided
