use Rattle.survivor_ring.proofs.RowSteps.{lowest_lives}
use Rattle.survivor_ring.proofs.bits.lowest.Goals as goal

pub returns-clause-lives : goal.returns-clause-lives
returns-clause-lives c = lowest_lives c.args.states c.requires c.ranges.states.fits
