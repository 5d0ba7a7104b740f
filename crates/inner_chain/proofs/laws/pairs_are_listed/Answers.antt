use Rattle.inner_chain.proofs.Listing.{pairs_are_listed}
use Rattle.inner_chain.proofs.laws.pairs_are_listed.Goals as goal

pub returns : goal.returns
returns c = pairs_are_listed
