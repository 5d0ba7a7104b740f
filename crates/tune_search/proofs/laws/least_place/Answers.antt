use Rattle.tune_search.proofs.LeastPlaces.{searches}
use Rattle.tune_search.proofs.laws.least_place.Goals as goal

pub returns : goal.returns
returns c = searches c.one_found.ensures
