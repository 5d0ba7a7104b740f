use Rattle.qam_map.proofs.Nearest.{levels_are_nearest}
use Rattle.qam_map.proofs.laws.levels_are_nearest.Goals as goal

pub returns : goal.returns
returns c = levels_are_nearest
