use Rattle.survivor_ring.proofs.RowSteps.{rows_alike}
use Rattle.survivor_ring.proofs.plain.ListSurvivorsSurvivors.shared.Goals as goal

pub returns : goal.returns
returns g c = let s = c.args.self.now in
    record { shared = rows_alike _ s.now.items s.states s.first s.waiting s.now_sized s.few s.below c.shared_bits.result c.shared_bits.ensures.within c.shared_bits.ensures.agree c.shared_bits.ensures.differ s.lives }
