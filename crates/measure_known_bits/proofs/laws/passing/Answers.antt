use Rattle.std.proofs.Common.{refl, sym, arith}
use Rattle.measure_known_bits.proofs.Rooms.{passed_more}
use Rattle.measure_known_bits.proofs.laws.passing.Goals as goal

pub returns-clause-first : goal.returns-clause-first
returns-clause-first c = λ s σ. record { before = sym (c.steps.ensures.none s σ); lag = omega arith; within = omega arith; waiting = refl; register_is = refl }

pub returns-clause-more : goal.returns-clause-more
returns-clause-more c = passed_more
