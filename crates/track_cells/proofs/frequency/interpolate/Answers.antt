-- The first carriers, the blocks, and the last ones.
use Rattle.std.proofs.Common.{arith}
use Rattle.track_cells.proofs.frequency.interpolate.Goals as goal

pub returns-clause-within : goal.returns-clause-within
returns-clause-within c = λ k lt.
    c.put_each-2.ensures.within (c.put_blocks.ensures.within (c.put_each.ensures.within (λ n less. absurd (omega (arith, less))))) k (omega (arith, lt, c.put_each-2.ensures.carriers))
