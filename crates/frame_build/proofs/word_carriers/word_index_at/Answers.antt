-- A label's cell is at its word, and each other where it was.
use Rattle.std.proofs.Common.{◌≤◌, arith, ℕ}
use Rattle.mode_set.specs.StreamTable.{payload}
use Rattle.frame_build.proofs.Indices.{index_below, other_index}
use Rattle.frame_build.proofs.word_carriers.word_index_at.Goals as goal

pub returns-else-index-NMAX : goal.returns-else-index-NMAX
returns-else-index-NMAX g c =
    let index : ℕ = c.index_at-index.result in
    let past : payload g.M.Carriers.MODE ≤ index = omega (arith, g.M.Carriers.nmax_of) in
    let below = index_below g.M.Carriers.MODE _ c.args.l c.args.k c.payload_carriers_are_numbered.ensures c.MODE.ensures (omega (arith, g.M.Carriers.k_of, c.requires.carrier)) in
    other_index g.M.Carriers.MODE c.args.l c.args.k index c.index_at-index.ensures past (omega (arith, below, c.index_at-index.ensures))
