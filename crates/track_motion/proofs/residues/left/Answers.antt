-- The size of what is left.
use Rattle.std.proofs.Common.{ℕ, ◌+◌, ◌*◌, ◌^◌, ◌≤◌, arith}
use Rattle.track_motion.proofs.residues.left.Goals as goal

pub returns-clause-most : goal.returns-clause-most
returns-clause-most g c =
    let m = c.minus.ensures.within (2 ^ 15) (2 ^ 18) (c.row.ensures.within c.args.j c.requires.point) c.predicted-prediction.ensures.within in
    let p = c.power.ensures.within (2 ^ 15 + 2 ^ 18) m in
    omega (arith, p)
