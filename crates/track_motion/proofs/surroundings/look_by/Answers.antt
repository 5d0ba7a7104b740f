-- By the changes that were kept.
use Rattle.std.proofs.Common.{◌≡◌, ℕ, ◌<◌, sym, ◌∙◌, arith}
use Rattle.tracking.specs.Comb.{comb_of}
use Rattle.track_motion.proofs.Tests.{count_of}
use Rattle.track_motion.proofs.surroundings.look_by.Goals as goal

pub returns-clause-are : goal.returns-clause-are
returns-clause-are g c = λ symbols h keeps.
    let comb = comb_of g.M.Carriers.MODE symbols in
    let count : comb.count ≡ c.args.window.now.count = count_of g.M.Carriers.MODE symbols ∙ sym h.number in
    let some : c.args.m < comb.count = omega (arith, count, c.requires.there) in
    c.seen_by.ensures.are symbols h (c.changes_by.ensures.are comb keeps some (omega (arith, count, c.requires.late)))
