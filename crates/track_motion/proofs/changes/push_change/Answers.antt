-- The change of the last symbol is kept, and the others stay.
use Rattle.std.proofs.Common.{◌≡◌, ◌-◌, ◌%◌, sym, ◌∙◌, arith}
use Rattle.tracking.specs.Comb.{comb_of}
use Rattle.track_motion.proofs.Keeps.{low_placed, none_new, one_kept}
use Rattle.track_motion.proofs.Tests.{count_of}
use Rattle.track_motion.proofs.changes.push_change.Goals as goal

pub returns-then-last-eq0-clause-keeps : goal.returns-then-last-eq0-clause-keeps
returns-then-last-eq0-clause-keeps g c = λ symbols h before.
    let count : (comb_of g.M.Carriers.MODE symbols).count ≡ c.args.window.now.count = count_of g.M.Carriers.MODE symbols ∙ sym h.number in
    none_new (comb_of g.M.Carriers.MODE symbols) c.args.kept.now (omega (arith, count, c.count-last.ensures, c.if-last-eq0.true))

pub returns-clause-small : goal.returns-clause-small
returns-clause-small g c =
    let last = c.count-last.result - 1 in
    low_placed c.args.kept.now (last % 16) c.change.result c.told-kept (omega arith) c.requires.small c.change.ensures.most

pub returns-clause-keeps : goal.returns-clause-keeps
returns-clause-keeps g c = λ symbols h before.
    let last = c.count-last.result - 1 in
    let count : (comb_of g.M.Carriers.MODE symbols).count ≡ c.args.window.now.count = count_of g.M.Carriers.MODE symbols ∙ sym h.number in
    one_kept (comb_of g.M.Carriers.MODE symbols) c.args.kept.now last c.change.result c.told-kept (omega (arith, count, c.count-last.ensures, c.requires.some)) (c.change.ensures.is symbols h) before
