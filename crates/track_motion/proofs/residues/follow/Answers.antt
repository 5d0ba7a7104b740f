-- The means after the symbol.
use Rattle.std.proofs.Common.{◌≡◌, ℕ, ◌<◌, sym, ◌∙◌, arith}
use Rattle.tracking.specs.Comb.{comb_of}
use Rattle.track_motion.proofs.Tests.{count_of}
use Rattle.track_motion.proofs.Means.{seen, not_seen}
use Rattle.track_motion.proofs.residues.follow.Goals as goal

pub returns-then-not-is_seen-clause-are : goal.returns-then-not-is_seen-clause-are
returns-then-not-is_seen-clause-are g c = λ symbols h a are.
    let comb = comb_of g.M.Carriers.MODE symbols in
    let some : c.args.m < comb.count = omega (arith, count_of g.M.Carriers.MODE symbols, h.number, c.requires.there) in
    not_seen comb c.args.m c.args.means (sym (c.if-not-is_seen.ensures.is comb c.args.m some a)) are

pub returns-clause-are : goal.returns-clause-are
returns-clause-are g c = λ symbols h a are.
    let comb = comb_of g.M.Carriers.MODE symbols in
    let some : c.args.m < comb.count = omega (arith, count_of g.M.Carriers.MODE symbols, h.number, c.requires.there) in
    seen comb c.args.m c.residue-slow.result c.residue-fast.result c.args.means c.with_residues.result (sym (c.if-not-is_seen.ensures.is comb c.args.m some a)) are
    (c.residue-slow.ensures.is symbols h a) (c.residue-fast.ensures.is symbols h a) c.with_residues.ensures.slow c.with_residues.ensures.fast
