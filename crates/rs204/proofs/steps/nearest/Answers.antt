use Rattle.std.proofs.Common.{sym, subst, List, ℕ}
use Rattle.rs204.specs.Polynomials.{IsNonzero}
use Rattle.rs204.specs.Decoding.{DifferAtRoots}
use Rattle.rs204.proofs.Near.{bytes_of, near_differs}
use Rattle.rs204.proofs.steps.nearest.Goals as goal

pub repair-requires-clause-some : goal.repair-requires-clause-some
repair-requires-clause-some c = subst IsNonzero (sym c.as_slice.ensures) c.locator-polynomial.ensures.some

pub returns-clause-near : goal.returns-clause-near
returns-clause-near c = λ w h l.
    c.repair.ensures.is w h
    (subst (λ (p : List ℕ). DifferAtRoots p c.args.word.now w) (sym c.as_slice.ensures)
    (near_differs c.args.word.now w c.told-word (bytes_of c.args.word.now c.fits-word) h c.args.values.now c.locator-polynomial.result c.requires c.locator-polynomial.ensures l))
