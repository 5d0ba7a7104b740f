use Rattle.std.proofs.Common.{arith, sym, subst, List, ℕ, ◌≡◌, ◌<◌}
use Rattle.std.specs.Prelude.{slice_index}
use Rattle.rs204.specs.Polynomials.{IsNonzero}
use Rattle.rs204.specs.Decoding.{DifferAtRoots}
use Rattle.rs204.proofs.Near.{bytes_of}
use Rattle.rs_erasure.specs.Locating.{IsProduct, lowered}
use Rattle.rs_erasure.proofs.Outside.{differ_at_roots}
use Rattle.rs_erasure.proofs.decoder.nearest_outside.Goals as goal

pub errata_locator-errata-requires : goal.errata_locator-errata-requires
errata_locator-errata-requires c = λ j l. c.locator-outside.ensures.degree j (omega (arith, l, c.requires.few))

pub repair-requires-clause-some : goal.repair-requires-clause-some
repair-requires-clause-some c = subst IsNonzero (sym c.as_slice.ensures) (c.errata_locator-errata.ensures.is.some c.locator-outside.ensures.some)

pub returns-clause-is : goal.returns-clause-is
returns-clause-is c = λ w h l.
    let p = c.place_powers-powers.ensures in
    c.repair.ensures.is w h
    (subst (λ (q : List ℕ). DifferAtRoots q c.args.word.now w) (sym c.as_slice.ensures)
    (differ_at_roots c.args.word.now w c.args.erased.now c.told-word (bytes_of c.args.word.now c.fits-word) h c.args.most c.requires.few c.syndromes-values.result c.modified_syndromes-left.result c.locator-outside.result c.errata_locator-errata.result
    c.syndromes-values.ensures c.told-erased
    (subst (λ (q : List ℕ). (i : ℕ) → i < 8 → slice_index c.modified_syndromes-left.result i ≡ lowered q (λ k. slice_index c.syndromes-values.result k) i) p c.modified_syndromes-left.ensures)
    c.locator-outside.ensures
    (subst (λ (q : List ℕ). IsProduct q c.locator-outside.result c.errata_locator-errata.result) p c.errata_locator-errata.ensures.is) l))
