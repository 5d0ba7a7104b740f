-- One symbol more.
use Rattle.std.proofs.Common.{rules, ◌≡◌, ℕ, ◌<◌, length, get_or, sym, ◌∙◌, arith, to_z, of_z, FitsSigned}
use Rattle.std.specs.Prelude.{pos}
use Rattle.std.specs.Int.{w16}
use Rattle.std.proofs.lemmas.Int.{ints}
use Rattle.std.proofs.lemmas.List.{length-set}
use Rattle.tracking.specs.InTime.{place, symbol_at}
use Rattle.track_motion.proofs.Steps.{set_below}
use Rattle.track_comb_gains.specs.Shares.{IsKept}
use Rattle.track_comb_gains.proofs.gains.symbols_at.Goals as goal

pub symbol-requires-clause-in_file : goal.symbol-requires-clause-in_file
symbol-requires-clause-in_file c =
    let v = get_or c.args.taps.now c.loop-i.i (pos 0) in
    let fits : FitsSigned w16 v = search rules in
    let same : to_z w16 (of_z w16 v) ≡ v = omega (arith, ints, fits) in
    λ some. c.requires.in_file c.loop-i.i (omega (arith, c.loop-i-test.true)) (λ e. some (same ∙ e))

pub loop-i-preserved : goal.loop-i-preserved
loop-i-preserved c =
    let i = c.loop-i.i in
    let old = c.loop-i.symbols in
    let inv = c.loop-i.invariant in
    let x = c.symbol.result in
    let v = get_or c.args.taps.now i (pos 0) in
    let fits : FitsSigned w16 v = search rules in
    let same : to_z w16 (of_z w16 v) ≡ v = omega (arith, ints, fits) in
    let few : i < length old = omega (arith, c.loop-i-test.true, inv.long) in
    record {
      long = length-set old i x ∙ inv.long;
      are = set_below (λ (k : ℕ) (z : ℕ). (get_or c.args.taps.now k (pos 0) ≡ pos 0 → ⊥) → z ≡ symbol_at c.args.m (place c.args.d k)) 0 old i x few inv.are (λ some. c.symbol.ensures.is (λ e. some (sym same ∙ e)));
      kept = set_below (λ (k : ℕ) (z : ℕ). IsKept c.args.count z) 0 old i x few inv.kept c.symbol.ensures.kept;
    }
