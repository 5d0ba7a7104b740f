-- The parts of a symbol's correction are those of the definitions.
use Rattle.std.proofs.Common.{ℕ, ◌-◌, ◌++◌, ◌<◌, List, length, map, ap, sym, ◌∙◌, subst, arith}
use Rattle.mode_set.specs.StreamTable.{carriers}
use Rattle.mode_set.specs.declared.modes.Mode.{Mode}
use Rattle.tracking.specs.Comb.{comb_of}
use Rattle.tracking.specs.Tracking.{Symbol}
use Rattle.track_motion.specs.Means.{AreMeans}
use Rattle.tracker.proofs.Bytes.{all_bytes}
use Rattle.tracker.proofs.Symbols.{motion_is, gain_is, length_of, middle_in}
use Rattle.tracker.proofs.symbol.push_symbol.Goals as goal

pub returns-clause-appended : goal.returns-clause-appended
returns-clause-appended g c = λ symbols h keeps around after.
    let s = c.args.settings.now in
    let m : Mode = g.M.Carriers.MODE in
    let cells = map (λ (x : Symbol). x.cells) symbols in
    let motion = c.motion-motion.ensures ∙ motion_is s.guard (comb_of m cells) c.args.m c.args.seen.now.means after in
    let gains = c.gains-gains.result.now in
    let long = c.gains-gains.ensures.long in
    let gain = λ (k : ℕ) (lt : k < carriers m). gain_is s symbols m c.args.m k gains c.find.new.self c.requires.mode c.gains-gains.ensures.is (c.find.ensures.is cells k h around motion lt) in
    let means = subst (λ (z : Mode). AreMeans (comb_of z cells) c.args.m c.args.seen.now.means) (sym c.requires.mode) after in
    let middle = around.middle ∙ middle_in m s.mode cells c.args.m (sym c.requires.mode) in
    let number = c.count.ensures ∙ h.number ∙ length_of symbols in
    let full = c.reference_power-full.ensures.is symbols number means middle gain in
    let few = λ (k : ℕ) (lt : k < length gains). subst (λ (z : ℕ). k < z) long lt in
    let mk = g.M.Carriers.k_of in
    c.push_corrected.ensures.appended
    ∙ ap (λ (l : List ℕ). c.args.to.now.items ++ l) (all_bytes s symbols c.args.m c.reference_power-full.result gains c.cells.result.now c.weights.result.now (length gains) (long ∙ ap carriers (sym c.requires.mode)) full (λ k lt. gain k (few k lt))
    (λ k lt. c.cells.ensures.is symbols k keeps (omega (arith, few k lt, mk))) (λ k lt. c.weights.ensures.is symbols k keeps (omega (arith, few k lt, mk))))
