-- The gain by the taps of the symbols that count.
use Rattle.std.proofs.Common.{◌≡◌, ℕ, ◌+◌, ◌*◌, ◌^◌, ◌<◌, ◌≤◌, List, get_or, refl, ap, sym, ◌∙◌, arith}
use Rattle.std.specs.Prelude.{ℤ, pos}
use Rattle.tracking.specs.Comb.{comb_of}
use Rattle.track_cells.proofs.Tables.{entry}
use Rattle.track_comb_gains.specs.Kept.{kept_tap}
use Rattle.track_comb_gains.proofs.Shares.{gain_is, tap_counts}
use Rattle.track_comb_gains.proofs.plain.point_gain.Goals as goal

pub weighted-sum-requires-clause-in_file : goal.weighted-sum-requires-clause-in_file
weighted-sum-requires-clause-in_file g c = λ i lt some.
    let d = c.distance-d.result in
    let n = get_or c.args.counts.now d 0 in
    let at : get_or c.taps.result.now i (pos 0) ≡ kept_tap c.args.motion d n i = ap (λ (z : List ℤ). get_or z i (pos 0)) c.taps.ensures.is ∙ entry (kept_tap c.args.motion d n) 4 i (pos 0) lt in
    c.requires.counts_there d i c.distance-d.ensures.few lt (tap_counts c.args.motion d n i (λ e. some (at ∙ e)))

pub returns-clause-is : goal.returns-clause-is
returns-clause-is g c = λ symbols guard h a ec em.
    let comb = comb_of g.M.Carriers.MODE symbols in
    gain_is comb guard c.args.m c.args.j c.args.motion c.distance-d.result (get_or c.args.counts.now c.distance-d.result 0) c.taps.result.now c.weighted-sum.result c.near.result c.distance-d.ensures.is em
    (ec c.distance-d.result c.distance-d.ensures.few) c.taps.ensures.is (c.weighted-sum.ensures.is symbols h a) c.near.ensures.is

pub returns-clause-within : goal.returns-clause-within
returns-clause-within g c =
    let w = c.weighted-sum.ensures.within in
    c.near.ensures.within (2 ^ 21) (record { re = omega (arith, w.re); im = omega (arith, w.im) })
