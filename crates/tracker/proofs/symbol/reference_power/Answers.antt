-- The power with which a cell counts whole.
use Rattle.std.proofs.Common.{◌≡◌, length, ap, sym, ◌∙◌, arith}
use Rattle.mode_set.specs.StreamTable.{carriers}
use Rattle.mode_set.specs.declared.entry.Entry.{Entry}
use Rattle.tracking.specs.Comb.{continual_points}
use Rattle.tracking.specs.Tracking.{comb}
use Rattle.tracker.proofs.Powers.{count_is, of_one, of_more, mean_of}
use Rattle.tracker.proofs.symbol.reference_power.Goals as goal

pub mean_power-mean-requires-clause-carriers : goal.mean_power-mean-requires-clause-carriers
mean_power-mean-requires-clause-carriers g c = c.requires.carriers ∙ ap carriers (sym c.MODE.ensures)

pub returns-then-count-eq1-clause-is : goal.returns-then-count-eq1-clause-is
returns-then-count-eq1-clause-is g c = λ symbols number are middle gains.
    let s = c.args.settings.now in
    let count : (comb s symbols).count ≡ c.args.count = count_is s symbols ∙ sym number in
    of_one s (comb s symbols) c.args.m c.mean_power-mean.result (omega (arith, count, c.requires.there)) (count ∙ c.if-count-eq1.true)
    (mean_of s symbols c.args.m g.M.Carriers.MODE c.MODE.result c.args.gains.now c.mean_power-mean.result c.MODE.ensures c.requires.mode c.mean_power-mean.ensures.is gains)

pub returns-clause-is : goal.returns-clause-is
returns-clause-is g c = λ symbols number are middle gains.
    let s = c.args.settings.now in
    let d = comb s symbols in
    let count : d.count ≡ c.args.count = count_is s symbols ∙ sym number in
    let pilots = ap length (c.continual_points.ensures.is ∙ ap continual_points (c.MODE-2.ensures ∙ sym c.requires.mode)) in
    of_more s d c.args.m c.args.means c.args.middle c.mean_power-mean.result c.noise.result (length c.continual_points.result.now) c.full_power.result c.entry-shape.result.shape
    (omega (arith, count, c.requires.there)) (omega (arith, count, c.requires.late)) (λ e. c.if-count-eq1.false (sym count ∙ e)) are middle
    (mean_of s symbols c.args.m g.M.Carriers.MODE c.MODE.result c.args.gains.now c.mean_power-mean.result c.MODE.ensures c.requires.mode c.mean_power-mean.ensures.is gains)
    (ap (λ (z : Entry). z.shape) c.entry-shape.ensures.is) c.noise.ensures.is pilots c.full_power.ensures.is
