use Rattle.std.proofs.Common.{◌∙◌, ◌*◌, ◌%◌, ◌+◌, ℕ, ap, ap₂}
use Rattle.std.specs.Prelude.{slice_index}
use Rattle.mode_set.specs.declared.settings.Settings.{Settings}
use Rattle.soft_metric.specs.Weights.{weighted}
use Rattle.inner_chain.proofs.CellCosts.{bit_read}
use Rattle.inner_chain.proofs.cell_costs.bit_costs.Goals as goal

pub returns-clause-costs : goal.returns-clause-costs
returns-clause-costs c =
    let s : Settings = c.args.settings.now in
    let k : ℕ = slice_index c.args.carrier_table.now (c.args.l % 4 * c.payload.result + c.place-e.result.1) in
    bit_read s c.args.cells.now c.args.weights.now c.args.l c.args.stream c.args.bit c.args.carrier_table.now c.place-e.result.0 c.place-e.result.1 k c.weighted.result c.requires.carriers c.requires.weights c.kinds_repeat.ensures.carriers c.place-e.ensures.place c.place-e.ensures.word (c.place-e.ensures.in_symbol s.mode c.requires.within)
    (ap (λ (z : ℕ). slice_index c.args.carrier_table.now (c.args.l % 4 * z + c.place-e.result.1)) c.payload.ensures)
    (c.weighted.ensures.weighted ∙ ap (λ (z : ℕ × ℕ). weighted z (slice_index c.args.weights.now k)) (ap₂ (λ (x y : ℕ). (x, y)) c.costs-pair.ensures.zero c.costs-pair.ensures.one))
