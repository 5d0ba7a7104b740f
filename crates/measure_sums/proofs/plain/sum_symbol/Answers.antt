-- One payload place more.
use Rattle.std.proofs.Common.{◌≡◌, ◌∙◌, ℕ, min, get_or, sym, ap, arith}
use Rattle.std.specs.Prelude.{nat_lt, pos}
use Rattle.qam_map.specs.declared.cell.Cell.{Cell}
use Rattle.mode_set.specs.StreamTable.{payload}
use Rattle.measure_sums.specs.Parts.{sums_to, symbol_of}
use Rattle.measure_sums.proofs.Summing.{none_summed, sums_more, place_is, weight_counts}
use Rattle.measure_sums.proofs.plain.sum_symbol.Goals as goal

pub loop-q-init : goal.loop-q-init
loop-q-init c = record { sums = c.nothing-sums.ensures.is ∙ none_summed (symbol_of c.args.settings.now c.args.cells.now c.args.weights.now c.args.l c.args.labels.now); little = c.nothing-sums.ensures.little }

pub loop-q-preserved : goal.loop-q-preserved
loop-q-preserved c =
    let x = symbol_of c.args.settings.now c.args.cells.now c.args.weights.now c.args.l c.args.labels.now in
    let k = c.carrier-k.result in
    let zero_cell : Cell = record { re = pos 0; im = pos 0 } in
    let place = place_is c.args.settings.now c.args.cells.now c.args.weights.now c.args.l c.args.labels.now c.loop-q.q (get_or c.args.weights.now k 0) (get_or c.args.cells.now k zero_cell) c.new-constellation.result c.new-constellation.ensures
    (ap (λ (z : ℕ). get_or c.args.cells.now z zero_cell) (sym c.carrier-k.ensures.listed))
    (ap (λ (z : ℕ). nat_lt 0 (min 15 (get_or c.args.weights.now z 15))) (sym c.carrier-k.ensures.listed) ∙ weight_counts c.args.weights.now k (omega (arith, c.carrier-k.ensures.within, c.requires.weights))) in
    record {
      sums = c.add.ensures.is ∙ sums_more x c.loop-q.q c.loop-q.sums c.place-place.result c.loop-q.invariant.sums (c.place-place.ensures.is ∙ place);
      little = c.add.ensures.little c.loop-q.q c.loop-q.invariant.little;
    }

pub returns-clause-sums : goal.returns-clause-sums
returns-clause-sums c =
    let all : c.loop-q.q ≡ payload c.args.settings.now.mode = omega (arith, c.payload-q-end.ensures, c.loop-q-test.false, c.loop-q.auto.q-end) in
    c.loop-q.invariant.sums ∙ ap (sums_to (symbol_of c.args.settings.now c.args.cells.now c.args.weights.now c.args.l c.args.labels.now)) all
