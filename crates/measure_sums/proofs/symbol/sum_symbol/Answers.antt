-- One period more.
use Rattle.std.proofs.Common.{◌≡◌, ◌∙◌, ℕ, ◌+◌, ◌*◌, ◌≤◌, ap, subst, arith}
use Rattle.mode_set.specs.StreamTable.{payload}
use Rattle.measure_sums.specs.Parts.{sums_to, symbol_of}
use Rattle.measure_sums.specs.Tables.{AreLittle}
use Rattle.measure_sums.proofs.Summing.{none_summed}
use Rattle.measure_sums.proofs.symbol.sum_symbol.Goals as goal

pub loop-period-init : goal.loop-period-init
loop-period-init c = record { sums = c.nothing-sums.ensures.is ∙ none_summed (symbol_of c.args.settings.now c.args.cells.now c.args.weights.now c.args.l c.args.labels.now); little = c.nothing-sums.ensures.little }

pub loop-period-preserved : goal.loop-period-preserved
loop-period-preserved c =
    let next : 1512 * c.loop-period.period + 1512 ≡ 1512 * (c.loop-period.period + 1) = omega arith in
    let fit : 1512 * c.loop-period.period + 1512 ≤ payload c.args.settings.now.mode = omega (arith, c.loop-period-test.true, c.periods-period-end.ensures.payload) in
    record {
      sums = c.sum_period.ensures.sums c.args.settings.now c.new-table.ensures fit c.loop-period.invariant.sums
          ∙ ap (sums_to (symbol_of c.args.settings.now c.args.cells.now c.args.weights.now c.args.l c.args.labels.now)) next;
      little = subst (λ (z : ℕ). AreLittle c.sum_period.new.sums z) next c.sum_period.ensures.little;
    }

pub returns-clause-sums : goal.returns-clause-sums
returns-clause-sums c =
    let all : 1512 * c.loop-period.period ≡ payload c.args.settings.now.mode = omega (arith, c.periods-period-end.ensures.payload, c.loop-period-test.false, c.loop-period.auto.period-end) in
    c.loop-period.invariant.sums ∙ ap (sums_to (symbol_of c.args.settings.now c.args.cells.now c.args.weights.now c.args.l c.args.labels.now)) all
