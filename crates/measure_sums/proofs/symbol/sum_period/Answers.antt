-- One payload place more.
use Rattle.std.proofs.Common.{◌≡◌, ◌∙◌, ℕ, ◌+◌, ◌*◌, ◌≤◌, min, get_or, sym, ap, subst, arith}
use Rattle.std.specs.Prelude.{nat_lt, pos, slice_index}
use Rattle.mode_set.specs.StreamTable.{payload}
use Rattle.mode_set.specs.declared.settings.Settings.{Settings}
use Rattle.pilots.specs.Carriers.{payload_carriers}
use Rattle.qam_map.specs.declared.cell.Cell.{Cell}
use Rattle.measure_sums.specs.Comparing.{Comparison}
use Rattle.measure_sums.specs.Parts.{sums_to, symbol_of}
use Rattle.measure_sums.specs.Tables.{AreLittle}
use Rattle.measure_sums.proofs.Repeating.{in_period}
use Rattle.measure_sums.proofs.Summing.{sums_more, place_is, weight_counts}
use Rattle.measure_sums.proofs.symbol.sum_period.Goals as goal

pub loop-i-preserved : goal.loop-i-preserved
loop-i-preserved c =
    let x : Settings → Comparison = λ s. symbol_of s c.args.cells.now c.args.weights.now c.args.l c.args.labels.now in
    let n : ℕ = 1512 * c.args.period + c.loop-i.i in
    let k : ℕ = 1704 * c.args.period + c.carrier.result in
    let next : n + 1 ≡ 1512 * c.args.period + (c.loop-i.i + 1) = omega arith in
    let zero_cell : Cell = record { re = pos 0; im = pos 0 } in
    let at : (s : Settings) → 1512 * c.args.period + 1512 ≤ payload s.mode → slice_index (payload_carriers s.mode c.args.l) n ≡ k =
    λ s fit. in_period s.mode c.args.l c.args.period c.loop-i.i c.loop-i-test.true (omega (arith, fit, c.loop-i-test.true)) ∙ sym (ap (λ (z : ℕ). 1704 * c.args.period + z) c.carrier.ensures.listed) in
    record {
      sums = λ s shape fit before. c.add.ensures.is
          ∙ sums_more (x s) n c.loop-i.sums _ (c.loop-i.invariant.sums s shape fit before)
          (place_is s c.args.cells.now c.args.weights.now c.args.l c.args.labels.now n (get_or c.args.weights.now k 0) (get_or c.args.cells.now k zero_cell) c.args.table.now shape
          (ap (λ (z : ℕ). get_or c.args.cells.now z zero_cell) (at s fit))
          (ap (λ (z : ℕ). nat_lt 0 (min 15 (get_or c.args.weights.now z 15))) (at s fit) ∙ weight_counts c.args.weights.now k (omega (arith, c.carrier.ensures.within, c.requires.weights))))
          ∙ ap (sums_to (x s)) next;
      little = subst (λ (z : ℕ). AreLittle c.add.new.sums z) next (c.add.ensures.little n c.loop-i.invariant.little);
    }

pub returns-clause-sums : goal.returns-clause-sums
returns-clause-sums c =
    let all : c.loop-i.i ≡ 1512 = omega (arith, c.loop-i-test.false, c.loop-i.auto.i-end) in
    λ s shape fit before. c.loop-i.invariant.sums s shape fit before ∙ ap (λ (z : ℕ). sums_to (symbol_of s c.args.cells.now c.args.weights.now c.args.l c.args.labels.now) (1512 * c.args.period + z)) all
