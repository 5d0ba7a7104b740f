use Rattle.std.proofs.Common.{ℕ, List, ap₂, ◌∙◌}
use Rattle.std.specs.Prelude.{slice_index}
use Rattle.spec_words.specs.Bits.{is_set}
use Rattle.qam_map.specs.declared.cell.Cell.{Cell}
use Rattle.measure_sums.specs.Comparing.{symbol_sums}
use Rattle.measure_comparison.proofs.comparer.sum_kept.Goals as goal

pub returns : goal.returns
returns c = record {
  little = c.sum_symbol.ensures.little;
  sums = c.sum_symbol.ensures.sums
      ∙ ap₂ (λ (cells : List Cell) (weights : List ℕ). symbol_sums (record { settings = c.args.settings.now; cells = cells; weights = weights; symbol = c.args.l; labels = λ q. is_set (slice_index c.args.labels.now q) })) c.cells.ensures.cells c.weights.ensures.weights;
}
