-- All cells are read, and all weights.
use Rattle.std.proofs.Common.{◌∙◌, arith, pos}
use Rattle.std.proofs.lemmas.List.{length-set}
use Rattle.std.proofs.lemmas.List.FromFn.{fill_by_all}
use Rattle.spec_words.specs.Words.{numbers}
use Rattle.frame_build.specs.Symbol.{cell_from, weight_from, cells_from, weights_from}
use Rattle.frame_build.proofs.Reading.{one_more}
use Rattle.frame_build.proofs.read_cells.read_symbol.Goals as goal

pub loop-k-preserved : goal.loop-k-preserved
loop-k-preserved c =
    let inv = c.loop-k.invariant in
    record {
      many = length-set _ _ _ ∙ inv.many;
      as_many = length-set _ _ _ ∙ inv.as_many;
      read = record {
        cell = one_more (cell_from c.args.bytes.now) c.loop-k.cells (record { re = pos 0; im = pos 0 }) c.read_cell.result c.loop-k.k inv.read.cell (omega arith) c.read_cell.ensures;
        weight = one_more (weight_from c.args.bytes.now) c.loop-k.weights 0 c.read_weight.result c.loop-k.k inv.read.weight (omega arith) c.read_weight.ensures;
      };
    }

pub returns-clause-cells : goal.returns-clause-cells
unfolding cells_from numbers
returns-clause-cells c = fill_by_all (cell_from c.args.bytes.now) c.loop-k.cells _ (record { re = pos 0; im = pos 0 }) (omega arith) (λ j l. c.loop-k.invariant.read.cell j (omega arith))

pub returns-clause-weights : goal.returns-clause-weights
unfolding weights_from numbers
returns-clause-weights c = fill_by_all (weight_from c.args.bytes.now) c.loop-k.weights _ 0 (omega arith) (λ j l. c.loop-k.invariant.read.weight j (omega arith))
