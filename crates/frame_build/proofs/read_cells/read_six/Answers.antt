use Rattle.std.proofs.Common.{◌≡◌, ℕ, ◌+◌, subst, arith}
use Rattle.frame_build.specs.Reading.{AreCellsTo}
use Rattle.frame_build.proofs.read_cells.read_six.Goals as goal

pub returns-clause-read : goal.returns-clause-read
returns-clause-read c = λ are.
    let six : c.args.k + 3 + 3 ≡ c.args.k + 6 = omega arith in
    record {
      cell = subst (λ (n : ℕ). AreCellsTo c.args.bytes.now c.put_cells-2.new.cells n) six (c.put_cells-2.ensures.cells (c.put_cells.ensures.cells are.cell));
      weight = c.put_weights.ensures.weights are.weight;
    }
