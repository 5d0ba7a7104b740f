use Rattle.std.proofs.Common.{◌≡◌, ℕ, ◌+◌, ◌∷◌, [], ◌∙◌, ap, arith}
use Rattle.std.specs.Prelude.{slice_index}
use Rattle.frame_build.specs.Symbol.{weight_from}
use Rattle.frame_build.proofs.Reading.{by_six}
use Rattle.frame_build.proofs.read_cells.weights_at.Goals as goal

pub returns : goal.returns
returns c =
    let here : c.args.k ≡ c.args.k + 0 = omega arith in
    by_six (λ (i : ℕ). slice_index (c.read_weight.result ∷ c.read_weight-2.result ∷ c.read_weight-3.result ∷ c.read_weight-4.result ∷ c.read_weight-5.result ∷ c.read_weight-6.result ∷ []) i ≡ weight_from c.args.bytes.now (c.args.k + i))
    (c.read_weight.ensures ∙ ap (weight_from c.args.bytes.now) here) c.read_weight-2.ensures c.read_weight-3.ensures c.read_weight-4.ensures c.read_weight-5.ensures c.read_weight-6.ensures
