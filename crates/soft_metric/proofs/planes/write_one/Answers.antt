use Rattle.std.proofs.Common.{◌≡◌, ◌+◌, ◌*◌, ◌<◌, ◌≤◌, ◌∙◌, ℕ, ap, ap₂, length, refl, arith}
use Rattle.std.specs.Prelude.{slice_index, slice_index_or, slice_set}
use Rattle.std.proofs.lemmas.List.{get_or_default}
use Rattle.mode_set.specs.StreamTable.{label_bits}
use Rattle.qam_map.specs.declared.cell.Cell.{Cell}
use Rattle.soft_metric.specs.Costs.{costs_at_place}
use Rattle.soft_metric.specs.Weights.{weighted}
use Rattle.soft_metric.proofs.Lanes16.{two}
use Rattle.soft_metric.proofs.Writing.{Put, one_put, one_more, put_writes, then_written}
use Rattle.soft_metric.proofs.planes.write_one.Goals as goal

pub loop-place-preserved : goal.loop-place-preserved
loop-place-preserved c =
    let s = c.args.shape in
    let h = c.args.hierarchy in
    let cells = c.args.cells.now in
    let weights = c.args.weights.now in
    let q : ℕ = c.args.q in
    let e : ℕ = c.loop-place.place in
    let w : ℕ = slice_index weights q in
    let place : e < label_bits s = omega (arith, c.loop-place-test.true, c.label_bits-place-end.ensures) in
    let room : label_bits s * length cells ≤ length c.loop-place.to = omega (arith, c.requires.room, c.loop-place.auto.to) in
    let right : (d : Cell) → c.weighted.result ≡ weighted (costs_at_place s h (slice_index_or cells q d) e) w = λ d.
    c.weighted.ensures.weighted ∙ ap (λ (z : ℕ × ℕ). weighted z w) (ap₂ two c.costs-pair.ensures.zero c.costs-pair.ensures.one)
    ∙ ap (λ (z : Cell). weighted (costs_at_place s h z e) w) (get_or_default cells q _ d c.requires.within) in
    let p : Put s h cells weights e q 1 (e * length cells + q) c.loop-place.to (slice_set c.loop-place.to (e * length cells + q) c.weighted.result)
    = one_put s h cells weights e q _ c.weighted.result c.loop-place.to refl place c.requires.within c.requires.weights room right in
    record {
      writes = then_written s h cells weights _ _ _ c.loop-place.invariant.writes (put_writes s h cells weights e q 1 _ _ _ p);
      here = one_more s h cells weights e q _ _ _ p c.loop-place.invariant.here;
    }
