-- Carrier after carrier is appended.
use Rattle.std.proofs.Common.{◌≡◌, ℕ, ◌++◌, length, refl, ap, ◌∙◌, arith}
use Rattle.tracking.specs.Tracking.{bytes_of}
use Rattle.track_cells.specs.Gains.{corrected_bytes}
use Rattle.track_cells.proofs.Bytes.{none_appended, appended}
use Rattle.track_cells.proofs.plain.push_corrected.Goals as goal

pub loop-k-init : goal.loop-k-init
loop-k-init c = record {
  bytes = none_appended c.args.full c.args.gains.now c.args.cells.now c.args.weights.now c.args.to.now.items;
  long = omega arith;
  room = refl;
}

pub loop-k-preserved : goal.loop-k-preserved
loop-k-preserved c =
    let i = c.loop-k.invariant in
    record {
      bytes = appended c.args.full c.args.gains.now c.args.cells.now c.args.weights.now c.loop-k.k _ _ _ c.cell_bytes.result i.bytes c.push_five.ensures.bytes (c.cell_bytes.ensures ∙ ap bytes_of c.corrected-restored.ensures);
      long = omega (arith, i.long, c.push_five.ensures.len);
      room = c.push_five.ensures.capacity ∙ i.room;
    }

pub returns-clause-appended : goal.returns-clause-appended
returns-clause-appended c =
    let end : c.loop-k.k ≡ length c.args.gains.now = omega (arith, c.loop-k-test.false, c.loop-k.auto.k-end) in
    c.loop-k.invariant.bytes ∙ ap (λ (z : ℕ). c.args.to.now.items ++ corrected_bytes c.args.full c.args.gains.now c.args.cells.now c.args.weights.now z) end
