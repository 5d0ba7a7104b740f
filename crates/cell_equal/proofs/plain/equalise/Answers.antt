-- The carriers are appended one by one.
use Rattle.std.proofs.Common.{◌≡◌, ℕ, ◌+◌, ◌-◌, ◌<◌, List, ◌++◌, refl, ap, ◌∙◌, arith, subst}
use Rattle.mode_set.specs.StreamTable.{carriers}
use Rattle.cell_equal.specs.State.{IsAround}
use Rattle.cell_equal.specs.Equal.{bytes_of}
use Rattle.cell_equal.proofs.Bytes.{none_appended, appended, all_bytes, is_equalised}
use Rattle.cell_equal.proofs.plain.equalise.Goals as goal

pub loop-k-init : goal.loop-k-init
loop-k-init c = record {
  span = c.first-span.ensures c.args.mode c.args.l;
  bytes = none_appended c.args.mode c.args.l c.args.cells.now c.args.weights.now c.args.to.now.items;
  long = omega arith;
  room = refl;
}

pub loop-k-preserved : goal.loop-k-preserved
loop-k-preserved c =
    let m = c.args.mode in
    let l = c.args.l in
    let cells = c.args.cells.now in
    let weights = c.args.weights.now in
    let k = c.loop-k.k in
    let i = c.loop-k.invariant in
    let few : k < carriers m = omega (arith, c.loop-k-test.true, c.requires.cells) in
    let back : k ≡ k + 1 - 1 = omega arith in
    record {
      span = subst (λ (z : ℕ). IsAround m l cells z c.advance.new.self) back c.advance.ensures;
      bytes = appended m l cells weights k _ _ _ c.cell_bytes.result i.bytes c.push_five.ensures.bytes
          (c.cell_bytes.ensures ∙ ap bytes_of (is_equalised m l cells weights k _ _ _ _ c.plainly_corrected-restored.ensures (c.gain-gain.ensures.is m l cells few c.advance.ensures) refl refl));
      long = omega (arith, i.long, c.push_five.ensures.len);
      room = c.push_five.ensures.capacity ∙ i.room;
    }

pub returns-clause-appended : goal.returns-clause-appended
returns-clause-appended c =
    let end : c.loop-k.k ≡ carriers c.args.mode = omega (arith, c.loop-k-test.false, c.loop-k.auto.k-end, c.requires.cells) in
    c.loop-k.invariant.bytes ∙ ap (λ (z : List ℕ). c.args.to.now.items ++ z) (all_bytes c.args.mode c.args.l c.args.cells.now c.args.weights.now c.loop-k.k end)
