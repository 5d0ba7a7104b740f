use Rattle.std.proofs.Common.{◌∙◌, sym, ap, ap₂, get_or, take, arith, ℕ, ◌+◌, add-one}
use Rattle.std.specs.Prelude.{bit_xor, slice_index}
use Rattle.std.proofs.lemmas.List.{take_more}
use Rattle.gf256.specs.Field as field
use Rattle.rs_erasure.specs.Locating.{lowered}
use Rattle.rs_erasure.proofs.Places.{lowered_push}
use Rattle.rs_erasure.proofs.locate.modified_syndromes.Goals as goal

pub loop-power-preserved : goal.loop-power-preserved
loop-power-preserved c =
    let k = c.loop-power.power-index in
    let ps = c.args.powers.now in
    let x = get_or ps k 0 in
    let s : ℕ → ℕ = λ j. slice_index c.args.values.now j in
    record {
      size = c.take_out.ensures.size ∙ c.loop-power.invariant.size;
      done = λ i l.
          c.take_out.ensures.each i (omega (arith, c.loop-power.invariant.size))
          ∙ ap₂ (λ y z. bit_xor y (field.mul x z)) (c.loop-power.invariant.done (i + 1) (omega arith) ∙ ap (lowered (take k ps) s) (add-one i)) (c.loop-power.invariant.done i (omega arith))
          ∙ sym (lowered_push (take k ps) x s i) ∙ ap (λ z. lowered z s i) (sym (take_more ps k 0 (omega (arith, c.told-powers, c.loop-power-test.true))));
    }
