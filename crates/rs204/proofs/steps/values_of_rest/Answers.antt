use Rattle.std.proofs.Common.{◌∙◌, refl, sym, ap, subst, get_or, arith, ◌<◌, take, reverse, []}
use Rattle.std.specs.Prelude.{bit_xor}
use Rattle.gf256.specs.Field as field
use Rattle.gf256.proofs.FieldLaws.{mul_comm, power_small}
use Rattle.rs204.proofs.Polynomials.{value_small}
use Rattle.rs204.proofs.Distance.{reverse_bytes}
use Rattle.rs204.proofs.Horner.{take_bytes}
use Rattle.rs204.proofs.Near.{bytes_of}
use Rattle.rs204.proofs.CodeSteps.{value_next}
use Rattle.rs204.proofs.steps.values_of_rest.Goals as goal

pub loop-byte-preserved : goal.loop-byte-preserved
loop-byte-preserved c = λ i l.
    let w = c.args.rest.now in
    let k = c.loop-byte.byte-index in
    let small : get_or c.loop-byte.values i 0 < 256 =
    subst (λ z. z < 256) (sym (c.loop-byte.invariant i l)) (value_small (field.power i) (reverse (take k w)) (power_small i) (reverse_bytes (take k w) [] (take_bytes k w (bytes_of w c.fits-rest)) tt)) in
    c.next_values.ensures i l
    ∙ ap (λ z. bit_xor z (get_or w k 0)) (mul_comm (get_or c.loop-byte.values i 0) (field.power i) small (power_small i))
    ∙ value_next (field.power i) k (get_or c.loop-byte.values i 0) w (get_or w k 0) (omega (arith, c.told-rest)) refl (c.loop-byte.invariant i l)
