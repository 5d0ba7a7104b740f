-- One more bit is read.
use Rattle.std.proofs.Common.{◌≡◌, ℕ, ◌+◌, ◌*◌, ◌<◌, ◌≤◌, ◌^◌, arith, ap, subst, sym, ◌∙◌, drop, get_or, true, false, cond, Bool, refl}
use mir.Val.{bool_byte}
use Rattle.std.proofs.Math.Pow.{pow_mono}
use Rattle.tps_word.specs.Number.{number_behind, number_of}
use Rattle.tps_word.proofs.Spelling.{read_on, doubled}
use Rattle.tps_word.proofs.fields.number.Goals as goal

byte : (b : Bool) → bool_byte b ≡ cond b 1 0
byte true = refl
byte false = refl

pub overflow_mul-number : goal.overflow_mul-number
overflow_mul-number c = let most : 2 ^ c.loop-bit.bit-index ≤ 2 ^ 7 = pow_mono {i = c.loop-bit.bit-index} {j = 7} (omega arith) in omega (arith, most, c.loop-bit.invariant.small)

pub loop-bit-preserved : goal.loop-bit-preserved
loop-bit-preserved c =
    let i = c.loop-bit.bit-index in
    let bits = c.args.bits.now in
    record {
      value = ap (λ (d : ℕ). number_behind (2 * c.loop-bit.number + d) (drop (i + 1) bits)) (c.from.ensures ∙ byte (get_or bits i false)) ∙ read_on bits i c.loop-bit.number (number_of bits) c.loop-bit-test.true c.loop-bit.invariant.value;
      small = subst (λ (d : ℕ). 2 * c.loop-bit.number + d < 2 ^ (i + 1)) (sym (c.from.ensures ∙ byte (get_or bits i false))) (doubled i c.loop-bit.number c.loop-bit.invariant.small (get_or bits i false));
    }
