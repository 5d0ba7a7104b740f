use Rattle.std.proofs.Common.{◌+◌, ◌≤◌, ◌++◌, refl, sym, ap, ◌∙◌, length, take, arith, append-nil}
use Rattle.measure_known_bits.proofs.Taking.{left_more, moved_more, left_long, moved_long}
use Rattle.measure_known_bits.proofs.moving.move_single_bits.Goals as goal

pub loop-k-init : goal.loop-k-init
loop-k-init c = (refl, sym (append-nil c.args.to.now))

pub move_bit-requires-clause-enough : goal.move_bit-requires-clause-enough
move_bit-requires-clause-enough c = omega (arith, c.requires.enough, c.loop-k-test.true, left_long c.args.from.now c.loop-k.from (c.loop-k._k) c.loop-k.invariant.0)

pub move_bit-requires-clause-room : goal.move_bit-requires-clause-room
move_bit-requires-clause-room c =
    let within : c.loop-k._k ≤ length c.args.from.now = omega (arith, c.requires.enough, c.loop-k-test.true) in
    omega (arith, c.requires.room, c.loop-k-test.true, moved_long c.args.from.now c.args.to.now c.loop-k.to (c.loop-k._k) within c.loop-k.invariant.1)

pub loop-k-preserved : goal.loop-k-preserved
loop-k-preserved c = (
  left_more _ _ _ (c.loop-k._k) 1 (c.loop-k._k + 1) (omega arith) c.loop-k.invariant.0 c.move_bit.ensures.left,
  moved_more _ _ _ _ (c.loop-k._k) 1 (c.loop-k._k + 1) (omega arith) c.loop-k.invariant.0 (c.move_bit.ensures.moved ∙ ap (λ z. z ++ take 1 c.loop-k.from) c.loop-k.invariant.1),
)
