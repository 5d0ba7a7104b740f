use Rattle.std.proofs.Common.{◌≡◌, ℕ, ◌+◌, ◌≤◌, length, arith, subst}
use Rattle.measure_stream.specs.Passing.{Takes}
use Rattle.measure_stream.proofs.Bits.{takes_none, takes_more, left_wait, known_long, has_room, room_left}
use Rattle.measure_stream.proofs.passing.pass_single_bits.Goals as goal

pub loop-k-init : goal.loop-k-init
loop-k-init c = takes_none _ _ _ _ c.requires.few

pub pass_bit-requires-clause-wait : goal.pass_bit-requires-clause-wait
pass_bit-requires-clause-wait c = omega (arith, c.requires.wait, c.loop-k-test.true, left_wait c.loop-k._k _ _ _ _ _ _ _ _ c.loop-k.invariant)

pub pass_bit-requires-clause-known : goal.pass_bit-requires-clause-known
pass_bit-requires-clause-known c =
    let within : c.loop-k._k ≤ length c.args.branch.now.wait = omega (arith, c.requires.wait, c.loop-k-test.true) in
    omega (arith, c.requires.known, c.loop-k-test.true, known_long c.loop-k._k _ _ _ _ _ _ _ _ within c.loop-k.invariant)

pub pass_bit-requires-clause-few : goal.pass_bit-requires-clause-few
pass_bit-requires-clause-few c = c.loop-k.invariant.few

pub pass_bit-requires-clause-room : goal.pass_bit-requires-clause-room
pass_bit-requires-clause-room c =
    let within : c.loop-k._k ≤ length c.args.branch.now.wait = omega (arith, c.requires.wait, c.loop-k-test.true) in
    has_room _ _ 1 (room_left c.args.count c.loop-k._k 1 _ _ _ _ _ _ _ _ within (omega (arith, c.loop-k-test.true)) c.requires.room c.loop-k.invariant)

pub loop-k-preserved : goal.loop-k-preserved
loop-k-preserved c = takes_more c.loop-k._k 1 (c.loop-k._k + 1) _ _ _ _ _ _ _ _ _ _ _ _ (omega arith) c.loop-k.invariant c.pass_bit.ensures.takes

pub returns : goal.returns
returns c =
    let all : c.loop-k._k ≡ c.args.count = omega (arith, c.loop-k.auto._k-end, c.loop-k-test.false) in
    record { takes = subst (λ (z : ℕ). Takes z c.args.branch.now c.args.known.now c.args.part.now c.args.words.now c.loop-k.branch c.loop-k.known c.loop-k.part c.loop-k.words) all c.loop-k.invariant }
