use Rattle.std.proofs.Common.{◌*◌, ◌/◌, ◌%◌, ◌≤◌, length, arith}
use Rattle.measure_stream.proofs.Bits.{takes_more, left_wait, known_long, has_room, room_left, room_less}
use Rattle.measure_stream.proofs.passing.pass_bits.Goals as goal

pub pass_bytes-requires-clause-room : goal.pass_bytes-requires-clause-room
pass_bytes-requires-clause-room c = room_less (length c.args.branch.now.wait) (8 * (c.waiting-count.result / 8)) _ _ (omega (arith, c.waiting-count.ensures.number)) c.requires.room

pub pass_single_bits-requires-clause-wait : goal.pass_single_bits-requires-clause-wait
pass_single_bits-requires-clause-wait c = omega (arith, c.waiting-count.ensures.number, left_wait (8 * (c.waiting-count.result / 8)) _ _ _ _ _ _ _ _ c.pass_bytes.ensures.takes)

pub pass_single_bits-requires-clause-known : goal.pass_single_bits-requires-clause-known
pass_single_bits-requires-clause-known c =
    let within : 8 * (c.waiting-count.result / 8) ≤ length c.args.branch.now.wait = omega (arith, c.waiting-count.ensures.number) in
    omega (arith, c.waiting-count.ensures.number, c.requires.known, known_long (8 * (c.waiting-count.result / 8)) _ _ _ _ _ _ _ _ within c.pass_bytes.ensures.takes)

pub pass_single_bits-requires-clause-few : goal.pass_single_bits-requires-clause-few
pass_single_bits-requires-clause-few c = c.pass_bytes.ensures.takes.few

pub pass_single_bits-requires-clause-room : goal.pass_single_bits-requires-clause-room
pass_single_bits-requires-clause-room c =
    let within : 8 * (c.waiting-count.result / 8) ≤ length c.args.branch.now.wait = omega (arith, c.waiting-count.ensures.number) in
    room_left (length c.args.branch.now.wait) (8 * (c.waiting-count.result / 8)) (c.waiting-count.result % 8) _ _ _ _ _ _ _ _ within (omega (arith, c.waiting-count.ensures.number)) c.requires.room c.pass_bytes.ensures.takes

pub returns-clause-slots : goal.returns-clause-slots
returns-clause-slots c =
    let all = takes_more (8 * (c.waiting-count.result / 8)) (c.waiting-count.result % 8) (length c.args.branch.now.wait) c.args.branch.now _ _ c.args.known.now _ _ c.args.part.now _ _ c.args.words.now _ _ (omega (arith, c.waiting-count.ensures.number)) c.pass_bytes.ensures.takes c.pass_single_bits.ensures.takes in
    has_room _ _ 0 (room_left (length c.args.branch.now.wait) (length c.args.branch.now.wait) 0 c.args.branch.now _ c.args.known.now _ c.args.part.now _ c.args.words.now _ (omega arith) (omega arith) c.requires.room all)

pub returns-clause-takes : goal.returns-clause-takes
returns-clause-takes c = takes_more (8 * (c.waiting-count.result / 8)) (c.waiting-count.result % 8) (length c.args.branch.now.wait) _ _ _ _ _ _ _ _ _ _ _ _ (omega (arith, c.waiting-count.ensures.number)) c.pass_bytes.ensures.takes c.pass_single_bits.ensures.takes
