use Rattle.std.proofs.Common.{◌*◌, ◌/◌, ◌%◌, ◌++◌, ap, ◌∙◌, take, arith}
use Rattle.measure_known_bits.proofs.Taking.{moved_more}
use Rattle.measure_known_bits.proofs.moving.move_bits.Goals as goal

pub returns-clause-moved : goal.returns-clause-moved
returns-clause-moved c =
    moved_more c.args.from.now c.args.to.now c.move_bytes.new.from _ (8 * (c.args.count / 8)) (c.args.count % 8) c.args.count (omega arith) c.move_bytes.ensures.left
    (c.move_single_bits.ensures.moved ∙ ap (λ z. z ++ take (c.args.count % 8) c.move_bytes.new.from) c.move_bytes.ensures.moved)
