use Rattle.std.proofs.Common.{◌-◌, ◌*◌, ◌++◌, ◌∙◌, ap, length, take, drop, take-append-drop}
use Rattle.std.proofs.lemmas.List.{take_rest}
use Rattle.survivor_ring.proofs.Eights.{both_root, both_bits}
use Rattle.survivor_ring.proofs.ring.trace_bytes.Goals as goal

pub returns-clause-root : goal.returns-clause-root
returns-clause-root c =
    both_root (take (8 * c.args.half) c.args.words.now) (take (length c.args.words.now - 8 * c.args.half) (drop (8 * c.args.half) c.args.words.now)) c.args.words.now c.args.state c.trace_both-guess.result.1 c.rejoin.result (ap (λ z. take (8 * c.args.half) c.args.words.now ++ z) (take_rest c.args.words.now (8 * c.args.half)) ∙ take-append-drop (8 * c.args.half) c.args.words.now) (c.trace_both-guess.ensures.last_root) c.rejoin.ensures.root

pub returns-clause-bits : goal.returns-clause-bits
returns-clause-bits c =
    both_bits (take (8 * c.args.half) c.args.words.now) (take (length c.args.words.now - 8 * c.args.half) (drop (8 * c.args.half) c.args.words.now)) c.args.words.now c.rejoin.new.bytes c.trace_both-guess.new.last c.args.state c.trace_both-guess.result.1 (ap (λ z. take (8 * c.args.half) c.args.words.now ++ z) (take_rest c.args.words.now (8 * c.args.half)) ∙ take-append-drop (8 * c.args.half) c.args.words.now) c.trace_both-guess.ensures.last_root c.rejoin.ensures.bits c.trace_both-guess.ensures.last_bits
