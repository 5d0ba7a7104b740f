use Rattle.std.proofs.Common.{◌≡◌, ◌+◌, ◌*◌, ◌<◌, ℕ, length, set, subst, arith}
use Rattle.inner_chain.specs.Fours.{AreTurned}
use Rattle.inner_chain.proofs.Quads.{turned_more}
use Rattle.inner_chain.proofs.fours.turn_block.Goals as goal

pub loop-j-init : goal.loop-j-init
loop-j-init c = λ t. let none : 126 * c.args.block ≡ 126 * c.args.block + 0 = omega arith in subst (λ (z : ℕ). AreTurned c.args.bytes.now z c.args.words.now) none t

pub loop-j-preserved : goal.loop-j-preserved
loop-j-preserved c = λ t.
    let within : 126 * c.args.block + c.loop-j.j < length c.loop-j.words = omega arith in
    let next : 126 * c.args.block + c.loop-j.j + 1 ≡ 126 * c.args.block + (c.loop-j.j + 1) = omega arith in
    subst (λ (z : ℕ). AreTurned c.args.bytes.now z (set c.loop-j.words (126 * c.args.block + c.loop-j.j) c.turned_label.result)) next
    (turned_more c.args.bytes.now c.loop-j.words c.doubled-twice.result c.args.block c.loop-j.j c.turned_label.result (omega arith) within (c.loop-j.invariant t)
    c.doubled-twice.ensures c.turned_label.ensures.small c.turned_label.ensures.bits)

pub returns : goal.returns
returns c = λ t. let all : 126 * c.args.block + c.loop-j.j ≡ 126 * (c.args.block + 1) = omega arith in subst (λ (z : ℕ). AreTurned c.args.bytes.now z c.loop-j.words) all (c.loop-j.invariant t)
