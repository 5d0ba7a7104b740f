use Rattle.std.proofs.Common.{◌≡◌, ℕ, ◌+◌, ◌-◌, ◌*◌, ◌≤◌, length, ap, ◌∙◌, subst, arith}
use Rattle.std.proofs.lemmas.List.{length-drop}
use Rattle.puncture.specs.SentBits.{bits_from}
use Rattle.inner_chain.proofs.Encoding.{encode_begins}
use Rattle.inner_chain.proofs.parities.encode.Goals as goal

pub loop-done-init : goal.loop-done-init
loop-done-init c = record { encoded = encode_begins c.args.waiting.now c.args.encoder.now c.args.to.now c.args.first c.args.count; few = omega arith }

pub encode_chunk-requires-clause-enough : goal.encode_chunk-requires-clause-enough
encode_chunk-requires-clause-enough c =
    let left : length c.loop-done.waiting ≡ length c.args.waiting.now - c.loop-done.done = ap length c.loop-done.invariant.encoded.left ∙ length-drop c.loop-done.done c.args.waiting.now in
    omega (arith, left, c.requires.enough)

pub encode_bit-requires-clause-enough : goal.encode_bit-requires-clause-enough
encode_bit-requires-clause-enough c =
    let left : length c.loop-done.waiting ≡ length c.args.waiting.now - c.loop-done.done = ap length c.loop-done.invariant.encoded.left ∙ length-drop c.loop-done.done c.args.waiting.now in
    omega (arith, left, c.requires.enough)

pub loop-done-preserved-then-count-done-ge8 : goal.loop-done-preserved-then-count-done-ge8
loop-done-preserved-then-count-done-ge8 c =
    let few : c.loop-done.done + 8 * c.min-number.result ≤ c.args.count = omega (arith, c.if-count-done-ge8.true, c.loop-done-test.true, c.min-number.ensures) in
    record { encoded = c.encode_chunk.ensures.goes c.args.waiting.now c.args.encoder.now c.args.to.now c.args.count few c.loop-done.invariant.encoded; few = few }

pub loop-done-preserved : goal.loop-done-preserved
loop-done-preserved c =
    let few : c.loop-done.done + 1 ≤ c.args.count = omega (arith, c.loop-done-test.true) in
    record { encoded = c.encode_bit.ensures.goes c.args.waiting.now c.args.encoder.now c.args.to.now c.args.count few c.loop-done.invariant.encoded; few = few }

pub returns-clause-register : goal.returns-clause-register
returns-clause-register c = λ path e s.
    let all : c.loop-done.done ≡ c.args.count = omega (arith, c.loop-done.invariant.few) in
    subst (λ (z : ℕ). c.loop-done.encoder ≡ bits_from path z 6) all (c.loop-done.invariant.encoded.after path e s)

pub returns-clause-parities : goal.returns-clause-parities
returns-clause-parities c = λ path e s. record { at = λ t k l m. c.loop-done.invariant.encoded.parities path e s t k (omega (arith, l, c.loop-done.invariant.few)) m }
