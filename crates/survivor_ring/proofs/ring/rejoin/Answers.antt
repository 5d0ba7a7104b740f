use Rattle.std.proofs.Common.{◌≡◌, ◌+◌, ◌-◌, ◌*◌, ◌<◌, ◌≤◌, ◌∙◌, suc, sym, ap, subst, arith, length, length-set, set, take, drop}
use Rattle.std.proofs.lemmas.List.{take-set-le, take-take}
use Rattle.survivor_ring.proofs.Eights.{Tailed, tailed_more, met, met_root, met_bits}
use Rattle.survivor_ring.proofs.ring.rejoin.Goals as goal

pub loop-k-preserved : goal.loop-k-preserved
loop-k-preserved c =
    let v = c.loop-k.invariant in
    let n = length c.args.bytes.now in
    let i = n - 1 - c.loop-k.k in
    let m = n - (c.loop-k.k + 1) in
    let j : n - c.loop-k.k ≡ suc i = omega (arith, c.loop-k-test.true) in
    let e : i ≡ m = omega arith in
    let w : 8 * i + 8 - 8 * i ≡ 8 = omega arith in
    let less : m ≤ n - c.loop-k.k = omega arith in
    record {
      size = length-set c.loop-k.bytes i _ ∙ v.size;
      front = take-set-le m c.loop-k.bytes i _ (omega (arith, e)) ∙ sym (take-take m (n - c.loop-k.k) c.loop-k.bytes less) ∙ ap (take m) v.front ∙ take-take m (n - c.loop-k.k) c.args.bytes.now less;
      tail =
          subst (λ z. Tailed c.args.words.now c.args.state (set c.loop-k.bytes i c.trace_byte-next.result.1) z c.trace_byte-next.result.0) e
          (tailed_more c.args.words.now c.args.state c.loop-k.bytes _ i c.loop-k.now c.trace_byte-next.result.0 c.trace_byte-next.result.1 (omega (arith, c.loop-k-test.true, v.size)) (ap (λ z. take z (drop (8 * i) c.args.words.now)) w) c.trace_byte-next.ensures.root c.trace_byte-next.ensures.small c.trace_byte-next.ensures.bits
          (subst (λ z. Tailed c.args.words.now c.args.state c.loop-k.bytes z c.loop-k.now) j v.tail));
    }

pub returns-then-bytes-index-clause-root : goal.returns-then-bytes-index-clause-root
returns-then-bytes-index-clause-root c =
    let v = c.loop-k.invariant in
    let n = length c.args.bytes.now in
    let i = n - 1 - c.loop-k.k in
    let w : 8 * i + 8 - 8 * i ≡ 8 = omega arith in
    let j : n - c.loop-k.k ≡ suc i = omega (arith, c.loop-k-test.true) in
    let t = subst (λ z. Tailed c.args.words.now c.args.state c.loop-k.bytes z c.loop-k.now) j v.tail in
    met_root c.args.words.now c.args.state i c.loop-k.now c.args.guess c.requires.guess
    (met c.args.words.now c.args.bytes.now c.loop-k.bytes _ i c.loop-k.now c.trace_byte-next.result.1 c.requires.number (omega (arith, c.loop-k-test.true)) c.requires.bits (subst (λ z. take z c.loop-k.bytes ≡ take z c.args.bytes.now) j v.front) (ap (λ z. take z (drop (8 * i) c.args.words.now)) w) v.tail.small c.trace_byte-next.ensures.bits c.if-bytes-index.true)
    t.now_is

pub returns-then-bytes-index-clause-bits : goal.returns-then-bytes-index-clause-bits
returns-then-bytes-index-clause-bits c =
    let v = c.loop-k.invariant in
    let n = length c.args.bytes.now in
    let i = n - 1 - c.loop-k.k in
    let w : 8 * i + 8 - 8 * i ≡ 8 = omega arith in
    let j : n - c.loop-k.k ≡ suc i = omega (arith, c.loop-k-test.true) in
    let l : i < n = omega (arith, c.loop-k-test.true) in
    let f = subst (λ z. take z c.loop-k.bytes ≡ take z c.args.bytes.now) j v.front in
    met_bits c.args.words.now c.args.bytes.now c.loop-k.bytes c.args.state i c.loop-k.now c.requires.number l c.requires.bits f
    (met c.args.words.now c.args.bytes.now c.loop-k.bytes _ i c.loop-k.now c.trace_byte-next.result.1 c.requires.number l c.requires.bits f (ap (λ z. take z (drop (8 * i) c.args.words.now)) w) v.tail.small c.trace_byte-next.ensures.bits c.if-bytes-index.true)
    (subst (λ z. Tailed c.args.words.now c.args.state c.loop-k.bytes z c.loop-k.now) j v.tail)
