use Rattle.std.proofs.Common.{◌≡◌, ◌+◌, ◌-◌, ◌*◌, ◌∙◌, suc, ap, subst, arith, length, length-set, set, take, drop}
use Rattle.survivor_ring.proofs.Eights.{Tailed, tailed_more}
use Rattle.survivor_ring.proofs.ring.trace_both.Goals as goal

pub loop-k-preserved : goal.loop-k-preserved
loop-k-preserved c =
    let v = c.loop-k.invariant in
    let n = length c.args.first.now in
    let i = n - 1 - c.loop-k.k in
    let j : n - c.loop-k.k ≡ suc i = omega (arith, c.loop-k-test.true) in
    let e : i ≡ n - (c.loop-k.k + 1) = omega arith in
    let w : 8 * i + 8 - 8 * i ≡ 8 = omega arith in
    record {
      first_size = length-set c.loop-k.first i _ ∙ v.first_size;
      last_size = length-set c.loop-k.last i _ ∙ v.last_size;
      first_tail =
          subst (λ z. Tailed c.args.older.now 0 (set c.loop-k.first i c.trace_byte-other.result.1) z c.trace_byte-other.result.0) e
          (tailed_more c.args.older.now 0 c.loop-k.first _ i c.loop-k.guess c.trace_byte-other.result.0 c.trace_byte-other.result.1 (omega (arith, c.loop-k-test.true, v.first_size)) (ap (λ z. take z (drop (8 * i) c.args.older.now)) w) c.trace_byte-other.ensures.root c.trace_byte-other.ensures.small c.trace_byte-other.ensures.bits
          (subst (λ z. Tailed c.args.older.now 0 c.loop-k.first z c.loop-k.guess) j v.first_tail));
      last_tail =
          subst (λ z. Tailed c.args.newer.now c.args.state (set c.loop-k.last i c.trace_byte-next.result.1) z c.trace_byte-next.result.0) e
          (tailed_more c.args.newer.now c.args.state c.loop-k.last _ i c.loop-k.now c.trace_byte-next.result.0 c.trace_byte-next.result.1 (omega (arith, c.loop-k-test.true, v.last_size, c.requires.number)) (ap (λ z. take z (drop (8 * i) c.args.newer.now)) w) c.trace_byte-next.ensures.root c.trace_byte-next.ensures.small c.trace_byte-next.ensures.bits
          (subst (λ z. Tailed c.args.newer.now c.args.state c.loop-k.last z c.loop-k.now) j v.last_tail));
    }
