-- One more bit, and at the end none are left.
use Rattle.std.proofs.Common.{ℕ, ◌+◌, ◌≡◌, List, drop, sym, ap, ◌∙◌, subst, arith, get_or}
use Rattle.std.specs.Prelude.{bit_xor}
use Rattle.std.specs.Int.Bits.{xor_zero_r}
use Rattle.std.proofs.lemmas.List.{drop_all}
use Rattle.tps_bch.specs.Syndromes.{syndromes, syndrome_by}
use Rattle.tps_bch.proofs.Rests.{size}
use Rattle.tps_bch.proofs.Sums.{summed, passed, no_bits}
use Rattle.tps_bch.proofs.syndromes.syndrome.Goals as goal
use Rattle.tps_bch.proofs.syndromes.syndrome.Goals.{then-bit, else-bit}

pub loop-i-preserved : goal.loop-i-preserved
loop-i-preserved c =
    let bits = c.args.bits.now in
    let i = c.loop-i.i in
    let whole = syndrome_by syndromes bits in
    elim c.if-bit.branch [
      | then-bit w ↦
          subst (λ (s : ℕ). bit_xor s (syndrome_by (drop (i + 1) syndromes) (drop (i + 1) bits)) ≡ whole) (sym (w.sum-is ∙ ap (λ (ss : List ℕ). bit_xor c.loop-i.sum (get_or ss i 0)) c.table-rests.ensures))
          (summed syndromes bits i c.loop-i.sum whole (omega arith) (omega (arith, size)) w.if-bit.true c.loop-i.invariant)
      | else-bit w ↦
          subst (λ (s : ℕ). bit_xor s (syndrome_by (drop (i + 1) syndromes) (drop (i + 1) bits)) ≡ whole) (sym w.sum-is)
          (passed syndromes bits i c.loop-i.sum whole (omega arith) (omega (arith, size)) w.if-bit.false c.loop-i.invariant)
    ]

pub returns : goal.returns
returns c =
    let i = c.loop-i.i in
    let none : syndrome_by (drop i syndromes) (drop i c.args.bits.now) ≡ 0 = ap (syndrome_by (drop i syndromes)) (drop_all i c.args.bits.now c.loop-i-test.false) ∙ no_bits (drop i syndromes) in
    sym (xor_zero_r c.loop-i.sum) ∙ ap (bit_xor c.loop-i.sum) (sym none) ∙ c.loop-i.invariant
