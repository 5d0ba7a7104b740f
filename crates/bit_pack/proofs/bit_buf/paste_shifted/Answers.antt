use Rattle.std.proofs.Common.{◌≡◌, ◌+◌, ◌-◌, ◌++◌, ℕ, length, take, drop, ap, ◌∙◌, arith, length-take-le, length-drop}
use Rattle.std.proofs.lemmas.Slice.{take-put_mid}
use borrow.Rule.Slice.PartMut.{put_mid, same_len_mid}
use Rattle.bit_pack.specs.Queue.{ring}
use Rattle.bit_pack.proofs.Spelling.{ring_more, ring_shifted}
use Rattle.bit_pack.proofs.bit_buf.paste_shifted.Goals as goal

pub returns-clause-pushed : goal.returns-clause-pushed
returns-clause-pushed c =
    let at = c.args.first + c.args.count in
    let n = length c.args.part.now in
    let k = at + n - at in
    let xs = c.args.bytes.now in
    let ys = c.shift_part.new.to in
    let whole : length (take k (drop at xs)) ≡ k = length-take-le k (drop at xs) (omega (arith, length-drop at xs, c.requires.room)) in
    let same : length ys ≡ n = c.shift_part.ensures.size ∙ omega (arith, whole) in
    let size : length (put_mid at k xs ys) ≡ length xs = omega (arith, same_len_mid at k xs ys (omega (arith, same, whole))) in
    let more : ring (put_mid at k xs ys) c.args.first (c.args.count + length ys) ≡ ring xs c.args.first c.args.count ++ ys =
    ring_more xs (put_mid at k xs ys) ys c.args.first c.args.count (omega (arith, same, c.requires.room)) size
    (take-put_mid at k xs ys (at + length ys) (omega (arith, same)) (omega (arith, same, c.requires.room))) in
    ring_shifted xs (put_mid at k xs ys) c.args.part.now ys c.args.first c.args.count c.args.back_len c.args.back c.shift_part.result
    (ap (λ (m : ℕ). ring (put_mid at k xs ys) c.args.first (c.args.count + m)) (let e : n ≡ length ys = omega (arith, same) in e) ∙ more) c.shift_part.ensures.bits
