use Rattle.std.proofs.Common.{◌≡◌, ◌+◌, ◌-◌, ◌++◌, List, ℕ, length, take, drop, ap, ◌∙◌, arith, length-take-le, length-drop}
use Rattle.std.proofs.lemmas.Slice.{take-put_mid}
use borrow.Rule.Slice.PartMut.{put_mid, same_len_mid}
use Rattle.bit_pack.proofs.Spelling.{ring_more}
use Rattle.bit_pack.proofs.bit_buf.paste_part.Goals as goal

pub returns-clause-pushed : goal.returns-clause-pushed
returns-clause-pushed c =
    let at = c.args.first + c.args.count in
    let k = at + length c.args.part.now - at in
    let xs = c.args.bytes.now in
    let ys = c.copy_from_slice.new.self in
    let same : length ys ≡ length c.args.part.now = ap length c.copy_from_slice.ensures.after in
    let size : length (put_mid at k xs ys) ≡ length xs =
    omega (arith, same_len_mid at k xs ys (omega (arith, same, length-take-le k (drop at xs) (omega (arith, length-drop at xs, c.requires.room))))) in
    ring_more xs (put_mid at k xs ys) c.args.part.now c.args.first c.args.count c.requires.room size
    (take-put_mid at k xs ys (at + length c.args.part.now) (omega (arith, same)) (omega (arith, c.requires.room)) ∙ ap (λ (z : List ℕ). take at xs ++ z) c.copy_from_slice.ensures.after)
