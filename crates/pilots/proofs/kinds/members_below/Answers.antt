-- The low bits of the word are those of the members below the carrier.
use Rattle.std.proofs.Common.{◌-◌, ◌/◌, ◌%◌, ◌≡◌, ◌*◌, ◌^◌, ℕ, ap, ◌∙◌, arith, get_or}
use Rattle.std.specs.Prelude.{bit_and, count_ones}
use Rattle.std.proofs.lemmas.Nat.{one_shl}
use Rattle.pilots.specs.Tables.{rank}
use Rattle.pilots.proofs.Popcount.{low_ones}
use Rattle.pilots.proofs.kinds.members_below.Goals as goal

pub returns : goal.returns
unfolding rank
returns c =
    let bit = c.args.place % 64 in
    let word = get_or c.args.set.now (c.args.place / 64) 0 in
    let mask : (1 * 2 ^ bit) % 2 ^ 64 ≡ 2 ^ bit = one_shl bit 64 (omega arith) in
    let low = ap (λ (m : ℕ). count_ones (bit_and word (m - 1))) mask ∙ low_ones word bit in
    omega (arith, low, c.from.ensures)
