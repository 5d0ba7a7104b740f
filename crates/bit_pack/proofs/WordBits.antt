-- Bits appended to those of a word, and taken out of it.
use Rattle.std.proofs.Common.{◌≡◌, ℕ, ◌+◌, ◌-◌, ◌*◌, ◌/◌, ◌%◌, ◌^◌, ◌<◌, ◌≤◌, ◌++◌, refl, sym, ap, ap₂, ◌∙◌, arith, bit_and, bit_or, mod-lt}
use Rattle.std.proofs.Math.Nat.{mod-add-div'}
use Rattle.std.proofs.Math.Pow.{pow_mono}
use Rattle.std.proofs.lemmas.Nat.{or_shifted, and_mask, mul-le, pow_pos}
use Rattle.spec_words.specs.Bits.{spelled}
use Rattle.bit_pack.proofs.Spelling.{spelled_join, spelled_mod}

-- the bits of a lower word below those of another, in 64 bits of which 32 are kept
pub joined_is : (h l p n : ℕ) → h < 4294967296 → p ≤ 16 → n + p ≤ 32
    → spelled (n + p) (bit_and (bit_or (h * 2 ^ p % 18446744073709551616) (bit_and l (1 * 2 ^ p % 18446744073709551616 - 1))) 4294967295) ≡ spelled n h ++ spelled p l
joined_is h l p n small few room =
    ap (spelled (n + p)) (and_mask _ 32) ∙ spelled_mod (n + p) 32 _ room
    ∙ ap (spelled (n + p)) (ap₂ bit_or e (ap (λ z. bit_and l (z - 1)) m ∙ and_mask l p) ∙ or_shifted h p (l % 2 ^ p) below)
    ∙ spelled_join n p (n + p) h (l % 2 ^ p) refl below
    ∙ ap (λ z. spelled n h ++ z) (spelled_mod p p l (omega arith))
  where
    short : 2 ^ p ≤ 65536
    short = pow_mono few

    product : h * 2 ^ p ≤ 4294967296 * 65536
    product = mul-le h (2 ^ p) 4294967296 65536 (omega (arith, small)) short

    e : h * 2 ^ p % 18446744073709551616 ≡ h * 2 ^ p
    e = omega (arith, product)

    m : 1 * 2 ^ p % 18446744073709551616 ≡ 2 ^ p
    m = omega (arith, short)

    below : l % 2 ^ p < 2 ^ p
    below = mod-lt l (pow_pos p)

-- the first eight bits, and the others
pub byte_first : (x n : ℕ) → 8 ≤ n → spelled n x ≡ spelled 8 (bit_and (x / 2 ^ (n - 8)) 255) ++ spelled (n - 8) x
byte_first x n some =
    let k = n - 8 in
    let t : n ≡ 8 + k = omega (arith, some) in
    let whole : x / 2 ^ k * 2 ^ k + x % 2 ^ k ≡ x = omega (arith, mod-add-div' x (2 ^ k)) in
    sym (ap (spelled n) whole) ∙ spelled_join 8 k n (x / 2 ^ k) (x % 2 ^ k) t (mod-lt x (pow_pos k))
    ∙ ap₂ (λ a b. a ++ b) (sym (ap (spelled 8) (and_mask (x / 2 ^ k) 8) ∙ spelled_mod 8 8 (x / 2 ^ k) (omega arith))) (spelled_mod k k x (omega arith))
