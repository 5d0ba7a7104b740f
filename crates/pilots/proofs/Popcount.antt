-- The set bits of a number's low part.
use Rattle.std.proofs.Common.{◌≡◌, ℕ, zero, suc, ◌+◌, ◌-◌, ◌*◌, ◌/◌, ◌%◌, ◌^◌, ◌<◌, refl, sym, ap, ◌∙◌, arith, cond, count_by}
use Rattle.std.specs.Prelude.{◌==◌, bit_and, count_ones}
use Rattle.std.specs.Int.Count.{ones, ones_step}
use Rattle.std.specs.List.{range_with_len}
use Rattle.std.proofs.lemmas.Nat.{and_mask, field_of, shr_split, ones_le_self}
use Rattle.std.proofs.Math.Nat.{pow-suc}
use Rattle.std.proofs.lemmas.Nat.Bits.{bit_at-suc, bit_at_lowest}
use Rattle.spec_words.specs.Bits.{is_set}
use Rattle.spec_words.specs.Words.{numbers}
use Rattle.pilots.proofs.Ranges.{count_first}

-- half of the low part is the low part of the half
low_half : (n j : ℕ) → n % 2 ^ suc j / 2 ≡ n / 2 % 2 ^ j
low_half n j = let size : suc j ≡ j + 1 = omega arith in ap (λ (z : ℕ). n % 2 ^ z / 2) size ∙ field_of n j 1

even_part : (q p low n : ℕ) → q * (p * 2) + low ≡ n → low % 2 ≡ n % 2
even_part q p low n e = omega (arith, e)

low_odd : (n j : ℕ) → n % 2 ^ suc j % 2 ≡ n % 2
low_odd n j = even_part (n / 2 ^ suc j) (2 ^ j) (n % 2 ^ suc j) n (ap (λ (z : ℕ). n / 2 ^ suc j * z + n % 2 ^ suc j) (sym (pow-suc 2 j)) ∙ shr_split n (suc j))

-- the bits of n from i on are those of n / 2 ^ i from 0 on
shifted : (n i j : ℕ) → count_by (is_set n) (range_with_len (suc i) j) ≡ count_by (is_set (n / 2)) (range_with_len i j)
shifted n i zero = refl
shifted n i (suc j) =
    let next : suc i + 1 ≡ suc (i + 1) = omega arith in
    count_first (is_set n) (suc i) j ∙ ap (λ (z : ℕ). cond (z == 1) 1 0 + count_by (is_set n) (range_with_len (suc i + 1) j)) (bit_at-suc n i)
    ∙ ap (λ (z : ℕ). cond (is_set (n / 2) i) 1 0 + count_by (is_set n) (range_with_len z j)) next
    ∙ ap (λ (z : ℕ). cond (is_set (n / 2) i) 1 0 + z) (shifted n (i + 1) j) ∙ sym (count_first (is_set (n / 2)) i j)

digit : (z : ℕ) → z < 2 → cond (z == 1) 1 0 ≡ z
digit zero l = refl
digit (suc zero) l = refl
digit (suc (suc z)) l = absurd (omega (arith, l))

pub ones_low : (j n : ℕ) → ones (n % 2 ^ j) ≡ count_by (is_set n) (range_with_len 0 j)
ones_low zero n = let none : n % 2 ^ 0 ≡ 0 = omega arith in omega (arith, ap ones none, ones_le_self 0)
ones_low (suc j) n =
    let whole : ones (n % 2 ^ suc j) ≡ n % 2 ^ suc j % 2 + ones (n % 2 ^ suc j / 2) = ones_step (n % 2 ^ suc j) in
    let rest : ones (n % 2 ^ suc j / 2) ≡ count_by (is_set n) (range_with_len (0 + 1) j) = ap ones (low_half n j) ∙ ones_low j (n / 2) ∙ sym (shifted n 0 j) in
    let lowest : ◌≡◌ {A = ℕ} (cond (is_set n 0) 1 0) (n % 2) = ap (λ (z : ℕ). cond (z == 1) 1 0) (bit_at_lowest n) ∙ digit (n % 2) (omega arith) in
    omega (arith, whole, rest, lowest, low_odd n j, count_first (is_set n) 0 j)

pub low_ones : (n j : ℕ) → count_ones (bit_and n (2 ^ j - 1)) ≡ count_by (is_set n) (numbers j)
unfolding numbers
low_ones n j = ap ones (and_mask n j) ∙ ones_low j n
