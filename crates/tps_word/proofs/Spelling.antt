-- Numbers and their digits.
use Rattle.std.proofs.Common.{◌≡◌, ℕ, zero, suc, ◌+◌, ◌-◌, ◌*◌, ◌%◌, ◌^◌, ◌<◌, List, [], ◌∷◌, ◌++◌, take, drop, length, get_or, set, append_assoc, refl, sym, ap, ◌∙◌, arith, Bool, true, false, cond}
use Rattle.std.specs.Prelude.{◌==◌}
use Rattle.std.specs.Int.{bit_at}
use Rattle.std.proofs.Math.Nat.{pow-suc, pow-succ', mod-eq_of_lt}
use Rattle.std.proofs.Math.Arith.{mod-mul}
use Rattle.std.proofs.lemmas.Nat.{pow_pos}
use Rattle.std.proofs.lemmas.List.{take_more, take_more_set}
use Rattle.std.proofs.lemmas.Nat.Bits.{bit_at-lt}
use Rattle.std.proofs.Math.Seq.{drop-cons}
use Rattle.spec_words.specs.Bits.{is_set, spelled}
use Rattle.tps_word.specs.Number.{number_behind, number_of}

pub length-spelled : (n x : ℕ) → length (spelled n x) ≡ n
length-spelled zero x = refl
length-spelled (suc n) x = ap suc (length-spelled n x)

digit : (z : ℕ) → z < 2 → cond (z == 1) 1 0 ≡ z
digit zero l = refl
digit (suc zero) l = refl
digit (suc (suc z)) l = absurd (omega (arith, l))

-- the low part with one more digit
one_more : (n x : ℕ) → x % 2 ^ suc n ≡ bit_at x n * 2 ^ n + x % 2 ^ n
one_more n x = ap (λ (z : ℕ). x % z) (pow-succ' 2 n) ∙ mod-mul x (omega arith) (pow_pos n)

pub spelled_behind : (n x a : ℕ) → number_behind a (spelled n x) ≡ a * 2 ^ n + x % 2 ^ n
spelled_behind zero x a = let none : x % 2 ^ 0 ≡ 0 = omega arith in omega (arith, none)
spelled_behind (suc n) x a =
    let bit : ◌≡◌ {A = ℕ} (cond (is_set x n) 1 0) (bit_at x n) = digit (bit_at x n) (bit_at-lt x n) in
    spelled_behind n x (2 * a + cond (is_set x n) 1 0) ∙ ap (λ (d : ℕ). (2 * a + d) * 2 ^ n + x % 2 ^ n) bit ∙ omega (arith, one_more n x, ap (λ (z : ℕ). a * z) (pow-suc 2 n))

pub number_of_spelled : (n x : ℕ) → x < 2 ^ n → number_of (spelled n x) ≡ x
number_of_spelled n x l = spelled_behind n x 0 ∙ omega (arith, mod-eq_of_lt l)

-- one more bit is read
pub read_on : (bits : List Bool) (i n whole : ℕ) → i < length bits → number_behind n (drop i bits) ≡ whole → number_behind (2 * n + cond (get_or bits i false) 1 0) (drop (i + 1) bits) ≡ whole
read_on bits i n whole l e =
    let next : i + 1 ≡ suc i = omega arith in
    ap (λ (z : ℕ). number_behind (2 * n + cond (get_or bits i false) 1 0) (drop z bits)) next
    ∙ sym (ap (number_behind n) (drop-cons bits i false l)) ∙ e

pub doubled : (i n : ℕ) → n < 2 ^ i → (b : Bool) → 2 * n + cond b 1 0 < 2 ^ (i + 1)
doubled i n l true = omega (arith, l, pow-suc 2 i, next)
  where
    next : 2 ^ (i + 1) ≡ 2 ^ suc i
    next = let same : i + 1 ≡ suc i = omega arith in ap (λ (z : ℕ). 2 ^ z) same
doubled i n l false = omega (arith, l, pow-suc 2 i, next)
  where
    next : 2 ^ (i + 1) ≡ 2 ^ suc i
    next = let same : i + 1 ≡ suc i = omega arith in ap (λ (z : ℕ). 2 ^ z) same

-- the i-th digit of a number
pub spelled_at : (n x i : ℕ) → i < n → get_or (spelled n x) i false ≡ is_set x (n - 1 - i)
spelled_at zero x i l = absurd (omega (arith, l))
spelled_at (suc n) x zero l = let top : n ≡ suc n - 1 - 0 = omega arith in ap (is_set x) top
spelled_at (suc n) x (suc i) l = let next : n - 1 - i ≡ suc n - 1 - suc i = omega arith in spelled_at n x i (omega (arith, l)) ∙ ap (is_set x) next

-- one more digit after the prefix
pub put_digit : (bits old : List Bool) (at i n x : ℕ) (v : Bool) → at + i < length bits → i < n → v ≡ is_set x (n - 1 - i) → take (at + i) bits ≡ old ++ take i (spelled n x)
    → take (at + (i + 1)) (set bits (at + i) v) ≡ old ++ take (i + 1) (spelled n x)
put_digit bits old at i n x v room l e h =
    let next : at + (i + 1) ≡ at + i + 1 = omega arith in
    let digits : take (i + 1) (spelled n x) ≡ take i (spelled n x) ++ v ∷ [] = take_more (spelled n x) i false (omega (arith, l, length-spelled n x)) ∙ ap (λ (z : Bool). take i (spelled n x) ++ z ∷ []) (spelled_at n x i l ∙ sym e) in
    ap (λ (z : ℕ). take z (set bits (at + i) v)) next ∙ take_more_set bits (at + i) v room ∙ ap (λ (z : List Bool). z ++ v ∷ []) h
    ∙ append_assoc old (take i (spelled n x)) (v ∷ []) ∙ ap (λ (z : List Bool). old ++ z) (sym digits)
