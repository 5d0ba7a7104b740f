-- The square of a difference, modulo 2^32.
use Rattle.std.proofs.Common.{◌≡◌, ℕ, ◌+◌, ◌-◌, ◌*◌, ◌%◌, ◌^◌, ◌<◌, ◌≤◌, ◌⊎◌, inl, inr, sym, ap, ◌∙◌, pow-suc, arith}
use Rattle.std.specs.Int.{abs_diff}
use Rattle.std.proofs.lemmas.Bool.{cases_lt}
use Rattle.std.proofs.lemmas.Nat.{mod-mul-add}
use Rattle.std.proofs.Math.Nat.{mod-eq_of_lt, pow-le-pow_left, pow-zero}

none : (d : ℕ) → d ^ 0 * d ≡ d
none d = ap (λ z. z * d) (pow-zero d) ∙ alone
  where
    alone : 1 * d ≡ d
    alone = omega arith

twice : (d : ℕ) → d * d ≡ d ^ 2
twice d = sym (pow-suc d 1 ∙ ap (λ z. z * d) (pow-suc d 0 ∙ none d))

-- n less d, squared: a multiple of n, and the square of d
below_square : (e d n k : ℕ) → n ≡ e + 2 * d → k ≡ e + d → k * k ≡ e * n + d * d
below_square e d n k p q =
    let same : (e + d) * (e + d) ≡ e * (e + 2 * d) + d * d = omega arith in
    ap (λ z. z * z) q ∙ same ∙ ap (λ z. e * z + d * d) (sym p)

small_square : (d : ℕ) → d ≤ 32768 → d * d < 4294967296
small_square d l = let here : d ^ 2 ≤ 32768 ^ 2 = pow-le-pow_left l 2 in omega (arith, here, twice d)

pub square_wraps : (m l : ℕ) → m ≤ 32768 → l ≤ 20000 → (m + (4294967296 - l)) % 4294967296 * ((m + (4294967296 - l)) % 4294967296) % 4294967296 ≡ abs_diff m l ^ 2
square_wraps m l a b = go (cases_lt m l)
  where
    go : (m < l) ⊎ (l ≤ m) → (m + (4294967296 - l)) % 4294967296 * ((m + (4294967296 - l)) % 4294967296) % 4294967296 ≡ abs_diff m l ^ 2
    go (inl p) =
        let d = l - m in
        let e = 4294967296 - 2 * d in
        let gap : (m + (4294967296 - l)) % 4294967296 ≡ 4294967296 - d = mod-eq_of_lt (omega (arith, p)) ∙ omega (arith, p, a, b) in
        let square : (4294967296 - d) * (4294967296 - d) ≡ e * 4294967296 + d * d = below_square e d 4294967296 (4294967296 - d) (omega (arith, b)) (omega (arith, b)) in
        let far : d ≡ abs_diff m l = omega (arith, p) in
        ap (λ z. z * z % 4294967296) gap ∙ ap (λ z. z % 4294967296) square ∙ mod-mul-add e 4294967296 (d * d) (small_square d (omega (arith, b))) ∙ twice d ∙ ap (λ z. z ^ 2) far
    go (inr p) =
        let d = m - l in
        let gap : (m + (4294967296 - l)) % 4294967296 ≡ d = omega (arith, p, a, b) in
        let far : d ≡ abs_diff m l = omega (arith, p) in
        ap (λ z. z * z % 4294967296) gap ∙ mod-eq_of_lt (small_square d (omega (arith, a))) ∙ twice d ∙ ap (λ z. z ^ 2) far
