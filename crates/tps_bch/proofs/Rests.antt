-- Syndromes: that of a word of the code, and that of its parity.
use Rattle.std.proofs.Common.{◌≡◌, ℕ, zero, suc, ◌+◌, ◌^◌, ◌<◌, ◌≤◌, List, [], ◌∷◌, ◌++◌, drop, length, replicate, refl, sym, ap, ◌∙◌, arith, Bool, true, false, ◌&&◌}
use Rattle.std.specs.Prelude.{◌==◌, ◌≢◌, bit_xor}
use Rattle.std.specs.Int.{bit_at}
use Rattle.std.specs.Int.Bits.{xor_self, xor_zero_r, xor_assoc}
use Rattle.std.proofs.Math.ListN.{length-append}
use Rattle.std.proofs.lemmas.Bool.{eqb-true, eq-eqb, and_parts}
use Rattle.std.proofs.lemmas.Nat.{xor_comm, xor_lt, pow_pos}
use Rattle.std.proofs.Math.Nat.{pow-suc}
use Rattle.std.proofs.lemmas.Nat.Bits.{bit_at_xor, bit_at-pow_same, bit_at-pow_other, bit_at_above, bit_at-lt}
use Rattle.spec_words.specs.Bits.{is_set, spelled}
use Rattle.tps_bch.specs.Bch.{bch_generator, xor_bits, bch_multiple, bch_rest, IsTpsWord, tps_parity}
use Rattle.tps_bch.specs.Syndromes.{syndromes, syndrome_by}
use Rattle.tps_bch.proofs.Division.{both, xor_false, factor_of, length-factor, divided, length-rest, length-xor_bits}

-- equal numbers cancel in a sum
pub xor_zero : (a b : ℕ) → bit_xor a b ≡ 0 → a ≡ b
xor_zero a b e = sym (xor_zero_r a) ∙ ap (bit_xor a) (sym (xor_self b)) ∙ sym (xor_assoc a b b) ∙ ap (λ (z : ℕ). bit_xor z b) e

pub xor_left : (a b c : ℕ) → bit_xor a (bit_xor b c) ≡ bit_xor b (bit_xor a c)
xor_left a b c = sym (xor_assoc a b c) ∙ ap (λ (z : ℕ). bit_xor z c) (xor_comm a b) ∙ xor_assoc b a c

xor_cancel : (s a b : ℕ) → bit_xor a b ≡ bit_xor (bit_xor s a) (bit_xor s b)
xor_cancel s a b =
    sym (xor_assoc s a (bit_xor s b) ∙ ap (bit_xor s) (xor_left a s b) ∙ sym (xor_assoc s s (bit_xor a b)) ∙ ap (λ (z : ℕ). bit_xor z (bit_xor a b)) (xor_self s))

-- the syndrome of a sum
pub linear : (ss : List ℕ) (p q : List Bool) → syndrome_by ss (xor_bits p q) ≡ bit_xor (syndrome_by ss p) (syndrome_by ss q)
linear [] p q = refl
linear (s ∷ ss) [] q = refl
linear (s ∷ ss) (a ∷ p) [] = sym (xor_zero_r (syndrome_by (s ∷ ss) (a ∷ p)))
linear (s ∷ ss) (true ∷ p) (true ∷ q) = linear ss p q ∙ xor_cancel s (syndrome_by ss p) (syndrome_by ss q)
linear (s ∷ ss) (true ∷ p) (false ∷ q) = ap (bit_xor s) (linear ss p q) ∙ sym (xor_assoc s (syndrome_by ss p) (syndrome_by ss q))
linear (s ∷ ss) (false ∷ p) (true ∷ q) = ap (bit_xor s) (linear ss p q) ∙ xor_left s (syndrome_by ss p) (syndrome_by ss q)
linear (s ∷ ss) (false ∷ p) (false ∷ q) = linear ss p q

pub of_zeros : (ss : List ℕ) (n : ℕ) → syndrome_by ss (replicate n false) ≡ 0
of_zeros [] n = refl
of_zeros (s ∷ ss) zero = refl
of_zeros (s ∷ ss) (suc n) = of_zeros ss n

pub zeros_behind : (ss : List ℕ) (p : List Bool) (n : ℕ) → syndrome_by ss (p ++ replicate n false) ≡ syndrome_by ss p
zeros_behind [] p n = refl
zeros_behind (s ∷ ss) [] n = of_zeros (s ∷ ss) n
zeros_behind (s ∷ ss) (true ∷ p) n = ap (bit_xor s) (zeros_behind ss p n)
zeros_behind (s ∷ ss) (false ∷ p) n = zeros_behind ss p n

zeros_before : (ss : List ℕ) (n : ℕ) (p : List Bool) → n ≤ length ss → syndrome_by ss (replicate n false ++ p) ≡ syndrome_by (drop n ss) p
zeros_before ss zero p l = refl
zeros_before [] (suc n) p l = absurd (omega (arith, l))
zeros_before (s ∷ ss) (suc n) p l = zeros_before ss n p (omega (arith, l))

-- the generator has the syndrome 0 at each position
unfoldable generator_at_each : ℕ → List ℕ → Bool
generator_at_each zero ss = true
generator_at_each (suc n) [] = false
generator_at_each (suc n) (s ∷ ss) = (syndrome_by (s ∷ ss) bch_generator == 0) && generator_at_each n ss

computed : generator_at_each 53 syndromes ≡ true
unfolding generator_at_each syndromes
computed = refl

at_each : (n : ℕ) (ss : List ℕ) → generator_at_each n ss ≡ true → (f : List Bool) → length f ≡ n → syndrome_by ss (bch_multiple f) ≡ 0
unfolding generator_at_each bch_multiple
at_each n ss h [] e = of_zeros ss 14
at_each zero ss h (a ∷ f) e = absurd (omega (arith, e))
at_each (suc n) [] h (a ∷ f) e = refl
at_each (suc n) (s ∷ ss) h (true ∷ f) e =
    let parts = and_parts _ _ h in
    linear (s ∷ ss) bch_generator (false ∷ bch_multiple f) ∙ ap (λ (z : ℕ). bit_xor z (syndrome_by ss (bch_multiple f))) (eqb-true _ _ parts.0)
    ∙ at_each n ss parts.1 f (omega (arith, e))
at_each (suc n) (s ∷ ss) h (false ∷ f) e =
    let parts = and_parts _ _ h in
    linear (s ∷ ss) (replicate 15 false) (false ∷ bch_multiple f) ∙ ap (λ (z : ℕ). bit_xor z (syndrome_by ss (bch_multiple f))) (of_zeros (s ∷ ss) 15)
    ∙ at_each n ss parts.1 f (omega (arith, e))

pub of_multiple : (f : List Bool) → length f ≡ 53 → syndrome_by syndromes (bch_multiple f) ≡ 0
of_multiple f e = at_each 53 syndromes computed f e

pub length-multiple : (f : List Bool) → length (bch_multiple f) ≡ length f + 14
unfolding bch_multiple
length-multiple [] = refl
length-multiple (true ∷ f) = let below : length bch_generator ≤ length (false ∷ bch_multiple f) = omega (arith, length-multiple f) in length-xor_bits bch_generator (false ∷ bch_multiple f) below ∙ omega (arith, length-multiple f)
length-multiple (false ∷ f) = let below : length (replicate 15 false) ≤ length (false ∷ bch_multiple f) = omega (arith, length-multiple f) in length-xor_bits (replicate 15 false) (false ∷ bch_multiple f) below ∙ omega (arith, length-multiple f)

-- a word of the code has the syndrome 0
pub of_word : (w : List Bool) → IsTpsWord w → syndrome_by syndromes w ≡ 0
of_word w h = ap (syndrome_by syndromes) h.is ∙ of_multiple h.factor (omega (arith, h.long, ap length h.is, length-multiple h.factor))

-- the powers of two from 2 ^ (n - 1) down
abbrev pub twos : ℕ → List ℕ
twos zero = []
twos (suc n) = 2 ^ n ∷ twos n

doubled : (n : ℕ) → 2 ^ suc n ≡ 2 ^ n + 2 ^ n
doubled n = omega (arith, pow-suc 2 n)

pub small : (n : ℕ) (p : List Bool) → syndrome_by (twos n) p < 2 ^ n
small zero p = omega arith
small (suc n) [] = pow_pos (suc n)
small (suc n) (true ∷ p) = xor_lt (suc n) (2 ^ n) (syndrome_by (twos n) p) (omega (arith, doubled n, pow_pos n)) (omega (arith, doubled n, small n p))
small (suc n) (false ∷ p) = omega (arith, doubled n, small n p)

same_spelled : (n x y : ℕ) → ((i : ℕ) → i < n → bit_at x i ≡ bit_at y i) → spelled n x ≡ spelled n y
same_spelled zero x y same = refl
same_spelled (suc n) x y same = both (ap (λ (z : ℕ). z == 1) (same n (omega arith))) (same_spelled n x y (λ i l. same i (omega (arith, l))))

top_set : (n v : ℕ) → v < 2 ^ n → is_set (bit_xor (2 ^ n) v) n ≡ true
top_set n v l = eq-eqb _ _ (omega (arith, bit_at_xor (2 ^ n) v n, bit_at-pow_same n, bit_at_above v n n l (omega arith)))

top_unset : (n v : ℕ) → v < 2 ^ n → is_set v n ≡ false
top_unset n v l = ap (λ (z : ℕ). z == 1) (bit_at_above v n n l (omega arith))

lower : (n v i : ℕ) → i < n → bit_at (bit_xor (2 ^ n) v) i ≡ bit_at v i
lower n v i l = let other : i ≢ n = omega (arith, l) in omega (arith, bit_at_xor (2 ^ n) v i, bit_at-pow_other n i other, bit_at-lt v i)

-- a number is the sum of the powers of two of its bits
pub spelled_twos : (n : ℕ) (p : List Bool) → length p ≡ n → spelled n (syndrome_by (twos n) p) ≡ p
spelled_twos zero [] e = refl
spelled_twos zero (a ∷ p) e = absurd (omega (arith, e))
spelled_twos (suc n) [] e = absurd (omega (arith, e))
spelled_twos (suc n) (true ∷ p) e =
    both (top_set n (syndrome_by (twos n) p) (small n p))
    (same_spelled n (bit_xor (2 ^ n) (syndrome_by (twos n) p)) (syndrome_by (twos n) p) (lower n (syndrome_by (twos n) p)) ∙ spelled_twos n p (omega (arith, e)))
spelled_twos (suc n) (false ∷ p) e = both (top_unset n (syndrome_by (twos n) p) (small n p)) (spelled_twos n p (omega (arith, e)))

last_rests : drop 53 syndromes ≡ twos 14
unfolding syndromes
last_rests = refl

pub size : length syndromes ≡ 67
unfolding syndromes
size = refl

-- the syndrome of the remainder of a division, after zeros
of_rest : (rest : List Bool) → syndrome_by syndromes (replicate 53 false ++ rest) ≡ syndrome_by (twos 14) rest
of_rest rest = zeros_before syndromes 53 rest (omega (arith, size)) ∙ ap (λ (ss : List ℕ). syndrome_by ss rest) last_rests

same_rest : (p : List Bool) → length p ≡ 53 + 14 → syndrome_by syndromes p ≡ syndrome_by (twos 14) (bch_rest 53 p)
same_rest p e =
    let rest : List Bool = bch_rest 53 p in
    let sum : bit_xor (syndrome_by syndromes p) (syndrome_by syndromes (replicate 53 false ++ rest)) ≡ 0 =
    sym (linear syndromes p (replicate 53 false ++ rest)) ∙ ap (syndrome_by syndromes) (sym (divided 53 p e)) ∙ of_multiple (factor_of 53 p) (length-factor 53 p e) in
    xor_zero _ _ sum ∙ of_rest rest

-- the parity bits are the syndrome of the others
pub of_parity : (info : List Bool) → length info ≡ 53 → spelled 14 (syndrome_by syndromes info) ≡ tps_parity info
unfolding tps_parity
of_parity info e =
    let whole : List Bool = info ++ replicate 14 false in
    let long : length whole ≡ 53 + 14 = omega (arith, e, length-append info (replicate 14 false)) in
    ap (spelled 14) (sym (zeros_behind syndromes info 14) ∙ same_rest whole long) ∙ spelled_twos 14 (bch_rest 53 whole) (length-rest 53 whole long)

nothing_added : (w : List Bool) (n : ℕ) → n ≤ length w → xor_bits w (replicate n false) ≡ w
nothing_added [] zero l = refl
nothing_added [] (suc n) l = absurd (omega (arith, l))
nothing_added (a ∷ w) zero l = refl
nothing_added (a ∷ w) (suc n) l = both (xor_false a) (nothing_added w n (omega (arith, l)))

-- 67 bits with syndrome 0 are a word of the code
pub is_of_code : (w : List Bool) → length w ≡ 67 → syndrome_by syndromes w ≡ 0 → IsTpsWord w
is_of_code w e zero_sum =
    let rest : List Bool = bch_rest 53 w in
    let none : rest ≡ replicate 14 false = sym (spelled_twos 14 rest (length-rest 53 w e)) ∙ ap (spelled 14) (sym (same_rest w e) ∙ zero_sum) in
    let division : bch_multiple (factor_of 53 w) ≡ xor_bits w (replicate 53 false ++ rest) = divided 53 w e in
    let same : xor_bits w (replicate 53 false ++ rest) ≡ w = ap (λ (r : List Bool). xor_bits w (replicate 53 false ++ r)) none ∙ nothing_added w 67 (omega (arith, e)) in
    record { long = e; factor = factor_of 53 w; is = sym (division ∙ same) }
