-- The meaning of the words in the ring.
use Rattle.std.proofs.Common.{◌≡◌, ℕ, zero, suc, ◌+◌, ◌-◌, ◌*◌, ◌/◌, ◌%◌, ◌^◌, ◌<◌, ◌≤◌, Bool, true, false, cond, not, ◌&&◌, ◌||◌, ◌⊎◌, inl, inr, refl, sym, ap, ap₂, ◌∙◌, arith, eqb, bit_and, bit_or, get_or, mod-lt}
use Rattle.std.specs.Bool.{nat_lt}
use Rattle.std.specs.Int.{bit_at, bit_not, w64}
use Rattle.std.proofs.lemmas.Bool.{agree_below_at, cases_lt, ltb-true}
use Rattle.std.proofs.lemmas.Nat.Bits.{bit_at_cat_high, bit_at_cat_low}
use Rattle.spec_words.specs.Bits.{is_set}
use Rattle.survivor_ring.specs.Ring.{leads, AreBefore}
use Rattle.survivor_ring.specs.declared.ring.TheConstants.{SPREAD}
use Rattle.code_paths.proofs.Words.{not_lt, pow-pos, set_or, set_and, set_low, set_not, set_shr, set_shl, ones32, and_true, whole}

pub folded_is : (word k : ℕ) → k < 32 → is_set (bit_and (bit_or word (word / 2 ^ 32)) 4294967295) k ≡ (is_set word k || is_set word (k + 32))
folded_is word k l = set_and (bit_or word (word / 2 ^ 32)) 4294967295 k ∙ ap (λ b. is_set (bit_or word (word / 2 ^ 32)) k && b) (ones32 k l) ∙ and_true (is_set (bit_or word (word / 2 ^ 32)) k) ∙ set_or word (word / 2 ^ 32) k ∙ ap (λ b. is_set word k || b) (set_shr word k)

-- ---- bits at twice their indices

abbrev doubled : (ℕ → Bool) → ℕ → Bool
doubled f k = eqb (k % 2) 0 && f (k / 2)

abbrev pub wide : ℕ → ℕ
wide x = get_or SPREAD x 0

pub wide_small : (x : ℕ) → x < 256 → wide x < 65536
wide_small x l = ltb-true (wide x) 65536 (agree_below_at (λ y. nat_lt (wide y) 65536) (λ y. true) 256 x refl l)

pub wide_at : (x k : ℕ) → x < 256 → k < 16 → is_set (wide x) k ≡ doubled (is_set x) k
wide_at x zero l m = agree_below_at (λ y. is_set (wide y) 0) (λ y. doubled (is_set y) 0) 256 x refl l
wide_at x (suc zero) l m = agree_below_at (λ y. is_set (wide y) 1) (λ y. doubled (is_set y) 1) 256 x refl l
wide_at x (suc (suc zero)) l m = agree_below_at (λ y. is_set (wide y) 2) (λ y. doubled (is_set y) 2) 256 x refl l
wide_at x (suc (suc (suc zero))) l m = agree_below_at (λ y. is_set (wide y) 3) (λ y. doubled (is_set y) 3) 256 x refl l
wide_at x (suc (suc (suc (suc zero)))) l m = agree_below_at (λ y. is_set (wide y) 4) (λ y. doubled (is_set y) 4) 256 x refl l
wide_at x (suc (suc (suc (suc (suc zero))))) l m = agree_below_at (λ y. is_set (wide y) 5) (λ y. doubled (is_set y) 5) 256 x refl l
wide_at x (suc (suc (suc (suc (suc (suc zero)))))) l m = agree_below_at (λ y. is_set (wide y) 6) (λ y. doubled (is_set y) 6) 256 x refl l
wide_at x (suc (suc (suc (suc (suc (suc (suc zero))))))) l m = agree_below_at (λ y. is_set (wide y) 7) (λ y. doubled (is_set y) 7) 256 x refl l
wide_at x (suc (suc (suc (suc (suc (suc (suc (suc zero)))))))) l m = agree_below_at (λ y. is_set (wide y) 8) (λ y. doubled (is_set y) 8) 256 x refl l
wide_at x (suc (suc (suc (suc (suc (suc (suc (suc (suc zero))))))))) l m = agree_below_at (λ y. is_set (wide y) 9) (λ y. doubled (is_set y) 9) 256 x refl l
wide_at x (suc (suc (suc (suc (suc (suc (suc (suc (suc (suc zero)))))))))) l m = agree_below_at (λ y. is_set (wide y) 10) (λ y. doubled (is_set y) 10) 256 x refl l
wide_at x (suc (suc (suc (suc (suc (suc (suc (suc (suc (suc (suc zero))))))))))) l m = agree_below_at (λ y. is_set (wide y) 11) (λ y. doubled (is_set y) 11) 256 x refl l
wide_at x (suc (suc (suc (suc (suc (suc (suc (suc (suc (suc (suc (suc zero)))))))))))) l m = agree_below_at (λ y. is_set (wide y) 12) (λ y. doubled (is_set y) 12) 256 x refl l
wide_at x (suc (suc (suc (suc (suc (suc (suc (suc (suc (suc (suc (suc (suc zero))))))))))))) l m = agree_below_at (λ y. is_set (wide y) 13) (λ y. doubled (is_set y) 13) 256 x refl l
wide_at x (suc (suc (suc (suc (suc (suc (suc (suc (suc (suc (suc (suc (suc (suc zero)))))))))))))) l m = agree_below_at (λ y. is_set (wide y) 14) (λ y. doubled (is_set y) 14) 256 x refl l
wide_at x (suc (suc (suc (suc (suc (suc (suc (suc (suc (suc (suc (suc (suc (suc (suc zero))))))))))))))) l m = agree_below_at (λ y. is_set (wide y) 15) (λ y. doubled (is_set y) 15) 256 x refl l
wide_at x (suc (suc (suc (suc (suc (suc (suc (suc (suc (suc (suc (suc (suc (suc (suc (suc k)))))))))))))))) l m = absurd (omega arith)

-- a word's bits from one on
set_down : (x s k : ℕ) → is_set (x / 2 ^ s) k ≡ is_set x (k + s)
set_down x s k =
    let e : k + s - s ≡ k = omega arith in
    let f : bit_at (x / 2 ^ s * 2 ^ s + x % 2 ^ s) (k + s) ≡ bit_at (x / 2 ^ s) (k + s - s) = bit_at_cat_high (x / 2 ^ s) s (x % 2 ^ s) (k + s) (mod-lt x (pow-pos s)) (omega arith) in
    ap (λ z. eqb z 1) (sym (ap (bit_at (x / 2 ^ s)) e) ∙ sym f ∙ ap (λ z. bit_at z (k + s)) (whole x s))

-- bits from one on, at twice their indices: so many of a word, and as many of another behind them
module _ (f : ℕ → Bool) (h a b c : ℕ) (small : a < 2 ^ (2 * h)) (sum : c ≡ b * 2 ^ (2 * h) + a) (low : (k : ℕ) → k < 2 * h → is_set a k ≡ doubled f k) (high : (k : ℕ) → k < 2 * h → is_set b k ≡ doubled (λ i. f (i + h)) k) where
  joined : (k : ℕ) → k < 2 * (2 * h) → is_set c k ≡ doubled f k
  joined k l = go (cases_lt k (2 * h))
    where
      go : (k < 2 * h) ⊎ (2 * h ≤ k) → is_set c k ≡ doubled f k
      go (inl m) = ap (λ z. is_set z k) sum ∙ ap (λ z. eqb z 1) (bit_at_cat_low b (2 * h) a k m) ∙ low k m
      go (inr m) =
          let e : (k - 2 * h) % 2 ≡ k % 2 = omega (arith, m) in
          let i : (k - 2 * h) / 2 + h ≡ k / 2 = omega (arith, m) in
          ap (λ z. is_set z k) sum ∙ ap (λ z. eqb z 1) (bit_at_cat_high b (2 * h) a k small m) ∙ high (k - 2 * h) (omega (arith, l, m)) ∙ ap₂ (λ x y. eqb x 0 && f y) e i

-- four bytes of a word
module _ (word a b c d : ℕ) (ea : (k : ℕ) → k < 16 → is_set a k ≡ doubled (is_set (word % 256)) k) (eb : (k : ℕ) → k < 16 → is_set b k ≡ doubled (is_set (word / 2 ^ 8 % 256)) k) (ec : (k : ℕ) → k < 16 → is_set c k ≡ doubled (is_set (word / 2 ^ 16 % 256)) k)
    (ed : (k : ℕ) → k < 16 → is_set d k ≡ doubled (is_set (word / 2 ^ 24 % 256)) k) (sa : a < 65536) (sb : b < 65536) (sc : c < 65536) where
  byte_at : (s k : ℕ) → k < 16 → doubled (is_set (word / 2 ^ s % 256)) k ≡ doubled (λ i. is_set word (i + s)) k
  byte_at s k l = ap (λ z. eqb (k % 2) 0 && z) (set_low (word / 2 ^ s) 8 (k / 2) (omega (arith, l)) ∙ set_down word s (k / 2))

  moved : (s t : ℕ) (k : ℕ) → doubled (λ i. is_set word (i + (s + t))) k ≡ doubled (λ i. is_set word (i + s + t)) k
  moved s t k = let e : k / 2 + (s + t) ≡ k / 2 + s + t = omega arith in ap (λ z. eqb (k % 2) 0 && is_set word z) e

  first : (k : ℕ) → k < 16 → is_set a k ≡ doubled (is_set word) k
  first k l = ea k l ∙ ap (λ z. eqb (k % 2) 0 && z) (set_low word 8 (k / 2) (omega (arith, l)))

  lower : (k : ℕ) → k < 32 → is_set (a + 65536 * b) k ≡ doubled (is_set word) k
  lower = joined (is_set word) 8 a b (a + 65536 * b) sa (omega arith) first (λ k l. eb k l ∙ byte_at 8 k l)

  upper : (k : ℕ) → k < 32 → is_set (c + 65536 * d) k ≡ doubled (λ i. is_set word (i + 16)) k
  upper = joined (λ i. is_set word (i + 16)) 8 c d (c + 65536 * d) sc (omega arith) (λ k l. ec k l ∙ byte_at 16 k l) (λ k l. ed k l ∙ byte_at 24 k l ∙ moved 8 16 k)

  pub spread_is : (k : ℕ) → k < 64 → is_set (a + 65536 * b + 4294967296 * (c + 65536 * d)) k ≡ (eqb (k % 2) 0 && is_set word (k / 2))
  spread_is = joined (is_set word) 16 (a + 65536 * b) (c + 65536 * d) (a + 65536 * b + 4294967296 * (c + 65536 * d)) (omega (arith, sa, sb)) (omega arith) lower upper

pub before_are : (set word e o es os : ℕ) → word < 2 ^ 64 → ((k : ℕ) → k < 32 → is_set e k ≡ (is_set (bit_and set (bit_not w64 word)) k || is_set (bit_and set (bit_not w64 word)) (k + 32)))
    → ((k : ℕ) → k < 32 → is_set o k ≡ (is_set (bit_and set word) k || is_set (bit_and set word) (k + 32)))
    → ((k : ℕ) → k < 64 → is_set es k ≡ (eqb (k % 2) 0 && is_set e (k / 2))) → ((k : ℕ) → k < 64 → is_set os k ≡ (eqb (k % 2) 0 && is_set o (k / 2)))
    → AreBefore set word (bit_or es (os * 2 ^ 1 % 2 ^ 64))
before_are set word e o es os w he ho hes hos = record { each = each }
  where
    even_in : (k : ℕ) → k < 64 → is_set (bit_and set (bit_not w64 word)) k ≡ (is_set set k && not (is_set word k))
    even_in k l = set_and set (bit_not w64 word) k ∙ ap (λ b. is_set set k && b) (set_not word k w l)

    or_none : (a : Bool) → (a || false) ≡ a
    or_none true = refl
    or_none false = refl

    even_case : (m : ℕ) → m < 64 → m % 2 ≡ 0 → is_set (bit_or es (os * 2 ^ 1 % 2 ^ 64)) m ≡ (leads set word m (m / 2) || leads set word m (m / 2 + 32))
    even_case m l z =
        let a : is_set es m ≡ is_set e (m / 2) = hes m l ∙ ap (λ r. eqb r 0 && is_set e (m / 2)) z in
        let b : (not (nat_lt m 1) && is_set os (m - 1)) ≡ false = none m l z in
        set_or es (os * 2 ^ 1 % 2 ^ 64) m ∙ ap₂ (λ x y. x || y) a (set_shl os 1 m l ∙ b) ∙ or_none (is_set e (m / 2)) ∙ he (m / 2) (omega arith)
        ∙ ap₂ (λ x y. x || y) (even_in (m / 2) (omega arith)) (even_in (m / 2 + 32) (omega arith))
        ∙ ap (λ r. (is_set set (m / 2) && cond (eqb r 1) (is_set word (m / 2)) (not (is_set word (m / 2)))) || (is_set set (m / 2 + 32) && cond (eqb r 1) (is_set word (m / 2 + 32)) (not (is_set word (m / 2 + 32))))) (sym z)
      where
        none : (m : ℕ) → m < 64 → m % 2 ≡ 0 → (not (nat_lt m 1) && is_set os (m - 1)) ≡ false
        none zero l z = refl
        none (suc m) l z =
            let q : suc m - 1 ≡ m = omega arith in
            let r : m % 2 ≡ 1 = omega arith in
            ap (λ y. not (nat_lt (suc m) 1) && is_set os y) q ∙ ap (λ y. not (nat_lt (suc m) 1) && y) (hos m (omega arith) ∙ ap (λ y. eqb y 0 && is_set o (m / 2)) r) ∙ and_false (not (nat_lt (suc m) 1))
          where
            and_false : (a : Bool) → (a && false) ≡ false
            and_false true = refl
            and_false false = refl

    odd_case : (m : ℕ) → m < 64 → m % 2 ≡ 1 → is_set (bit_or es (os * 2 ^ 1 % 2 ^ 64)) m ≡ (leads set word m (m / 2) || leads set word m (m / 2 + 32))
    odd_case m l z =
        let a : is_set es m ≡ false = hes m l ∙ ap (λ r. eqb r 0 && is_set e (m / 2)) z in
        let q : (m - 1) % 2 ≡ 0 = omega arith in
        let h : (m - 1) / 2 ≡ m / 2 = omega arith in
        let b : (not (nat_lt m 1) && is_set os (m - 1)) ≡ is_set o (m / 2) = ap₂ (λ x y. not x && y) (not_lt m 1 (omega arith)) (hos (m - 1) (omega arith) ∙ ap₂ (λ x y. eqb x 0 && is_set o y) q h) in
        set_or es (os * 2 ^ 1 % 2 ^ 64) m ∙ ap₂ (λ x y. x || y) a (set_shl os 1 m l ∙ b) ∙ ho (m / 2) (omega arith)
        ∙ ap₂ (λ x y. x || y) (set_and set word (m / 2)) (set_and set word (m / 2 + 32))
        ∙ ap (λ r. (is_set set (m / 2) && cond (eqb r 1) (is_set word (m / 2)) (not (is_set word (m / 2)))) || (is_set set (m / 2 + 32) && cond (eqb r 1) (is_set word (m / 2 + 32)) (not (is_set word (m / 2 + 32))))) (sym z)

    each : (m : ℕ) → m < 64 → is_set (bit_or es (os * 2 ^ 1 % 2 ^ 64)) m ≡ (leads set word m (m / 2) || leads set word m (m / 2 + 32))
    each m l = go (cases_lt (m % 2) 1)
      where
        go : (m % 2 < 1) ⊎ (1 ≤ m % 2) → is_set (bit_or es (os * 2 ^ 1 % 2 ^ 64)) m ≡ (leads set word m (m / 2) || leads set word m (m / 2 + 32))
        go (inl h) = even_case m l (omega arith)
        go (inr h) = odd_case m l (omega arith)
