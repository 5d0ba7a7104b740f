-- Words of sixteen bits and the bits that they spell.
use Rattle.std.proofs.Common.{◌≡◌, ℕ, zero, suc, ◌+◌, ◌-◌, ◌*◌, ◌/◌, ◌%◌, ◌^◌, ◌<◌, ◌≤◌, Bool, true, false, List, [], ◌∷◌, ◌++◌, append_assoc, refl, sym, ap, ap₂, ◌∙◌, arith, eqb, bit_and, bit_or, mod-lt, lit<}
use Rattle.std.proofs.Math.Nat.{mod-add-div', one-le-pow}
use Rattle.std.specs.Int.{bit_at}
use Rattle.std.proofs.lemmas.Nat.{or_shifted, and_mask}
use Rattle.std.proofs.lemmas.Nat.Bits.{bit_at_cat_low, bit_at_cat_high}
use Rattle.spec_words.specs.Bits.{is_set, spelled}
use mir.Val.{bool_byte}

whole : (n w : ℕ) → n / 2 ^ w * 2 ^ w + n % 2 ^ w ≡ n
whole n w = omega (arith, mod-add-div' n (2 ^ w))

pow_pos : (s : ℕ) → 0 < 2 ^ s
pow_pos s = one-le-pow s 2 (lit< tt)

set_low : (n w k : ℕ) → k < w → is_set (n % 2 ^ w) k ≡ is_set n k
set_low n w k l = ap (λ z. eqb z 1) (sym (bit_at_cat_low (n / 2 ^ w) w (n % 2 ^ w) k l) ∙ ap (λ z. bit_at z k) (whole n w))

set_here : (r n i k : ℕ) → i < 2 ^ n → is_set (r * 2 ^ n + i) (k + n) ≡ is_set r k
set_here r n i k l =
    let e : k + n - n ≡ k = omega arith in
    ap (λ z. eqb z 1) (bit_at_cat_high r n i (k + n) l (omega arith) ∙ ap (bit_at r) e)

spelled_same : (n x y : ℕ) → ((k : ℕ) → k < n → is_set x k ≡ is_set y k) → spelled n x ≡ spelled n y
spelled_same zero x y h = refl
spelled_same (suc n) x y h = ap₂ (λ b bs. b ∷ bs) (h n (omega arith)) (spelled_same n x y (λ k l. h k (omega arith)))

spelled_mod : (n w x : ℕ) → n ≤ w → spelled n (x % 2 ^ w) ≡ spelled n x
spelled_mod n w x l = spelled_same n (x % 2 ^ w) x (λ k m. set_low x w k (omega arith))

spelled_low : (n r w i : ℕ) → n ≤ w → spelled n (r * 2 ^ w + i) ≡ spelled n i
spelled_low n r w i l = spelled_same n (r * 2 ^ w + i) i (λ k m. ap (λ z. eqb z 1) (bit_at_cat_low r w i k (omega arith)))

-- the bits of a number over a lower part are those of both
pub spelled_join : (m n t r i : ℕ) → t ≡ m + n → i < 2 ^ n → spelled t (r * 2 ^ n + i) ≡ spelled m r ++ spelled n i
spelled_join zero n t r i e l =
    let f : t ≡ n = omega arith in
    ap (λ z. spelled z (r * 2 ^ n + i)) f ∙ spelled_low n r n i (omega arith)
spelled_join (suc m) n zero r i e l = absurd (omega arith)
spelled_join (suc m) n (suc t) r i e l =
    let f : t ≡ m + n = omega arith in
    ap₂ (λ b bs. b ∷ bs) (ap (is_set (r * 2 ^ n + i)) f ∙ set_here r n i m l) (spelled_join m n t r i f l)

pub with_bit_is : (x : ℕ) (b : Bool) (n : ℕ) → n < 16 → spelled (n + 1) (bit_or (x * 2 % 65536) (bool_byte b)) ≡ spelled n x ++ b ∷ []
with_bit_is x b n l = go b
  where
    e : x * 2 % 65536 ≡ x % 32768 * 2
    e = omega arith

    low : spelled n (x % 32768) ≡ spelled n x
    low = spelled_mod n 15 x (omega arith)

    go : (b : Bool) → spelled (n + 1) (bit_or (x * 2 % 65536) (bool_byte b)) ≡ spelled n x ++ b ∷ []
    go true = ap (λ z. spelled (n + 1) (bit_or z 1)) e ∙ ap (spelled (n + 1)) (or_shifted (x % 32768) 1 1 (lit< tt)) ∙ spelled_join n 1 (n + 1) (x % 32768) 1 refl (lit< tt) ∙ ap (λ z. z ++ true ∷ []) low
    go false = ap (λ z. spelled (n + 1) (bit_or z 0)) e ∙ ap (spelled (n + 1)) (or_shifted (x % 32768) 1 0 (lit< tt)) ∙ spelled_join n 1 (n + 1) (x % 32768) 0 refl (lit< tt) ∙ ap (λ z. z ++ false ∷ []) low

-- the first eight of some bits, and the others
pub byte_first : (x n : ℕ) → spelled (n + 8) x ≡ spelled 8 (bit_and (x / 2 ^ n) 255) ++ spelled n x
byte_first x n =
    let t : n + 8 ≡ 8 + n = omega arith in
    sym (ap (spelled (n + 8)) (whole x n)) ∙ spelled_join 8 n (n + 8) (x / 2 ^ n) (x % 2 ^ n) t (mod-lt x (pow_pos n))
    ∙ ap₂ (λ a b. a ++ b) (sym (ap (spelled 8) (and_mask (x / 2 ^ n) 8) ∙ spelled_mod 8 8 (x / 2 ^ n) (omega arith))) (spelled_mod n n x (omega arith))

pub spelled_first : (n x : ℕ) → 0 < n → spelled n x ≡ is_set x (n - 1) ∷ spelled (n - 1) x
spelled_first zero x l = absurd (omega arith)
spelled_first (suc n) x l = let e : suc n - 1 ≡ n = omega arith in rw e refl

-- the first of some bits goes over
pub bit_moved : (to : List Bool) (word left : ℕ) → 0 < left → (to ++ is_set word (left - 1) ∷ []) ++ spelled (left - 1) word ≡ to ++ spelled left word
bit_moved to word left l = append_assoc to (is_set word (left - 1) ∷ []) (spelled (left - 1) word) ∙ ap (λ z. to ++ z) (sym (spelled_first left word l))

-- the first eight go over
pub byte_moved : (to : List Bool) (word left : ℕ) → 8 ≤ left → (to ++ spelled 8 (bit_and (word / 2 ^ (left - 8)) 255)) ++ spelled (left - 8) word ≡ to ++ spelled left word
byte_moved to word left l =
    let whole : left - 8 + 8 ≡ left = omega arith in
    append_assoc to (spelled 8 (bit_and (word / 2 ^ (left - 8)) 255)) (spelled (left - 8) word) ∙ ap (λ z. to ++ z) (sym (byte_first word (left - 8)) ∙ ap (λ n. spelled n word) whole)
