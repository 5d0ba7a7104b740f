-- Bits of shifted words, and the meaning of an encoder's register.
use Rattle.std.proofs.Common.{◌≡◌, ℕ, zero, suc, ◌+◌, ◌-◌, ◌*◌, ◌/◌, ◌%◌, ◌^◌, ◌<◌, ◌≤◌, Bool, true, false, not, List, [], ◌∷◌, ◌++◌, length, drop, refl, sym, ap, ap₂, ◌∙◌, arith, eqb, bit_and, bit_or, length-append, drop-drop, mod-lt, lit<}
use Rattle.std.proofs.Math.Nat.{mod-add-div', one-le-pow}
use Rattle.std.specs.Bool.{beq}
use Rattle.std.specs.Int.{bit_at}
use Rattle.std.specs.Int.Bits.{bit_xor}
use Rattle.std.proofs.lemmas.List.{drop-append-le}
use Rattle.std.proofs.lemmas.Nat.Bits.{bit_at_xor, bit_at-lt, bit_at_cat_low, bit_at_cat_high, bit_at_lowest}
use Rattle.std.proofs.lemmas.Nat.{or_shifted, and_mask}
use mir.Val.{bool_byte}
use Rattle.spec_words.specs.Bits.{is_set, xor, spelled}
use Rattle.code_paths.specs.Paths.{parity_x, parity_y}
use Rattle.conv_code.specs.Coded.{xs_of, ys_of, steps_of, IsAfter, Codes}

sum_of_bits : (x y : ℕ) → x < 2 → y < 2 → eqb ((x + y) % 2) 1 ≡ not (beq (eqb x 1) (eqb y 1))
sum_of_bits zero zero h k = refl
sum_of_bits zero (suc zero) h k = refl
sum_of_bits (suc zero) zero h k = refl
sum_of_bits (suc zero) (suc zero) h k = refl
sum_of_bits (suc (suc x)) y h k = absurd (omega arith)
sum_of_bits x (suc (suc y)) h k = absurd (omega arith)

pub set_xor : (a b k : ℕ) → is_set (bit_xor a b) k ≡ xor (is_set a k) (is_set b k)
set_xor a b k = ap (λ z. eqb z 1) (bit_at_xor a b k) ∙ sum_of_bits (bit_at a k) (bit_at b k) (bit_at-lt a k) (bit_at-lt b k)

whole : (n w : ℕ) → n / 2 ^ w * 2 ^ w + n % 2 ^ w ≡ n
whole n w = omega (arith, mod-add-div' n (2 ^ w))

pub set_low : (n w k : ℕ) → k < w → is_set (n % 2 ^ w) k ≡ is_set n k
set_low n w k l = ap (λ z. eqb z 1) (sym (bit_at_cat_low (n / 2 ^ w) w (n % 2 ^ w) k l) ∙ ap (λ z. bit_at z k) (whole n w))

pub set_right : (n s k : ℕ) → is_set (n / 2 ^ s) k ≡ is_set n (k + s)
set_right n s k =
    let e : k + s - s ≡ k = omega arith in
    let f : bit_at (n / 2 ^ s * 2 ^ s + n % 2 ^ s) (k + s) ≡ bit_at (n / 2 ^ s) (k + s - s) = bit_at_cat_high (n / 2 ^ s) s (n % 2 ^ s) (k + s) (mod-lt n (one-le-pow s 2 (lit< tt))) (omega arith) in
    ap (λ z. eqb z 1) (sym (ap (bit_at (n / 2 ^ s)) e) ∙ sym f ∙ ap (λ z. bit_at z (k + s)) (whole n s))

pub set_here : (r n i k : ℕ) → i < 2 ^ n → is_set (r * 2 ^ n + i) (k + n) ≡ is_set r k
set_here r n i k l =
    let e : k + n - n ≡ k = omega arith in
    ap (λ z. eqb z 1) (bit_at_cat_high r n i (k + n) l (omega arith) ∙ ap (bit_at r) e)

spelled_low : (n r w i : ℕ) → n ≤ w → spelled n (r * 2 ^ w + i) ≡ spelled n i
spelled_low zero r w i l = refl
spelled_low (suc n) r w i l = ap₂ (λ b bs. b ∷ bs) (ap (λ z. eqb z 1) (bit_at_cat_low r w i n (omega arith))) (spelled_low n r w i (omega arith))

pub spelled_join : (m n t r i : ℕ) → t ≡ m + n → i < 2 ^ n → spelled t (r * 2 ^ n + i) ≡ spelled m r ++ spelled n i
spelled_join zero n t r i e l =
    let f : t ≡ n = omega arith in
    ap (λ z. spelled z (r * 2 ^ n + i)) f ∙ spelled_low n r n i (omega arith)
spelled_join (suc m) n zero r i e l = absurd (omega arith)
spelled_join (suc m) n (suc t) r i e l =
    let f : t ≡ m + n = omega arith in
    ap₂ (λ b bs. b ∷ bs) (ap (is_set (r * 2 ^ n + i)) f ∙ set_here r n i m l) (spelled_join m n t r i f l)

-- ---- the words of the code

pub with_bit_is : (r : ℕ) (b : Bool) → r < 64 → spelled 7 (bit_or (r * 2 % 65536) (bool_byte b)) ≡ spelled 6 r ++ b ∷ []
with_bit_is r b l = go b
  where
    e : r * 2 % 65536 ≡ r * 2
    e = omega arith

    go : (b : Bool) → spelled 7 (bit_or (r * 2 % 65536) (bool_byte b)) ≡ spelled 6 r ++ b ∷ []
    go true = ap (λ z. spelled 7 (bit_or z 1)) e ∙ ap (spelled 7) (or_shifted r 1 1 (lit< tt)) ∙ spelled_join 6 1 7 r 1 refl (lit< tt)
    go false = ap (λ z. spelled 7 (bit_or z 0)) e ∙ ap (spelled 7) (or_shifted r 1 0 (lit< tt)) ∙ spelled_join 6 1 7 r 0 refl (lit< tt)

pub with_byte_is : (r b : ℕ) → r < 64 → b < 256 → spelled 14 (bit_or (r * 256 % 65536) b) ≡ spelled 6 r ++ spelled 8 b
with_byte_is r b l m =
    let e : r * 256 % 65536 ≡ r * 256 = omega arith in
    ap (λ z. spelled 14 (bit_or z b)) e ∙ ap (spelled 14) (or_shifted r 8 b m) ∙ spelled_join 6 8 14 r b refl m

pub taps_x_is : (w k : ℕ) → is_set (bit_xor w (bit_xor (w / 2) (bit_xor (w / 4) (bit_xor (w / 8) (w / 64))))) k ≡ xor (is_set w k) (xor (is_set w (k + 1)) (xor (is_set w (k + 2)) (xor (is_set w (k + 3)) (is_set w (k + 6)))))
taps_x_is w k =
    set_xor _ _ k ∙ ap (xor (is_set w k)) (set_xor _ _ k ∙ ap₂ xor (set_right w 1 k) (set_xor _ _ k ∙ ap₂ xor (set_right w 2 k) (set_xor _ _ k ∙ ap₂ xor (set_right w 3 k) (set_right w 6 k))))

pub taps_y_is : (w k : ℕ) → is_set (bit_xor w (bit_xor (w / 4) (bit_xor (w / 8) (bit_xor (w / 32) (w / 64))))) k ≡ xor (is_set w k) (xor (is_set w (k + 2)) (xor (is_set w (k + 3)) (xor (is_set w (k + 5)) (is_set w (k + 6)))))
taps_y_is w k =
    set_xor _ _ k ∙ ap (xor (is_set w k)) (set_xor _ _ k ∙ ap₂ xor (set_right w 2 k) (set_xor _ _ k ∙ ap₂ xor (set_right w 3 k) (set_xor _ _ k ∙ ap₂ xor (set_right w 5 k) (set_right w 6 k))))

-- the first n values of a function, last one first
abbrev down : ℕ → (ℕ → Bool) → List Bool
down zero f = []
down (suc n) f = f n ∷ down n f

down_same : (n : ℕ) (f g : ℕ → Bool) → ((k : ℕ) → k < n → f k ≡ g k) → down n f ≡ down n g
down_same zero f g h = refl
down_same (suc n) f g h = ap₂ (λ b bs. b ∷ bs) (h n (omega arith)) (down_same n f g (λ k l. h k (omega arith)))

abbrev pub IsTapsX : ℕ → ℕ → Type 0
IsTapsX w x = (k : ℕ) → k < 8 → is_set x k ≡ xor (is_set w k) (xor (is_set w (k + 1)) (xor (is_set w (k + 2)) (xor (is_set w (k + 3)) (is_set w (k + 6)))))

abbrev pub IsTapsY : ℕ → ℕ → Type 0
IsTapsY w y = (k : ℕ) → k < 8 → is_set y k ≡ xor (is_set w k) (xor (is_set w (k + 2)) (xor (is_set w (k + 3)) (xor (is_set w (k + 5)) (is_set w (k + 6)))))

low_byte : (x k : ℕ) → k < 8 → is_set (bit_and x 255) k ≡ is_set x k
low_byte x k l = ap (λ z. is_set z k) (and_mask x 8) ∙ set_low x 8 k l

pub xs_byte : (w x : ℕ) (old bits : List Bool) → IsTapsX w x → spelled 14 w ≡ old ++ bits → spelled 8 (bit_and x 255) ≡ xs_of 8 (old ++ bits)
xs_byte w x old bits h e =
    down_same 8 (is_set (bit_and x 255)) (λ k. xor (is_set w k) (xor (is_set w (k + 1)) (xor (is_set w (k + 2)) (xor (is_set w (k + 3)) (is_set w (k + 6)))))) (λ k l. low_byte x k l ∙ h k l) ∙ ap (xs_of 8) e

pub ys_byte : (w y : ℕ) (old bits : List Bool) → IsTapsY w y → spelled 14 w ≡ old ++ bits → spelled 8 (bit_and y 255) ≡ ys_of 8 (old ++ bits)
ys_byte w y old bits h e =
    down_same 8 (is_set (bit_and y 255)) (λ k. xor (is_set w k) (xor (is_set w (k + 2)) (xor (is_set w (k + 3)) (xor (is_set w (k + 5)) (is_set w (k + 6)))))) (λ k l. low_byte y k l ∙ h k l) ∙ ap (ys_of 8) e

pub register_byte : (b r : ℕ) (old : List Bool) → old ≡ spelled 6 r → spelled 6 (bit_and b 63) ≡ drop 8 (old ++ spelled 8 b)
register_byte b r old e = down_same 6 (is_set (bit_and b 63)) (is_set b) (λ k m. ap (λ z. is_set z k) (and_mask b 6) ∙ set_low b 6 k m) ∙ ap (λ z. drop 8 (z ++ spelled 8 b)) (sym e)

lowest_is : (x : ℕ) → eqb (bit_and x 1) 1 ≡ is_set x 0
lowest_is x = ap (λ z. eqb z 1) (and_mask x 1 ∙ sym (bit_at_lowest x))

pub x_bit : (w x : ℕ) (old bits : List Bool) → IsTapsX w x → spelled 7 w ≡ old ++ bits → eqb (bit_and x 1) 1 ≡ parity_x (old ++ bits)
x_bit w x old bits h e = lowest_is x ∙ h 0 (lit< tt) ∙ ap parity_x e

pub y_bit : (w y : ℕ) (old bits : List Bool) → IsTapsY w y → spelled 7 w ≡ old ++ bits → eqb (bit_and y 1) 1 ≡ parity_y (old ++ bits)
y_bit w y old bits h e = lowest_is y ∙ h 0 (lit< tt) ∙ ap parity_y e

pub register_bit : (w : ℕ) (old bits : List Bool) → spelled 7 w ≡ old ++ bits → spelled 6 (bit_and w 63) ≡ drop 1 (old ++ bits)
register_bit w old bits e = down_same 6 (is_set (bit_and w 63)) (is_set w) (λ k m. ap (λ z. is_set z k) (and_mask w 6) ∙ set_low w 6 k m) ∙ ap (drop 1) e

-- ---- the meaning of the register

pub coded : (p bits xs ys old new : List Bool) → IsAfter old p → xs ≡ xs_of (length bits) (old ++ bits) → ys ≡ ys_of (length bits) (old ++ bits) → new ≡ drop (length bits) (old ++ bits) → Codes p bits xs ys new
coded p bits xs ys old new h x y n =
    let e : drop (steps_of p) (p ++ bits) ≡ old ++ bits = drop-append-le (steps_of p) p bits (omega arith) ∙ ap (λ z. z ++ bits) (sym h.is) in
    let f : steps_of (p ++ bits) ≡ steps_of p + length bits = omega (arith, h.long, length-append p bits) in
    record {
      x = x ∙ ap (xs_of (length bits)) (sym e);
      y = y ∙ ap (ys_of (length bits)) (sym e);
      after = record {
        long = omega (arith, h.long, length-append p bits);
        is = n ∙ ap (drop (length bits)) (sym e) ∙ drop-drop (length bits) (steps_of p) (p ++ bits) ∙ ap (λ k. drop k (p ++ bits)) (sym f);
      };
    }
