-- Eight bits as a byte, and the first bits of a row byte by byte.
use Rattle.std.proofs.Common.{◌≡◌, ℕ, zero, suc, ◌+◌, ◌-◌, ◌*◌, ◌%◌, ◌^◌, ◌<◌, ◌≤◌, Bool, true, false, not, ◌&&◌, ◌||◌, List, [], ◌∷◌, ◌++◌, take, drop, refl, sym, ap, ap₂, ◌∙◌, arith, eqb, bit_or, append_assoc}
use Rattle.std.proofs.Math.Seq.{take-add}
use Rattle.std.proofs.lemmas.Nat.Bits.{bit_at_above}
use Rattle.spec_words.specs.Bits.{is_set, spelled}
use Rattle.code_paths.proofs.Words.{set_or, set_low, set_up, not_lt}
use mir.Val.{bool_byte}

or_none : (a : Bool) → (a || false) ≡ a
or_none true = refl
or_none false = refl

bool_small : (b : Bool) → bool_byte b < 2 ^ 1
bool_small true = omega arith
bool_small false = omega arith

bool_set : (b : Bool) → is_set (bool_byte b) 0 ≡ b
bool_set true = refl
bool_set false = refl

-- a byte shifted up by one, with a bit in the free place
moved_up : (x : ℕ) (b : Bool) (k : ℕ) → k < 7 → is_set (bit_or (x * 2 % 256) (bool_byte b)) (k + 1) ≡ is_set x k
moved_up x b k l =
    let e : k + 1 - 1 ≡ k = omega arith in
    set_or (x * 2 % 256) (bool_byte b) (k + 1)
    ∙ ap₂ (λ y z. y || z) (set_low (x * 2) 8 (k + 1) (omega arith) ∙ set_up x 1 (k + 1) ∙ ap₂ (λ y z. not y && is_set x z) (not_lt (k + 1) 1 (omega arith)) e) (ap (λ z. eqb z 1) (bit_at_above (bool_byte b) 1 (k + 1) (bool_small b) (omega arith)))
    ∙ or_none (is_set x k)

free_place : (x : ℕ) (b : Bool) → is_set (bit_or (x * 2 % 256) (bool_byte b)) 0 ≡ b
free_place x b =
    set_or (x * 2 % 256) (bool_byte b) 0 ∙ ap₂ (λ y z. y || z) (set_low (x * 2) 8 0 (omega arith) ∙ set_up x 1 0) (bool_set b)

spelled_push : (n x y : ℕ) (b : Bool) → is_set y 0 ≡ b → ((k : ℕ) → k < n → is_set y (k + 1) ≡ is_set x k) → spelled (suc n) y ≡ spelled n x ++ b ∷ []
spelled_push zero x y b e h = ap (λ z. z ∷ []) e
spelled_push (suc n) x y b e h =
    let f : n + 1 ≡ suc n = omega arith in
    ap₂ (λ c cs. c ∷ cs) (ap (is_set y) (sym f) ∙ h n (omega arith)) (spelled_push n x y b e (λ k l. h k (omega arith)))

pub spelled_more : (n x : ℕ) (b : Bool) → n < 8 → spelled (n + 1) (bit_or (x * 2 % 256) (bool_byte b)) ≡ spelled n x ++ b ∷ []
spelled_more n x b l =
    let f : n + 1 ≡ suc n = omega arith in
    ap (λ z. spelled z (bit_or (x * 2 % 256) (bool_byte b))) f ∙ spelled_push n x (bit_or (x * 2 % 256) (bool_byte b)) b (free_place x b) (λ k m. moved_up x b k (omega arith))

-- the part of a row that was appended, and the next part
pub parts_join : (row to mid new part : List Bool) (m t : ℕ) → m ≤ t → mid ≡ to ++ take m row → new ≡ mid ++ part → part ≡ take (t - m) (drop m row) → new ≡ to ++ take t row
parts_join row to mid new part m t l e f g =
    let s : m + (t - m) ≡ t = omega arith in
    f ∙ ap₂ (λ x y. x ++ y) e g ∙ append_assoc to (take m row) (take (t - m) (drop m row)) ∙ ap (λ z. to ++ z) (sym (take-add m (t - m) row)) ∙ ap (λ z. to ++ take z row) s
