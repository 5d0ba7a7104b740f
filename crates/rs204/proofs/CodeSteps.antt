-- The loops of the code.
use Rattle.std.proofs.Common.{◌≡◌, ℕ, zero, suc, ◌+◌, ◌-◌, ◌<◌, ◌≤◌, Bool, true, false, cond, set, add-one, add-zero, add-suc, append-nil, length-append, length-take, List, [], ◌∷◌, ◌++◌, map, reverse, length, get_or, take, refl, sym, ap, ap₂, ◌∙◌, arith, ext_get_or}
use Rattle.std.specs.Prelude.{bit_xor}
use Rattle.std.proofs.lemmas.List.{take_more, take_more_set, reverse-append, length-map}
use lib.Bits.{xor_comm, xor_zero_r}
use Rattle.gf256.specs.Field.{mul, power}
use Rattle.gf256.proofs.FieldLaws.{mul_zero_right}
use Rattle.rs204.specs.Codes.{plus}
use Rattle.rs204.specs.Polynomials.{value_at}
use Rattle.rs204.specs.Decoding.{chosen, is_root}
use Rattle.std.proofs.lemmas.Bool.{eq-eqb, ne_eqb}
use Rattle.std.proofs.Common.{◌⊎◌, inl, inr, length-set}
use Rattle.rs204.proofs.Distance.{length-plus}

pub value_next : (x i sum : ℕ) (word : List ℕ) (b : ℕ) → i < length word → b ≡ get_or word i 0 → sum ≡ value_at x (reverse (take i word)) → bit_xor (mul x sum) b ≡ value_at x (reverse (take (i + 1) word))
value_next x i sum word b l e h =
    xor_comm (mul x sum) b ∙ ap₂ (λ y z. bit_xor y (mul x z)) e h
    ∙ ap (value_at x) (sym (reverse-append (take i word) (get_or word i 0 ∷ [])) ∙ ap reverse (sym (take_more word i 0 l)))

pub get_or-plus : (p q : List ℕ) (k : ℕ) → get_or (plus p q) k 0 ≡ bit_xor (get_or p k 0) (get_or q k 0)
get_or-plus [] q k = refl
get_or-plus (a ∷ p) [] zero = sym (xor_zero_r a)
get_or-plus (a ∷ p) [] (suc k) = sym (xor_zero_r (get_or p k 0))
get_or-plus (a ∷ p) (b ∷ q) zero = refl
get_or-plus (a ∷ p) (b ∷ q) (suc k) = get_or-plus p q k

pub get_or-multiple : (f : ℕ) (q : List ℕ) (k : ℕ) → get_or (map (mul f) q) k 0 ≡ mul f (get_or q k 0)
get_or-multiple f [] k = sym (mul_zero_right f)
get_or-multiple f (b ∷ q) zero = refl
get_or-multiple f (b ∷ q) (suc k) = get_or-multiple f q k

pub get_or-sum : (f : ℕ) (p q : List ℕ) (k : ℕ) → get_or (plus p (map (mul f) q)) k 0 ≡ bit_xor (get_or p k 0) (mul f (get_or q k 0))
get_or-sum f p q k = get_or-plus p (map (mul f) q) k ∙ ap (bit_xor (get_or p k 0)) (get_or-multiple f q k)

pub sum_end : (f : ℕ) (to old other : List ℕ) (j : ℕ) → 9 ≤ j → length to ≡ 9 → length old ≡ 9 → length other ≡ 9 → ((k : ℕ) → k < j → get_or to k 0 ≡ bit_xor (get_or old k 0) (mul f (get_or other k 0))) → to ≡ plus old (map (mul f) other)
sum_end f to old other j l a b c h =
    let m : length (map (mul f) other) ≡ 9 = length-map other (mul f) ∙ c in
    ext_get_or 0 to (plus old (map (mul f) other)) (a ∙ sym (length-plus old (map (mul f) other) (b ∙ sym m) ∙ b)) (λ k w. h k (omega arith) ∙ sym (get_or-sum f old other k))

pub found_one : (test : ℕ → Bool) (count k : ℕ) (at : List ℕ) → count < length at → test k ≡ true → take count at ≡ chosen test k → take (count + 1) (set at count k) ≡ chosen test (k + 1)
unfolding chosen
found_one test count k at l t h =
    take_more_set at count k l ∙ ap (λ z. z ++ k ∷ []) h
    ∙ ap (λ b. chosen test k ++ cond b (k ∷ []) []) (sym t) ∙ ap (chosen test) (sym (add-one k))

pub found_none : (test : ℕ → Bool) (k : ℕ) (xs : List ℕ) → test k ≡ false → xs ≡ chosen test k → xs ≡ chosen test (k + 1)
unfolding chosen
found_none test k xs t h = h ∙ sym (append-nil (chosen test k)) ∙ ap (λ b. chosen test k ++ cond b (k ∷ []) []) (sym t) ∙ ap (chosen test) (sym (add-one k))

chosen_longer : (test : ℕ → Bool) (k n : ℕ) → length (chosen test k) ≤ length (chosen test (k + n))
unfolding chosen
chosen_longer test k zero = omega (arith, ap (λ z. length (chosen test z)) (add-zero k))
chosen_longer test k (suc n) = omega (arith, chosen_longer test k n, length-append (chosen test (k + n)) (cond (test (k + n)) ((k + n) ∷ []) []), ap (λ z. length (chosen test z)) (add-suc k n))

room_left : (test : ℕ → Bool) (count k : ℕ) (at : List ℕ) → length (chosen test 204) ≤ 16 → length at ≡ 16 → count ≤ 16 → k < 204 → test k ≡ true → take count at ≡ chosen test k → count < 16
unfolding chosen
room_left test count k at few m c l t h =
    let a : length (chosen test (k + 1)) ≡ length (chosen test k) + 1 = ap (λ z. length (chosen test z)) (add-one k) ∙ length-append (chosen test k) (cond (test k) (k ∷ []) []) ∙ ap (λ b. length (chosen test k) + length (cond b (k ∷ []) [])) t in
    let b : length (chosen test k) ≡ count = sym (ap length h) ∙ length-take count at ∙ omega (arith, c, m) in
    omega (arith, a, b, few, chosen_longer test (k + 1) (203 - k), ap (λ z. length (chosen test z)) (k_204 k l))
  where
    k_204 : (k : ℕ) → k < 204 → k + 1 + (203 - k) ≡ 204
    k_204 k l = omega arith

-- there is room for one more position
pub found_room : (p at : List ℕ) (count k x value : ℕ) → x ≡ power k → value ≡ value_at x p → value ≡ 0 → length (chosen (is_root p) 204) ≤ 16 → length at ≡ 16 → count ≤ 16 → k < 204 → take count at ≡ chosen (is_root p) k → count < 16
found_room p at count k x value e f z few m c l h = room_left (is_root p) count k at few m c l (eq-eqb _ 0 (ap (λ z. value_at z p) (sym e) ∙ sym f ∙ z)) h

pub found_zero : (test : ℕ → Bool) (xs : List ℕ) → take 0 xs ≡ chosen test 0
unfolding chosen
found_zero test xs = refl

-- one more position is checked
pub found_next : (p at at2 : List ℕ) (count count2 k : ℕ) (value x : ℕ) → x ≡ power k → value ≡ value_at x p → length at ≡ 16 → count ≤ 16
    → ((value ≡ 0) × (count < 16) × (at2 ≡ set at count k) × (count2 ≡ count + 1)) ⊎ ((value ≡ 0 → ⊥) × (at2 ≡ at) × (count2 ≡ count))
    → take count at ≡ chosen (is_root p) k → (length at2 ≡ 16) × (count2 ≤ 16) × (take count2 at2 ≡ chosen (is_root p) (k + 1))
found_next p at at2 count count2 k value x e f l m (inl h) t = (
  ap length h.2 ∙ length-set at count k ∙ l,
  omega (arith, h.1, h.3),
  ap₂ (λ n z. take n z) h.3 h.2 ∙ found_one (is_root p) count k at (omega (arith, h.1)) (eq-eqb _ 0 (ap (λ z. value_at z p) (sym e) ∙ sym f ∙ h.0)) t,
)
found_next p at at2 count count2 k value x e f l m (inr h) t = (
  ap length h.1 ∙ l,
  omega (arith, h.2),
  ap₂ (λ n z. take n z) h.2 h.1 ∙ found_none (is_root p) k (take count at) (ne_eqb _ 0 (λ z. h.0 (f ∙ ap (λ y. value_at y p) e ∙ z))) t,
)
