-- What is sent of two bytes is what is sent of each beside zeros, together.
use Rattle.std.proofs.Common.{◌≡◌, ◌≢◌, ℕ, zero, suc, ◌+◌, ◌*◌, ◌/◌, ◌%◌, ◌^◌, ◌<◌, ◌≤◌, ◌⊎◌, inl, inr, subst, Bool, true, false, cond, ◌||◌, List, [], ◌∷◌, ◌++◌, length, refl, sym, ap, ap₂, ◌∙◌, arith, bit_or, eqb}
use Rattle.std.proofs.lemmas.List.{length-append, get_or-set_same, get_or-set_other}
use Rattle.std.proofs.Math.Nat.{zero-div, zero-mod}
use Rattle.std.specs.Prelude.{slice_index_or, slice_set}
use Rattle.std.proofs.lemmas.Bool.{cases_lt}
use Rattle.spec_words.specs.Bits.{is_set, spelled}
use Rattle.code_paths.proofs.Words.{set_or}
use Rattle.mode_set.specs.StreamTable.{steps_in_period}
use Rattle.mode_set.specs.declared.modes.Rate.{Rate}
use Rattle.puncture.specs.SentBits.{X, Y}
use Rattle.puncture.specs.Steps.{is_sent, bits_sent, bits_of_step, bits_of_steps}
use Rattle.puncture.specs.Periods.{sent_of_steps, AreWords, AreAllWords, IsEnd, AreEnds}

-- ---- how many bits are sent
pub spelled_long : (n x : ℕ) → length (spelled n x) ≡ n
spelled_long zero x = refl
spelled_long (suc n) x = ap suc (spelled_long n x)

abbrev count_of : Bool → ℕ
count_of b = cond b 1 0

sent_long : (sx sy a b : Bool) → length (bits_sent sx sy a b) ≡ count_of sx + count_of sy
sent_long true true a b = refl
sent_long true false a b = refl
sent_long false true a b = refl
sent_long false false a b = refl

pub steps_long : (r : Rate) (n t x y : ℕ) → length (bits_of_steps r t (spelled n x) (spelled n y)) ≡ sent_of_steps r t n
unfolding bits_of_steps sent_of_steps
steps_long r zero t x y = refl
steps_long r (suc n) t x y =
    length-append (bits_of_step r t (is_set x n) (is_set y n)) (bits_of_steps r (t + 1) (spelled n x) (spelled n y))
    ∙ ap₂ (λ a b. a + b) (sent_long (is_sent r X t) (is_sent r Y t) (is_set x n) (is_set y n)) (steps_long r n (t + 1) x y)

pub count_is : (r : Rate) (t count word x y : ℕ) → spelled count word ≡ bits_of_steps r t (spelled 8 x) (spelled 8 y) → count ≡ sent_of_steps r t 8
count_is r t count word x y e = sym (spelled_long count word) ∙ ap length e ∙ steps_long r 8 t x y

-- ---- bit by bit
pub either : List Bool → List Bool → List Bool
either [] ys = []
either (x ∷ xs) [] = []
either (x ∷ xs) (y ∷ ys) = (x || y) ∷ either xs ys

either_spelled : (n a b : ℕ) → spelled n (bit_or a b) ≡ either (spelled n a) (spelled n b)
unfolding either
either_spelled zero a b = refl
either_spelled (suc n) a b = ap₂ (λ z zs. z ∷ zs) (set_or a b n) (either_spelled n a b)

zero_set : (k : ℕ) → is_set 0 k ≡ false
zero_set k = ap (λ z. eqb z 1) (ap (λ z. z % 2) (zero-div (2 ^ k)) ∙ zero-mod 2)

or_none : (a : Bool) → (a || false) ≡ a
or_none true = refl
or_none false = refl

either_sent : (sx sy a b z w : Bool) (p q : List Bool) → z ≡ false → w ≡ false → either (bits_sent sx sy a z ++ p) (bits_sent sx sy w b ++ q) ≡ bits_sent sx sy a b ++ either p q
unfolding either
either_sent true true a b z w p q ez ew = ap₂ (λ (m n : Bool). m ∷ n ∷ either p q) (ap (λ m. a || m) ew ∙ or_none a) (ap (λ m. m || b) ez)
either_sent true false a b z w p q ez ew = ap (λ (m : Bool). m ∷ either p q) (ap (λ m. a || m) ew ∙ or_none a)
either_sent false true a b z w p q ez ew = ap (λ (m : Bool). m ∷ either p q) (ap (λ m. m || b) ez)
either_sent false false a b z w p q ez ew = refl

either_steps : (r : Rate) (n t x y : ℕ) → either (bits_of_steps r t (spelled n x) (spelled n 0)) (bits_of_steps r t (spelled n 0) (spelled n y)) ≡ bits_of_steps r t (spelled n x) (spelled n y)
unfolding either bits_of_steps
either_steps r zero t x y = refl
either_steps r (suc n) t x y =
    either_sent (is_sent r X t) (is_sent r Y t) (is_set x n) (is_set y n) (is_set 0 n) (is_set 0 n) (bits_of_steps r (t + 1) (spelled n x) (spelled n 0)) (bits_of_steps r (t + 1) (spelled n 0) (spelled n y)) (zero_set n) (zero_set n)
    ∙ ap (λ z. bits_of_step r t (is_set x n) (is_set y n) ++ z) (either_steps r n (t + 1) x y)

-- the bits of two words together
pub together : (r : Rate) (t x y count a b : ℕ) → count ≡ sent_of_steps r t 8 → spelled (sent_of_steps r t 8) a ≡ bits_of_steps r t (spelled 8 x) (spelled 8 0) → spelled (sent_of_steps r t 8) b ≡ bits_of_steps r t (spelled 8 0) (spelled 8 y)
    → spelled count (bit_or a b) ≡ bits_of_steps r t (spelled 8 x) (spelled 8 y)
together r t x y count a b e ea eb = ap (λ n. spelled n (bit_or a b)) e ∙ either_spelled (sent_of_steps r t 8) a b ∙ ap₂ either ea eb ∙ either_steps r 8 t x y

-- the same words by how many bits are sent
pub counted : (r : Rate) (t count word x y : ℕ) → spelled count word ≡ bits_of_steps r t (spelled 8 x) (spelled 8 y) → spelled (sent_of_steps r t 8) word ≡ bits_of_steps r t (spelled 8 x) (spelled 8 y)
counted r t count word x y e = ap (λ n. spelled n word) (sym (count_is r t count word x y e)) ∙ e

-- ---- the table's entries one after another
pub words_more : (r : Rate) (n : ℕ) (words : List (ℕ × ℕ)) (v : ℕ × ℕ) → n < length words → AreAllWords r n words → AreWords r (n / 256) (n % 256) v → AreAllWords r (n + 1) (slice_set words n v)
words_more r n words v l a w = record { at = at }
  where
    at : (k : ℕ) → k < n + 1 → AreWords r (k / 256) (k % 256) (slice_index_or (slice_set words n v) k (0, 0))
    at k m = go (cases_lt k n)
      where
        go : (k < n) ⊎ (n ≤ k) → AreWords r (k / 256) (k % 256) (slice_index_or (slice_set words n v) k (0, 0))
        go (inl less) = let ne : k ≢ n = omega (arith, less) in subst (AreWords r (k / 256) (k % 256)) (sym (get_or-set_other words n k v (0, 0) ne)) (a.at k less)
        go (inr more) =
            let same : n ≡ k = omega (arith, m, more) in
            subst (λ z. AreWords r (z / 256) (z % 256) (slice_index_or (slice_set words n v) z (0, 0))) same (subst (AreWords r (n / 256) (n % 256)) (sym (get_or-set_same words n v (0, 0) l)) w)

pub ends_more : (r : Rate) (n : ℕ) (ends : List (ℕ × ℕ)) (v : ℕ × ℕ) → n < length ends → AreEnds r n ends → IsEnd r n v → AreEnds r (n + 1) (slice_set ends n v)
ends_more r n ends v l a w = record { at = at }
  where
    at : (k : ℕ) → k < n + 1 → IsEnd r k (slice_index_or (slice_set ends n v) k (0, 0))
    at k m = go (cases_lt k n)
      where
        go : (k < n) ⊎ (n ≤ k) → IsEnd r k (slice_index_or (slice_set ends n v) k (0, 0))
        go (inl less) = let ne : k ≢ n = omega (arith, less) in subst (IsEnd r k) (sym (get_or-set_other ends n k v (0, 0) ne)) (a.at k less)
        go (inr more) =
            let same : n ≡ k = omega (arith, m, more) in
            subst (λ z. IsEnd r z (slice_index_or (slice_set ends n v) z (0, 0))) same (subst (IsEnd r n) (sym (get_or-set_same ends n v (0, 0) l)) w)

words_at : (r : Rate) (p byte : ℕ) (words : List (ℕ × ℕ)) → AreAllWords r (256 * steps_in_period r) words → p < steps_in_period r → byte < 256 → AreWords r p byte (slice_index_or words (256 * p + byte) (0, 0))
words_at r p byte words a l m =
    let place : (256 * p + byte) / 256 ≡ p = omega (arith, m) in
    let rest : (256 * p + byte) % 256 ≡ byte = omega (arith, m) in
    subst (λ z. AreWords r p z (slice_index_or words (256 * p + byte) (0, 0))) rest
    (subst (λ z. AreWords r z ((256 * p + byte) % 256) (slice_index_or words (256 * p + byte) (0, 0))) place (a.at (256 * p + byte) (omega (arith, l, m))))

pub word_x : (r : Rate) (p byte : ℕ) (words : List (ℕ × ℕ)) → AreAllWords r (256 * steps_in_period r) words → p < steps_in_period r → byte < 256 → (t : ℕ) → p ≡ t % steps_in_period r
    → spelled (sent_of_steps r t 8) (slice_index_or words (256 * p + byte) (0, 0)).0 ≡ bits_of_steps r t (spelled 8 byte) (spelled 8 0)
word_x r p byte words a l m = (words_at r p byte words a l m).x

pub word_y : (r : Rate) (p byte : ℕ) (words : List (ℕ × ℕ)) → AreAllWords r (256 * steps_in_period r) words → p < steps_in_period r → byte < 256 → (t : ℕ) → p ≡ t % steps_in_period r
    → spelled (sent_of_steps r t 8) (slice_index_or words (256 * p + byte) (0, 0)).1 ≡ bits_of_steps r t (spelled 8 0) (spelled 8 byte)
word_y r p byte words a l m = (words_at r p byte words a l m).y
