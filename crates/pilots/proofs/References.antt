-- The recurrence of the reference sequence.
use Rattle.std.proofs.Common.{◌≡◌, ℕ, zero, suc, ◌+◌, ◌*◌, ◌/◌, ◌%◌, ◌<◌, List, [], ◌∷◌, ◌++◌, drop, length, refl, sym, ap, ◌∙◌, subst, arith, Bool, true, false, ◌&&◌}
use Rattle.std.specs.Bool.{beq}
use Rattle.std.proofs.Math.ListN.{get_or-append, length-append}
use Rattle.std.proofs.Math.Seq.{get_or-append_seam}
use Rattle.std.proofs.lemmas.Bool.{and_parts}
use Rattle.std.proofs.lemmas.List.{get_or-replicate}
use Rattle.spec_words.specs.Bits.{bit, xor}
use Rattle.pilots.specs.Reference.{eleven_from, reference}
use Rattle.pilots.specs.Tables.{in_set, reference_words}
use Rattle.pilots.proofs.Periods.{same_bools}

-- the next eleven bits
abbrev pub next_eleven : List Bool → List Bool
next_eleven xs = drop 1 xs ++ xor (bit xs 0) (bit xs 2) ∷ []

-- the words hold the first bits of n elevens
unfoldable pub holds : ℕ → ℕ → List Bool → Bool
holds zero k xs = true
holds (suc n) k xs = beq (in_set reference_words k) (bit xs 0) && holds n (k + 1) (next_eleven xs)

held : holds 2047 0 (eleven_from 0) ≡ true
unfolding holds eleven_from in_set reference_words
held = refl

comes_back : eleven_from 2047 ≡ eleven_from 0
unfolding eleven_from
comes_back = refl

holds-at : (n k : ℕ) → holds n k (eleven_from k) ≡ true → (i : ℕ) → i < n → in_set reference_words (k + i) ≡ reference (k + i)
unfolding holds eleven_from reference
holds-at zero k h i l = absurd (omega (arith, l))
holds-at (suc n) k h zero l = let here : k ≡ k + 0 = omega arith in subst (λ (z : ℕ). in_set reference_words z ≡ bit (eleven_from z) 0) here (same_bools _ _ (and_parts _ _ h).0)
holds-at (suc n) k h (suc i) l =
    let less : i < n = omega (arith, l) in
    let next : k + 1 + i ≡ k + suc i = omega arith in
    let one_on : k + 1 ≡ suc k = omega arith in
    let rest : holds n (k + 1) (eleven_from (k + 1)) ≡ true = subst (λ (z : ℕ). holds n (k + 1) (eleven_from z) ≡ true) (sym one_on) (and_parts _ _ h).1 in
    subst (λ (z : ℕ). in_set reference_words z ≡ bit (eleven_from z) 0) next (holds-at n (k + 1) rest i less)

again : (k : ℕ) → eleven_from (k + 2047) ≡ eleven_from k
unfolding eleven_from
again zero = let here : 0 + 2047 ≡ 2047 = omega arith in ap eleven_from here ∙ comes_back
again (suc k) = let on : suc k + 2047 ≡ suc (k + 2047) = omega arith in ap eleven_from on ∙ ap next_eleven (again k)

many_on : (b k : ℕ) → reference (b * 2047 + k) ≡ reference k
unfolding reference
many_on zero k = let none : 0 * 2047 + k ≡ k = omega arith in ap (λ (z : ℕ). bit (eleven_from z) 0) none
many_on (suc b) k = let one : suc b * 2047 + k ≡ b * 2047 + k + 2047 = omega arith in ap (λ (z : ℕ). bit (eleven_from z) 0) one ∙ ap (λ (xs : List Bool). bit xs 0) (again (b * 2047 + k)) ∙ many_on b k

-- the words hold the sequence, which repeats after 2047 bits
pub held_at : (k : ℕ) → in_set reference_words (k % 2047) ≡ reference k
held_at k =
    let here : 0 + k % 2047 ≡ k % 2047 = omega arith in
    let split : k / 2047 * 2047 + k % 2047 ≡ k = omega arith in
    subst (λ (z : ℕ). in_set reference_words z ≡ reference z) here (holds-at 2047 0 held (k % 2047) (omega arith))
    ∙ sym (many_on (k / 2047) (k % 2047)) ∙ ap reference split

moved : (xs : List Bool) (y : Bool) (i : ℕ) → suc i < length xs → bit (drop 1 xs ++ y ∷ []) i ≡ bit xs (suc i)
moved [] y i l = absurd (omega (arith, l))
moved (x ∷ xs) y i l = get_or-append xs (y ∷ []) false i (omega (arith, l))

last : (xs : List Bool) (y : Bool) (i : ℕ) → suc i ≡ length xs → bit (drop 1 xs ++ y ∷ []) i ≡ y
last [] y i e = absurd (omega (arith, e))
last (x ∷ xs) y i e = let here : i ≡ length xs = omega (arith, e) in ap (λ (z : ℕ). bit (xs ++ y ∷ []) z) here ∙ get_or-append_seam xs y [] false

longer : (xs : List Bool) (y : Bool) → length xs ≡ 11 → length (drop 1 xs ++ y ∷ []) ≡ 11
longer [] y e = absurd (omega (arith, e))
longer (x ∷ xs) y e = omega (arith, e, length-append xs (y ∷ []))

long : (k : ℕ) → length (eleven_from k) ≡ 11
unfolding eleven_from
long zero = refl
long (suc k) = longer (eleven_from k) (xor (bit (eleven_from k) 0) (bit (eleven_from k) 2)) (long k)

shifted : (k i : ℕ) → suc i < 11 → bit (eleven_from (suc k)) i ≡ bit (eleven_from k) (suc i)
unfolding eleven_from
shifted k i l = moved (eleven_from k) (xor (bit (eleven_from k) 0) (bit (eleven_from k) 2)) i (omega (arith, l, long k))

newest : (k : ℕ) → bit (eleven_from (suc k)) 10 ≡ xor (bit (eleven_from k) 0) (bit (eleven_from k) 2)
unfolding eleven_from
newest k = last (eleven_from k) (xor (bit (eleven_from k) 0) (bit (eleven_from k) 2)) 10 (omega (arith, long k))

-- bit i of the eleven from k on is w_(k+i)
within : (i k : ℕ) → i < 11 → reference (i + k) ≡ bit (eleven_from k) i
unfolding reference
within zero k l = let same : zero + k ≡ k = omega arith in ap (λ (z : ℕ). bit (eleven_from z) 0) same
within (suc i) k l =
    let next : suc i + k ≡ i + suc k = omega arith in
    ap reference next ∙ within i (suc k) (omega (arith, l)) ∙ shifted k i l

-- w_(k+11) is the sum of w_(k+2) and w_k
pub rule : (k : ℕ) → reference (11 + k) ≡ xor (reference (0 + k)) (reference (2 + k))
rule k =
    let one_on : 11 + k ≡ 10 + suc k = omega arith in
    let sum : reference (11 + k) ≡ xor (bit (eleven_from k) 0) (bit (eleven_from k) 2) = ap reference one_on ∙ within 10 (suc k) (omega arith) ∙ newest k in
    sum ∙ ap (λ (z : Bool). xor z (bit (eleven_from k) 2)) (sym (within 0 k (omega arith))) ∙ ap (xor (reference (0 + k))) (sym (within 2 k (omega arith)))

pub rule_on : (k : ℕ) → reference (k + 11) ≡ xor (reference k) (reference (k + 2))
rule_on k =
    let a : k + 11 ≡ 11 + k = omega arith in
    let b : 0 + k ≡ k = omega arith in
    let c : 2 + k ≡ k + 2 = omega arith in
    ap reference a ∙ rule k ∙ ap (λ (z : ℕ). xor (reference z) (reference (2 + k))) b ∙ ap (λ (z : ℕ). xor (reference k) (reference z)) c

-- it begins with eleven ones
pub begins_with_ones : (k : ℕ) → k < 11 → reference k ≡ true
unfolding eleven_from
begins_with_ones k l = let here : k ≡ k + 0 = omega arith in ap reference here ∙ within k 0 l ∙ get_or-replicate 11 k true false l
