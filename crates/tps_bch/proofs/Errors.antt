-- Words that differ in few bits, and their syndromes.
use Rattle.std.proofs.Common.{◌≡◌, ℕ, zero, suc, ◌+◌, ◌<◌, ◌≤◌, List, [], ◌∷◌, ◌++◌, drop, length, get_or, refl, sym, ap, ◌∙◌, inl, inr, arith, Bool, true, false, not, cond, set}
use Rattle.std.specs.Prelude.{bit_xor, slice_index, ◌≢◌, nat_lt}
use Rattle.std.specs.List.{list_all}
use Rattle.std.specs.Int.Bits.{xor_self, xor_zero_r, xor_assoc}
use Rattle.std.proofs.Math.ListN.{get_or-append}
use Rattle.std.proofs.Math.Seq.{drop-cons}
use Rattle.std.proofs.lemmas.Bool.{cases_lt}
use Rattle.spec_words.specs.Bits.{bit, xor}
use Rattle.tps_bch.specs.Bch.{xor_bits, IsTpsWord, IsCorrected, IsFar, AreApart, bit_distance}
use Rattle.tps_bch.specs.Syndromes.{syndromes, syndrome_by, syndrome_at}
use Rattle.tps_bch.proofs.Division.{both}
use Rattle.tps_bch.proofs.Apart.{marks, all_marks, pair_sums, same_sums, no_zero_sum, small_at}
use Rattle.tps_bch.proofs.Rests.{linear, of_word, size, xor_zero, xor_left}

-- the positions of the set bits, from k on
pub places : ℕ → List Bool → List ℕ
places k [] = []
places k (true ∷ e) = k ∷ places (suc k) e
places k (false ∷ e) = places (suc k) e

abbrev pub sum_at : List ℕ → ℕ
sum_at [] = 0
sum_at (i ∷ is) = bit_xor (syndrome_at i) (sum_at is)

abbrev pub Rises : ℕ → List ℕ → Type 0
Rises k [] = Unit {0}
Rises k (x ∷ xs) = (k ≤ x) × (x < 67) × Rises (suc x) xs

sum_of_places : (k : ℕ) (e : List Bool) → k + length e ≤ 67 → syndrome_by (drop k syndromes) e ≡ sum_at (places k e)
unfolding places
sum_of_places k [] l = no_bits (drop k syndromes)
  where
    no_bits : (ss : List ℕ) → syndrome_by ss [] ≡ 0
    no_bits [] = refl
    no_bits (s ∷ ss) = refl
sum_of_places k (true ∷ e) l =
    ap (λ (ss : List ℕ). syndrome_by ss (true ∷ e)) (drop-cons syndromes k 0 (omega (arith, l, size))) ∙ ap (bit_xor (syndrome_at k)) (sum_of_places (suc k) e (omega (arith, l)))
sum_of_places k (false ∷ e) l = ap (λ (ss : List ℕ). syndrome_by ss (false ∷ e)) (drop-cons syndromes k 0 (omega (arith, l, size))) ∙ sum_of_places (suc k) e (omega (arith, l))

later : (k : ℕ) (xs : List ℕ) → Rises (suc k) xs → Rises k xs
later k [] r = r
later k (x ∷ xs) r = (omega (arith, r.0), r.1, r.2)

rising : (k : ℕ) (e : List Bool) → k + length e ≤ 67 → Rises k (places k e)
unfolding places
rising k [] l = tt
rising k (true ∷ e) l = (omega arith, omega (arith, l), rising (suc k) e (omega (arith, l)))
rising k (false ∷ e) l = later k (places (suc k) e) (rising (suc k) e (omega (arith, l)))

distance_is : (k : ℕ) (v w : List Bool) → length v ≡ length w → length (places k (xor_bits v w)) ≡ bit_distance v w
unfolding places
distance_is k [] [] e = refl
distance_is k [] (b ∷ w) e = absurd (omega (arith, e))
distance_is k (a ∷ v) [] e = absurd (omega (arith, e))
distance_is k (true ∷ v) (true ∷ w) e = omega (arith, distance_is (suc k) v w (omega (arith, e)))
distance_is k (true ∷ v) (false ∷ w) e = omega (arith, distance_is (suc k) v w (omega (arith, e)))
distance_is k (false ∷ v) (true ∷ w) e = omega (arith, distance_is (suc k) v w (omega (arith, e)))
distance_is k (false ∷ v) (false ∷ w) e = omega (arith, distance_is (suc k) v w (omega (arith, e)))

length-sum : (v w : List Bool) → length v ≡ length w → length (xor_bits v w) ≡ length v
length-sum [] [] e = refl
length-sum [] (b ∷ w) e = absurd (omega (arith, e))
length-sum (a ∷ v) [] e = refl
length-sum (a ∷ v) (b ∷ w) e = omega (arith, length-sum v w (omega (arith, e)))

-- the syndromes, followed by 0
unfoldable with_zero : List ℕ
with_zero = syndromes ++ 0 ∷ []

all_differ : all_marks (pair_sums with_zero) 16 ≡ true
unfolding all_marks marks pair_sums with_zero syndromes
all_differ = refl

all_small : list_all (λ x. nat_lt x 16384) (pair_sums with_zero) ≡ true
unfolding pair_sums with_zero syndromes
all_small = refl

length-with_zero : length with_zero ≡ 68
unfolding with_zero syndromes
length-with_zero = refl

at : (i : ℕ) → i < 67 → slice_index with_zero i ≡ syndrome_at i
unfolding with_zero
at i l = get_or-append syndromes (0 ∷ []) 0 i (omega (arith, l, size))

at_end : slice_index with_zero 67 ≡ 0
unfolding with_zero syndromes
at_end = refl

-- the sums of the syndromes at one or two positions, as sums of two elements of that list
two_sums : (a b c d x y z u : ℕ) → a < b → b < 68 → c < d → d < 68 → slice_index with_zero a ≡ x → slice_index with_zero b ≡ y → slice_index with_zero c ≡ z → slice_index with_zero d ≡ u → bit_xor x y ≡ bit_xor z u → a ≡ c
two_sums a b c d x y z u ab bl cd dl ex ey ez eu e =
    let left : bit_xor (slice_index with_zero a) (slice_index with_zero b) ≡ bit_xor x y = ap (λ (k : ℕ). bit_xor k (slice_index with_zero b)) ex ∙ ap (bit_xor x) ey in
    let right : bit_xor (slice_index with_zero c) (slice_index with_zero d) ≡ bit_xor z u = ap (λ (k : ℕ). bit_xor k (slice_index with_zero d)) ez ∙ ap (bit_xor z) eu in
    (same_sums with_zero (small_at (pair_sums with_zero) all_small) all_differ a b c d ab (omega (arith, bl, length-with_zero)) cd (omega (arith, dl, length-with_zero)) (left ∙ e ∙ sym right)).0

no_sum : (a b x y : ℕ) → a < b → b < 68 → slice_index with_zero a ≡ x → slice_index with_zero b ≡ y → bit_xor x y ≡ 0 → ⊥
no_sum a b x y ab bl ex ey e =
    let left : bit_xor (slice_index with_zero a) (slice_index with_zero b) ≡ bit_xor x y = ap (λ (k : ℕ). bit_xor k (slice_index with_zero b)) ex ∙ ap (bit_xor x) ey in
    no_zero_sum with_zero all_differ a b ab (omega (arith, bl, length-with_zero)) (left ∙ e)

-- one to four errors have a nonzero syndrome
some_syndrome : (xs : List ℕ) → Rises 0 xs → length xs ≤ 4 → sum_at xs ≡ 0 → length xs ≡ 0
some_syndrome [] r l e = refl
some_syndrome (a ∷ []) r l e = absurd (no_sum a 67 (syndrome_at a) 0 r.1 (omega arith) (at a r.1) at_end e)
some_syndrome (a ∷ b ∷ []) r l e = absurd (no_sum a b (syndrome_at a) (syndrome_at b) r.2.0 (omega (arith, r.2.1)) (at a r.1) (at b r.2.1) (ap (bit_xor (syndrome_at a)) (sym (xor_zero_r (syndrome_at b))) ∙ e))
some_syndrome (a ∷ b ∷ c ∷ []) r l e =
    let split : bit_xor (bit_xor (syndrome_at a) (syndrome_at b)) (bit_xor (syndrome_at c) 0) ≡ 0 = xor_assoc (syndrome_at a) (syndrome_at b) (bit_xor (syndrome_at c) 0) ∙ e in
    let same : a ≡ c = two_sums a b c 67 (syndrome_at a) (syndrome_at b) (syndrome_at c) 0 r.2.0 (omega (arith, r.2.1)) r.2.2.1 (omega arith) (at a r.1) (at b r.2.1) (at c r.2.2.1) at_end (xor_zero _ _ split) in
    absurd (omega (arith, same, r.2.0, r.2.2.0))
some_syndrome (a ∷ b ∷ c ∷ d ∷ []) r l e =
    let last : bit_xor (syndrome_at d) 0 ≡ syndrome_at d = xor_zero_r (syndrome_at d) in
    let split : bit_xor (bit_xor (syndrome_at a) (syndrome_at b)) (bit_xor (syndrome_at c) (syndrome_at d)) ≡ 0 =
    ap (λ (k : ℕ). bit_xor (bit_xor (syndrome_at a) (syndrome_at b)) (bit_xor (syndrome_at c) k)) (sym last) ∙ xor_assoc (syndrome_at a) (syndrome_at b) (bit_xor (syndrome_at c) (bit_xor (syndrome_at d) 0)) ∙ e in
    let same : a ≡ c = two_sums a b c d (syndrome_at a) (syndrome_at b) (syndrome_at c) (syndrome_at d) r.2.0 (omega (arith, r.2.1)) r.2.2.2.0 (omega (arith, r.2.2.2.1)) (at a r.1) (at b r.2.1) (at c r.2.2.1) (at d r.2.2.2.1) (xor_zero _ _ split) in
    absurd (omega (arith, same, r.2.0, r.2.2.0))
some_syndrome (a ∷ b ∷ c ∷ d ∷ f ∷ xs) r l e = absurd (omega (arith, l))

same_words : (v w : List Bool) → length v ≡ length w → bit_distance v w ≡ 0 → v ≡ w
same_words [] [] e d = refl
same_words [] (b ∷ w) e d = absurd (omega (arith, e))
same_words (a ∷ v) [] e d = absurd (omega (arith, e))
same_words (true ∷ v) (true ∷ w) e d = both refl (same_words v w (omega (arith, e)) (omega (arith, d)))
same_words (true ∷ v) (false ∷ w) e d = absurd (omega (arith, d))
same_words (false ∷ v) (true ∷ w) e d = absurd (omega (arith, d))
same_words (false ∷ v) (false ∷ w) e d = both refl (same_words v w (omega (arith, e)) (omega (arith, d)))

-- the errors between two lists of 67 bits
between : (v w : List Bool) → length v ≡ 67 → length w ≡ 67 → bit_xor (syndrome_by syndromes v) (syndrome_by syndromes w) ≡ sum_at (places 0 (xor_bits v w))
between v w lv lw = sym (linear syndromes v w) ∙ sum_of_places 0 (xor_bits v w) (omega (arith, lv, length-sum v w (omega (arith, lv, lw))))

rise : (v w : List Bool) → length v ≡ 67 → length w ≡ 67 → Rises 0 (places 0 (xor_bits v w))
rise v w lv lw = rising 0 (xor_bits v w) (omega (arith, lv, length-sum v w (omega (arith, lv, lw))))

-- two words of the code within distance 4 are equal
pub one_word : (v w : List Bool) → IsTpsWord v → IsTpsWord w → bit_distance v w ≤ 4 → v ≡ w
one_word v w hv hw close =
    let size : length v ≡ length w = omega (arith, hv.long, hw.long) in
    let far : length (places 0 (xor_bits v w)) ≡ bit_distance v w = distance_is 0 v w size in
    let none : sum_at (places 0 (xor_bits v w)) ≡ 0 = sym (between v w hv.long hw.long) ∙ ap (λ (k : ℕ). bit_xor k (syndrome_by syndromes w)) (of_word v hv) ∙ of_word w hw in
    same_words v w size (sym far ∙ some_syndrome (places 0 (xor_bits v w)) (rise v w hv.long hw.long) (omega (arith, far, close)) none)

pub are_apart : AreApart
are_apart v w hv hw differ = elim (cases_lt (bit_distance v w) 5) [ inl close ↦ absurd (differ (one_word v w hv hw (omega arith))) | inr far ↦ far ]

triangle : (v w u : List Bool) → length v ≡ length w → length w ≡ length u → bit_distance v u ≤ bit_distance w v + bit_distance w u
triangle [] w u e f = omega arith
triangle (a ∷ v) [] u e f = absurd (omega (arith, e))
triangle (a ∷ v) (b ∷ w) [] e f = absurd (omega (arith, f))
triangle (a ∷ v) (b ∷ w) (c ∷ u) e f = omega (arith, here a b c, triangle v w u (omega (arith, e)) (omega (arith, f)))
  where
    here : (a b c : Bool) → cond (xor a c) 1 0 ≤ cond (xor b a) 1 0 + cond (xor b c) 1 0
    here true true true = omega arith
    here true true false = omega arith
    here true false true = omega arith
    here true false false = omega arith
    here false true true = omega arith
    here false true false = omega arith
    here false false true = omega arith
    here false false false = omega arith

-- a corrected word is the only one within distance 2
pub nearest : (old new : List Bool) (n : ℕ) → length old ≡ 67 → IsCorrected old new n → (w : List Bool) → IsTpsWord w → bit_distance old w ≤ 2 → new ≡ w
nearest old new n e h w is close =
    one_word new w h.is_word is (omega (arith, triangle new old w (omega (arith, e, h.is_word.long)) (omega (arith, e, is.long)), h.distance, h.near, close))

-- no word of the code is within distance 2 if no errors at so few positions have the syndrome
pub far : (bits : List Bool) → length bits ≡ 67 → syndrome_by syndromes bits ≢ 0 → ((i : ℕ) → i < 67 → syndrome_at i ≢ syndrome_by syndromes bits)
    → ((i j : ℕ) → i < 67 → j < 67 → bit_xor (syndrome_at i) (syndrome_at j) ≢ syndrome_by syndromes bits) → IsFar bits
far bits e none one two w is = elim (cases_lt 2 (bit_distance bits w)) [ inl more ↦ more | inr close ↦ absurd (few (places 0 (xor_bits bits w)) (rise bits w e is.long) (omega (arith, close, distance_is 0 bits w (omega (arith, e, is.long)))) sum) ]
  where
    sum : sum_at (places 0 (xor_bits bits w)) ≡ syndrome_by syndromes bits
    sum = sym (between bits w e is.long) ∙ ap (bit_xor (syndrome_by syndromes bits)) (of_word w is) ∙ xor_zero_r (syndrome_by syndromes bits)

    few : (xs : List ℕ) → Rises 0 xs → length xs ≤ 2 → sum_at xs ≡ syndrome_by syndromes bits → ⊥
    few [] r l s = none (sym s)
    few (a ∷ []) r l s = one a r.1 (sym (xor_zero_r (syndrome_at a)) ∙ s)
    few (a ∷ b ∷ []) r l s = two a b r.1 r.2.1 (ap (bit_xor (syndrome_at a)) (sym (xor_zero_r (syndrome_at b))) ∙ s)
    few (a ∷ b ∷ c ∷ xs) r l s = absurd (omega (arith, l))

-- one more bit that differs
abbrev pub flipped : List Bool → ℕ → List Bool
flipped w i = set w i (not (bit w i))

pub flipped_syndrome : (ss : List ℕ) (w : List Bool) (i : ℕ) → i < length w → i < length ss → syndrome_by ss (flipped w i) ≡ bit_xor (get_or ss i 0) (syndrome_by ss w)
flipped_syndrome ss [] i l m = absurd (omega (arith, l))
flipped_syndrome [] (a ∷ w) i l m = absurd (omega (arith, m))
flipped_syndrome (s ∷ ss) (true ∷ w) zero l m = sym (sym (xor_assoc s s (syndrome_by ss w)) ∙ ap (λ (k : ℕ). bit_xor k (syndrome_by ss w)) (xor_self s))
flipped_syndrome (s ∷ ss) (false ∷ w) zero l m = refl
flipped_syndrome (s ∷ ss) (true ∷ w) (suc i) l m = ap (bit_xor s) (flipped_syndrome ss w i (omega (arith, l)) (omega (arith, m))) ∙ xor_left s (get_or ss i 0) (syndrome_by ss w)
flipped_syndrome (s ∷ ss) (false ∷ w) (suc i) l m = flipped_syndrome ss w i (omega (arith, l)) (omega (arith, m))

pub flipped_distance : (v w : List Bool) (i : ℕ) → length v ≡ length w → i < length w → bit v i ≡ bit w i → bit_distance v (flipped w i) ≡ suc (bit_distance v w)
flipped_distance [] [] i e l same = absurd (omega (arith, l))
flipped_distance [] (b ∷ w) i e l same = absurd (omega (arith, e))
flipped_distance (a ∷ v) [] i e l same = absurd (omega (arith, e))
flipped_distance (a ∷ v) (b ∷ w) zero e l same = omega (arith, here a b same)
  where
    here : (a b : Bool) → a ≡ b → cond (xor a (not b)) 1 0 ≡ suc (cond (xor a b) 1 0)
    here true true s = refl
    here true false s = cc
    here false true s = cc
    here false false s = refl
flipped_distance (a ∷ v) (b ∷ w) (suc i) e l same = omega (arith, flipped_distance v w i (omega (arith, e)) (omega (arith, l)) same)

pub no_distance : (w : List Bool) → bit_distance w w ≡ 0
no_distance [] = refl
no_distance (true ∷ w) = omega (arith, no_distance w)
no_distance (false ∷ w) = omega (arith, no_distance w)
