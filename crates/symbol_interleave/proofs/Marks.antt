-- H has each payload place once.
use Rattle.std.proofs.Common.{◌≡◌, ℕ, zero, suc, ◌-◌, ◌^◌, ◌<◌, ◌≤◌, List, [], ◌∷◌, length, get_or, refl, sym, ap, ◌∙◌, subst, arith, Bool, true, false, not, ◌&&◌, eqb, ◌⊎◌, inl, inr}
use Rattle.std.specs.Prelude.{slice_index, bit_or, ◌≢◌, nat_lt}
use Rattle.std.specs.Int.{bit_at}
use Rattle.std.specs.List.{position_or_len, list_all}
use Rattle.std.proofs.lemmas.Bool.{eqb-true, eq-eqb, and_parts, ltb-true, cases_eq, cases_lt}
use Rattle.std.proofs.lemmas.List.{get_or_default}
use Rattle.std.proofs.lemmas.List.Sums.{position_or_len_is}
use Rattle.std.proofs.lemmas.Nat.Bits.{bit_at_or, bit_at-pow_same, bit_at-pow_other, bit_at-lt, bit_at_ones, bit_at-zero}
use Rattle.spec_words.specs.Bits.{is_set}
use Rattle.symbol_interleave.specs.Carried.{h, words_from, AreTables, IsInverse, IsPermutationBelow, HIsAPermutation, PlacesAndWordsAgree}
use Rattle.mode_set.specs.StreamTable.{payload}
use Rattle.mode_set.specs.declared.modes.Mode.{Mode}
use Rattle.mode_set.specs.declared.modes.Mode.TheVariants.{M2k, M8k}

-- each element is marked in a number, as a bit that was not set before
unfoldable pub marks : List ℕ → ℕ → Bool
marks [] n = true
marks (x ∷ xs) n = not (is_set n x) && marks xs (bit_or n (2 ^ x))

-- the number with all elements marked
unfoldable pub marked : List ℕ → ℕ → ℕ
marked [] n = n
marked (x ∷ xs) n = marked xs (bit_or n (2 ^ x))

kept : (n y x : ℕ) → bit_at n x ≡ 1 → bit_at (bit_or n (2 ^ y)) x ≡ 1
kept n y x e = omega (arith, e, bit_at_or n (2 ^ y) x, bit_at-lt (2 ^ y) x)

set_here : (n x : ℕ) → bit_at (bit_or n (2 ^ x)) x ≡ 1
set_here n x = omega (arith, bit_at_or n (2 ^ x) x, bit_at-pow_same x, bit_at-lt n x)

unset : (n y x : ℕ) → bit_at n x ≡ 1 → not (is_set n y) ≡ true → y ≢ x
unset n y x e f same =
    let set : is_set n y ≡ true = eq-eqb (bit_at n y) 1 (ap (bit_at n) same ∙ e) in
    let both : not true ≡ true = subst (λ (b : Bool). not b ≡ true) set f in
    cc

not_again : (xs : List ℕ) (n x : ℕ) → bit_at n x ≡ 1 → marks xs n ≡ true → (k : ℕ) → k < length xs → slice_index xs k ≢ x
unfolding marks
not_again [] n x e m k l = absurd (omega (arith, l))
not_again (y ∷ ys) n x e m zero l = unset n y x e (and_parts (not (is_set n y)) (marks ys (bit_or n (2 ^ y))) m).0
not_again (y ∷ ys) n x e m (suc k) l = not_again ys (bit_or n (2 ^ y)) x (kept n y x e) (and_parts (not (is_set n y)) (marks ys (bit_or n (2 ^ y))) m).1 k (omega (arith, l))

differ : (xs : List ℕ) (n : ℕ) → marks xs n ≡ true → (i j : ℕ) → i < j → j < length xs → slice_index xs j ≢ slice_index xs i
unfolding marks
differ [] n m i j less l = absurd (omega (arith, l))
differ (y ∷ ys) n m i zero less l = absurd (omega (arith, less))
differ (y ∷ ys) n m zero (suc j) less l = not_again ys (bit_or n (2 ^ y)) y (set_here n y) (and_parts (not (is_set n y)) (marks ys (bit_or n (2 ^ y))) m).1 j (omega (arith, l))
differ (y ∷ ys) n m (suc i) (suc j) less l = differ ys (bit_or n (2 ^ y)) (and_parts (not (is_set n y)) (marks ys (bit_or n (2 ^ y))) m).1 i j (omega (arith, less)) (omega (arith, l))

-- a bit that is set in the end was set before, or is that of an element
from_mark : (xs : List ℕ) (n a : ℕ) → bit_at (marked xs n) a ≡ 1 → (bit_at n a ≡ 1) ⊎ ((i : ℕ) × (i < length xs) × (slice_index xs i ≡ a))
unfolding marked
from_mark [] n a e = inl e
from_mark (x ∷ xs) n a e = go (from_mark xs (bit_or n (2 ^ x)) a e) (cases_eq a x)
  where
    go : (bit_at (bit_or n (2 ^ x)) a ≡ 1) ⊎ ((i : ℕ) × (i < length xs) × (slice_index xs i ≡ a)) → (a ≡ x) ⊎ (a ≢ x) → (bit_at n a ≡ 1) ⊎ ((i : ℕ) × (i < length (x ∷ xs)) × (slice_index (x ∷ xs) i ≡ a))
    go s (inl same) = inr (0, omega arith, sym same)
    go (inl s) (inr other) = inl (omega (arith, s, bit_at_or n (2 ^ x) a, bit_at-pow_other x a other))
    go (inr s) (inr other) = inr (suc s.0, omega (arith, s.1), s.2)

once : (m : Mode) → marks (h m) 0 ≡ true
unfolding marks h words_from
once M2k = refl
once M8k = refl

all_marked : (m : Mode) → marked (h m) 0 ≡ 2 ^ payload m - 1
unfolding marked h words_from
all_marked M2k = refl
all_marked M8k = refl

many : (m : Mode) → length (h m) ≡ payload m
unfolding h words_from
many M2k = refl
many M8k = refl

all_low : (m : Mode) → list_all (λ a. nat_lt a (payload m)) (h m) ≡ true
unfolding h words_from
all_low M2k = refl
all_low M8k = refl

low_at : (n : ℕ) (xs : List ℕ) (i : ℕ) → list_all (λ a. nat_lt a n) xs ≡ true → i < length xs → slice_index xs i < n
low_at n [] i all l = absurd (omega (arith, l))
low_at n (x ∷ xs) zero all l = ltb-true x n (and_parts _ _ all).0
low_at n (x ∷ xs) (suc i) all l = low_at n xs i (and_parts _ _ all).1 (omega (arith, l))

pub h_is_a_permutation : HIsAPermutation
h_is_a_permutation m = record {
  long = many m;
  below = λ i l. low_at (payload m) (h m) i (all_low m) (omega (arith, many m, l));
  once = same;
  each = found;
}
  where
    same : (i j : ℕ) → i < payload m → j < payload m → slice_index (h m) i ≡ slice_index (h m) j → i ≡ j
    same i j li lj e = go (cases_lt i j) (cases_lt j i)
      where
        go : (i < j) ⊎ (j ≤ i) → (j < i) ⊎ (i ≤ j) → i ≡ j
        go (inl less) q = absurd (differ (h m) 0 (once m) i j less (omega (arith, many m, lj)) (sym e))
        go (inr p) (inl less) = absurd (differ (h m) 0 (once m) j i less (omega (arith, many m, li)) e)
        go (inr p) (inr q) = omega (arith, p, q)

    set : (a : ℕ) → a < payload m → bit_at (marked (h m) 0) a ≡ 1
    set a l = ap (λ (z : ℕ). bit_at z a) (all_marked m) ∙ bit_at_ones (payload m) a l

    found : (a : ℕ) → a < payload m → (i : ℕ) × (i < payload m) × (slice_index (h m) i ≡ a)
    found a l = go (from_mark (h m) 0 a (set a l))
      where
        go : (bit_at 0 a ≡ 1) ⊎ ((i : ℕ) × (i < length (h m)) × (slice_index (h m) i ≡ a)) → (i : ℕ) × (i < payload m) × (slice_index (h m) i ≡ a)
        go (inl z) = absurd (omega (arith, z, bit_at-zero a))
        go (inr s) = (s.0, omega (arith, s.1, many m), s.2)

differs : (a b : ℕ) → a ≢ b → eqb a b ≡ false
differs a b ne = from (eqb a b) refl
  where
    from : (c : Bool) → eqb a b ≡ c → c ≡ false
    from true e = absurd (ne (eqb-true a b e))
    from false e = refl

-- the search for the address of word w finds w
pub found_at : (m : Mode) (w : ℕ) → w < payload m → position_or_len (λ a. eqb a (slice_index (h m) w)) (h m) ≡ w
found_at m w low =
    let p : IsPermutationBelow (payload m) (h m) = h_is_a_permutation m in
    let size : length (h m) ≡ payload m = many m in
    position_or_len_is (λ a. eqb a (slice_index (h m) w)) (h m) w 0 (omega (arith, size, low))
    (λ k less. differs (slice_index (h m) k) (slice_index (h m) w) (λ e. let i : k ≡ w = p.once k w (omega (arith, less, low)) low e in omega (arith, i, less)))
    (λ _. eq-eqb (slice_index (h m) w) (slice_index (h m) w) refl)

-- and at the place that is found the address stands
pub stands_at_found : (m : Mode) (q : ℕ) → q < payload m → (position_or_len (λ a. eqb a q) (h m) < payload m) × (slice_index (h m) (position_or_len (λ a. eqb a q) (h m)) ≡ q)
stands_at_found m q low =
    let p : IsPermutationBelow (payload m) (h m) = h_is_a_permutation m in
    let s = p.each q low in
    let at : position_or_len (λ a. eqb a q) (h m) ≡ s.0 = subst (λ (z : ℕ). position_or_len (λ a. eqb a z) (h m) ≡ s.0) s.2 (found_at m s.0 s.1) in
    (omega (arith, at, s.1), ap (slice_index (h m)) at ∙ s.2)

pub places_and_words_agree : PlacesAndWordsAgree
places_and_words_agree m true n l = ((found_at m n l), (stands_at_found m n l).1)
places_and_words_agree m false n l = ((stands_at_found m n l).1, found_at m n l)

-- the inverse of H, at a payload place, is the word that is found there
pub inverse_at : (m : Mode) (ws : List ℕ) (q : ℕ) → IsInverse (h m) ws → q < payload m → slice_index ws q ≡ position_or_len (λ a. eqb a q) (h m)
inverse_at m ws q inverse low =
    let s = stands_at_found m q low in
    let w : ℕ = position_or_len (λ a. eqb a q) (h m) in
    let here : w < length (h m) = omega (arith, s.0, many m) in
    sym (ap (slice_index ws) s.1) ∙ inverse.back w here

-- what a look-up in the two tables gives
pub record IsWord (m : Mode) (q w : ℕ) : Type 0 where
  pub word : w ≡ position_or_len (λ a. eqb a q) (h m)
  pub low : w < payload m
  pub back : slice_index (h m) w ≡ q

pub record IsPlace (m : Mode) (w q : ℕ) : Type 0 where
  pub place : q ≡ slice_index (h m) w
  pub low : q < payload m
  pub back : position_or_len (λ a. eqb a q) (h m) ≡ w

pub places_long : (m : Mode) (ps ws : List ℕ) → AreTables m ps ws → length ps ≡ payload m
places_long m ps ws tables = ap (λ (zs : List ℕ). length zs) tables.is_h ∙ many m

pub words_long : (m : Mode) (ps ws : List ℕ) → AreTables m ps ws → length ws ≡ payload m
words_long m ps ws tables = tables.inverse.long ∙ many m

-- a read gives the element with itself as the default
pub word_is : (m : Mode) (ps ws : List ℕ) (q w : ℕ) → AreTables m ps ws → q < payload m → w ≡ get_or ws q w → IsWord m q w
word_is m ps ws q w tables low e =
    let s = stands_at_found m q low in
    let here : q < length ws = omega (arith, words_long m ps ws tables, low) in
    let word : w ≡ position_or_len (λ a. eqb a q) (h m) = e ∙ get_or_default ws q w 0 here ∙ inverse_at m ws q tables.inverse low in
    record { word = word; low = omega (arith, word, s.0); back = ap (slice_index (h m)) word ∙ s.1 }

pub place_is : (m : Mode) (ps ws : List ℕ) (w q : ℕ) → AreTables m ps ws → w < payload m → q ≡ get_or ps w q → IsPlace m w q
place_is m ps ws w q tables low e =
    let here : w < length ps = omega (arith, places_long m ps ws tables, low) in
    let place : q ≡ slice_index (h m) w = e ∙ get_or_default ps w q 0 here ∙ ap (λ (zs : List ℕ). slice_index zs w) tables.is_h in
    record {
      place = place;
      low = omega (arith, place, (h_is_a_permutation m).below w low);
      back = ap (λ (z : ℕ). position_or_len (λ a. eqb a z) (h m)) place ∙ found_at m w low;
    }

pub few : (m : Mode) → length (h m) < 65536
few m = go m (many m)
  where
    go : (m : Mode) → length (h m) ≡ payload m → length (h m) < 65536
    go M2k e = omega (arith, e)
    go M8k e = omega (arith, e)

pub permutes : (m : Mode) → IsPermutationBelow (length (h m)) (h m)
permutes m = subst (λ (n : ℕ). IsPermutationBelow n (h m)) (sym (many m)) (h_is_a_permutation m)
