-- Sums, the lesser of two, and the word of choices, lane by lane.
use Rattle.std.proofs.Common.{◌≡◌, ℕ, ◌+◌, ◌-◌, ◌*◌, ◌%◌, ◌^◌, ◌<◌, min, Bool, true, false, cond, List, map, length, get_or, ◌⊎◌, inl, inr, refl, sym, ap, ap₂, ◌∙◌, subst, arith, eqb, ltb, mod-eq_of_lt, w32, take, drop, ◌++◌, length-drop, take-append-drop, not, ◌&&◌, bit_and}
use Rattle.std.proofs.lemmas.Simd.{tops_compared, get_or-zip2, get_or-sel_l, length-zip2, length-sel_l, mask_l-mod, mask_l-lt, bit_mask_l}
use Rattle.std.specs.Simd.Lanes.{zip2, sel_l, mask_l, top}
use Rattle.std.proofs.lemmas.Bool.{cases_Bool, ltb-true, ltb-false, ne_eqb, eq-eqb, agree_below_at}
use Rattle.std.proofs.lemmas.Nat.{and_le_r}
use Rattle.std.specs.Int.{bit_not, w64}
use Rattle.code_paths.proofs.Words.{set_and, set_not}
use Rattle.std.proofs.lemmas.List.{take_all, get_or-take, get_or-drop}
use Rattle.spec_words.specs.Bits.{is_set}

ones16 : (k : ℕ) → k < 16 → is_set 65535 k ≡ true
ones16 k l = agree_below_at (λ k. is_set 65535 k) (λ k. true) 16 k refl l

abbrev pub sums : List ℕ → List ℕ → List ℕ
sums xs ys = zip2 (λ a b. (a + b) % 4294967296) xs ys

abbrev pub less : List ℕ → List ℕ → List Bool
less os es = map (top 31) (zip2 (λ a b. cond (ltb a b) 4294967295 0) os es)

less_is : (os es : List ℕ) → less os es ≡ zip2 ltb os es
less_is os es = tops_compared w32 ltb os es

module _ (e s o t : List ℕ) (le : length e ≡ 16) (ls : length s ≡ 16) (lo : length o ≡ 16) (lt : length t ≡ 16)
    (fe : (k : ℕ) → k < 16 → get_or e k 0 + get_or s k 0 < 2 ^ 32) (fo : (k : ℕ) → k < 16 → get_or o k 0 + get_or t k 0 < 2 ^ 32) where
  even_at : (k : ℕ) → k < 16 → get_or (sums e s) k 0 ≡ get_or e k 0 + get_or s k 0
  even_at k l = get_or-zip2 (λ a b. (a + b) % 4294967296) e s k 0 0 0 (omega (arith, le)) (omega (arith, ls)) ∙ mod-eq_of_lt (fe k l)

  odd_at : (k : ℕ) → k < 16 → get_or (sums o t) k 0 ≡ get_or o k 0 + get_or t k 0
  odd_at k l = get_or-zip2 (λ a b. (a + b) % 4294967296) o t k 0 0 0 (omega (arith, lo)) (omega (arith, lt)) ∙ mod-eq_of_lt (fo k l)

  even_len : length (sums e s) ≡ 16
  even_len = length-zip2 (λ a b. (a + b) % 4294967296) e s (le ∙ sym ls) ∙ le

  odd_len : length (sums o t) ≡ 16
  odd_len = length-zip2 (λ a b. (a + b) % 4294967296) o t (lo ∙ sym lt) ∙ lo

  less_len : length (less (sums o t) (sums e s)) ≡ 16
  less_len = ap length (less_is (sums o t) (sums e s)) ∙ length-zip2 ltb (sums o t) (sums e s) (odd_len ∙ sym even_len) ∙ odd_len

  less_at : (k : ℕ) → k < 16 → get_or (less (sums o t) (sums e s)) k false ≡ ltb (get_or o k 0 + get_or t k 0) (get_or e k 0 + get_or s k 0)
  less_at k l = ap (λ z. get_or z k false) (less_is (sums o t) (sums e s)) ∙ get_or-zip2 ltb (sums o t) (sums e s) k 0 0 false (omega (arith, odd_len)) (omega (arith, even_len)) ∙ ap₂ ltb (odd_at k l) (even_at k l)

  lesser : (x y : ℕ) → cond (ltb y x) y x ≡ min x y
  lesser x y = go (cases_Bool (ltb y x))
    where
      go : (ltb y x ≡ true) ⊎ (ltb y x ≡ false) → cond (ltb y x) y x ≡ min x y
      go (inl h) = ap (λ b. cond b y x) h ∙ omega (arith, ltb-true y x h)
      go (inr h) = ap (λ b. cond b y x) h ∙ omega (arith, ltb-false y x h)

  pub cost_at : (k : ℕ) → k < 16 → get_or (sel_l (less (sums o t) (sums e s)) (sums o t) (sums e s)) k 0 ≡ min (get_or e k 0 + get_or s k 0) (get_or o k 0 + get_or t k 0)
  cost_at k l =
      get_or-sel_l (less (sums o t) (sums e s)) (sums o t) (sums e s) k 0 (omega (arith, less_len)) (omega (arith, odd_len)) (omega (arith, even_len))
      ∙ ap (λ b. cond b (get_or (sums o t) k 0) (get_or (sums e s) k 0)) (less_at k l) ∙ ap₂ (λ x y. cond (ltb (get_or o k 0 + get_or t k 0) (get_or e k 0 + get_or s k 0)) x y) (odd_at k l) (even_at k l)
      ∙ lesser (get_or e k 0 + get_or s k 0) (get_or o k 0 + get_or t k 0)

  -- where the lesser one is the sum of the even lane
  abbrev pub evens : List Bool
  evens = map (top 31) (zip2 (λ a b. cond (eqb a b) 4294967295 0) (sel_l (less (sums o t) (sums e s)) (sums o t) (sums e s)) (sums e s))

  pub least_len : length (sel_l (less (sums o t) (sums e s)) (sums o t) (sums e s)) ≡ 16
  least_len = length-sel_l (less (sums o t) (sums e s)) (sums o t) (sums e s) (less_len ∙ sym odd_len) (less_len ∙ sym even_len) ∙ less_len

  evens_is : evens ≡ zip2 eqb (sel_l (less (sums o t) (sums e s)) (sums o t) (sums e s)) (sums e s)
  evens_is = tops_compared w32 eqb (sel_l (less (sums o t) (sums e s)) (sums o t) (sums e s)) (sums e s)

  evens_len : length evens ≡ 16
  evens_len = ap length evens_is ∙ length-zip2 eqb (sel_l (less (sums o t) (sums e s)) (sums o t) (sums e s)) (sums e s) (least_len ∙ sym even_len) ∙ least_len

  evens_at : (k : ℕ) → k < 16 → get_or evens k false ≡ eqb (min (get_or e k 0 + get_or s k 0) (get_or o k 0 + get_or t k 0)) (get_or e k 0 + get_or s k 0)
  evens_at k l = ap (λ z. get_or z k false) evens_is ∙ get_or-zip2 eqb (sel_l (less (sums o t) (sums e s)) (sums o t) (sums e s)) (sums e s) k 0 0 false (omega (arith, least_len)) (omega (arith, even_len)) ∙ ap₂ eqb (cost_at k l) (even_at k l)

  not_least : (x y : ℕ) → not (eqb (min x y) x) ≡ ltb y x
  not_least x y = go (cases_Bool (ltb y x))
    where
      go : (ltb y x ≡ true) ⊎ (ltb y x ≡ false) → not (eqb (min x y) x) ≡ ltb y x
      go (inl h) = ap not (ne_eqb (min x y) x (λ q. absurd (omega (arith, q, ltb-true y x h)))) ∙ sym h
      go (inr h) = ap not (eq-eqb (min x y) x (omega (arith, ltb-false y x h))) ∙ sym h

  whole : mask_l evens % 2 ^ 64 ≡ mask_l evens
  whole = mask_l-mod evens 64 (omega (arith, evens_len))

  one : (b : Bool) → eqb (cond b 1 0) 1 ≡ b
  one true = refl
  one false = refl

  small : mask_l evens < 2 ^ 16
  small = subst (λ n. mask_l evens < 2 ^ n) evens_len (mask_l-lt evens)

  and_one : (b : Bool) → (b && true) ≡ b
  and_one true = refl
  and_one false = refl

  pub choice_at : (k : ℕ) → k < 16 → is_set (bit_and (bit_not w64 (mask_l evens % 2 ^ 64)) 65535) k ≡ ltb (get_or o k 0 + get_or t k 0) (get_or e k 0 + get_or s k 0)
  choice_at k l =
      ap (λ m. is_set (bit_and (bit_not w64 m) 65535) k) whole ∙ set_and (bit_not w64 (mask_l evens)) 65535 k
      ∙ ap₂ (λ x y. x && y) (set_not (mask_l evens) k (omega (arith, small)) (omega arith)) (ones16 k l)
      ∙ and_one (not (is_set (mask_l evens) k))
      ∙ ap not (ap (λ z. eqb z 1) (bit_mask_l evens k) ∙ one (get_or evens k false) ∙ evens_at k l)
      ∙ not_least (get_or e k 0 + get_or s k 0) (get_or o k 0 + get_or t k 0)

pub choice_small : (m : ℕ) → bit_and m 65535 < 2 ^ 16
choice_small m = omega (arith, and_le_r m 65535)

-- two halves of a list

pub both_halves : (n : ℕ) (xs : List ℕ) → take n xs ++ take (length xs - n) (drop n xs) ≡ xs
both_halves n xs = ap (λ z. take n xs ++ z) (take_all (length xs - n) (drop n xs) (omega (arith, length-drop n xs))) ∙ take-append-drop n xs

pub first_part : (xs : List ℕ) (j : ℕ) → j < 32 → get_or (take 32 xs) j 0 ≡ get_or xs (2 * 0 + j) 0
first_part xs j l = let e : j ≡ 2 * 0 + j = omega arith in get_or-take 32 xs j 0 l ∙ ap (λ z. get_or xs z 0) e

pub last_part : (old : List ℕ) (j : ℕ) → j < 32 → get_or (take 32 (drop 32 old)) j 0 ≡ get_or old (2 * 16 + j) 0
last_part old j l = let e : 32 + j ≡ 2 * 16 + j = omega arith in get_or-take 32 (drop 32 old) j 0 l ∙ get_or-drop 32 old j 0 ∙ ap (λ z. get_or old z 0) e

pub same_part : (old mid : List ℕ) → ((k : ℕ) → k < 48 → get_or mid k 0 ≡ get_or old k 0) → (j : ℕ) → j < 32 → get_or (take 32 mid) j 0 ≡ get_or old (2 * 0 + j) 0
same_part old mid h j l = let e : j ≡ 2 * 0 + j = omega arith in get_or-take 32 mid j 0 l ∙ h j (omega arith) ∙ ap (λ z. get_or old z 0) e
