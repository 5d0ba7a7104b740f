-- Sums and minima of two, lane by lane, and the least of 32 numbers in sixteen lanes.
use Rattle.std.proofs.Common.{◌≡◌, ℕ, ◌+◌, ◌-◌, ◌%◌, ◌^◌, ◌<◌, ◌≤◌, min, Bool, true, false, cond, List, map, length, take, drop, ◌⊎◌, inl, inr, sym, ap, ap₂, ◌∙◌, arith, get_or, ltb, length-take-le, mod-eq_of_lt, w32}
use Rattle.std.specs.Simd.Lanes.{zip2, sel_l, top}
use Rattle.std.proofs.lemmas.Simd.{tops_compared, get_or-zip2, get_or-sel_l, length-zip2, length-sel_l}
use Rattle.std.proofs.lemmas.Bool.{cases_Bool, cases_lt, ltb-true, ltb-false}
use Rattle.std.proofs.lemmas.List.{get_or-take, get_or-drop}
use Rattle.std.specs.Prelude.{slice_index}
use Rattle.bit_margin.specs.Sums.{IsLeastOf}

abbrev pub sums : List ℕ → List ℕ → List ℕ
sums xs ys = zip2 (λ a b. (a + b) % 4294967296) xs ys

module _ (xs ys : List ℕ) (lx : length xs ≡ 16) (ly : length ys ≡ 16) where
  front : length (take 16 xs) ≡ 16
  front = length-take-le 16 xs (omega (arith, lx))

  front_too : length (take 16 ys) ≡ 16
  front_too = length-take-le 16 ys (omega (arith, ly))

  pub both_len : length (sums (take 16 xs) (take 16 ys)) ≡ 16
  both_len = length-zip2 (λ a b. (a + b) % 4294967296) (take 16 xs) (take 16 ys) (front ∙ sym front_too) ∙ front

  pub both_at : ((k : ℕ) → k < 16 → slice_index xs k ≤ 2 ^ 31) → ((k : ℕ) → k < 16 → slice_index ys k ≤ 2 ^ 30) → (k : ℕ) → k < 16 → get_or (sums (take 16 xs) (take 16 ys)) k 0 ≡ get_or xs k 0 + get_or ys k 0
  both_at f g k l =
      let h : get_or xs k 0 + get_or ys k 0 < 4294967296 = omega (arith, f k l, g k l) in
      get_or-zip2 (λ a b. (a + b) % 4294967296) (take 16 xs) (take 16 ys) k 0 0 0 (omega (arith, front)) (omega (arith, front_too)) ∙ ap₂ (λ a b. (a + b) % 4294967296) (get_or-take 16 xs k 0 l) (get_or-take 16 ys k 0 l) ∙ mod-eq_of_lt h

  -- where the lanes of one are the lower ones
  abbrev pub less : List Bool
  less = map (top 31) (zip2 (λ a b. cond (ltb a b) 4294967295 0) xs ys)

  less_is : less ≡ zip2 ltb xs ys
  less_is = tops_compared w32 ltb xs ys

  less_len : length less ≡ 16
  less_len = ap length less_is ∙ length-zip2 ltb xs ys (lx ∙ sym ly) ∙ lx

  less_at : (k : ℕ) → k < 16 → get_or less k false ≡ ltb (get_or xs k 0) (get_or ys k 0)
  less_at k l = ap (λ z. get_or z k false) less_is ∙ get_or-zip2 ltb xs ys k 0 0 false (omega (arith, lx)) (omega (arith, ly))

  chosen : (x y : ℕ) → cond (ltb x y) x y ≡ min x y
  chosen x y = go (cases_Bool (ltb x y))
    where
      go : (ltb x y ≡ true) ⊎ (ltb x y ≡ false) → cond (ltb x y) x y ≡ min x y
      go (inl h) = ap (λ b. cond b x y) h ∙ omega (arith, ltb-true x y h)
      go (inr h) = ap (λ b. cond b x y) h ∙ omega (arith, ltb-false x y h)

  pub lesser_len : length (sel_l less xs ys) ≡ 16
  lesser_len = length-sel_l less xs ys (less_len ∙ sym lx) (less_len ∙ sym ly) ∙ less_len

  pub lesser_at : (k : ℕ) → k < 16 → get_or (sel_l less xs ys) k 0 ≡ min (get_or xs k 0) (get_or ys k 0)
  lesser_at k l =
      get_or-sel_l less xs ys k 0 (omega (arith, less_len)) (omega (arith, lx)) (omega (arith, ly)) ∙ ap (λ b. cond b (get_or xs k 0) (get_or ys k 0)) (less_at k l) ∙ chosen (get_or xs k 0) (get_or ys k 0)

-- the least of sixteen numbers, each the lower of two, is the least of 32
pub least_of_both : (f : ℕ → ℕ) (first last lanes : List ℕ) (m : ℕ) → ((k : ℕ) → k < 16 → slice_index first k ≡ f k) → ((k : ℕ) → k < 16 → slice_index last k ≡ f (16 + k)) → ((k : ℕ) → k < 16 → slice_index lanes k ≡ min (slice_index first k) (slice_index last k))
    → IsLeastOf (slice_index lanes) 16 m → IsLeastOf f 32 m
least_of_both f first last lanes m p q r h = go (cases_lt (f h.place) (f (16 + h.place)))
  where
    is : m ≡ min (f h.place) (f (16 + h.place))
    is = omega (arith, h.is, r h.place h.within, p h.place h.within, q h.place h.within)

    below : (k : ℕ) → k < 16 → m ≤ min (f k) (f (16 + k))
    below k l = omega (arith, h.least k l, r k l, p k l, q k l)

    least : (k : ℕ) → k < 32 → m ≤ f k
    least k l = at (cases_lt k 16)
      where
        at : (k < 16) ⊎ (16 ≤ k) → m ≤ f k
        at (inl a) = omega (arith, below k a)
        at (inr a) = let e : 16 + (k - 16) ≡ k = omega arith in omega (arith, below (k - 16) (omega arith), ap f e)

    go : (f h.place < f (16 + h.place)) ⊎ (f (16 + h.place) ≤ f h.place) → IsLeastOf f 32 m
    go (inl a) = record { place = h.place; within = omega (arith, h.within); is = omega (arith, is); least = least }
    go (inr a) = record { place = 16 + h.place; within = omega (arith, h.within); is = omega (arith, is); least = least }

-- a part of a list
pub front_at : (n : ℕ) (xs : List ℕ) (k : ℕ) → k < n → slice_index (take n xs) k ≡ slice_index xs k
front_at n xs k l = get_or-take n xs k 0 l

pub part_at : (n i : ℕ) (xs : List ℕ) (k : ℕ) → k < n → slice_index (take n (drop i xs)) k ≡ slice_index xs (i + k)
part_at n i xs k l = get_or-take n (drop i xs) k 0 l ∙ get_or-drop i xs k 0

pub rest_at : (i : ℕ) (xs : List ℕ) (k : ℕ) → i + k < length xs → slice_index (take (length xs - i) (drop i xs)) k ≡ slice_index xs (i + k)
rest_at i xs k l = get_or-take (length xs - i) (drop i xs) k 0 (omega arith) ∙ get_or-drop i xs k 0

-- the same function written differently
pub least_same : (f g : ℕ → ℕ) (n m : ℕ) → ((k : ℕ) → k < n → f k ≡ g k) → IsLeastOf f n m → IsLeastOf g n m
least_same f g n m e h = record { place = h.place; within = h.within; is = sym (e h.place h.within) ∙ h.is; least = λ k l. omega (arith, h.least k l, e k l) }
