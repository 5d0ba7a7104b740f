-- The lower one of each two lanes of 16 bits, and four vectors of sixteen sums.
use Rattle.std.proofs.Common.{◌≡◌, ℕ, ◌+◌, ◌<◌, ◌≤◌, min, Bool, true, false, cond, List, length, ◌⊎◌, inl, inr, sym, ap, ◌∙◌, arith, get_or, ltb, w16}
use Rattle.std.specs.Simd.Lanes.{zip2, sel_l}
use Rattle.std.proofs.lemmas.Simd.{tops_compared, get_or-zip2, get_or-sel_l, length-zip2, length-sel_l}
use Rattle.std.proofs.lemmas.Bool.{cases_Bool, ltb-true, ltb-false}
use Rattle.std.specs.Prelude.{slice_index}
use Rattle.acs_lanes.specs.Lanes16.{AreClose, AreLowered, joined}
use Rattle.acs_lanes.proofs.Sums16.{less}
use Rattle.acs_lanes.proofs.Quarters.{by_quarters, a_at, b_at, c_at, d_at}
use Rattle.bit_margin.specs.Sums.{IsLeastOf}

module _ (xs ys : List ℕ) (lx : length xs ≡ 16) (ly : length ys ≡ 16) where
  less_is : less xs ys ≡ zip2 ltb xs ys
  less_is = tops_compared w16 ltb xs ys

  less_len : length (less xs ys) ≡ 16
  less_len = ap length less_is ∙ length-zip2 ltb xs ys (lx ∙ sym ly) ∙ lx

  less_at : (k : ℕ) → k < 16 → get_or (less xs ys) k false ≡ ltb (get_or xs k 0) (get_or ys k 0)
  less_at k l = ap (λ z. get_or z k false) less_is ∙ get_or-zip2 ltb xs ys k 0 0 false (omega (arith, lx)) (omega (arith, ly))

  chosen : (x y : ℕ) → cond (ltb x y) x y ≡ min x y
  chosen x y = go (cases_Bool (ltb x y))
    where
      go : (ltb x y ≡ true) ⊎ (ltb x y ≡ false) → cond (ltb x y) x y ≡ min x y
      go (inl h) = ap (λ b. cond b x y) h ∙ omega (arith, ltb-true x y h)
      go (inr h) = ap (λ b. cond b x y) h ∙ omega (arith, ltb-false x y h)

  pub lesser_len : length (sel_l (less xs ys) xs ys) ≡ 16
  lesser_len = length-sel_l (less xs ys) xs ys (less_len ∙ sym lx) (less_len ∙ sym ly) ∙ less_len

  pub lesser_at : (k : ℕ) → k < 16 → get_or (sel_l (less xs ys) xs ys) k 0 ≡ min (get_or xs k 0) (get_or ys k 0)
  lesser_at k l =
      get_or-sel_l (less xs ys) xs ys k 0 (omega (arith, less_len)) (omega (arith, lx)) (omega (arith, ly)) ∙ ap (λ b. cond b (get_or xs k 0) (get_or ys k 0)) (less_at k l) ∙ chosen (get_or xs k 0) (get_or ys k 0)

-- the least lane of the lower ones of four vectors
module _ (sums a b c d p q m : List ℕ) (low : ℕ) (ha : (k : ℕ) → k < 16 → slice_index a k ≡ slice_index sums k) (hb : (k : ℕ) → k < 16 → slice_index b k ≡ slice_index sums (16 + k))
    (hc : (k : ℕ) → k < 16 → slice_index c k ≡ slice_index sums (32 + k)) (hd : (k : ℕ) → k < 16 → slice_index d k ≡ slice_index sums (48 + k))
    (hp : (k : ℕ) → k < 16 → slice_index p k ≡ min (slice_index a k) (slice_index b k)) (hq : (k : ℕ) → k < 16 → slice_index q k ≡ min (slice_index c k) (slice_index d k))
    (hm : (k : ℕ) → k < 16 → slice_index m k ≡ min (slice_index p k) (slice_index q k)) (h : IsLeastOf (slice_index m) 16 low) where
  pub least_below : (n : ℕ) → n < 64 → low ≤ slice_index sums n
  least_below =
      by_quarters (λ n. low ≤ slice_index sums n)
      (λ k l. omega (arith, h.least k l, hm k l, hp k l, ha k l)) (λ k l. omega (arith, h.least k l, hm k l, hp k l, hb k l))
      (λ k l. omega (arith, h.least k l, hm k l, hq k l, hc k l)) (λ k l. omega (arith, h.least k l, hm k l, hq k l, hd k l))

  pub least_close : AreClose sums → (n : ℕ) → n < 64 → slice_index sums n ≤ low + 49140
  least_close f n l =
      let i = h.place in
      let w = h.within in
      omega (arith, h.is, hm i w, hp i w, hq i w, ha i w, hb i w, hc i w, hd i w, f n i l (omega (arith, w)), f n (16 + i) l (omega (arith, w)), f n (32 + i) l (omega (arith, w)), f n (48 + i) l (omega (arith, w)))

-- four vectors, each sixteen of 64 sums less a number
module _ (low : ℕ) (old a b c d : List ℕ) (la : length a ≡ 16) (lb : length b ≡ 16) (lc : length c ≡ 16) (ld : length d ≡ 16) (ha : (k : ℕ) → k < 16 → slice_index a k + low ≡ slice_index old k)
    (hb : (k : ℕ) → k < 16 → slice_index b k + low ≡ slice_index old (16 + k)) (hc : (k : ℕ) → k < 16 → slice_index c k + low ≡ slice_index old (32 + k)) (hd : (k : ℕ) → k < 16 → slice_index d k + low ≡ slice_index old (48 + k)) where
  lowered_at : (n : ℕ) → n < 64 → slice_index (joined a b c d) n + low ≡ slice_index old n
  lowered_at =
      by_quarters (λ n. slice_index (joined a b c d) n + low ≡ slice_index old n)
      (λ k l. ap (λ z. z + low) (a_at a b c d la lb lc ld k l) ∙ ha k l) (λ k l. ap (λ z. z + low) (b_at a b c d la lb lc ld k l) ∙ hb k l)
      (λ k l. ap (λ z. z + low) (c_at a b c d la lb lc ld k l) ∙ hc k l) (λ k l. ap (λ z. z + low) (d_at a b c d la lb lc ld k l) ∙ hd k l)

  pub lowered_all : (new : List ℕ) → new ≡ joined a b c d → ((n : ℕ) → n < 64 → slice_index old n ≤ low + 49140) → AreLowered old new
  lowered_all new e f = record {
    less = low;
    is = λ n l. ap (λ z. slice_index z n + low) e ∙ lowered_at n l;
    few = λ n l. omega (arith, ap (λ z. slice_index z n) e, lowered_at n l, f n l);
  }

-- sums that are low enough
pub lowered_same : (old : List ℕ) → AreClose old → slice_index old 0 ≤ 8205 → AreLowered old old
lowered_same old f l = record { less = 0; is = λ n m. omega arith; few = λ n m. omega (arith, l, f n 0 m (omega arith)) }
