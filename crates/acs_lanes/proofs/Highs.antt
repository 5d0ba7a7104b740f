-- The higher of two lanes, lanes that reach a number, and lanes less a number.
use Rattle.std.proofs.Common.{◌≡◌, ℕ, zero, suc, ◌+◌, ◌-◌, ◌%◌, ◌^◌, ◌<◌, ◌≤◌, Bool, true, false, cond, not, List, [], ◌∷◌, map, length, get_or, replicate, ◌⊎◌, inl, inr, refl, sym, ap, ◌∙◌, arith, eqb, ltb, leb, true≢false, w16}
use Rattle.std.proofs.lemmas.Simd.{tops_compared, get_or-zip2, get_or-sel_l, length-zip2, length-sel_l, mask_l-mod}
use Rattle.std.proofs.lemmas.List.{get_or-replicate}
use Rattle.std.proofs.lemmas.Bool.{cases_Bool, ltb-true, ltb-false, leb-false, eqb-true}
use Rattle.std.specs.Simd.Lanes.{zip2, sel_l, mask_l, top}
use Rattle.std.specs.Prelude.{slice_index, max, min, IsFalse, IsTrue}
use Rattle.acs_lanes.specs.Lanes16.{AreClose, AreLanes, AreLowered, AreRoomy, joined}
use Rattle.acs_lanes.proofs.Sums16.{less}
use Rattle.acs_lanes.proofs.Quarters.{a_at, b_at, c_at, d_at, both_lanes}

-- ---- the higher one

abbrev higher : List ℕ → List ℕ → List ℕ
higher xs ys = sel_l (less xs ys) ys xs

module _ (xs ys : List ℕ) (lx : length xs ≡ 16) (ly : length ys ≡ 16) where
  less_is : less xs ys ≡ zip2 ltb xs ys
  less_is = tops_compared w16 ltb xs ys

  less_len : length (less xs ys) ≡ 16
  less_len = ap length less_is ∙ length-zip2 ltb xs ys (lx ∙ sym ly) ∙ lx

  pub higher_len : length (higher xs ys) ≡ 16
  higher_len = length-sel_l (less xs ys) ys xs (less_len ∙ sym ly) (less_len ∙ sym lx) ∙ less_len

  higher_of : (x y : ℕ) → cond (ltb x y) y x ≡ max x y
  higher_of x y = go (cases_Bool (ltb x y))
    where
      go : (ltb x y ≡ true) ⊎ (ltb x y ≡ false) → cond (ltb x y) y x ≡ max x y
      go (inl h) = ap (λ b. cond b y x) h ∙ omega (arith, ltb-true x y h)
      go (inr h) = ap (λ b. cond b y x) h ∙ omega (arith, ltb-false x y h)

  pub higher_at : (k : ℕ) → k < 16 → get_or (higher xs ys) k 0 ≡ max (get_or xs k 0) (get_or ys k 0)
  higher_at k l =
      get_or-sel_l (less xs ys) ys xs k 0 (omega (arith, less_len)) (omega (arith, ly)) (omega (arith, lx))
      ∙ ap (λ b. cond b (get_or ys k 0) (get_or xs k 0)) (ap (λ z. get_or z k false) less_is ∙ get_or-zip2 ltb xs ys k 0 0 false (omega (arith, lx)) (omega (arith, ly)))
      ∙ higher_of (get_or xs k 0) (get_or ys k 0)

-- ---- the lower one

abbrev lowest : List ℕ → List ℕ → List ℕ
lowest xs ys = sel_l (less xs ys) xs ys

module _ (xs ys : List ℕ) (lx : length xs ≡ 16) (ly : length ys ≡ 16) where
  pub lowest_len : length (lowest xs ys) ≡ 16
  lowest_len = length-sel_l (less xs ys) xs ys (less_len xs ys lx ly ∙ sym lx) (less_len xs ys lx ly ∙ sym ly) ∙ less_len xs ys lx ly

  lowest_of : (x y : ℕ) → cond (ltb x y) x y ≡ min x y
  lowest_of x y = go (cases_Bool (ltb x y))
    where
      go : (ltb x y ≡ true) ⊎ (ltb x y ≡ false) → cond (ltb x y) x y ≡ min x y
      go (inl h) = ap (λ b. cond b x y) h ∙ omega (arith, ltb-true x y h)
      go (inr h) = ap (λ b. cond b x y) h ∙ omega (arith, ltb-false x y h)

  pub lowest_at : (k : ℕ) → k < 16 → get_or (lowest xs ys) k 0 ≡ min (get_or xs k 0) (get_or ys k 0)
  lowest_at k l =
      get_or-sel_l (less xs ys) xs ys k 0 (omega (arith, less_len xs ys lx ly)) (omega (arith, lx)) (omega (arith, ly))
      ∙ ap (λ b. cond b (get_or xs k 0) (get_or ys k 0)) (ap (λ z. get_or z k false) (less_is xs ys lx ly) ∙ get_or-zip2 ltb xs ys k 0 0 false (omega (arith, lx)) (omega (arith, ly)))
      ∙ lowest_of (get_or xs k 0) (get_or ys k 0)

-- ---- a lane that reaches a number

none_set : (bs : List Bool) → mask_l bs ≡ 0 → (k : ℕ) → get_or bs k false ≡ false
none_set [] h k = refl
none_set (true ∷ bs) h k = absurd (omega (arith, h))
none_set (false ∷ bs) h zero = refl
none_set (false ∷ bs) h (suc k) = none_set bs (omega (arith, h)) k

abbrev tops : ℕ → List ℕ → List Bool
tops bar xs = map (top 15) (zip2 (λ a b. cond (leb a b) 65535 0) (replicate 16 bar) xs)

module _ (bar : ℕ) (xs : List ℕ) (lx : length xs ≡ 16) where
  tops_is : tops bar xs ≡ zip2 leb (replicate 16 bar) xs
  tops_is = tops_compared w16 leb (replicate 16 bar) xs

  tops_len : length (tops bar xs) ≡ 16
  tops_len = ap length tops_is ∙ length-zip2 leb (replicate 16 bar) xs (sym lx) ∙ refl

  tops_at : (k : ℕ) → k < 16 → get_or (tops bar xs) k false ≡ leb bar (get_or xs k 0)
  tops_at k l =
      ap (λ z. get_or z k false) tops_is ∙ get_or-zip2 leb (replicate 16 bar) xs k 0 0 false l (omega (arith, lx))
      ∙ ap (λ z. leb z (get_or xs k 0)) (get_or-replicate 16 k bar 0 l)

  whole : mask_l (tops bar xs) % 2 ^ 64 ≡ mask_l (tops bar xs)
  whole = mask_l-mod (tops bar xs) 64 (omega (arith, tops_len))

  pub none_reach : mask_l (tops bar xs) % 2 ^ 64 ≡ 0 → (k : ℕ) → k < 16 → slice_index xs k < bar
  none_reach e k l = leb-false bar (get_or xs k 0) (sym (tops_at k l) ∙ none_set (tops bar xs) (sym whole ∙ e) k)

is_zero : (n : ℕ) → not (eqb n 0) ≡ false → n ≡ 0
is_zero n t = go (eqb n 0) refl t
  where
    go : (b : Bool) → eqb n 0 ≡ b → not b ≡ false → n ≡ 0
    go true e f = eqb-true n 0 e
    go false e f = absurd (true≢false f)

pub reaches_low : (xs : List ℕ) → length xs ≡ 16 → IsFalse (not (eqb (mask_l (tops 32768 xs) % 2 ^ 64) 0)) → (k : ℕ) → k < 16 → slice_index xs k < 32768
reaches_low xs lx t = none_reach 32768 xs lx (is_zero (mask_l (tops 32768 xs) % 2 ^ 64) t)

pub lanes_low : (xs : List ℕ) → length xs ≡ 16 → IsTrue (eqb (mask_l (tops 4096 xs) % 2 ^ 64) 0) → (k : ℕ) → k < 16 → slice_index xs k < 4096
lanes_low xs lx t = none_reach 4096 xs lx (eqb-true (mask_l (tops 4096 xs) % 2 ^ 64) 0 t)

-- of four vectors

module _ (a b c d p q m : List ℕ) (o : AreLanes a b c d) (fp : (k : ℕ) → k < 16 → slice_index p k ≡ max (slice_index a k) (slice_index b k)) (fq : (k : ℕ) → k < 16 → slice_index q k ≡ max (slice_index c k) (slice_index d k))
    (fm : (k : ℕ) → k < 16 → slice_index m k ≡ max (slice_index p k) (slice_index q k)) where
  pub all_low : ((k : ℕ) → k < 16 → slice_index m k < 32768) → (n : ℕ) → n < 64 → slice_index (joined a b c d) n < 32768
  all_low h =
      both_lanes (λ x y. x < 32768) a b c d a b c d o.a_len o.b_len o.c_len o.d_len o.a_len o.b_len o.c_len o.d_len
      (λ k l. omega (arith, h k l, fp k l, fm k l)) (λ k l. omega (arith, h k l, fp k l, fm k l)) (λ k l. omega (arith, h k l, fq k l, fm k l)) (λ k l. omega (arith, h k l, fq k l, fm k l))

-- the least of four vectors

module _ (a b c d p q m : List ℕ) (o : AreLanes a b c d) (fp : (k : ℕ) → k < 16 → slice_index p k ≡ min (slice_index a k) (slice_index b k)) (fq : (k : ℕ) → k < 16 → slice_index q k ≡ min (slice_index c k) (slice_index d k))
    (fm : (k : ℕ) → k < 16 → slice_index m k ≡ min (slice_index p k) (slice_index q k)) where
  pub all_above : (low : ℕ) → ((k : ℕ) → k < 16 → low ≤ slice_index m k) → (n : ℕ) → n < 64 → low ≤ slice_index (joined a b c d) n
  all_above low h =
      both_lanes (λ x y. low ≤ x) a b c d a b c d o.a_len o.b_len o.c_len o.d_len o.a_len o.b_len o.c_len o.d_len
      (λ k l. omega (arith, h k l, fp k l, fm k l)) (λ k l. omega (arith, h k l, fp k l, fm k l)) (λ k l. omega (arith, h k l, fq k l, fm k l)) (λ k l. omega (arith, h k l, fq k l, fm k l))

  pub all_close : (low k : ℕ) → k < 16 → slice_index m k ≡ low → AreClose (joined a b c d) → (n : ℕ) → n < 64 → slice_index (joined a b c d) n ≤ low + 49140
  all_close low k l e h n ln =
      omega (
        arith,
        e,
        fm k l,
        fp k l,
        fq k l,
        h n k ln (omega arith),
        h n (16 + k) ln (omega arith),
        h n (32 + k) ln (omega arith),
        h n (48 + k) ln (omega arith),
        a_at a b c d o.a_len o.b_len o.c_len o.d_len k l,
        b_at a b c d o.a_len o.b_len o.c_len o.d_len k l,
        c_at a b c d o.a_len o.b_len o.c_len o.d_len k l,
        d_at a b c d o.a_len o.b_len o.c_len o.d_len k l,
      )

-- ---- less

abbrev lower : ℕ → List ℕ → List ℕ
lower low xs = zip2 (λ a b. (a + (65536 - b)) % 65536) xs (replicate 16 low)

module _ (low : ℕ) (xs : List ℕ) (lx : length xs ≡ 16) (hx : (k : ℕ) → k < 16 → low ≤ slice_index xs k) (fx : (k : ℕ) → k < 16 → slice_index xs k < 2 ^ 16) where
  pub lower_len : length (lower low xs) ≡ 16
  lower_len = length-zip2 (λ a b. (a + (65536 - b)) % 65536) xs (replicate 16 low) lx ∙ lx

  by_less : (x y : ℕ) → y ≡ low → low ≤ x → x < 2 ^ 16 → (x + (65536 - y)) % 65536 + low ≡ x
  by_less x y e h f = omega (arith, e, h, f)

  pub lower_at : (k : ℕ) → k < 16 → get_or (lower low xs) k 0 + low ≡ get_or xs k 0
  lower_at k l =
      ap (λ z. z + low) (get_or-zip2 (λ a b. (a + (65536 - b)) % 65536) xs (replicate 16 low) k 0 0 0 (omega (arith, lx)) l)
      ∙ by_less (get_or xs k 0) (get_or (replicate 16 low) k 0) (get_or-replicate 16 k low 0 l) (hx k l) (fx k l)

-- of four vectors

module _ (low : ℕ) (a b c d e f g h : List ℕ) (o : AreLanes a b c d) (le : length e ≡ 16) (lf : length f ≡ 16) (lg : length g ≡ 16) (lh : length h ≡ 16) (se : (k : ℕ) → k < 16 → slice_index e k + low ≡ slice_index a k)
    (sf : (k : ℕ) → k < 16 → slice_index f k + low ≡ slice_index b k) (sg : (k : ℕ) → k < 16 → slice_index g k + low ≡ slice_index c k) (sh : (k : ℕ) → k < 16 → slice_index h k + low ≡ slice_index d k) where
  pub lower_all : (n : ℕ) → n < 64 → slice_index (joined e f g h) n + low ≡ slice_index (joined a b c d) n
  lower_all = both_lanes (λ x y. x + low ≡ y) e f g h a b c d le lf lg lh o.a_len o.b_len o.c_len o.d_len se sf sg sh

  pub lower_lanes : AreLanes e f g h
  lower_lanes = record { a_len = le; b_len = lf; c_len = lg; d_len = lh; fits = λ n l. omega (arith, lower_all n l, o.fits n l) }

pub roomy_is : (low : ℕ) (old new : List ℕ) → ((n : ℕ) → n < 64 → slice_index old n ≤ low + 49140) → ((n : ℕ) → n < 64 → slice_index new n + low ≡ slice_index old n) → AreRoomy old new
roomy_is low old new f h = record {
  lowered = record { less = low; is = h; few = λ n l. omega (arith, f n l, h n l) };
  room = λ n l. omega (arith, f n l, h n l);
}

-- lanes that are low stay as they are
pub roomy_same : (old : List ℕ) → ((n : ℕ) → n < 64 → slice_index old n < 32768) → AreRoomy old old
roomy_same old f = record {
  lowered = record { less = 0; is = λ n l. omega arith; few = λ n l. omega (arith, f n l) };
  room = λ n l. omega (arith, f n l);
}

pub lowered_same : (old : List ℕ) → ((n : ℕ) → n < 64 → slice_index old n ≤ 57345) → AreLowered old old
lowered_same old f = record { less = 0; is = λ n l. omega arith; few = f }

-- a part of lanes is as high as the whole
module _ (low : ℕ) (a b c d : List ℕ) (o : AreLanes a b c d) (h : (n : ℕ) → n < 64 → low ≤ slice_index (joined a b c d) n) where
  pub b_high : (k : ℕ) → k < 16 → low ≤ slice_index b k
  b_high k l = omega (arith, h (16 + k) (omega arith), b_at a b c d o.a_len o.b_len o.c_len o.d_len k l)

  pub c_high : (k : ℕ) → k < 16 → low ≤ slice_index c k
  c_high k l = omega (arith, h (32 + k) (omega arith), c_at a b c d o.a_len o.b_len o.c_len o.d_len k l)

  pub d_high : (k : ℕ) → k < 16 → low ≤ slice_index d k
  d_high k l = omega (arith, h (48 + k) (omega arith), d_at a b c d o.a_len o.b_len o.c_len o.d_len k l)
