-- Four vectors of sixteen lanes as one list.
use Rattle.std.proofs.Common.{◌≡◌, ℕ, zero, suc, take, drop, ◌+◌, ◌-◌, ◌<◌, ◌≤◌, List, [], ◌∷◌, ◌++◌, length, ◌⊎◌, inl, inr, refl, sym, ap, ◌∙◌, subst, arith, get_or}
use Rattle.std.proofs.lemmas.Bool.{cases_lt}
use Rattle.std.proofs.lemmas.List.{get_or_append_left, get_or-append_right, length-append, get_or-take, get_or-drop, same_lists}
use Rattle.std.specs.Prelude.{slice_index}
use Rattle.acs_lanes.specs.Lanes16.{AreLanes, joined}

two_len : (a b : List ℕ) → length a ≡ 16 → length b ≡ 16 → length (a ++ b) ≡ 32
two_len a b l m = omega (arith, length-append a b, l, m)

module _ (a b c d : List ℕ) (la : length a ≡ 16) (lb : length b ≡ 16) (lc : length c ≡ 16) (ld : length d ≡ 16) where
  pub joined_len : length (joined a b c d) ≡ 64
  joined_len = omega (arith, length-append (a ++ b) (c ++ d), two_len a b la lb, two_len c d lc ld)

  pub first_at : (j : ℕ) → j < 32 → get_or (joined a b c d) j 0 ≡ get_or (a ++ b) j 0
  first_at j l = get_or_append_left (a ++ b) (c ++ d) 0 j (omega (arith, two_len a b la lb))

  pub last_at : (j : ℕ) → j < 32 → get_or (joined a b c d) (32 + j) 0 ≡ get_or (c ++ d) j 0
  last_at j l = let e : 32 + j - 32 ≡ j = omega arith in get_or-append_right (a ++ b) (c ++ d) 32 (32 + j) 0 (two_len a b la lb) (omega arith) ∙ ap (λ k. get_or (c ++ d) k 0) e

  pub a_at : (k : ℕ) → k < 16 → get_or (joined a b c d) k 0 ≡ get_or a k 0
  a_at k l = first_at k (omega arith) ∙ get_or_append_left a b 0 k (omega (arith, la))

  pub b_at : (k : ℕ) → k < 16 → get_or (joined a b c d) (16 + k) 0 ≡ get_or b k 0
  b_at k l = let e : 16 + k - 16 ≡ k = omega arith in first_at (16 + k) (omega arith) ∙ get_or-append_right a b 16 (16 + k) 0 la (omega arith) ∙ ap (λ j. get_or b j 0) e

  pub c_at : (k : ℕ) → k < 16 → get_or (joined a b c d) (32 + k) 0 ≡ get_or c k 0
  c_at k l = last_at k (omega arith) ∙ get_or_append_left c d 0 k (omega (arith, lc))

  pub d_at : (k : ℕ) → k < 16 → get_or (joined a b c d) (48 + k) 0 ≡ get_or d k 0
  d_at k l =
      let e : 16 + k - 16 ≡ k = omega arith in
      let f : 48 + k ≡ 32 + (16 + k) = omega arith in
      ap (λ j. get_or (joined a b c d) j 0) f ∙ last_at (16 + k) (omega arith) ∙ get_or-append_right c d 16 (16 + k) 0 lc (omega arith) ∙ ap (λ j. get_or d j 0) e

-- what holds in each quarter holds below 64
pub by_quarters : (P : ℕ → Type 0) → ((k : ℕ) → k < 16 → P k) → ((k : ℕ) → k < 16 → P (16 + k)) → ((k : ℕ) → k < 16 → P (32 + k)) → ((k : ℕ) → k < 16 → P (48 + k)) → (n : ℕ) → n < 64 → P n
by_quarters P p q r s n l = go (cases_lt n 16) (cases_lt n 32) (cases_lt n 48)
  where
    go : (n < 16) ⊎ (16 ≤ n) → (n < 32) ⊎ (32 ≤ n) → (n < 48) ⊎ (48 ≤ n) → P n
    go (inl a) y z = p n a
    go (inr a) (inl b) z = let e : 16 + (n - 16) ≡ n = omega arith in subst P e (q (n - 16) (omega arith))
    go (inr a) (inr b) (inl c) = let e : 32 + (n - 32) ≡ n = omega arith in subst P e (r (n - 32) (omega arith))
    go (inr a) (inr b) (inr c) = let e : 48 + (n - 48) ≡ n = omega arith in subst P e (s (n - 48) (omega arith))

-- two lists lane by lane
pub both_lanes : (R : ℕ → ℕ → Type 0) (a b c d e f g h : List ℕ) → length a ≡ 16 → length b ≡ 16 → length c ≡ 16 → length d ≡ 16 → length e ≡ 16 → length f ≡ 16 → length g ≡ 16 → length h ≡ 16
    → ((k : ℕ) → k < 16 → R (get_or a k 0) (get_or e k 0)) → ((k : ℕ) → k < 16 → R (get_or b k 0) (get_or f k 0)) → ((k : ℕ) → k < 16 → R (get_or c k 0) (get_or g k 0)) → ((k : ℕ) → k < 16 → R (get_or d k 0) (get_or h k 0))
    → (n : ℕ) → n < 64 → R (get_or (joined a b c d) n 0) (get_or (joined e f g h) n 0)
both_lanes R a b c d e f g h la lb lc ld le lf lg lh p q r s =
    by_quarters (λ n. R (get_or (joined a b c d) n 0) (get_or (joined e f g h) n 0))
    (λ k l. move (a_at a b c d la lb lc ld k l) (a_at e f g h le lf lg lh k l) (p k l))
    (λ k l. move (b_at a b c d la lb lc ld k l) (b_at e f g h le lf lg lh k l) (q k l))
    (λ k l. move (c_at a b c d la lb lc ld k l) (c_at e f g h le lf lg lh k l) (r k l))
    (λ k l. move (d_at a b c d la lb lc ld k l) (d_at e f g h le lf lg lh k l) (s k l))
  where
    move : {x y u v : ℕ} → x ≡ u → y ≡ v → R u v → R x y
    move {x} {y} {u} {v} i j t = subst (λ z. R z y) (sym i) (subst (λ z. R u z) (sym j) t)

-- ---- parts and wholes

pub part_at : (xs : List ℕ) (i n k : ℕ) → k < 16 → n ≡ 16 → get_or (take 16 (take n (drop i xs))) k 0 ≡ get_or xs (i + k) 0
part_at xs i n k l e = get_or-take 16 (take n (drop i xs)) k 0 l ∙ get_or-take n (drop i xs) k 0 (omega (arith, e)) ∙ get_or-drop i xs k 0

pub same_default : (xs : List ℕ) (k d : ℕ) → k < length xs → get_or xs k d ≡ get_or xs k 0
same_default [] k d l = absurd (omega arith)
same_default (x ∷ xs) zero d l = refl
same_default (x ∷ xs) (suc k) d l = same_default xs k d (omega arith)

pub same_64 : (xs ys : List ℕ) → length xs ≡ 64 → length ys ≡ 64 → ((k : ℕ) → k < 64 → get_or xs k 0 ≡ get_or ys k 0) → xs ≡ ys
same_64 xs ys l m h = same_lists xs ys (l ∙ sym m) (λ k d j. same_default xs k d j ∙ h k (omega (arith, l)) ∙ sym (same_default ys k d (omega (arith, l, m))))

pub stored : (a b c d u v w x : List ℕ) → length a ≡ 16 → length b ≡ 16 → length c ≡ 16 → length d ≡ 16 → length x ≡ 64
    → ((k : ℕ) → k < 16 → slice_index u (0 + k) ≡ slice_index a k)
    → ((k : ℕ) → k < 16 → slice_index v (16 + k) ≡ slice_index b k) → ((k : ℕ) → k < 16 → slice_index v k ≡ slice_index u k)
    → ((k : ℕ) → k < 16 → slice_index w (32 + k) ≡ slice_index c k) → ((k : ℕ) → k < 32 → slice_index w k ≡ slice_index v k)
    → ((k : ℕ) → k < 16 → slice_index x (48 + k) ≡ slice_index d k) → ((k : ℕ) → k < 48 → slice_index x k ≡ slice_index w k)
    → x ≡ joined a b c d
stored a b c d u v w x la lb lc ld lx ha hb bb hc bc hd bd =
    same_64 x (joined a b c d) lx (joined_len a b c d la lb lc ld)
    (by_quarters (λ k. get_or x k 0 ≡ get_or (joined a b c d) k 0)
    (λ k l. let e : k ≡ 0 + k = omega arith in bd k (omega arith) ∙ bc k (omega arith) ∙ bb k l ∙ ap (λ j. get_or u j 0) e ∙ ha k l ∙ sym (a_at a b c d la lb lc ld k l))
    (λ k l. bd (16 + k) (omega arith) ∙ bc (16 + k) (omega arith) ∙ hb k l ∙ sym (b_at a b c d la lb lc ld k l))
    (λ k l. bd (32 + k) (omega arith) ∙ hc k l ∙ sym (c_at a b c d la lb lc ld k l))
    (λ k l. hd k l ∙ sym (d_at a b c d la lb lc ld k l)))

-- four parts of 64 costs in a row
module _ (costs a b c d : List ℕ) (la : length a ≡ 16) (lb : length b ≡ 16) (lc : length c ≡ 16) (ld : length d ≡ 16) (ha : (k : ℕ) → k < 16 → slice_index a k ≡ slice_index costs (0 + k)) (hb : (k : ℕ) → k < 16 → slice_index b k ≡ slice_index costs (16 + k))
    (hc : (k : ℕ) → k < 16 → slice_index c k ≡ slice_index costs (32 + k)) (hd : (k : ℕ) → k < 16 → slice_index d k ≡ slice_index costs (48 + k)) where
  pub quarters_joined : (n : ℕ) → n < 64 → slice_index (joined a b c d) n ≡ slice_index costs n
  quarters_joined =
      by_quarters (λ n. slice_index (joined a b c d) n ≡ slice_index costs n)
      (λ k l. let e : 0 + k ≡ k = omega arith in a_at a b c d la lb lc ld k l ∙ ha k l ∙ ap (λ j. get_or costs j 0) e)
      (λ k l. b_at a b c d la lb lc ld k l ∙ hb k l) (λ k l. c_at a b c d la lb lc ld k l ∙ hc k l) (λ k l. d_at a b c d la lb lc ld k l ∙ hd k l)

  pub quarters_fit : ((n : ℕ) → n < 64 → slice_index costs n ≤ 49140) → AreLanes a b c d
  quarters_fit f = record { a_len = la; b_len = lb; c_len = lc; d_len = ld; fits = λ n l. omega (arith, quarters_joined n l, f n l) }
