-- Eight positions of least margin exist.
use Rattle.std.proofs.Common.{◌≡◌, ℕ, zero, suc, ◌+◌, ◌-◌, ◌<◌, ◌≤◌, ◌≢◌, List, [], ◌∷◌, ◌++◌, length, take, drop, ◌⊎◌, inl, inr, refl, sym, ap, ◌∙◌, subst, arith, slice_index, length-append, length-drop, length-take-le}
use Rattle.std.proofs.lemmas.Bool.{cases_lt, cases_eq}
use Rattle.std.proofs.lemmas.List.{get_or-take, get_or-drop, get_or_append_left, get_or-append_right, get_or-append-add}
use Rattle.bit_margin.specs.Places.{ComesFirst, AreLeast}
use Rattle.bit_margin.specs.Laws.{SomeAreLeast}
use Rattle.bit_margin.proofs.Best.{comes_le, comes_from, least_start, least_kept, least_taken}

-- the last of the first k positions
record Last (m ps : List ℕ) (k : ℕ) : Type 0 where
  at : ℕ
  within : at < k
  last : (i : ℕ) → i < k → i ≢ at → ComesFirst m (slice_index ps i) (slice_index ps at)

abbrev AreRising : List ℕ → Type 0
AreRising ps = (i j : ℕ) → i < j → j < 8 → slice_index ps i < slice_index ps j

last_more : (m ps : List ℕ) → AreRising ps → (k : ℕ) → k < 8 → Last m ps k → Last m ps (suc k)
last_more m ps rising k l h = go (cases_lt (slice_index m (slice_index ps k)) (slice_index m (slice_index ps h.at)))
  where
    kept : slice_index m (slice_index ps k) < slice_index m (slice_index ps h.at) → (i : ℕ) → i < suc k → i ≢ h.at → (i < k) ⊎ (k ≤ i) → ComesFirst m (slice_index ps i) (slice_index ps h.at)
    kept less i j out (inl b) = h.last i b out
    kept less i j out (inr b) = let e : k ≡ i = omega (arith, j, b) in subst (λ z. ComesFirst m (slice_index ps z) (slice_index ps h.at)) e (inl less)

    before : slice_index m (slice_index ps h.at) ≤ slice_index m (slice_index ps k) → (i : ℕ) → i < k → (i ≡ h.at) ⊎ (i ≡ h.at → ⊥) → ComesFirst m (slice_index ps i) (slice_index ps k)
    before more i j (inl e) = subst (λ z. ComesFirst m (slice_index ps z) (slice_index ps k)) (sym e) (comes_from m (slice_index ps h.at) (slice_index ps k) more (rising h.at k h.within l))
    before more i j (inr e) = comes_from m (slice_index ps i) (slice_index ps k) (omega (arith, more, comes_le m (slice_index ps i) (slice_index ps h.at) (h.last i j e))) (rising i k j l)

    go : (slice_index m (slice_index ps k) < slice_index m (slice_index ps h.at)) ⊎ (slice_index m (slice_index ps h.at) ≤ slice_index m (slice_index ps k)) → Last m ps (suc k)
    go (inl less) = record { at = h.at; within = omega (arith, h.within); last = λ i j out. kept less i j out (cases_lt i k) }
    go (inr more) = record { at = k; within = omega arith; last = λ i j out. before more i (omega (arith, j, out)) (cases_eq i h.at) }

last_of : (m ps : List ℕ) → AreRising ps → (k : ℕ) → suc k ≤ 8 → Last m ps (suc k)
last_of m ps rising zero l = record { at = 0; within = omega arith; last = λ i j out. absurd (omega (arith, j, out)) }
last_of m ps rising (suc k) l = last_more m ps rising (suc k) (omega (arith, l)) (last_of m ps rising k (omega (arith, l)))

-- the positions without one of them, and another at the end
abbrev others : List ℕ → ℕ → ℕ → List ℕ
others ps w n = take w ps ++ (drop (w + 1) ps ++ n ∷ [])

module _ (ps : List ℕ) (w n : ℕ) (long : length ps ≡ 8) (below : w < 8) where
  front : length (take w ps) ≡ w
  front = length-take-le w ps (omega (arith, long, below))

  back : length (drop (w + 1) ps) ≡ 7 - w
  back = omega (arith, length-drop (w + 1) ps, long, below)

  others_long : length (others ps w n) ≡ 8
  others_long = omega (arith, length-append (take w ps) (drop (w + 1) ps ++ n ∷ []), length-append (drop (w + 1) ps) (n ∷ []), front, back, below)

  others_before : (i : ℕ) → i < w → slice_index (others ps w n) i ≡ slice_index ps i
  others_before i l = get_or_append_left (take w ps) (drop (w + 1) ps ++ n ∷ []) 0 i (omega (arith, l, front)) ∙ get_or-take w ps i 0 l

  others_behind : (i : ℕ) → w ≤ i → i < 7 → slice_index (others ps w n) i ≡ slice_index ps (i + 1)
  others_behind i l k =
      let e : w + 1 + (i - w) ≡ i + 1 = omega (arith, l) in
      get_or-append_right (take w ps) (drop (w + 1) ps ++ n ∷ []) w i 0 front l
      ∙ get_or_append_left (drop (w + 1) ps) (n ∷ []) 0 (i - w) (omega (arith, back, l, k)) ∙ get_or-drop (w + 1) ps (i - w) 0 ∙ ap (slice_index ps) e

  others_end : slice_index (others ps w n) 7 ≡ n
  others_end =
      let e : 7 - w ≡ length (drop (w + 1) ps) + 0 = omega (arith, back) in
      get_or-append_right (take w ps) (drop (w + 1) ps ++ n ∷ []) w 7 0 front (omega (arith, below))
      ∙ ap (slice_index (drop (w + 1) ps ++ n ∷ [])) e ∙ get_or-append-add (drop (w + 1) ps) (n ∷ []) 0 0

places_more : (m : List ℕ) (n : ℕ) → (ps : List ℕ) × AreLeast m n ps → (ps : List ℕ) × AreLeast m (n + 1) ps
places_more m n (ps, h) = go (last_of m ps h.rising 7 (omega arith))
  where
    go : Last m ps 8 → (ps : List ℕ) × AreLeast m (n + 1) ps
    go w = either (cases_lt (slice_index m n) (slice_index m (slice_index ps w.at)))
      where
        either : (slice_index m n < slice_index m (slice_index ps w.at)) ⊎ (slice_index m (slice_index ps w.at) ≤ slice_index m n) → (ps : List ℕ) × AreLeast m (n + 1) ps
        either (inr le) = (ps, least_kept m ps n w.at w.within w.last le h)
        either (inl less) = (
          others ps w.at n,
          least_taken m ps (others ps w.at n) n w.at w.within w.last less (others_long ps w.at n h.long w.within) (others_before ps w.at n h.long w.within)
              (others_behind ps w.at n h.long w.within) (others_end ps w.at n h.long w.within) h,
        )

places_of : (m : List ℕ) (d : ℕ) → (ps : List ℕ) × AreLeast m (d + 8) ps
places_of m zero = (0 ∷ 1 ∷ 2 ∷ 3 ∷ 4 ∷ 5 ∷ 6 ∷ 7 ∷ [], least_start m (0 ∷ 1 ∷ 2 ∷ 3 ∷ 4 ∷ 5 ∷ 6 ∷ 7 ∷ []) refl refl)
places_of m (suc d) =
    let r = places_more m (d + 8) (places_of m d) in
    let e : d + 8 + 1 ≡ suc d + 8 = omega arith in
    (r.0, subst (λ n. AreLeast m n r.0) e r.1)

pub some_are_least : SomeAreLeast
some_are_least m n l = let r = places_of m (n - 8) in
    let e : n - 8 + 8 ≡ n = omega (arith, l) in
    (r.0, subst (λ k. AreLeast m k r.0) e r.1)
