-- Rows of bits.
use Rattle.std.proofs.Common.{◌≡◌, ℕ, zero, suc, ◌+◌, ◌-◌, ◌<◌, ◌≤◌, Bool, true, false, List, [], ◌∷◌, ◌++◌, length, get_or, take, drop, ◌⊎◌, inl, inr, refl, sym, ap, ◌∙◌, arith, length-take, length-drop, get_or-take, get_or-drop, ext_get_or, ◌≢◌, ◌/◌, ◌%◌, ◌^◌, ◌||◌, eqb, lit<, mod-lt}
use native.Mathlib.Nat.{add_comm}
use Rattle.std.specs.Prelude.{IsTrue}
use Rattle.std.specs.Global.{Vec}
use Rattle.std.proofs.lemmas.List.{take-take, get_or_default}
use Rattle.std.proofs.lemmas.Bool.{cases_lt, cond_both, or_left, or_right}
use Rattle.spec_words.specs.Bits.{is_set}
use Rattle.survivor_ring.specs.Survivors.{AreAlike, IsAlike, IsPushed, IsFollowed}
use Rattle.code_paths.specs.States.{before}
use Rattle.std.specs.Int.{trailing_zeros, w64}
use Rattle.std.proofs.lemmas.Nat.Bits.{bit_at-trailing_zeros}
use Rattle.code_paths.specs.States.{even_of, odd_of}
use Rattle.survivor_ring.specs.Rows.{Rows, AreSized, EachPushed, EachShifted, Agree, bits_of_row}

pub shift_end : (old row : List Bool) (number count k : ℕ) → number ≤ count → count ≤ length old → length row ≡ length old → count - number ≤ k
    → ((j : ℕ) → j < k → get_or row j false ≡ get_or old (j + number) false) → take (count - number) row ≡ drop number (take count old)
shift_end old row number count k h i l m f =
    ext_get_or false (take (count - number) row) (drop number (take count old))
    (omega (arith, length-take (count - number) row, length-drop number (take count old), length-take count old))
    (λ j w.
    let u : j < count - number = omega (arith, w, length-take (count - number) row) in
    get_or-take (count - number) row j false u ∙ f j (omega arith) ∙ ap (λ z. get_or old z false) (add_comm j number)
    ∙ sym (get_or-drop number (take count old) j false ∙ get_or-take count old (number + j) false (omega arith)))

-- the pending bits of a state
abbrev pub bits_at : Rows → Vec Bool → ℕ → ℕ → List Bool
bits_at rows d count n = take count (get_or rows n d).items

-- rows that agree below index k begin alike
module _ (len : ℕ) (rows : Rows) (live first count : ℕ) (d : Vec Bool) (sized : AreSized len rows) (w : count ≤ len) (f : first < 64) where
  alike_first : (k : ℕ) → k ≤ count → ((j : ℕ) → j < k → Agree rows live first j 64) → (n : ℕ) → n < 64 → IsTrue (is_set live n) → take k (bits_at rows d count n) ≡ take k (bits_at rows d count first)
  alike_first k l h n i t =
      let a = sized.each n d i in let b = sized.each first d f in
      ext_get_or false _ _ (omega (arith, length-take k (bits_at rows d count n), length-take k (bits_at rows d count first), length-take count (get_or rows n d).items, length-take count (get_or rows first d).items, a, b))
      (λ j v.
      let u : j < k = omega (arith, v, length-take k (bits_at rows d count n)) in
      let x : j < count = omega arith in
      get_or-take k (bits_at rows d count n) j false u ∙ get_or-take count (get_or rows n d).items j false x ∙ h j u n d d i t
      ∙ sym (get_or-take k (bits_at rows d count first) j false u ∙ get_or-take count (get_or rows first d).items j false x))

  pub is_alike : (k : ℕ) → k ≤ count → ((j : ℕ) → j < k → Agree rows live first j 64) → (k < count → Agree rows live first k 64 → ⊥) → IsTrue (is_set live first) → IsAlike live (bits_at rows d count) count k
  is_alike k l h q t = record {
    within = l;
    alike = λ m n i j u v. alike_first k l h m i u ∙ sym (alike_first k l h n j v);
    most = λ j i a. go j i a (cases_lt k j);
  }
    where
      read : (j n : ℕ) → k < j → j ≤ count → n < 64 → get_or (take j (bits_at rows d count n)) k false ≡ get_or (get_or rows n d).items k false
      read j n a b i = get_or-take j (bits_at rows d count n) k false a ∙ get_or-take count (get_or rows n d).items k false (omega arith)

      same_row : (n : ℕ) (d e : Vec Bool) → n < 64 → get_or rows n d ≡ get_or rows n e
      same_row n d e i = get_or_default rows n d e (omega (arith, sized.number))

      go : (j : ℕ) → j ≤ count → AreAlike live (bits_at rows d count) j → (k < j) ⊎ (j ≤ k) → j ≤ k
      go j i a (inr m) = m
      go j i a (inl m) = absurd (q (omega arith) (λ n x y p u.
          ap (λ (z : Vec Bool). get_or z.items k false) (same_row n x d p)
          ∙ sym (read j n m i p) ∙ ap (λ z. get_or z k false) (a n first p f u t) ∙ read j first m i f
          ∙ ap (λ (z : Vec Bool). get_or z.items k false) (same_row first d y f)))

-- ---- rows by their bits only

row_is : (rows : Rows) (n : ℕ) (d : Vec Bool) → n < length rows → bits_of_row rows n ≡ (get_or rows n d).items
row_is [] n d l = absurd (omega arith)
row_is (r ∷ rs) zero d l = refl
row_is (r ∷ rs) (suc n) d l = row_is rs n d (omega arith)

some_row : (len : ℕ) (rows : Rows) → AreSized len rows → Vec Bool
some_row len [] s = absurd (omega (arith, s.number))
some_row len (r ∷ rs) s = r

alike_by : (live : ℕ) (u v : ℕ → List Bool) (count k : ℕ) → ((n : ℕ) → n < 64 → u n ≡ v n) → IsAlike live u count k → IsAlike live v count k
alike_by live u v count k e h = record {
  within = h.within;
  alike = λ m n i j x y. ap (take k) (sym (e m i)) ∙ h.alike m n i j x y ∙ ap (take k) (e n j);
  most = λ j i a. h.most j i (λ m n p q x y. ap (take j) (e m p) ∙ a m n p q x y ∙ ap (take j) (sym (e n q)));
}

pub rows_alike : (len : ℕ) (rows : Rows) (live first count : ℕ) → AreSized len rows → count ≤ len → first < 64 → (k : ℕ) → k ≤ count → ((j : ℕ) → j < k → Agree rows live first j 64) → (k < count → Agree rows live first k 64 → ⊥) → IsTrue (is_set live first)
    → IsAlike live (λ n. take count (bits_of_row rows n)) count k
rows_alike len rows live first count s w f k l h q t =
    let d = some_row len rows s in
    alike_by live (bits_at rows d count) (λ n. take count (bits_of_row rows n)) count k (λ n i. ap (take count) (sym (row_is rows n d (omega (arith, s.number)))))
    (is_alike len rows live first count d s w f k l h q t)

pub rows_pushed : (len : ℕ) (old new : Rows) (count answer live : ℕ) → AreSized len old → AreSized len new → EachPushed old new count answer 64 → ((n : ℕ) → n < 64 → before answer n < 64)
    → IsPushed (λ n. take count (bits_of_row old n)) answer live (λ n. take (count + 1) (bits_of_row new n))
rows_pushed len old new count answer live s t p b = record {
  each = λ n l i.
      let d = some_row len old s in
      ap (take (count + 1)) (row_is new n d (omega (arith, t.number))) ∙ p.each n d d l
      ∙ ap (λ z. take count z ++ is_set n 5 ∷ []) (sym (row_is old (before answer n) d (omega (arith, s.number, b n l))));
}

pub before_below : (answer n : ℕ) → n < 64 → before answer n < 64
before_below answer n l = cond_both (is_set answer n) (odd_of n) (even_of n) (λ z. z < 64) (λ e. omega arith) (λ e. omega arith)

pub rows_shifted : (len : ℕ) (old new : Rows) (number count : ℕ) → AreSized len old → AreSized len new → EachShifted old new number count 64 → (n : ℕ) → n < 64 → take (count - number) (bits_of_row new n) ≡ drop number (take count (bits_of_row old n))
rows_shifted len old new number count s t e n l =
    let d = some_row len old s in
    ap (take (count - number)) (row_is new n d (omega (arith, t.number))) ∙ e.each n d d l ∙ ap (λ z. drop number (take count z)) (sym (row_is old n d (omega (arith, s.number))))

-- the content read from a row
pub row_read : (len : ℕ) (rows : Rows) (n : ℕ) (r : Vec Bool) → AreSized len rows → n < 64 → r ≡ get_or rows n r → r.items ≡ bits_of_row rows n
row_read len rows n r s l e = ap (λ (z : Vec Bool). z.items) e ∙ sym (row_is rows n r (omega (arith, s.number)))

pub row_length : (len : ℕ) (rows : Rows) (n : ℕ) → AreSized len rows → n < 64 → length (bits_of_row rows n) ≡ len
row_length len rows n s l = let d = some_row len rows s in ap length (row_is rows n d (omega (arith, s.number))) ∙ s.each n d l

-- half of an alive state follows it
pub half_lives : (old answer live first : ℕ) → IsFollowed old answer live → first < 64 → IsTrue (is_set old first) → IsTrue (is_set live (first / 2))
half_lives old answer live first f l t = f.lives (first / 2) (omega arith) ∙ go (first % 2) refl (mod-lt first (lit< tt))
  where
    go : (r : ℕ) → first % 2 ≡ r → r < 2 → (is_set old (even_of (first / 2)) || is_set old (odd_of (first / 2))) ≡ true
    go zero e h = let q : even_of (first / 2) ≡ first = omega arith in or_left _ _ (ap (is_set old) q ∙ t)
    go (suc zero) e h = let q : odd_of (first / 2) ≡ first = omega arith in or_right _ _ (ap (is_set old) q ∙ t)
    go (suc (suc r)) e h = absurd (omega arith)

pub lowest_lives : (states : ℕ) → states ≢ 0 → states < 2 ^ 64 → is_set states (trailing_zeros w64 states) ≡ true
lowest_lives states n l = ap (λ b. eqb b 1) (bit_at-trailing_zeros w64 states (omega (arith, n)) l).1

pub take_within : (k n : ℕ) (xs : List Bool) → k ≤ n → take k xs ≡ take k (take n xs)
take_within k n xs l = sym (take-take k n xs l)
