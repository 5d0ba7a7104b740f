-- Words of four numbers of 16 bits, as lanes.
use Rattle.std.proofs.Common.{◌≡◌, ℕ, zero, suc, ◌+◌, ◌*◌, ◌/◌, ◌%◌, ◌^◌, ◌<◌, List, [], ◌∷◌, map, length, get_or, replicate, refl, sym, ap, ap₂, ◌∙◌, arith, mod-lt, lit<}
use Rattle.std.proofs.lemmas.Simd.{get_or_wider, get_or_narrower, get_or-chunk, length-chunk, Each1-replicate}
use Rattle.std.proofs.lemmas.List.{get_or-replicate}
use Rattle.std.specs.Simd.Lanes.{number_l, digits_l, chunk, Each1}
use Rattle.std.specs.Prelude.{slice_index}
use Rattle.std.specs.List.{range_with_len}
use Rattle.std.proofs.lemmas.Grind.{same_number_lists}
use Rattle.acs_lanes.specs.Lanes16.{word_by}
use Rattle.acs_lanes.proofs.Laid.{at_range}

digits_len : (p n x : ℕ) → length (digits_l p n x) ≡ n
digits_len p zero x = refl
digits_len p (suc n) x = ap suc (digits_len p n (x / p))

digits_small : (n x : ℕ) → Each1 (λ d. d < 256) (digits_l 256 n x)
digits_small zero x = tt
digits_small (suc n) x = (mod-lt x (lit< tt), digits_small n (x / 256))

-- ---- from words to lanes

two_digits : (ys : List ℕ) → length ys ≡ 2 → number_l 256 ys ≡ get_or ys 0 0 + 256 * get_or ys 1 0
two_digits (a ∷ b ∷ []) l = omega arith
two_digits [] l = absurd (omega (arith, l))
two_digits (a ∷ []) l = absurd (omega (arith, l))
two_digits (a ∷ b ∷ c ∷ ys) l = absurd (omega (arith, l))

abbrev pub lanes_from : List ℕ → List ℕ
lanes_from words = digits_l 65536 16 (number_l 256 (digits_l 256 32 (number_l 18446744073709551616 words)))

pub lanes_len : (words : List ℕ) → length (lanes_from words) ≡ 16
lanes_len words = digits_len 65536 16 (number_l 256 (digits_l 256 32 (number_l 18446744073709551616 words)))

module _ (words : List ℕ) (fits : Each1 (λ x. x < 18446744073709551616) words) where
  abbrev bytes : List ℕ
  bytes = digits_l 256 32 (number_l 18446744073709551616 words)

  byte_at : (j i : ℕ) → j < 4 → i < 8 → get_or bytes (8 * j + i) 0 ≡ get_or words j 0 / 256 ^ i % 256
  byte_at j i k l = get_or_narrower 18446744073709551616 8 256 32 words j i refl fits l (omega arith)

  pub lane_at : (j i : ℕ) → j < 4 → i < 4 → get_or (lanes_from words) (4 * j + i) 0 ≡ get_or words j 0 / 256 ^ (2 * i) % 256 + 256 * (get_or words j 0 / 256 ^ (2 * i + 1) % 256)
  lane_at j i k l =
      let n : length bytes ≡ 32 = digits_len 256 32 (number_l 18446744073709551616 words) in
      let a : 2 * (4 * j + i) + 0 ≡ 8 * j + 2 * i = omega arith in
      let b : 2 * (4 * j + i) + 1 ≡ 8 * j + (2 * i + 1) = omega arith in
      get_or_wider 256 2 65536 16 bytes (4 * j + i) refl (digits_small 32 (number_l 18446744073709551616 words)) (omega arith)
      ∙ two_digits (chunk (2 * (4 * j + i)) 2 bytes) (length-chunk (2 * (4 * j + i)) 2 bytes (omega (arith, n)))
      ∙ ap₂ (λ x y. x + 256 * y) (get_or-chunk (2 * (4 * j + i)) 2 bytes 0 0 (lit< tt) ∙ ap (λ z. get_or bytes z 0) a ∙ byte_at j (2 * i) k (omega arith))
      (get_or-chunk (2 * (4 * j + i)) 2 bytes 1 0 (lit< tt) ∙ ap (λ z. get_or bytes z 0) b ∙ byte_at j (2 * i + 1) k (omega arith))

abbrev pub four_by : ℕ → ℕ → ℕ → ℕ → List ℕ
four_by a b c d = a ∷ b ∷ c ∷ d ∷ []

module _ (a b c d : ℕ) (sa : a < 65536) (sb : b < 65536) (sc : c < 65536) (sd : d < 65536) where
  pub word_fits : word_by a b c d < 18446744073709551616
  word_fits = omega (arith, sa, sb, sc, sd)

  pub part_is : (i : ℕ) → i < 4 → word_by a b c d / 256 ^ (2 * i) % 256 + 256 * (word_by a b c d / 256 ^ (2 * i + 1) % 256) ≡ get_or (four_by a b c d) i 0
  part_is zero l = omega (arith, sa)
  part_is (suc zero) l = omega (arith, sa, sb)
  part_is (suc (suc zero)) l = omega (arith, sa, sb, sc)
  part_is (suc (suc (suc zero))) l = omega (arith, sa, sb, sc, sd)
  part_is (suc (suc (suc (suc i)))) l = absurd (omega arith)

  pub parts_repeated : lanes_from (replicate 4 (word_by a b c d)) ≡ map (λ k. slice_index (four_by a b c d) (k % 4)) (range_with_len 0 16)
  parts_repeated =
      let word = word_by a b c d in
      let lanes = lanes_from (replicate 4 word) in
      same_number_lists lanes (map (λ k. slice_index (four_by a b c d) (k % 4)) (range_with_len 0 16)) (lanes_len (replicate 4 word))
      (λ k l.
      let m : k < 16 = omega (arith, l, lanes_len (replicate 4 word)) in
      let e : 4 * (k / 4) + k % 4 ≡ k = omega arith in
      ap (λ z. get_or lanes z 0) (sym e) ∙ lane_at (replicate 4 word) (Each1-replicate (λ x. x < 18446744073709551616) 4 word word_fits) (k / 4) (k % 4) (omega arith) (omega arith)
      ∙ ap (λ z. z / 256 ^ (2 * (k % 4)) % 256 + 256 * (z / 256 ^ (2 * (k % 4) + 1) % 256)) (get_or-replicate 4 (k / 4) word 0 (omega arith)) ∙ part_is (k % 4) (omega arith)
      ∙ sym (at_range (λ k. slice_index (four_by a b c d) (k % 4)) 16 k refl m))

-- ---- from lanes to words

eight_digits : (ys : List ℕ) → length ys ≡ 8
    → number_l 256 ys
    ≡ get_or ys 0 0 + 256 * get_or ys 1 0 + 65536 * (get_or ys 2 0 + 256 * get_or ys 3 0) + 4294967296 * (get_or ys 4 0 + 256 * get_or ys 5 0) + 281474976710656 * (get_or ys 6 0 + 256 * get_or ys 7 0)
eight_digits (a ∷ b ∷ c ∷ d ∷ e ∷ f ∷ g ∷ h ∷ []) l = omega arith
eight_digits [] l = absurd (omega (arith, l))
eight_digits (a ∷ []) l = absurd (omega (arith, l))
eight_digits (a ∷ b ∷ []) l = absurd (omega (arith, l))
eight_digits (a ∷ b ∷ c ∷ []) l = absurd (omega (arith, l))
eight_digits (a ∷ b ∷ c ∷ d ∷ []) l = absurd (omega (arith, l))
eight_digits (a ∷ b ∷ c ∷ d ∷ e ∷ []) l = absurd (omega (arith, l))
eight_digits (a ∷ b ∷ c ∷ d ∷ e ∷ f ∷ []) l = absurd (omega (arith, l))
eight_digits (a ∷ b ∷ c ∷ d ∷ e ∷ f ∷ g ∷ []) l = absurd (omega (arith, l))
eight_digits (a ∷ b ∷ c ∷ d ∷ e ∷ f ∷ g ∷ h ∷ i ∷ ys) l = absurd (omega (arith, l))

abbrev pub words_from : List ℕ → List ℕ
words_from lanes = digits_l 18446744073709551616 4 (number_l 256 (digits_l 256 32 (number_l 65536 lanes)))

pub words_len : (lanes : List ℕ) → length (words_from lanes) ≡ 4
words_len lanes = digits_len 18446744073709551616 4 (number_l 256 (digits_l 256 32 (number_l 65536 lanes)))

module _ (lanes : List ℕ) (fits : Each1 (λ x. x < 65536) lanes) (small : (k : ℕ) → get_or lanes k 0 < 65536) where
  abbrev halves : List ℕ
  halves = digits_l 256 32 (number_l 65536 lanes)

  half_at : (k r : ℕ) → k < 16 → r < 2 → get_or halves (2 * k + r) 0 ≡ get_or lanes k 0 / 256 ^ r % 256
  half_at k r l m = get_or_narrower 65536 2 256 32 lanes k r refl fits m (omega arith)

  both_at : (k m n : ℕ) → k < 16 → m ≡ 2 * k + 0 → n ≡ 2 * k + 1 → get_or halves m 0 + 256 * get_or halves n 0 ≡ get_or lanes k 0
  both_at k m n l e f =
      let x = ap (λ z. get_or halves z 0) e ∙ half_at k 0 l (lit< tt) in
      let y = ap (λ z. get_or halves z 0) f ∙ half_at k 1 l (lit< tt) in
      ap₂ (λ x y. x + 256 * y) x y ∙ omega (arith, small k)

  pub word_at : (j : ℕ) → j < 4 → get_or (words_from lanes) j 0 ≡ word_by (get_or lanes (4 * j) 0) (get_or lanes (4 * j + 1) 0) (get_or lanes (4 * j + 2) 0) (get_or lanes (4 * j + 3) 0)
  word_at j l =
      let n : length halves ≡ 32 = digits_len 256 32 (number_l 65536 lanes) in
      let part = chunk (8 * j) 8 halves in
      let at : (i : ℕ) → i < 8 → get_or part i 0 ≡ get_or halves (8 * j + i) 0 = λ i m. get_or-chunk (8 * j) 8 halves i 0 m in
      get_or_wider 256 8 18446744073709551616 4 halves j refl (digits_small 32 (number_l 65536 lanes)) l
      ∙ eight_digits part (length-chunk (8 * j) 8 halves (omega (arith, n)))
      ∙ omega (
        arith,
        at 0 (lit< tt),
        at 1 (lit< tt),
        at 2 (lit< tt),
        at 3 (lit< tt),
        at 4 (lit< tt),
        at 5 (lit< tt),
        at 6 (lit< tt),
        at 7 (lit< tt),
        both_at (4 * j) (8 * j + 0) (8 * j + 1) (omega arith) (omega arith) (omega arith),
        both_at (4 * j + 1) (8 * j + 2) (8 * j + 3) (omega arith) (omega arith) (omega arith),
        both_at (4 * j + 2) (8 * j + 4) (8 * j + 5) (omega arith) (omega arith) (omega arith),
        both_at (4 * j + 3) (8 * j + 6) (8 * j + 7) (omega arith) (omega arith) (omega arith),
      )
